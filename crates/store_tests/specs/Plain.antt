-- The bytes by which a keeper of the tests tells commits that did nothing.
use Rattle.std.specs.Prelude.{◌≡◌, ℕ, List, [], ◌∷◌, codes, refl}
use Rattle.rdt_types.specs.declared.outcome.Outcome.{Outcome}
use Rattle.rdt_types.specs.declared.outcome.Outcome.TheVariants as outcome
use Rattle.rdt_types.specs.DeltaMaps.{Deltas}
use Rattle.txn_lang.specs.declared.commit.Commit.{Commit}

-- these bytes, where a run emitted and wrote nothing
abbrev pub where_nothing : Outcome → Deltas → List ℕ → List ℕ
where_nothing (outcome.Ok []) [] bytes = bytes
where_nothing _ _ bytes = []

-- A commit that did nothing is told by its number, its client, its seq and its body, and any other by no byte.
abbrev pub plain_bytes : Commit → List ℕ
plain_bytes commit = where_nothing commit.outcome commit.deltas (commit.number ∷ commit.client ∷ commit.seq ∷ commit.body)

-- these bytes tell this commit
abbrev pub IsTold : List ℕ → Commit → Type 0
IsTold bytes commit = bytes ≡ plain_bytes commit

-- a commit that did nothing
abbrev pub plain : ℕ → ℕ → ℕ → List ℕ → Commit
plain number client seq body = record { number = number; client = client; seq = seq; body = body; outcome = outcome.Ok []; deltas = [] }

-- the second commit of the journal, by client 7
plain_bytes-example :
    plain_bytes (plain 2 7 1 (codes "b")) ≡ 2 ∷ 7 ∷ 1 ∷ codes "b"
plain_bytes-example = refl
