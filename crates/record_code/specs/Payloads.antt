-- Payloads: a commit as bytes, and which commit bytes are.
use Rattle.std.specs.Prelude.{◌≡◌, ℕ, ◌-◌, ◌<◌, ◌≤◌, pos, List, [], ◌∷◌, ◌++◌, length, slice_get, codes, Option, Some}
use Rattle.std.specs.Prelude.{None, IsSome, IsErr, Result, Ok, Err, true, refl}
use Rattle.std.specs.Int.{w32, w64, to_be_bytes}
use Rattle.std.specs.List.{AllByRecursion}
use Rattle.rdt_types.specs.declared.address.Kind.{Kind}
use Rattle.rdt_types.specs.declared.outcome.Item.TheVariants as item
use Rattle.rdt_types.specs.declared.outcome.Outcome.TheVariants as outcome
use Rattle.txn_lang.specs.declared.commit.Commit.{Commit}
use Rattle.txn_lang.specs.Tree.{tree}
use Rattle.journal_core.specs.declared.limits.TheConstants.{FIRST_UNTOLD_CLIENT}
use Rattle.journal_core.specs.Bodies.{IsBodyText}
use Rattle.journal_core.specs.Keeping.{IsOfRun}
use Rattle.commit_file.specs.declared.version.Version.{Version}
use Rattle.commit_file.specs.declared.version.Version.TheVariants.{Two}
use Rattle.record_code.specs.Spelling.{text_bytes, outcome_bytes, deltas_bytes, kind_byte}
use Rattle.record_code.specs.Fields.{Reader}
use Rattle.record_code.specs.Reading.{positive_at, client_at, body_at, outcome_at, deltas_at, kinds_of, has_kinds}
use Rattle.record_code.specs.Forms.{AreForms}
use Rattle.record_code.specs.Room.{HasRoom}

-- ---- a commit as bytes

-- the payload of a commit: its six fields, one behind another
abbrev pub payload : Commit → List ℕ
payload commit =
    to_be_bytes w64 commit.number
    ++ to_be_bytes w32 commit.client
    ++ to_be_bytes w64 commit.seq
    ++ text_bytes commit.body
    ++ outcome_bytes commit.outcome
    ++ deltas_bytes commit.deltas

-- ---- and back

-- where nothing is read, the error is the place
abbrev pub or_place : {A : Type 0} → ℕ → Option A → Result A ℕ
or_place place None = Err place
or_place place (Some x) = Ok x

-- a field at the front of what is left of a payload, or its place where it can't be read in its form
abbrev pub field : {A : Type 0} → List ℕ → Reader A → List ℕ → Result (A × List ℕ) ℕ
field whole reader rest = or_place (length whole - length rest) (reader rest)

-- the end of the bytes
abbrev pub end_at : Reader (Unit {0})
end_at [] = Some (tt, [])
end_at (byte ∷ rest) = None

infixl 10 ◌>>=◌
abbrev pub ◌>>=◌ : {A B : Type 0} → Result A ℕ → (A → Result B ℕ) → Result B ℕ
(Ok x) >>= f = f x
(Err place) >>= f = Err place

-- The commit that bytes are in a payload of a version; or the place of the first field that can't be read in its form,
-- or of the first byte behind the last field.
unfoldable pub decoded : Version → List ℕ → Result Commit ℕ
decoded version bytes = do
  number ← field bytes positive_at bytes
  client ← field bytes client_at number.1
  seq ← field bytes positive_at client.1
  body ← field bytes (body_at version) seq.1
  outcome ← field bytes outcome_at body.1
  deltas ← field bytes (deltas_at version outcome.0) outcome.1
  end ← field bytes end_at deltas.1
  Ok (record {
    number = number.0;
    client = client.0;
    seq = seq.0;
    body = body.0;
    outcome = outcome.0;
    deltas = deltas.0;
  })

-- ---- what has a payload

-- the text is that of a body that may run, as it is kept
pub record IsKeptBody (text : List ℕ) : Type 0 where
  pub text_is : IsBodyText text
  pub has_tree : IsSome (tree text)

-- the kind is one of the version
abbrev pub IsKindOf : Version → Kind → Type 0
IsKindOf version kind = slice_get (kinds_of version) (kind_byte kind) ≡ Some kind

-- The version has the kinds of the commit: those of its body, and those at which it writes.
pub record HasKindsOf (version : Version) (commit : Commit) : Type 0 where
  pub body : has_kinds version commit.body ≡ true
  pub deltas : AllByRecursion (λ pair. IsKindOf version pair.0.kind) commit.deltas

-- The commit has a payload of the version: each field has its form, and there is room for it.
pub record IsRecorded (version : Version) (commit : Commit) : Type 0 where
  pub number : 1 ≤ commit.number
  pub client : commit.client < FIRST_UNTOLD_CLIENT
  pub seq : 1 ≤ commit.seq
  pub body : IsKeptBody commit.body
  pub forms : AreForms commit.outcome commit.deltas
  pub kinds : HasKindsOf version commit
  pub room : HasRoom commit

-- The commit may be kept: it is one of a run, its numbers are from 1, and its client is told of.
pub record IsKeepable (commit : Commit) : Type 0 where
  pub of_run : IsOfRun commit
  pub number : 1 ≤ commit.number
  pub seq : 1 ≤ commit.seq
  pub client : commit.client < FIRST_UNTOLD_CLIENT

-- ---- the commit 1 of the client 0 with the body `emit 1;`

abbrev first_commit : Commit
first_commit = record {
  number = 1;
  client = 0;
  seq = 1;
  body = codes "emit 1;";
  outcome = outcome.Ok (item.Int (pos 1) ∷ []);
  deltas = [];
}

-- its 49 bytes
first_payload : payload first_commit ≡
    0 ∷ 0 ∷ 0 ∷ 0 ∷ 0 ∷ 0 ∷ 0 ∷ 1 ∷ 0 ∷ 0 ∷ 0 ∷ 0 ∷ 0 ∷ 0 ∷ 0 ∷ 0 ∷ 0 ∷ 0 ∷ 0 ∷ 1
    ∷ 0 ∷ 0 ∷ 0 ∷ 7 ∷ 101 ∷ 109 ∷ 105 ∷ 116 ∷ 32 ∷ 49 ∷ 59
    ∷ 0 ∷ 0 ∷ 0 ∷ 0 ∷ 1 ∷ 0 ∷ 0 ∷ 0 ∷ 0 ∷ 0 ∷ 0 ∷ 0 ∷ 0 ∷ 1 ∷ 0 ∷ 0 ∷ 0 ∷ 0 ∷ []
first_payload = refl

first_payload-length : length (payload first_commit) ≡ 49
first_payload-length = refl

-- bytes are no payload of version 2 where they are of a commit whose client isn't told of
abbrev pub IsUntold : Commit → List ℕ → Type 0
IsUntold commit bytes = FIRST_UNTOLD_CLIENT ≤ commit.client → IsErr (decoded Two bytes)
