-- What callers see of a book of holds.
use Rattle.std.specs.Prelude.{◌≡◌, ℕ, ◌+◌, Bool, true, List, [], ◌∷◌, length, filter, codes, pos, refl}
use Rattle.std.specs.Option.{is_some}
use Rattle.std.specs.Coded.{Coded, code_by, coded×, coded_list, coded_ℕ}
use Rattle.rdt_types.specs.declared.address.Kind.TheVariants as kind
use Rattle.rdt_types.specs.declared.address.Address.{Address}
use Rattle.rdt_types.specs.declared.delta.Delta.{Delta}
use Rattle.rdt_types.specs.declared.delta.Delta.TheVariants as delta
use Rattle.rdt_types.specs.declared.outcome.Item.TheVariants as item
use Rattle.rdt_types.specs.declared.outcome.Outcome.TheVariants as outcome
use Rattle.rdt_types.specs.DeltaMaps.{Deltas, delta_at}
use Rattle.conflict_table.specs.declared.observation.Obs.TheVariants as obs
use Rattle.txn_lang.specs.declared.commit.Commit.{Commit}
use Rattle.txn_lang.specs.declared.run.Seen.{Seen}
use Rattle.txn_lang.specs.States.{Journal}
use Rattle.journal_core.specs.declared.hold.Hold.{Hold}
use Rattle.journal_core.specs.Holds.{disturbs_some, is_hold, observed_alone, with_hold, live}

-- the live holds of a journal, by rising numbers; how many first commits of it nobody ran again; and how long it is
pub record Holding : Type 0 where
  pub from : ℕ
  pub length : ℕ
  pub holds : List Hold

-- it is stored as the tuple of its fields
abbrev pub holding_code : Coded Hold → Coded Holding
holding_code hold =
    code_by (ℕ × (ℕ × List Hold)) (coded× coded_ℕ (coded× coded_ℕ (coded_list hold)))
    (λ h. (h.from, (h.length, h.holds)))
    (λ p. record { from = p.0; length = p.1.0; holds = p.1.1 })
    (λ _. refl)

-- the book of a journal of so many commits, which nobody ran again
abbrev pub first_holding : ℕ → Holding
first_holding from = record { from = from; length = from; holds = [] }

-- the book of the journal with a commit more, whose body observes these
abbrev pub with_commit : Holding → Commit → List Seen → Holding
with_commit book commit observations = record {
  from = book.from;
  length = book.length + 1;
  holds = with_hold book.from book.holds commit observations;
}

-- the book of a journal, of whose commits nobody ran the first so many again
abbrev pub book_of : ℕ → Journal → Holding
book_of from journal = record { from = from; length = length journal; holds = live from journal }

-- a book is that of a journal
abbrev pub IsBookOf : Holding → Journal → Type 0
IsBookOf book journal = book ≡ book_of book.from journal

-- Where a commit is a hold, these are what its body observes behind the journal.
abbrev pub IsEnteredWith : ℕ → Journal → Commit → List Seen → Type 0
IsEnteredWith from journal commit observations = is_hold from commit ≡ true → observations ≡ observed_alone journal commit

-- where there is no commit the book is the first
book_of-none : book_of 0 [] ≡ first_holding 0
book_of-none = refl

-- ---- what a look at it costs

-- deltas write at the address of what was observed
abbrev pub is_written : Deltas → Seen → Bool
is_written deltas seen = is_some (delta_at deltas seen.address)

-- how many observations are at addresses that deltas write
abbrev pub met_in : Deltas → List Seen → ℕ
met_in deltas observations = length (filter (is_written deltas) observations)

-- whether one delta at an address disturbs what was observed
abbrev pub disturbs_alone : Address → Delta → List Seen → Bool
disturbs_alone address delta observations = disturbs_some ((address, delta) ∷ []) observations

-- and how many observations are at its address
abbrev pub met_alone : Address → Delta → List Seen → ℕ
met_alone address delta observations = met_in ((address, delta) ∷ []) observations

-- How many observations of holds are at addresses that deltas write: no others have to be tested.
abbrev pub most_hits : List Hold → Deltas → ℕ
most_hits [] deltas = 0
most_hits (hold ∷ rest) deltas = met_in deltas hold.observations + most_hits rest deltas

-- ---- worked lines

abbrev counter : List ℕ → Address
counter key = record { kind = kind.Counter; key = key }

-- a counter was read
abbrev read : List ℕ → Seen
read key = record { address = counter key; obs = obs.CounterIs }

-- client 0 holds the counters x and y, at number 1
abbrev both : Hold
both = record { client = 0; number = 1; observations = read (codes "x") ∷ read (codes "y") ∷ [] }

-- an addition to a counter
abbrev add : List ℕ → Deltas
add key = (counter key, delta.AddCounter (pos 1)) ∷ []

-- what adds to x meets one observation of two, and what adds to z none
most_hits-one : most_hits (both ∷ []) (add (codes "x")) ≡ 1
most_hits-one = refl

most_hits-none : most_hits (both ∷ []) (add (codes "z")) ≡ 0
most_hits-none = refl

-- a commit of a client, at a number, that emits a text and writes
abbrev emitting : ℕ → ℕ → List ℕ → Deltas → Commit
emitting client number text deltas = record {
  number = number;
  client = client;
  seq = 1;
  body = [];
  outcome = outcome.Ok (item.Text text ∷ []);
  deltas = deltas;
}

-- the book of a journal of so many commits, of which the first is that hold alone
abbrev with_both : ℕ → Holding
with_both length = record { from = 0; length = length; holds = both ∷ [] }

-- a commit that says hold and writes nothing is entered with what it observes
with_commit-hold : with_commit (first_holding 0) (emitting 0 1 (codes "hold") []) (read (codes "x") ∷ read (codes "y") ∷ []) ≡ with_both 1
with_commit-hold = refl

-- a commit that is no hold may be entered with anything
IsEnteredWith-other : (seen : List Seen) → IsEnteredWith 0 [] (emitting 0 1 (codes "held") []) seen
IsEnteredWith-other seen = λ is. cc

-- one that says anything else isn't, nor is one that writes
with_commit-other : with_commit (first_holding 0) (emitting 0 1 (codes "held") []) (read (codes "x") ∷ []) ≡ record (first_holding 0) { length = 1 }
with_commit-other = refl

with_commit-writing : with_commit (first_holding 0) (emitting 0 1 (codes "hold") (add (codes "x"))) (read (codes "x") ∷ [])
    ≡ record (first_holding 0) { length = 1 }
with_commit-writing = refl

-- the hold at 1 is live still behind commit 64, and no longer behind commit 65
with_commit-64 : with_commit (with_both 63) (emitting 1 64 (codes "") []) [] ≡ with_both 64
with_commit-64 = refl

with_commit-65 : with_commit (with_both 64) (emitting 1 65 (codes "") []) [] ≡ record (with_both 65) { holds = [] }
with_commit-65 = refl

-- it ends by a commit of its client, and by one that disturbs it
with_commit-own : with_commit (with_both 1) (emitting 0 2 (codes "") []) [] ≡ record (with_both 2) { holds = [] }
with_commit-own = refl

with_commit-disturbed : with_commit (with_both 1) (emitting 1 2 (codes "") (add (codes "y"))) [] ≡ record (with_both 2) { holds = [] }
with_commit-disturbed = refl

-- but not by one that writes elsewhere
with_commit-elsewhere : with_commit (with_both 1) (emitting 1 2 (codes "") (add (codes "z"))) [] ≡ with_both 2
with_commit-elsewhere = refl
