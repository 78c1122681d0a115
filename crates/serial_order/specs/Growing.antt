-- SERIALIZABILITY. A journal grows by the commits of attempts, each of which ran earlier, on values that it had read at different
-- lengths of the journal; it was appended since no commit past them clashed with what it had observed. Such a journal is a serial
-- execution, each attempt observed what it would have observed there, and where one may not be appended a clash is at hand.
--
-- What stands elsewhere: that attempts in code come about so, at fronts of shards (`docc_prepare`, specs/Attempts, specs/Serial);
-- that a client's commits stand in the order of its lines and its aborts leave no trace, and that looks and reports are outcomes on
-- one prefix (`session_core`, specs/Explained); the same by any number of threads (`diamond_store`, `diamond_server`).
use Rattle.std.specs.Prelude.{◌≡◌, ℕ, [], ◌∷◌, ◌++◌, ◌⊎◌, Some}
use Rattle.std.specs.List.{AllByRecursion}
use Rattle.conflict_table.specs.Observing.{observe}
use Rattle.abort_witness.specs.declared.witness.Found.{Found}
use Rattle.abort_witness.specs.Pairs.{IsLeast}
use Rattle.txn_lang.specs.declared.run.Run.{Run}
use Rattle.txn_lang.specs.declared.run.Seen.{Seen}
use Rattle.txn_lang.specs.States.{Journal, left_by, state}
use Rattle.txn_lang.specs.Execution.{done}
use Rattle.txn_lang.specs.Journals.{IsLegal, commit_of}
use Rattle.txn_lang.specs.Tree.{tree}
use Rattle.journal_core.specs.Changes.{changes}
use Rattle.docc_prepare.specs.declared.attempt.Attempt.{Attempt}
use Rattle.docc_prepare.specs.Attempts.{ran, based, base_at, Fits}
use Rattle.docc_prepare.specs.Serial.{RanUndisturbed}
use Rattle.serial_order.specs.Serial.{serial, requests}

-- An attempt may be appended: its text is its body's, and it has run undisturbed.
pub record MayAppend (journal : Journal) (attempt : Attempt) (run : Run) : Type 0 where
  pub read : tree attempt.body.source ≡ Some attempt.body.body
  pub undisturbed : RanUndisturbed journal attempt run

-- A JOURNAL GROWS by the commits of such attempts, from nothing.
pub data Grows : Journal → Type 0 where
  empty : Grows []
  by_append : {journal : Journal} (client : ℕ) (attempt : Attempt) (run : Run) → Grows journal → MayAppend journal attempt run
      → Grows (journal ++ commit_of journal client attempt.body.source run ∷ [])

-- with no commit it has grown
grows-example : Grows []
grows-example = Grows.empty

-- THE THEOREM: it is legal, and it is what its requests give when they run one after the other, each alone.
pub record IsSerial (journal : Journal) : Type 0 where
  pub legal : IsLegal 0 journal
  pub same : serial (requests journal) ≡ journal

abbrev pub GrownIsSerial : Type 0
GrownIsSerial = (journal : Journal) → Grows journal → IsSerial journal

-- ---- what was observed

-- What was observed at the length at which it was read is the same on the whole journal.
abbrev pub IsStillSo : Journal → Attempt → Seen → Type 0
IsStillSo journal attempt z = observe z.obs (left_by journal z.address) ≡ observe z.obs (state journal (base_at attempt.snaps z.address) z.address)

-- So what an attempt observed, each at its own length, is what the serial execution shows it, in which its body runs behind all of
-- the journal.
abbrev pub ObservedIsSerial : Type 0
ObservedIsSerial =
    (journal : Journal) (attempt : Attempt) (run : Run) → Grows journal → MayAppend journal attempt run
    → AllByRecursion (IsStillSo journal attempt) run.observations

-- ---- nobody is aborted without a clash

-- Of the attempts that fit the journal and have run, each has run undisturbed, or some commit clashes with what it observed, past
-- where it read that; and there is a least such pair, which its abort names.
abbrev pub AbortsHaveAClash : Type 0
AbortsHaveAClash =
    (journal : Journal) (attempt : Attempt) (run : Run) → Grows journal → Fits journal attempt → ran attempt ≡ done run
    → RanUndisturbed journal attempt run ⊎ ((found : Found) × IsLeast (based attempt.snaps run.observations) (changes journal) found)
