-- What is used of payloads.
use Rattle.std.proofs.Common.{◌≡◌, ℕ, ◌<◌, ◌≤◌, List, [], ◌∷◌, Some, Ok, ap}
use Rattle.std.specs.List.{AllByRecursion}
use Rattle.std.specs.List.Sorted.{IsStrictlySortedBy}
use Rattle.std.specs.Map.{keys_of}
use Rattle.std.specs.Result.{result_ok}
use Rattle.rdt_types.specs.Addresses.{address_cmp}
use Rattle.rdt_types.specs.DeltaMaps.{Deltas}
use Rattle.txn_lang.specs.declared.commit.Commit.{Commit}
use Rattle.journal_core.specs.declared.limits.TheConstants.{FIRST_UNTOLD_CLIENT}
use Rattle.journal_core.specs.Keeping.{IsOfRun}
use Rattle.journal_core.specs.Kinds.{AreOfTheirKinds}
use Rattle.commit_file.specs.declared.version.Version.{Version}
use Rattle.commit_file.specs.declared.version.Version.TheVariants.{One, Two}
use Rattle.record_code.specs.Forms.{IsFiled}
use Rattle.record_code.specs.Payloads.{payload, decoded, IsRecorded, IsKeepable}
use Rattle.record_code.proofs.KindsTold.{two_has_all_kinds}
use Rattle.record_code.proofs.Commits.{payloads_are_read, what_is_read_is_a_payload}
use Rattle.journal_file.specs.Commits.{commit_of}

-- the payload of a commit is read as it
pub recorded-read : (commit : Commit) → IsRecorded Two commit → commit_of (payload commit) ≡ Some commit
recorded-read commit is = ap result_ok (payloads_are_read Two commit is)

-- ---- what is known of a commit that has a payload

filed-kinds : (deltas : Deltas) → AllByRecursion IsFiled deltas → AreOfTheirKinds deltas
filed-kinds [] filed = tt
filed-kinds (pair ∷ deltas) filed = (filed.0.kind, filed-kinds deltas filed.1)

pub recorded-kinds : (commit : Commit) → IsRecorded Two commit → AreOfTheirKinds commit.deltas
recorded-kinds commit is = filed-kinds commit.deltas is.forms.each

pub recorded-rising : (commit : Commit) → IsRecorded Two commit → IsStrictlySortedBy address_cmp (keys_of commit.deltas)
recorded-rising commit is = is.forms.rising

pub recorded-client : (commit : Commit) → IsRecorded Two commit → commit.client < FIRST_UNTOLD_CLIENT
recorded-client commit is = is.client

-- ---- what may be kept

-- a commit of a run
pub run-keepable : (commit : Commit) → IsOfRun commit → commit.client < FIRST_UNTOLD_CLIENT → 1 ≤ commit.number → 1 ≤ commit.seq
    → IsKeepable commit
run-keepable commit run client number seq = record { of_run = run; number = number; seq = seq; client = client }

-- ---- versions

-- version 2 has all kinds, so those of version 1 too
later : (commit : Commit) → IsRecorded One commit → IsRecorded Two commit
later commit is = record {
  number = is.number;
  client = is.client;
  seq = is.seq;
  body = is.body;
  forms = is.forms;
  kinds = two_has_all_kinds commit;
  room = is.room;
}

-- what is read in a version has a payload of version 2 as well, and that is what was read
pub read-recorded : (version : Version) (bytes : List ℕ) (commit : Commit) → AllByRecursion (λ byte. byte < 256) bytes
    → decoded version bytes ≡ Ok commit → IsRecorded Two commit × (bytes ≡ payload commit)
read-recorded One bytes commit small is =
    let both = what_is_read_is_a_payload One bytes commit small is in (later commit both.0, both.1)
read-recorded Two bytes commit small is = what_is_read_is_a_payload Two bytes commit small is
