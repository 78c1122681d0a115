-- Laws: payloads are read as what they are of, what is read is a payload, and what a run leaves has the forms of one.
use Rattle.std.specs.Prelude.{◌≡◌, ◌<◌, ℕ, List, Ok}
use Rattle.std.specs.List.{AllByRecursion}
use Rattle.txn_trees.specs.declared.statement.Body.{Body}
use Rattle.txn_lang.specs.declared.commit.Commit.{Commit}
use Rattle.txn_lang.specs.declared.run.Run.{Run}
use Rattle.txn_lang.specs.States.{PartialState}
use Rattle.txn_lang.specs.Execution.{done, exec}
use Rattle.commit_file.specs.declared.version.Version.{Version}
use Rattle.commit_file.specs.declared.version.Version.TheVariants.{Two}
use Rattle.record_code.specs.Forms.{AreForms}
use Rattle.record_code.specs.Room.{HasRoom}
use Rattle.record_code.specs.Payloads.{payload, decoded, HasKindsOf, IsRecorded, IsKeepable}

-- a commit that has a payload is read from it
abbrev pub PayloadsAreRead : Type 0
PayloadsAreRead = (version : Version) (commit : Commit) → IsRecorded version commit
    → decoded version (payload commit) ≡ Ok commit

-- bytes that are read as a commit are its payload
abbrev pub WhatIsReadIsAPayload : Type 0
WhatIsReadIsAPayload = (version : Version) (bytes : List ℕ) (commit : Commit)
    → AllByRecursion (λ byte. byte < 256) bytes
    → decoded version bytes ≡ Ok commit → IsRecorded version commit × (bytes ≡ payload commit)

-- what may be kept has a payload of a version that has its kinds, where there is room for it
abbrev pub RunsAreRecorded : Type 0
RunsAreRecorded = (version : Version) (commit : Commit) → IsKeepable commit → HasRoom commit → HasKindsOf version commit
    → IsRecorded version commit

-- version 2 has all kinds
abbrev pub TwoHasAllKinds : Type 0
TwoHasAllKinds = (commit : Commit) → HasKindsOf Two commit

-- No body is left out, since whatever makes a text tests its size, and each write is of its address' kind.
abbrev pub RunsLeaveForms : Type 0
RunsLeaveForms = (b : Body) (s : PartialState) (r : Run) → exec b s ≡ done r → AreForms r.outcome r.deltas
