-- What is known of an attempt's run, so that its body isn't run again.
use Rattle.std.specs.Prelude.{◌≡◌, List, Option, Some, None, IfSome}
use Rattle.txn_lang.specs.declared.run.Run.{Run}
use Rattle.txn_lang.specs.Execution.{done}
use Rattle.docc_prepare.specs.declared.attempt.Attempt.{Attempt}
use Rattle.abort_witness.specs.declared.witness.Based.{Based}
use Rattle.docc_prepare.specs.Attempts.{ran, based, PausesAt}
use Rattle.session_core.specs.declared.approach.Approach.{Approach}
use Rattle.session_core.specs.declared.remembered.Remembered.{Remembered}

-- observations with bases that are at hand are all those of the run
abbrev pub AreAllOf : Attempt → Run → Option (List Based) → Type 0
AreAllOf a run known = IfSome known (λ all. all ≡ based a.snaps run.observations)

-- A run that is known is the attempt's, and a pause is one that its run comes to.
pub record IsKnownOf (a : Attempt) (known : Remembered) : Type 0 where
  pub ran : IfSome known.ran (λ run. ran a ≡ done run)
  pub pause : PausesAt a known.pause

-- and so it is after an event, where the attempt goes on and its append isn't known to be next
abbrev pub Remembers : Attempt → Option Approach → Remembered → Type 0
Remembers a None known = IsKnownOf a known
Remembers a (Some near) known = Unit {0}
