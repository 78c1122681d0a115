-- What the code answers, against a step of the rules. `proofs/Ending` ties whole runs to `exec_over`.
use Rattle.std.specs.Prelude.{◌≡◌, ◌≢◌, [], Result, Ok, Err}
use Rattle.txn_lang.specs.declared.progress.Stop.{Stop}
use Rattle.txn_lang.specs.declared.progress.Stop.TheVariants as stop
use Rattle.txn_lang.specs.declared.progress.Progress.{Progress}
use Rattle.txn_lang.specs.Steps.{Step, stopped, gives}
use Rattle.txn_lang.specs.Items.{Names}
use Rattle.txn_lang.specs.Execution.{Ran}
use Rattle.txn_eval.specs.declared.here.Here.{Here}
use Rattle.txn_eval.specs.declared.kept.Kept.{Kept}
use Rattle.txn_eval.specs.code.Buffering.{kept_ended}

-- without memory nothing is said
abbrev pub Answers : {M A : Type 0} → Result A Stop → Progress M → Step M A → Type 0
Answers (Ok x) p step = step ≡ gives x p
Answers (Err s) p step = s ≢ stop.NoMemory → step ≡ stopped s p

-- the same of what leaves names
abbrev pub Leaves : {M N : Type 0} → Result (Unit {0}) Stop → N → Progress M → Step M N → Type 0
Leaves (Ok _) names p step = step ≡ gives names p
Leaves (Err s) names p step = s ≢ stop.NoMemory → step ≡ stopped s p

-- and of what leaves the names as they are
abbrev pub Keeps : Result (Unit {0}) Stop → Here → Progress Kept → Step Kept Names → Type 0
Keeps result here p step = Leaves result here.names.now p step

-- what a result and the progress come to
abbrev pub EndsAs : Result (Unit {0}) Stop → Progress Kept → Ran → Type 0
EndsAs (Ok _) p ran = ran ≡ kept_ended (gives [] p)
EndsAs (Err s) p ran = (s ≢ stop.NoMemory) × (ran ≡ kept_ended (stopped s p))
