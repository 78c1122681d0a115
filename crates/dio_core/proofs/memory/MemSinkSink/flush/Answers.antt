use Rattle.std.proofs.Common.{◌≡◌, ℕ, List, [], take, drop, subst, ap, inr, arith}
use Rattle.std.proofs.lemmas.Grind.{common_steps}
use Rattle.std.proofs.lemmas.List.{take-append-drop, take_all, append-nil}
use mathlib.Core.List.{IsPrefix}
use Rattle.dio_core.specs.Memory.{Intake}
use Rattle.dio_core.proofs.memory.MemSinkSink.flush.Goals as goal

-- all that was taken is passed on, of which a prefix had been before
pub returns-clause-passes : goal.returns-clause-passes
returns-clause-passes c =
    let sink = c.self.inside in
    let whole : take c.len-self-inside.result sink.taken.items ≡ sink.taken.items = take_all _ _ (grind (arith, common_steps)) in
    let before : IsPrefix c.args.self.now.passed sink.taken.items =
    subst (λ (passed : List ℕ). IsPrefix passed sink.taken.items) (ap (λ (s : Intake). s.passed) c.self.view_is)
    (drop sink.passed sink.taken.items, take-append-drop sink.passed sink.taken.items) in
    inr (rw whole before, rw whole ([], append-nil sink.taken.items))
