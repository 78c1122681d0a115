use Rattle.std.proofs.Common.{◌≡◌, ◌-◌, [], drop, map, length}
use Rattle.txn_lang.specs.Rules as rules
use Rattle.txn_lang.specs.States.{PartialState}
use Rattle.txn_lang.specs.Observed.{Extends}
use Rattle.txn_eval.specs.Pausing.{texts_over, texts_left}
use Rattle.txn_eval.specs.Running.{values_of}
use Rattle.txn_eval.specs.code.Buffering.{kept}
use Rattle.txn_eval.specs.code.Pauses.{stmts_left}
use Rattle.txn_eval.proofs.going.+step.Given as goal

abbrev pub invariant-go_through-loop-stmt : goal.invariant-go_through-loop-stmt
invariant-go_through-loop-stmt l =
    (t : PartialState) → Extends (values_of l.known.snaps.now) t → stmts_left l.stmts t l.fn.pause ≡ stmts_left l.stmts t l.pause

abbrev pub decreases-go_through-loop-stmt : goal.decreases-go_through-loop-stmt
decreases-go_through-loop-stmt l = length l.stmts - l.pause.at

abbrev pub invariant-turns-loop-over : goal.invariant-turns-loop-over
invariant-turns-loop-over l = record {
  goes : (t : PartialState) → Extends (values_of l.known.snaps.now) t
      → rules.turns l.name (map (rules.stmt_run (kept t)) l.stmts) (texts_left l.fn.left l.fn.pause.names) l.fn.pause.names l.fn.pause.run
      ≡ rules.turns l.name (map (rules.stmt_run (kept t)) l.stmts) (drop l.next (texts_over l.over l.pause.names)) l.pause.names l.pause.run;
  names : l.pause.names ≡ l.fn.pause.names;
  trail : l.pause.trail ≡ [];
  here : l.here ≡ l.fn.pause.at;
  at : l.pause.at ≡ l.here;
  outside : l.outside ≡ length l.pause.names;
}

abbrev pub decreases-turns-loop-over : goal.decreases-turns-loop-over
decreases-turns-loop-over l = length (drop l.next (texts_over l.over l.pause.names))
