use Rattle.std.proofs.Common.{◌≡◌, ◌+◌, ◌-◌, ◌<◌, length, sym, ◌∙◌, ap, arith}
use Rattle.txn_lang.specs.code.Places.{names_of}
use Rattle.txn_lang.proofs.PlacesKept.{keeps-forgotten, names_of-forgot, length-names_of}
use Rattle.txn_lang.proofs.environment.Environment.forget_last.Goals as goal

pub invariant_of-self-2 : goal.invariant_of-self-2
invariant_of-self-2 g c =
    let bs = c.self.inside.bindings in
    let some : 0 < length c.args.self.now = c.requires in
    let count : length c.args.self.now ≡ length bs = ap length (sym c.self.view_is) ∙ length-names_of bs in
    let last : c.len-last.result - 1 + 1 ≡ length bs = omega (arith, c.len-last.ensures, count, some) in
    rw (c.in_ok-keep.ensures.ok, c.truncate.ensures)
    (keeps-forgotten c.self.inside.places bs (c.len-last.result - 1) c.in-Some.binding.now c.self.invariant last (sym c.in-Some.ensures))

pub returns-clause-ok : goal.returns-clause-ok
returns-clause-ok g c =
    ap names_of c.truncate.ensures ∙ names_of-forgot c.self.inside.bindings c.args.self.now c.len-last.result c.self.view_is c.len-last.ensures
