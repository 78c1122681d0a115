use Rattle.std.proofs.Common.{◌+◌, drop, refl, subst, ap, ◌∙◌, arith}
use Rattle.std.specs.List.{AllByRecursion}
use Rattle.txn_lang.specs.Short.{IsShortAddress}
use Rattle.call_programs.specs.Programs.{Leads}
use Rattle.call_programs.proofs.Programs.{and_then, bound, to_same, stops_in, stops_behind, fails}
use Rattle.client_watches.specs.Lines.{drop_each}
use Rattle.client_watches.proofs.Parts.{next-drop}
use Rattle.client_watches.proofs.dropping.drop_each.Goals as goal

pub loop-address-init : goal.loop-address-init
loop-address-init g c = record {
  played = Leads.stays;
  short = c.requires;
  values = record { watches = refl; at = refl; loose = refl };
  seen = omega arith;
  home = refl;
}

pub returns-in_err-drop_one-clause-plays : goal.returns-in_err-drop_one-clause-plays
returns-in_err-drop_one-clause-plays g c =
    let split = next-drop c.args.loose.now c.loop-address.address-index c.address-item.result c.loop-address-test.true c.address-item.is in
    fails _ c.from_residual.result c.from_residual.ensures.1
    (stops_behind (to_same (ap (λ xs. drop_each xs c.loop-address.watching) split) c.loop-address.invariant.played)
    (stops_in (drop_each (drop (c.loop-address.address-index + 1) c.args.loose.now)) c.in_err-drop_one.ensures.plays))

pub loop-address-preserved : goal.loop-address-preserved
loop-address-preserved g c =
    let rest = drop (c.loop-address.address-index + 1) c.args.loose.now in
    let split = next-drop c.args.loose.now c.loop-address.address-index c.address-item.result c.loop-address-test.true c.address-item.is in
    record {
      played = and_then (to_same (ap (λ xs. drop_each xs c.loop-address.watching) split) c.loop-address.invariant.played)
          (bound (drop_each rest) c.in_ok-drop_one.ensures.plays Leads.stays);
      short = (subst (AllByRecursion IsShortAddress) split c.loop-address.invariant.short).1;
      values = record {
        watches = c.in_ok-drop_one.ensures.values.watches ∙ c.loop-address.invariant.values.watches;
        at = c.in_ok-drop_one.ensures.values.at ∙ c.loop-address.invariant.values.at;
        loose = c.in_ok-drop_one.ensures.values.loose ∙ c.loop-address.invariant.values.loose;
      };
      seen = let a = c.drop_one.ensures.seen in let b = c.loop-address.invariant.seen in omega arith;
      home = c.drop_one.ensures.home ∙ c.loop-address.invariant.home;
    }
