use Rattle.std.proofs.Common.{◌≡◌, [], refl, sym, ap, subst, ◌∙◌, length, arith}
use Rattle.std.proofs.lemmas.List.{nil_from_length}
use Rattle.std.specs.Vec.Iter.{into_iter_items}
use Rattle.client_cache.specs.Cached.{held}
use Rattle.rerun_driver.specs.Watches.{watch_of, next_rerun}
use Rattle.watch_reruns.specs.declared.reruns.Reruns.TheVariants as reruns
use Rattle.watch_reruns.specs.Reruns.{all_reruns}
use Rattle.client_watches.specs.declared.watching.Watching.{Watching}
use Rattle.client_watches.specs.Keeping.{AreDistinct, Keeps}
use Rattle.client_watches.specs.Lines.{catch_up}
use Rattle.client_watches.proofs.Kept.{keeps-rerun}
use Rattle.client_watches.proofs.Names.{distinct-report, none-report}
use Rattle.client_watches.proofs.Reruns.{goes-on, at-end, next-ran}
use Rattle.client_watches.proofs.Stale.{is-there}
use Rattle.client_watches.proofs.catching.report_all.Goals as goal

pub loop-ran-init : goal.loop-ran-init
loop-ran-init c =
    let gives = c.into_iter-ran-iterator.ensures.into_iter_gives in record {
      same = refl;
      left = c.requires.all ∙ ap reruns.Ran (sym (gives.0 ∙ c.into_vec-ran-items.ensures));
      count = omega (arith, gives.1, c.into_vec-ran-items.result.ok, ap length gives.0);
      names = c.requires.names;
      keeps = λ k is. is;
      free = λ name none. none;
    }

pub report-requires : goal.report-requires
report-requires c =
    let w = c.loop-ran.watching in
    let ran = c.in-Some.ran in
    let before = c.loop-ran.invariant in
    let next = next-ran w ran (into_iter_items c.next.new.self) before.names (before.left ∙ ap reruns.Ran c.in-Some.ensures.steps.0) in
    record { there = is-there (held w.cache) w.watches ran.0 ran.1 before.names next.0 }

-- the first of those that are left was reported
pub loop-ran-preserved : goal.loop-ran-preserved
loop-ran-preserved c =
    let w = c.loop-ran.watching in
    let ran = c.in-Some.ran in
    let before = c.loop-ran.invariant in
    let steps = c.in-Some.ensures.steps in
    let next = next-ran w ran (into_iter_items c.next.new.self) before.names (before.left ∙ ap reruns.Ran steps.0) in
    let now = c.in_ok-report.ensures.watching in
    let said = c.in_ok-report.ensures.said in
    record {
      same = before.same ∙ goes-on w c.loop-ran.said ran.0 ran.1 before.names next.0 ∙ (λ i. catch_up (sym now i) (sym said i));
      left = ap (λ (v : Watching). all_reruns (held v.cache) v.watches) now ∙ next.1;
      count = omega (arith, steps.1, ap length steps.0, before.count);
      names = subst (λ (v : Watching). AreDistinct v.watches) (sym now) (distinct-report w.watches ran.0 w.cache.at ran.1 before.names);
      keeps = λ k is. subst (Keeps k) (sym now) (keeps-rerun k w (before.keeps k is) ran.0 ran.1 next.0);
      free = λ name none.
          ap (λ (v : Watching). watch_of v.watches name) now
          ∙ none-report name w.watches ran.0 w.cache.at ran.1 (before.free name none);
    }

-- none is left
pub returns-clause-done : goal.returns-clause-done
returns-clause-done c =
    let w = c.loop-ran.watching in
    let before = c.loop-ran.invariant in
    let left = into_iter_items c.loop-ran.ran-iterator in
    let none : left ≡ [] = nil_from_length left (omega (arith, c.in-None.ensures.steps.0, before.count)) in
    before.same ∙ at-end w c.loop-ran.said (next_rerun (held w.cache) w.watches) before.names refl (before.left ∙ ap reruns.Ran none)
