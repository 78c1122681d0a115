use Rattle.std.proofs.Common.{rules, arith, ℕ, ◌+◌, ◌==◌, ◌∙◌, ap, sym, subst, length, [], ◌∷◌, refl}
use Rattle.std.specs.Prelude.{if◌then◌else◌}
use Rattle.dio_core.specs.Links.{Both}
use Rattle.dio_core.specs.Sinks.{with_more}
use Rattle.diamond_store.specs.Passes.{Passed}
use Rattle.script_runner.specs.declared.status.TheConstants.{WHOLE}
use Rattle.diamond_server.specs.Promises.{sides}
use Rattle.diamond_server.specs.code.Settling.{IsNear}
use Rattle.diamond_server.proofs.Listing.{settling-start, settling-next, settling-near, settling-few, settling-end, served-at, ended-start, ended-next}
use Rattle.diamond_server.proofs.serving_all.give_all.Goals as goal

pub loop-ended-init : goal.loop-ended-init
loop-ended-init g c =
    let gives = c.into_iter-ended-iterator.ensures.into_iter_gives in record {
      same = refl;
      links = refl;
      count = refl;
      len = search rules;
      settling = settling-start _ _ _ _ _ _ gives.0 c.requires.near;
      ended = ended-start _ _;
    }

pub settled-link-requires : goal.settled-link-requires
settled-link-requires g c =
    let was = c.loop-ended.invariant in
    record { near = subst (λ (p : Passed). IsNear p c.in-Some.ended) (sym was.same) (settling-near _ _ _ _ _ _ _ _ _ _ was.settling c.in-Some.ensures.steps.0) }

pub with_status-faulted-requires : goal.with_status-faulted-requires
with_status-faulted-requires g c =
    let was = c.loop-ended.invariant in
    let few = settling-few _ _ _ _ _ _ _ _ _ _ was.settling c.in-Some.ensures.steps.0 in
    let all = c.requires.few in omega (arith, few, all)

pub loop-ended-preserved : goal.loop-ended-preserved
loop-ended-preserved g c =
    let was = c.loop-ended.invariant in
    let step = c.in-Some.ensures.steps in
    let back = c.in_ok-give_back.ensures in
    let told : g.row.Li-Link.Denot → Both =
    sides g.Li.Link.Source g.Li.Link.Sink in record {
      same = c.settled-link.ensures.same ∙ was.same;
      links = c.give_back.ensures.same ∙ was.links;
      count = c.give_back.ensures.count ∙ was.count;
      len = omega (arith, step.1, was.len, ap length step.0);
      settling = settling-next _ _ _ _ _ _ _ _ _ _ _ _ was.settling step.0
          (back.ok ∙ ap (λ given. with_more (g.Li.Listener.given_back c.loop-ended.listener) (given ∷ [])) c.settled-link.ensures.given)
          (served-at g.S.Serves.promised told c.loop-ended.pass c.args.pass.now c.in-Some.ended was.same c.settled-link.ensures.served)
          (c.with_status-faulted.ensures ∙ ap (λ (k : ℕ). c.loop-ended.faulted + (if k == WHOLE then 0 else 1)) (ap (λ p. p.1) c.settled-link.ensures.given));
      ended = ended-next g.Li.Link.End.ended (g.Li.Listener.given_back c.args.listener.now) (g.Li.Listener.given_back c.loop-ended.listener)
          (g.Li.Listener.given_back c.give_back.new.self) c.settled-link.result was.ended back.ok c.settled-link.ensures.ended;
    }

pub returns-clause-settled : goal.returns-clause-settled
returns-clause-settled g c =
    let was = c.loop-ended.invariant in settling-end _ _ _ _ _ _ _ _ _ c.in-None.ensures.steps.0 was.len was.settling
