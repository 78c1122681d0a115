use Rattle.std.proofs.Common.{Ok, ℕ, ◌≤◌, refl, sym, ap, subst, arith, ◌∙◌}
use Rattle.rdt_types.specs.declared.limits.TheConstants.{LEAST_SHARDS, MOST_SHARDS}
use Rattle.session_core.specs.declared.session.Session.{Session}
use Rattle.session_core.specs.Holding.{Attends}
use Rattle.std.proofs.lemmas.Result.{err_from_is_err_and}
use Rattle.diamond_server.proofs.Lines.{serves-none, serves-more, ends-stopped, ends-whole, ends-behind, ends-unread}
use Rattle.diamond_server.proofs.Talked.{new-attends, first-is}
use Rattle.diamond_server.proofs.serving.serve_lines.Goals as goal

-- nothing was read yet
pub loop-init : goal.loop-init
loop-init g c =
    let known = g.B.Backend.known c.args.backend.now in
    let shards = subst (λ (n : ℕ). (LEAST_SHARDS ≤ n) × (n ≤ MOST_SHARDS)) c.shards-shards.ensures.shards c.shards-shards.ensures.in_range in
    let first = new-attends known shards c.seen.ensures.readable c.requires.new in
    let session = c.new-session.ensures ∙ first-is known c.client.result c.seen.result c.client.ensures c.seen.ensures.seen in record {
      served = serves-none session c.new-held.ensures;
      attends = subst (λ (s : Session). Attends known s) (sym session) first;
      first = first;
      home = refl;
    }

-- a turn stopped
pub returns-in_err-serve_line-clause-ends : goal.returns-in_err-serve_line-clause-ends
returns-in_err-serve_line-clause-ends g c =
    let p = err_from_is_err_and c.from_residual.result c.from_residual.ensures.1 in
    rw (p.1, p.2) (ends-stopped c.loop.invariant.served c.loop.invariant.first _ _ _ _ _ (omega arith) (c.in_err-serve_line.ensures.emptied (λ is. let no : ⊥ = cc in no))
    c.in_err-serve_line.ensures.turns)

-- a turn was the last
pub returns-then-not-branch-clause-ends : goal.returns-then-not-branch-clause-ends
returns-then-not-branch-clause-ends g c =
    ends-whole c.loop.invariant.served c.loop.invariant.first _ (omega arith) c.if-not-branch.true c.in_ok-serve_line.ensures.emptied
    c.in_ok-serve_line.ensures.turns

-- a turn did a line
pub loop-preserved : goal.loop-preserved
loop-preserved g c = record {
  served = serves-more c.loop.invariant.served c.if-not-branch.false c.in_ok-serve_line.ensures.turns;
  attends = c.in_ok-serve_line.ensures.attends (ap Ok c.if-not-branch.false);
  first = c.loop.invariant.first;
  home = c.in_ok-serve_line.ensures.home ∙ c.loop.invariant.home;
}

-- a line broke off behind the last one that may be read
pub returns-in_err-await_line-clause-ends : goal.returns-in_err-await_line-clause-ends
returns-in_err-await_line-clause-ends g c =
    let p = err_from_is_err_and c.from_residual-in_err-await_line.result c.from_residual-in_err-await_line.ensures.1 in
    rw (p.1, p.2) (ends-unread c.loop.invariant.served c.loop.invariant.first _ _ _ (omega arith) c.await_line.ensures.emptied c.in_err-await_line.ensures.finds)

-- the input ended there, or there is one line more
pub returns : goal.returns
returns g c = record {
  ends = ends-behind c.loop.invariant.served c.loop.invariant.first _ c.at_most.ensures (omega arith) c.await_line.ensures.emptied
      c.in_ok-await_line.ensures.finds;
  home = c.loop.invariant.home;
}
