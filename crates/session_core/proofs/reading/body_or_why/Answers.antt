use Rattle.std.proofs.Common.{◌≡◌, Result, sym, subst}
use Rattle.std.specs.Prelude.{IfOk}
use Rattle.std.specs.declared.alloc.AllocError.{AllocError}
use Rattle.session_text.specs.declared.reply.Why.{Why}
use Rattle.txn_lang.specs.declared.checked.Checked.{Checked}
use Rattle.session_core.specs.Bodies.{body_of}
use Rattle.session_core.specs.Holding.{IsReady}
use Rattle.session_core.proofs.Bodies.{split-reads, split-ready}
use Rattle.session_core.proofs.reading.body_or_why.Goals as goal

pub returns-clause-reads : goal.returns-clause-reads
returns-clause-reads c = subst (λ (r : Result (Result Checked Why) AllocError). IfOk r (λ x. body_of c.args.read_only c.args.text ≡ x))
    (sym c.split.ensures) (split-reads c.read_body.result (body_of c.args.read_only c.args.text) c.read_body.ensures.reads)

pub returns-clause-ready : goal.returns-clause-ready
returns-clause-ready c = subst (λ (r : Result (Result Checked Why) AllocError). IfOk r (λ x. IfOk x (λ k. IsReady k)))
    (sym c.split.ensures) (split-ready c.read_body.result c.read_body.ensures.ready)
