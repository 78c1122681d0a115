use Rattle.docc_prepare.specs.declared.attempt.Next.TheVariants as next
use Rattle.session_core.proofs.Attempts.{short-need}
use Rattle.session_core.proofs.Performing.{read_does}
use Rattle.session_core.proofs.event.read_event.Goals as goal

pub read-answer-requires : goal.read-answer-requires
read-answer-requires g c = short-need c.args.attempt.now c.args.address c.requires.next

pub returns-clause-plays : goal.returns-clause-plays
returns-clause-plays g c =
    read_does c.args.session.now c.args.attempt.now (next.Read c.args.address) c.requires.next c.read-answer.ensures.goes c.args.address
    c.after_read.new.attempt c.after_read.result c.after_read.ensures.turned
