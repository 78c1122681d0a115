use Rattle.journal_core.specs.declared.limits.TheConstants.{LONGEST_BODY}
use Rattle.record_code.proofs.Codes.{text_within}
use Rattle.record_code.proofs.body.read_body.Goals as goal

pub as_kept-requires : goal.as_kept-requires
as_kept-requires c = text_within LONGEST_BODY c.args.bytes.now
    (c.in_ok-text.text, c.in_ok-text.rest.now) c.in_ok-text.ensures
