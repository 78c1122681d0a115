use Rattle.session_text.proofs.LineFits.{line_fits}
use Rattle.session_text.proofs.ReplyFits.{reply_fits}
use Rattle.session_text.proofs.laws.readers_are_rules.Goals as goal

pub returns : goal.returns
returns c = record { lines = line_fits; replies = reply_fits }
