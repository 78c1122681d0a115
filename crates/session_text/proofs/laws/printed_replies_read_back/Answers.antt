use Rattle.session_text.proofs.PrintedBack.{reply_made}
use Rattle.session_text.proofs.laws.printed_replies_read_back.Goals as goal

pub returns : goal.returns
returns c = reply_made
