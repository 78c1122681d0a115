use Rattle.client_watches.proofs.Seen.{lines_say_what_is_seen as lemma}
use Rattle.client_watches.proofs.laws.lines_say_what_is_seen.Goals as goal

pub returns : goal.returns
returns c = lemma
