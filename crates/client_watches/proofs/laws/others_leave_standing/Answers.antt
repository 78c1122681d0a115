use Rattle.client_watches.proofs.Lined.{others_leave_standing as lemma}
use Rattle.client_watches.proofs.laws.others_leave_standing.Goals as goal

pub returns : goal.returns
returns c = lemma
