use Rattle.remote_link.proofs.Linked as linked
use Rattle.remote_link.proofs.laws.links_answer.Goals as goal

pub returns : goal.returns
returns c = linked.links_answer
