use Rattle.txn_lang.proofs.Journals.{legal_commits_follow}
use Rattle.txn_lang.proofs.laws.legal_commits_follow.Goals as goal

pub returns : goal.returns
returns c = legal_commits_follow
