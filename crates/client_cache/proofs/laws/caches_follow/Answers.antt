use Rattle.client_cache.proofs.Following.{caches_follow}
use Rattle.client_cache.proofs.laws.caches_follow.Goals as goal

pub returns : goal.returns
returns c = caches_follow
