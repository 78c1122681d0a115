use Rattle.std.proofs.Common.{ap, subst}
use mathlib.Core.List.{IsPrefix}
use Rattle.history_lock.specs.declared.known.Known.{Known}
use Rattle.txn_lang.specs.declared.commit.Commit.{Commit}
use Rattle.txn_lang.specs.States.{Journal}
use Rattle.diamond_store.proofs.history.teach.Goals as goal

-- the copy knows what the token knows
pub returns-clause-knows : goal.returns-clause-knows
returns-clause-knows g c =
    subst (λ (j : Journal). IsPrefix j c.meet.new.mine.seen) (ap (λ (k : Known Commit). k.seen) c.split-copy.ensures.copy) c.meet.ensures.begins_other
