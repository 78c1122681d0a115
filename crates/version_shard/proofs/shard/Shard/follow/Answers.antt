use Rattle.std.proofs.Common.{List, subst, sym, ◌∙◌}
use Rattle.change_feed.specs.declared.change.Change.{Change}
use Rattle.change_feed.specs.Feeds.{AreOfTheirKinds}
use Rattle.version_shard.proofs.shard.Shard.follow.Goals as goal

pub follow_lent-requires-clause-kinds : goal.follow_lent-requires-clause-kinds
follow_lent-requires-clause-kinds c = subst (λ (l : List Change). AreOfTheirKinds l) (sym (c.of-changes.ensures ∙ c.lend.ensures)) c.requires.kinds

-- the same tail, lent
pub returns-clause-holds : goal.returns-clause-holds
returns-clause-holds c journal next holds =
    c.follow_lent.ensures.holds journal
    (record {
      readable = next.readable;
      within = next.within;
      exact = record { begins = next.exact.begins; ends = next.exact.ends; exact = c.of-changes.ensures ∙ c.lend.ensures ∙ next.exact.exact };
    })
    holds
