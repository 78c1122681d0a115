use Rattle.std.proofs.Common.{ap, sym, ◌∙◌}
use Rattle.diamond_store.proofs.First.{drawn-first, drawn-newest}
use Rattle.diamond_store.proofs.store.Store.new.Goals as goal

pub returns : goal.returns
returns g c = record {
  pass = drawn-first c.args.opened.lock.base _ _ _ _ c.args.opened.front _ _ _ c.args.settings.now (ap (λ lock. lock.base) (sym c.requires.lock))
      (c.split.ensures.unchanged ∙ c.in_ok-shards.ensures.same ∙ c.named-journal.ensures.front) c.in-Author.ensures.author c.entries-seen.ensures
      c.new-5.ensures.empty;
  client = drawn-newest _ _ _ _ _ c.args.opened.front _ _ _ c.args.settings.now (ap (λ lock. lock.first) c.requires.lock)
      (c.split.ensures.unchanged ∙ c.in_ok-shards.ensures.same ∙ c.named-journal.ensures.front) c.in-Author.ensures.author;
}
