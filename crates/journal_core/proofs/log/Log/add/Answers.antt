use Rattle.std.proofs.Common.{◌+◌, length, sym, ap, ◌∙◌}
use Rattle.journal_core.proofs.ByShard.{keeps-more}
use Rattle.journal_core.proofs.log.Log.add.Goals as goal

pub invariant_of-self : goal.invariant_of-self
invariant_of-self c =
    let log = c.self.inside in
    let number = c.requires.number ∙ ap (λ l. length l.commits + 1) (sym c.self.view_is) in
    keeps-more log.commits.items log.shards log.lists.items c.args.commit _ _ _ _ log.room c.self.invariant number c.requires.kinds
    c.push_reserved.ensures.items
    (rw (sym (c.into_vec.ensures ∙ c.requires.changes)) c.add_each.ensures)
