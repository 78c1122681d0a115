use Rattle.history_lock.proofs.Moves.{opens}
use Rattle.history_lock.proofs.opened.Opened.new.Goals as goal

pub of_words-requires : goal.of_words-requires
of_words-requires g c =
    rw (c.entries-entries.ensures, c.count-count.ensures) (opens g.T.Stands.names g.T.Stands.may_follow c.args.first (g.T.Stands.list c.args.value)
    (g.T.Stands.count c.args.value) c.requires.named c.requires.lawful)
