use Rattle.std.proofs.Common.{length, drop}
use Rattle.commit_file.proofs.Sound.{shows_copied}
use Rattle.commit_file.proofs.moment.show.Goals as goal

pub returns-clause-shows : goal.returns-clause-shows
returns-clause-shows c =
    shows_copied c.args.file.now c.copy_from_slice.new.self (drop c.min-count.result c.args.buf.now) c.args.at c.min-count.result (length c.args.buf.now)
    c.if-at-file.false c.requires c.copy_from_slice.ensures.after c.min-count.ensures
