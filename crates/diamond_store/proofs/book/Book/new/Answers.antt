use Rattle.std.proofs.Common.{inl, arith}
use Rattle.diamond_store.proofs.Decided.{book-opened}
use Rattle.diamond_store.proofs.book.Book.new.Goals as goal

pub invariant_of-result : goal.invariant_of-result
invariant_of-result g c =
    let made = c.in_ok-journal in
    let before = c.keep_faults-first_faults.ensures in
    let after = made.ensures.faults in
    record {
      shards = made.ensures.shards;
      limit = made.ensures.limit;
      entries = c.length-entries.ensures;
      holds = book-opened c.args.kept made.journal.commits c.in_ok-holds.holds c.length-entries.result c.requires.numbered made.ensures.commits
          c.length-entries.ensures c.in_ok-holds.ensures;
      counted = inl (omega arith);
    }
