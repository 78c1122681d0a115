use Rattle.journal_core.proofs.OfRuns.{kinds-of-commit}
use Rattle.journal_core.proofs.journal.Journal.append_clear.Goals as goal

-- a commit of a run has deltas of the kinds of their addresses
pub add-requires-clause-kinds : goal.add-requires-clause-kinds
add-requires-clause-kinds g c = kinds-of-commit c.args.slot.commit c.requires.can_add.of_run
