use Rattle.txn_grammar.proofs.Marks.{no_mark_there, no_mark_so_short}
use Rattle.txn_grammar.proofs.lexer.long_mark.Goals.{then-text-lt2-via-then-text-lt2, then-text-lt2-via-else-text-lt2+then-text-ne61}
use Rattle.txn_grammar.proofs.lexer.long_mark.Goals as goal

pub returns-then-text-lt2 : goal.returns-then-text-lt2
returns-then-text-lt2 c = elim c.then-text-lt2.branch [
  | then-text-lt2-via-then-text-lt2 w ↦ no_mark_so_short c.args.text.now w.if-text-lt2.true
  | then-text-lt2-via-else-text-lt2+then-text-ne61 w ↦ no_mark_there c.args.text.now w.if-text-ne61.true
]
