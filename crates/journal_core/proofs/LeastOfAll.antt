-- The least pair of a journal is the least of all pairs.
use Rattle.std.proofs.Common.{◌≡◌, length, take, drop, MatchOption, sym, ap, subst, ◌∙◌, arith}
use Rattle.std.proofs.lemmas.Grind.{common_steps}
use Rattle.change_feed.specs.Tails.{IsTail}
use Rattle.abort_witness.specs.Pairs.{IsLeast, HasNoPair}
use Rattle.abort_witness.proofs.LeastPair.{least-is-least}
use Rattle.txn_lang.specs.States.{Journal}
use Rattle.journal_core.specs.Changes.{changes}
use Rattle.journal_core.specs.Pairs.{AreNumbered, LeastPairIsLeast}
use Rattle.journal_core.proofs.Rising.{all-are-tail, changes-rise}
use Rattle.journal_core.proofs.ByShard.{changes-between}
use Rattle.journal_core.proofs.Ordering.{least-is-first}

-- what lies between 0 and a journal's length is the whole journal
whole : (journal : Journal) → drop 0 (take (length journal) journal) ≡ journal
whole journal = grind (arith, common_steps)

-- all changes of a journal are a tail from 0 to its length
all-tail : (journal : Journal) → AreNumbered journal → IsTail 0 (length journal) (changes journal)
all-tail journal numbered =
    subst (IsTail 0 (length journal)) (sym (changes-between 0 (length journal) journal numbered) ∙ ap changes (whole journal))
    (all-are-tail 0 (length journal) (changes journal) (omega arith) (changes-rise 0 journal numbered))

-- the journal's first pair is the least among its changes, and these are a tail, whose least is the least of all pairs
pub least-pair-is-least : LeastPairIsLeast
least-pair-is-least based journal numbered =
    subst (λ found. MatchOption found (HasNoPair based (changes journal)) (IsLeast based (changes journal))) (least-is-first based journal numbered)
    (least-is-least based 0 (length journal) (changes journal) (all-tail journal numbered))
