-- What closures of the parser's code read. The clauses of the rules in src/grammar.rt that hand a closure to `chain` or
-- `comparison`, as `product_from` does, put in the reader of specs/code/Reader of `txn_grammar` that the closure is.
use Rattle.std.specs.Prelude.{◌≡◌, List, Result}
use Rattle.std.specs.Fn.{Shared}
use denote.Ref.{MutBor}
use Rattle.plain_data.specs.declared.or_no_memory.OrNoMemory.{OrNoMemory}
use Rattle.predictive_parsing.specs.declared.refused.Refused.{Refused}
use Rattle.predictive_parsing.specs.Reading.{Reader}
use Rattle.predictive_parsing.specs.Reads.{Reads}
use Rattle.txn_grammar.specs.declared.token.Spot.{Spot}

-- a call of f at a `&mut` to `old` may answer r, and leave `new` there
pub record ReturnsAtMut {F T R : Type 0} (g : Shared F (MutBor T × Unit {0}) (R × (MutBor T × Unit {0}))) (f : F) (old : T)
    (r : R) (new : T) : Type 0 where
  pub shown : MutBor T
  pub shows : shown.now ≡ old
  pub left : MutBor T
  pub met : g.post f (shown, tt) (r, (left, tt))
  pub leaves : left.now ≡ new

-- The closure reads as this reader does: whatever a call may answer of some tokens, and leave of them, is what it gives.
abbrev pub ReadsAs : {F A : Type 0}
    → Shared F (MutBor (List Spot) × Unit {0}) (Result A (OrNoMemory Refused) × (MutBor (List Spot) × Unit {0})) → F → Reader Spot A → Type 0
ReadsAs {F} {A} g f reader = (old new : List Spot) (r : Result A (OrNoMemory Refused)) → ReturnsAtMut g f old r new → Reads (reader old) r new

-- What was read is what the rule reads, over whatever reader the closure's is.
abbrev pub ReadsOver : {F A B : Type 0}
    → Shared F (MutBor (List Spot) × Unit {0}) (Result A (OrNoMemory Refused) × (MutBor (List Spot) × Unit {0})) → F
    → (Reader Spot A → Reader Spot B) → List Spot → Result B (OrNoMemory Refused) → List Spot → Type 0
ReadsOver {F} {A} {B} g f rule old r new = (reader : Reader Spot A) → ReadsAs g f reader → Reads (rule reader old) r new
