-- What the checker's code answers, against what `judge` of specs/Typing finds: errors for want of memory aside it is the same.
-- The laws `types_are_found` and `bodies_are_judged` tie `judge` to the rules of typing.
use Rattle.std.specs.Prelude.{◌≡◌, ℕ, Bool, true, false, IsTrue, Option, Some, None, Result, Ok, Err, refl}
use Rattle.plain_data.specs.declared.or_no_memory.OrNoMemory.{OrNoMemory}
use Rattle.plain_data.specs.declared.or_no_memory.OrNoMemory.TheVariants.{Cause, NoMemory}
use Rattle.txn_lang.specs.declared.checking.CheckError.{CheckError}
use Rattle.txn_lang.specs.declared.checking.CheckError.TheVariants as error
use Rattle.txn_lang.specs.Types.{Names}
use Rattle.txn_lang.specs.Typing.{Judged, IsTyped}
use Rattle.txn_lang.specs.Writes.{first_write}
use Rattle.txn_trees.specs.declared.statement.Body.{Body}

-- what is judged without memory is answered as it is, a column as the cause
abbrev pub caused : {A : Type 0} → Judged A → Result A (OrNoMemory ℕ)
caused (Ok a) = Ok a
caused (Err column) = Err (Cause column)

-- why a body isn't well typed
abbrev pub told : OrNoMemory ℕ → CheckError
told (Cause column) = error.BadType column
told NoMemory = error.NoMemory

-- a body that may only read is refused at its first write
abbrev pub refuse_write : Bool → Option ℕ → Result (Unit {0}) CheckError
refuse_write true (Some column) = Err (error.Writes column)
refuse_write true None = Ok tt
refuse_write false column = Ok tt

-- what is judged is answered of what leaves names bound; for want of memory nothing is said
abbrev pub Leaves : Result (Unit {0}) (OrNoMemory ℕ) → Names → Judged Names → Type 0
Leaves (Ok _) names judged = judged ≡ Ok names
Leaves (Err fault) names judged = (column : ℕ) → fault ≡ Cause column → judged ≡ Err column

-- the same of what leaves them as they are, and takes no memory
abbrev pub Fits : Result (Unit {0}) ℕ → Names → Judged Names → Type 0
Fits (Ok _) names judged = judged ≡ Ok names
Fits (Err column) names judged = judged ≡ Err column

-- a body that is well typed and may only read, with its first write at a column
pub record WritesAt (body : Body) (read_only : Bool) (column : ℕ) : Type 0 where
  pub typed : IsTyped body
  pub only_reads : IsTrue read_only
  pub first : first_write body ≡ Some column

-- a rule that fails at column 9 is told, and not want of memory
rule-that-fails : told (Cause 9) ≡ error.BadType 9
rule-that-fails = refl

-- a write at column 9 is refused where a body may only read
write-refused : refuse_write true (Some 9) ≡ Err (error.Writes 9)
write-refused = refl
