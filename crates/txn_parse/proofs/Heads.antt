-- What is ahead.
use Rattle.std.proofs.Common.{◌≡◌, Bool, List, drop, Option, Some, None, Ok, Err, refl, ap, sym, ◌∙◌}
use Rattle.std.specs.Option.{option_map, is_some}
use Rattle.predictive_parsing.specs.Reading.{next, is_made, begins, one}
use Rattle.predictive_parsing.specs.Reads.{made_of}
use Rattle.predictive_parsing.proofs.Cursors.{taken, refused}
use Rattle.txn_grammar.specs.code.Forms.{of_next}

-- what is made of the item ahead
pub ahead_is : {I B : Type 0} (f : I → Option B) (item : I) (ts : List I) (o : Option B) → o ≡ f item → next ts ≡ Some item → o ≡ of_next f (next ts)
ahead_is f item ts o e h = e ∙ ap (of_next f) (sym h)

-- by whether an item is ahead: something is made of it, or there is none to make anything of
pub begins_at : {I B : Type 0} (f : I → Option B) (h : Option I) → begins f h ≡ is_made (of_next f h)
begins_at f None = refl
begins_at f (Some item) = refl

-- whether something is
pub begins_is : {I B : Type 0} (f : I → Option B) (h : Option I) (o : Option B) (b : Bool) → b ≡ is_some o → o ≡ of_next f h → b ≡ begins f h
begins_is f h o b e k = e ∙ some_is o ∙ ap is_made k ∙ sym (begins_at f h)
  where
    some_is : {B : Type 0} (o : Option B) → is_some o ≡ is_made o
    some_is None = refl
    some_is (Some a) = refl

-- what was found ahead is taken
pub copy_taken : {I A L : Type 0} (f : I → Option A) (view : L → A) (ts : List I) (found : Option L) (lent : L)
    → option_map view found ≡ made_of f ts → found ≡ Some lent → one f ts ≡ Ok (view lent, drop 1 ts)
copy_taken f view ts found lent e h = taken f ts (view lent) (sym e ∙ ap (option_map view) h)

-- and refused where nothing was
pub copy_refused : {I A L : Type 0} (f : I → Option A) (view : L → A) (ts : List I) (found : Option L)
    → option_map view found ≡ made_of f ts → found ≡ None → one f ts ≡ Err ts
copy_refused f view ts found e h = refused f ts (sym e ∙ ap (option_map view) h)
