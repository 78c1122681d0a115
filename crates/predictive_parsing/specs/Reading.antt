-- Readers: functions that read the front of a list of items and look one item ahead. They are written as rules are, and
-- each choice names the items with which its first part begins.
use Rattle.std.specs.Prelude.{ℕ, zero, suc, Bool, true, false, if◌then◌else◌, List, [], ◌∷◌, length, take, drop, min}
use Rattle.std.specs.Prelude.{Option, Some, None, Result, Ok, Err}
use Rattle.std.specs.List.{prefix_len}

-- a value and the items behind it, or the items from the first one on that does not fit
abbrev pub Outcome : Type 0 → Type 0 → Type 0
Outcome I A = Result (A × List I) (List I)

-- what reads the front of a list of items
abbrev pub Reader : Type 0 → Type 0 → Type 0
Reader I A = List I → Outcome I A

-- what goes on with the value that was read, on the items behind it
abbrev pub and_then : {I A B : Type 0} → Outcome I A → (A → Reader I B) → Outcome I B
and_then (Ok read) q = q read.0 read.1
and_then (Err ts) q = Err ts

infixl 10 ◌>>=◌
abbrev pub ◌>>=◌ : {I A B : Type 0} → Reader I A → (A → Reader I B) → Reader I B
p >>= q = λ ts. and_then (p ts) q

infixl 10 ◌>>◌
abbrev pub ◌>>◌ : {I A B : Type 0} → Reader I A → Reader I B → Reader I B
p >> q = p >>= (λ _. q)

-- no item, and this value
abbrev pub pure : {I A : Type 0} → A → Reader I A
pure a = λ ts. Ok (a, ts)

-- the item ahead, if there is one
abbrev pub next : {I : Type 0} → List I → Option I
next [] = None
next (item ∷ ts) = Some item

-- whether there is a value
abbrev pub is_made : {A : Type 0} → Option A → Bool
is_made (Some a) = true
is_made None = false

-- whether the item ahead is one of which f makes a value
abbrev pub begins : {I A : Type 0} → (I → Option A) → Option I → Bool
begins f None = false
begins f (Some item) = is_made (f item)

-- whether an item is ahead that passes the test
abbrev pub ahead : {I : Type 0} → (I → Bool) → Option I → Bool
ahead test None = false
ahead test (Some item) = test item

-- the item, where it passes the test
abbrev pub passing : {I : Type 0} → (I → Bool) → I → Option I
passing test item = if test item then Some item else None

-- the value that was made of an item, or the refusal of it
abbrev pub on_made : {I A : Type 0} → I → Option A → List I → Outcome I A
on_made item (Some a) ts = Ok (a, ts)
on_made item None ts = Err (item ∷ ts)

-- one item, of which f makes the value
unfoldable pub one : {I A : Type 0} → (I → Option A) → Reader I A
one f [] = Err []
one f (item ∷ ts) = on_made item (f item) ts

-- the one or the other, by what is ahead
abbrev pub either : {I A : Type 0} → (Option I → Bool) → Reader I A → Reader I A → Reader I A
either starts p q = λ ts. if starts (next ts) then p ts else q ts

-- as many as begin, at most n
unfoldable pub turns : {I A : Type 0} → (Option I → Bool) → Reader I A → ℕ → Reader I (List A)
turns starts p zero = pure []
turns starts p (suc n) = either starts (do
  a ← p
  rest ← turns starts p n
  pure (a ∷ rest)) (pure [])

-- as many as begin: each takes an item at least, so there are not more of them than items
unfoldable pub many : {I A : Type 0} → (Option I → Bool) → Reader I A → Reader I (List A)
many starts p = λ ts. turns starts p (length ts) ts

-- one, and as many others as begin
unfoldable pub list : {I A B : Type 0} → Reader I A → (Option I → Bool) → Reader I B → Reader I (A × List B)
list p starts q = do
  a ← p
  rest ← many starts q
  pure (a, rest)

-- one where it begins
unfoldable pub optional : {I A : Type 0} → (Option I → Bool) → Reader I A → Reader I (Option A)
optional starts p = either starts (do a ← p; pure (Some a)) (pure None)

-- what is read, seen as another value
abbrev pub of : {I A B : Type 0} → (A → B) → Reader I A → Reader I B
of f p = do
  a ← p
  pure (f a)

-- what is ahead tells what is to be read
abbrev pub guided : {I A B : Type 0} → (Option I → A) → (A → Reader I B) → Reader I B
guided guess q = λ ts. q (guess (next ts)) ts

-- the items at the front that pass a test, as many as there are
unfoldable pub run : {I : Type 0} → (I → Bool) → Reader I (List I)
run passes ts = Ok (take (prefix_len passes ts) ts, drop (prefix_len passes ts) ts)

-- the same, up to a limit
unfoldable pub run_up_to : {I : Type 0} → ℕ → (I → Bool) → Reader I (List I)
run_up_to limit passes ts = Ok (take (min limit (prefix_len passes ts)) ts, drop (min limit (prefix_len passes ts)) ts)

-- what was read, where nothing is left behind it
abbrev pub whole_of : {I A : Type 0} → Outcome I A → Result A (List I)
whole_of (Ok (a, [])) = Ok a
whole_of (Ok (a, item ∷ ts)) = Err (item ∷ ts)
whole_of (Err ts) = Err ts

-- the value of all the items, or the items from the first one on that does not fit
unfoldable pub whole : {I A : Type 0} → Reader I A → List I → Result A (List I)
whole p ts = whole_of (p ts)
