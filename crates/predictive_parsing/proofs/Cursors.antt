-- One item, taken or refused.
use Rattle.std.proofs.Common.{◌≡◌, ◌<◌, ◌≤◌, ◌+◌, ℕ, List, [], ◌∷◌, take, drop, min, get_or, length, Bool, false}
use Rattle.std.proofs.Common.{Option, Some, None, Result, Ok, Err, IfOk, refl, ap, sym, ◌∙◌, arith}
use Rattle.std.specs.List.{prefix_len}
use Rattle.std.proofs.lemmas.List.{drop_more, drop_all}
use Rattle.plain_data.specs.Texts.{Bytes}
use Rattle.predictive_parsing.specs.Reading.{Outcome, next, is_made, begins, ahead, run, run_up_to, one, on_made, and_then}
use Rattle.predictive_parsing.specs.Bytes.{byte, word}
use Rattle.predictive_parsing.specs.Reads.{Reads, made_of}
use Rattle.plain_data.specs.declared.or_no_memory.OrNoMemory.{OrNoMemory}
use Rattle.predictive_parsing.specs.declared.refused.Refused.{Refused}
use Rattle.predictive_parsing.proofs.Basic.{ok_pair}

module _ {I A : Type 0} (f : I → Option A) where
  -- an item of which f makes a value is taken
  pub made_taken : (item : I) (us ts : List I) (a : A) → ts ≡ item ∷ us → f item ≡ Some a → one f ts ≡ Ok (a, us)
  unfolding one
  made_taken item us ts a e h = ap (one f) e ∙ ap (λ o. on_made item o us) h

  -- one of which it makes nothing is refused
  pub none_made : (item : I) (us ts : List I) → ts ≡ item ∷ us → f item ≡ None → one f ts ≡ Err ts
  unfolding one
  none_made item us ts e h = ap (one f) e ∙ ap (λ o. on_made item o us) h ∙ ap (λ xs. Err xs) (sym e)

  -- and so is the end
  pub none_left : (ts : List I) → length ts ≡ 0 → one f ts ≡ Err ts
  unfolding one
  none_left [] e = refl
  none_left (item ∷ ts) e = absurd (omega arith)

  -- what is read was made of an item
  pub one_takes_made : (ts us : List I) (a : A) → one f ts ≡ Ok (a, us) → (item : I) × (f item ≡ Some a)
  unfolding one
  one_takes_made [] us a e = absurd (cc)
  one_takes_made (item ∷ ts) us a e = (item, by_made item (f item) ts us a e)
    where
      by_made : (item : I) (o : Option A) (ts us : List I) (a : A) → on_made item o ts ≡ Ok (a, us) → o ≡ Some a
      by_made item (Some b) ts us a h = let k = ok_pair b a ts us h in ap (λ x. Some x) k.0
      by_made item None ts us a h = absurd (cc)

  -- the same by what is made of the item ahead
  pub taken : (ts : List I) (a : A) → made_of f ts ≡ Some a → one f ts ≡ Ok (a, drop 1 ts)
  unfolding one
  taken [] a e = absurd (cc)
  taken (item ∷ ts) a e = ap (λ o. on_made item o ts) e

  -- where nothing is made of the item ahead, or no item is, it is refused
  pub refused : (ts : List I) → made_of f ts ≡ None → one f ts ≡ Err ts
  unfolding one
  refused [] e = refl
  refused (item ∷ ts) e = ap (λ o. on_made item o ts) e

  -- an item of which nothing is made is refused
  none_refused : (item : I) (o : Option A) (ts : List I) → is_made o ≡ false → on_made item o ts ≡ Err (item ∷ ts)
  none_refused item None ts e = refl
  none_refused item (Some a) ts e = absurd (cc)

  -- the same by a test of the item ahead
  pub test_refused : (ts : List I) → begins f (next ts) ≡ false → one f ts ≡ Err ts
  unfolding one
  test_refused [] e = refl
  test_refused (item ∷ ts) e = none_refused item (f item) ts e

  -- an item of which something is made is there
  pub made_shorter : (ts : List I) (a : A) → made_of f ts ≡ Some a → length (drop 1 ts) < length ts
  made_shorter [] a e = absurd (cc)
  made_shorter (item ∷ ts) a e = omega arith

-- what holds of all that f makes holds of what is read by it
pub made_as : {I A : Type 0} (f : I → Option A) (Q : A → Type 0) → ((item : I) (a : A) → f item ≡ Some a → Q a)
    → (ts us : List I) (r : Result A (OrNoMemory Refused)) → Reads (one f ts) r us → IfOk r Q
made_as f Q all ts us (Ok a) e = let x = one_takes_made f ts us a e in all x.0 a x.1
made_as f Q all ts us (Err stop) e = tt

-- what a test says of the item ahead
pub ahead_is : {I : Type 0} (passes : I → Bool) (item : I) (ts : List I) → next ts ≡ Some item → passes item ≡ ahead passes (next ts)
ahead_is passes item ts e = ap (ahead passes) (sym e)

-- the items at the front that pass, and the others
pub run_is : {I : Type 0} (passes : I → Bool) (ts front us : List I) (n : ℕ) → n ≡ prefix_len passes ts → front ≡ take n ts
    → us ≡ drop n ts → run passes ts ≡ Ok (front, us)
unfolding run
run_is passes ts front us n e f b =
    ap (λ m. Ok (take m ts, drop m ts)) (sym e) ∙ ap (λ xs. Ok (xs, drop n ts)) (sym f) ∙ ap (λ xs. Ok (front, xs)) (sym b)

-- the same, up to a limit
pub run_up_to_is : {I : Type 0} (limit : ℕ) (passes : I → Bool) (ts front us : List I) (m n : ℕ) → m ≡ prefix_len passes ts
    → n ≡ min limit m → front ≡ take n ts → us ≡ drop n ts → run_up_to limit passes ts ≡ Ok (front, us)
unfolding run_up_to
run_up_to_is limit passes ts front us m n e l f b =
    let k : min limit (prefix_len passes ts) ≡ n = ap (min limit) (sym e) ∙ sym l in
    ap (λ i. Ok (take i ts, drop i ts)) k ∙ ap (λ xs. Ok (xs, drop n ts)) (sym f) ∙ ap (λ xs. Ok (front, xs)) (sym b)

-- ---- the loop over a word's bytes

module _ (w ts : Bytes) (i : ℕ) where
  -- the word from a place on is the byte there and those behind it
  word_cut : i < length w → word (drop i w) ts ≡ and_then (byte (get_or w i 0) ts) (λ _. word (drop (i + 1) w))
  unfolding word
  word_cut l = ap (λ xs. word xs ts) (drop_more w i 0 l)

  -- one byte more is taken
  pub word_more : (us : Bytes) → i < length w → byte (get_or w i 0) ts ≡ Ok (tt, us) → word (drop i w) ts ≡ word (drop (i + 1) w) us
  word_more us l e = word_cut l ∙ ap (λ o. and_then o (λ _. word (drop (i + 1) w))) e

  -- the first byte that doesn't fit is refused
  pub word_refused : (us : Bytes) (whole : Outcome ℕ (Unit {0})) → word (drop i w) ts ≡ whole → i < length w → byte (get_or w i 0) ts ≡ Err us → whole ≡ Err us
  word_refused us whole so_far l e = sym so_far ∙ word_cut l ∙ ap (λ o. and_then o (λ _. word (drop (i + 1) w))) e

  -- no byte is left
  pub word_done : length w ≤ i → word (drop i w) ts ≡ Ok (tt, ts)
  unfolding word
  word_done l = ap (λ xs. word xs ts) (drop_all i w l)
