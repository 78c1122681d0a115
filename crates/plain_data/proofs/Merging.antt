-- Steps of one pass over two lists of pairs.
use Rattle.std.proofs.Common.{◌≡◌, ℕ, suc, ◌+◌, ◌<◌, length, drop, get_or, arith, Option, List, [], ◌∷◌, ◌++◌, refl, sym, ap, ◌∙◌}
use Rattle.std.proofs.Common.{append_assoc, append-nil}
use Rattle.std.proofs.Math.Seq.{drop-cons}
use Rattle.std.specs.Ordering.{match_ordering}
use Rattle.std.specs.declared.cmp.Ordering.TheVariants.{Less, Equal, Greater}
use Rattle.plain_data.specs.Texts.{Bytes, text_cmp}
use Rattle.plain_data.specs.code.Merging.{before, after, pair_at, merged}

module _ {V : Type 0} (key : Bytes) where
  -- nothing is below or above a key where nothing is
  pub before_none : before {V = V} key [] ≡ []
  unfolding before
  before_none = refl

  -- nor is there anything behind it
  pub after_none : after {V = V} key [] ≡ []
  unfolding after
  after_none = refl

  module _ (e : Bytes × V) (es : List (Bytes × V)) where
    -- at a first key above the key, all pairs are
    pub before_below : text_cmp key e.0 ≡ Less → before key (e ∷ es) ≡ []
    unfolding before
    before_below is = ap (λ r. match_ordering r [] [] (e ∷ before key es)) is

    -- and so all of them are left
    pub after_below : text_cmp key e.0 ≡ Less → after key (e ∷ es) ≡ e ∷ es
    unfolding after
    after_below is = ap (λ r. match_ordering r (e ∷ es) es (after key es)) is

    -- at the key itself, those behind it are above
    pub before_at : text_cmp key e.0 ≡ Equal → before key (e ∷ es) ≡ []
    unfolding before
    before_at is = ap (λ r. match_ordering r [] [] (e ∷ before key es)) is

    -- and the pair of the key itself is left out
    pub after_at : text_cmp key e.0 ≡ Equal → after key (e ∷ es) ≡ es
    unfolding after
    after_at is = ap (λ r. match_ordering r (e ∷ es) es (after key es)) is

    -- a first key below the key is passed
    pub before_above : text_cmp key e.0 ≡ Greater → before key (e ∷ es) ≡ e ∷ before key es
    unfolding before
    before_above is = ap (λ r. match_ordering r [] [] (e ∷ before key es)) is

    -- and so what is above the key is found in the rest
    pub after_above : text_cmp key e.0 ≡ Greater → after key (e ∷ es) ≡ after key es
    unfolding after
    after_above is = ap (λ r. match_ordering r (e ∷ es) es (after key es)) is

module _ {V : Type 0} (key : Bytes) (out rest total : List (Bytes × V)) (sofar : out ++ before key rest ≡ total) where
  -- where none is below the key in the rest, all are copied
  pub all_copied : before key rest ≡ [] → out ≡ total
  all_copied none = sym (append-nil out) ∙ ap (λ xs. out ++ xs) (sym none) ∙ sofar

  -- a pair below the key is copied
  pub one_copied : (e : Bytes × V) (es more : List (Bytes × V)) → rest ≡ e ∷ es → text_cmp key e.0 ≡ Greater → more ≡ out ++ e ∷ []
      → more ++ before key es ≡ total
  one_copied e es more rest-is above more-is =
      ap (λ xs. xs ++ before key es) more-is
      ∙ append_assoc out (e ∷ []) (before key es)
      ∙ ap (λ xs. out ++ xs) (sym (ap (before key) rest-is ∙ before_above key e es above))
      ∙ sofar

-- one mark is merged
pub one_merged : {V M : Type 0} (left : M → Option V) (out low more rest above : List (Bytes × V)) (value : Option V) (mark : Bytes × M)
    (over marks : List (Bytes × M)) (total : List (Bytes × V))
    → over ≡ mark ∷ marks → low ≡ out ++ before mark.0 rest → above ≡ after mark.0 rest → value ≡ left mark.1
    → more ≡ low ++ pair_at mark.0 value
    → out ++ merged left rest over ≡ total → more ++ merged left above marks ≡ total
unfolding merged
one_merged left out low more rest above value mark over marks total over-is low-is above-is value-is more-is sofar =
    let tail = merged left (after mark.0 rest) marks in
    ap (λ xs. xs ++ merged left above marks) more-is
    ∙ (λ i. (low-is i ++ pair_at mark.0 (value-is i)) ++ merged left (above-is i) marks)
    ∙ ap (λ xs. xs ++ tail) (append_assoc out (before mark.0 rest) (pair_at mark.0 (left mark.1)))
    ∙ append_assoc out (before mark.0 rest ++ pair_at mark.0 (left mark.1)) tail
    ∙ ap (λ ms. out ++ merged left rest ms) (sym over-is)
    ∙ sofar

-- where no mark is left, the rest is copied
pub rest_merged : {V M : Type 0} (left : M → Option V) (out more rest : List (Bytes × V)) (over : List (Bytes × M)) (total : List (Bytes × V))
    → over ≡ [] → more ≡ out ++ rest → out ++ merged left rest over ≡ total → more ≡ total
unfolding merged
rest_merged left out more rest over total over-is more-is sofar = more-is ∙ ap (λ ms. out ++ merged left rest ms) (sym over-is) ∙ sofar

-- from a place on: the item there, and those behind it
pub drop-item : {X : Type 0} (xs : List X) (i : ℕ) (x : X) → i < length xs → get_or xs i x ≡ x → drop i xs ≡ x ∷ drop (i + 1) xs
drop-item xs i x within is = drop-cons xs i x within ∙ (λ j. is j ∷ drop (one_more i j) xs)
  where
    one_more : (n : ℕ) → suc n ≡ n + 1
    one_more n = omega arith
