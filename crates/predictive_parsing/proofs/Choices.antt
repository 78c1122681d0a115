-- One of several words is read as its rule says.
use Rattle.std.proofs.Common.{◌≡◌, ◌<◌, ◌≤◌, ◌+◌, ℕ, Bool, true, false, not, ◌&&◌, List, [], ◌∷◌, ◌++◌, length, Some}
use Rattle.std.proofs.Common.{None, Ok, Err, refl, ap, sym, ◌∙◌, subst, inl, inr, arith, cond, nat_eq, nat_lt}
use Rattle.std.proofs.Common.{length-append, length-drop, drop, get_or, ◌⊎◌}
use Rattle.std.proofs.lemmas.List.Sums.{common_prefix_len-drop_yes, common_prefix_len-drop_no, common_prefix_len-le}
use Rattle.std.proofs.lemmas.Bool.Decides.{nat_tests}
use Rattle.std.proofs.lemmas.List.{drop_more, drop_all}
use Rattle.plain_data.specs.Texts.{Bytes}
use Rattle.predictive_parsing.specs.Reading.{Reader, next, one, on_made, of, and_then}
use Rattle.predictive_parsing.specs.Rules.{Word, Of, SpelledBy}
use Rattle.predictive_parsing.specs.Fits.{Fits, Taken, Stuck, any}
use Rattle.predictive_parsing.specs.Bytes.{IsByte, byte, word}
use Rattle.predictive_parsing.specs.Choices.{shared, closer, closest, one_of, In, begins_word, is_free, are_apart, AreWords}
use Rattle.predictive_parsing.proofs.Basic.{bool_cases, both, not_true}
use Rattle.predictive_parsing.proofs.Combined.{spelled_to}
use Rattle.predictive_parsing.proofs.Words.{named_fits}

-- ---- what words have in common with what is ahead

-- tests of equality look alike from both sides
eq_turned : (b c : ℕ) (t : Bool) → nat_eq b c ≡ t → nat_eq c b ≡ t
eq_turned b c true e = grind (arith, nat_tests, e)
eq_turned b c false e = grind (arith, nat_tests, e)

-- one more byte in common
shared_more : (b c : ℕ) (w ts : Bytes) → nat_eq b c ≡ true → shared (b ∷ w) (c ∷ ts) ≡ 1 + shared w ts
shared_more b c w ts e = ap (λ t. cond t (1 + shared w ts) 0) e

-- or none
shared_none : (b c : ℕ) (w ts : Bytes) → nat_eq b c ≡ false → shared (b ∷ w) (c ∷ ts) ≡ 0
shared_none b c w ts e = ap (λ t. cond t (1 + shared w ts) 0) e

-- where a word has no more in common than a prefix, this stays so behind the prefix as long as the same byte is next
shared_kept : (w prefix us vs : Bytes) → shared w (prefix ++ us) ≤ length prefix → next vs ≡ next us → shared w (prefix ++ vs) ≡ shared w (prefix ++ us)
shared_kept [] prefix us vs l h = refl
shared_kept (c ∷ w) [] [] [] l h = refl
shared_kept (c ∷ w) [] [] (v ∷ vs) l h = absurd (cc)
shared_kept (c ∷ w) [] (u ∷ us) [] l h = absurd (cc)
shared_kept (c ∷ w) [] (u ∷ us) (v ∷ vs) l h = elim (bool_cases (nat_eq c u)) [
  | inl e ↦ absurd (omega (arith, shared_more c u w us e))
  | inr e ↦ let k : v ≡ u = cc in shared_none c v w vs (ap (nat_eq c) k ∙ e) ∙ sym (shared_none c u w us e)
]
shared_kept (c ∷ w) (f ∷ prefix) us vs l h = elim (bool_cases (nat_eq c f)) [
  | inl e ↦
      let k = shared_kept w prefix us vs (omega (arith, shared_more c f w (prefix ++ us) e)) h in
      shared_more c f w (prefix ++ vs) e ∙ ap (λ n. 1 + n) k ∙ sym (shared_more c f w (prefix ++ us) e)
  | inr e ↦ shared_none c f w (prefix ++ vs) e ∙ sym (shared_none c f w (prefix ++ us) e)
]

-- a word has all in common with itself
shared_self : (w vs : Bytes) → shared w (w ++ vs) ≡ length w
shared_self [] vs = refl
shared_self (b ∷ w) vs = let e : nat_eq b b ≡ true = grind (arith, nat_tests) in let k = shared_self w vs in shared_more b b w (w ++ vs) e ∙ omega (arith, k)

-- what has all of a word in common with it begins with it
shared_begins : (w c vs : Bytes) → length w ≤ shared c (w ++ vs) → begins_word w c ≡ true
shared_begins w c vs l = let k = all_shared w c vs l in grind (arith, nat_tests, k)
  where
    all_shared : (w c vs : Bytes) → length w ≤ shared c (w ++ vs) → shared w c ≡ length w
    all_shared [] c vs l = refl
    all_shared (b ∷ w) [] vs l = absurd (omega arith)
    all_shared (b ∷ w) (d ∷ c) vs l = elim (bool_cases (nat_eq d b)) [
      | inl e ↦ let k = all_shared w c vs (omega (arith, shared_more d b c (w ++ vs) e)) in shared_more b d w c (eq_turned d b true e) ∙ omega (arith, k)
      | inr e ↦ absurd (omega (arith, shared_none d b c (w ++ vs) e))
    ]

-- a word is refused behind what it has in common
word_shared : (w ts us : Bytes) → word w ts ≡ Err us → shared w ts + length us ≡ length ts
unfolding word byte one
word_shared [] ts us e = absurd (cc)
word_shared (b ∷ w) [] us e = let k : [] ≡ us = cc in omega (arith, ap length k)
word_shared (b ∷ w) (t ∷ ts) us e = by_test (λ r. word_shared w ts us r) (nat_eq t b) refl e
  where
    by_test : (word w ts ≡ Err us → shared w ts + length us ≡ length ts) → (c : Bool) → nat_eq t b ≡ c
        → and_then (on_made t (cond c (Some (tt {0})) None) ts) (λ _. word w) ≡ Err us
        → shared (b ∷ w) (t ∷ ts) + length us ≡ length (t ∷ ts)
    by_test rest true h r = let k = rest r in omega (arith, shared_more b t w ts (eq_turned t b true h))
    by_test rest false h r = let k : t ∷ ts ≡ us = cc in omega (arith, ap length k, shared_none b t w ts (eq_turned t b false h))

-- ---- the loop over a word's bytes

module _ (w ts : Bytes) (i : ℕ) (so_far : i + shared (drop i w) (drop i ts) ≡ shared w ts) where
  -- one more is in common
  pub shared_on : i < length w → i < length ts → get_or w i 0 ≡ get_or ts i 0 → (i + 1) + shared (drop (i + 1) w) (drop (i + 1) ts) ≡ shared w ts
  shared_on l m e =
      let t : nat_eq (get_or w i 0) (get_or ts i 0) ≡ true = grind (arith, nat_tests, e) in
      let k = common_prefix_len-drop_yes nat_eq w ts i 0 0 l m t in
      omega (arith, k)

  -- one isn't
  pub shared_stop : i < length w → i < length ts → nat_eq (get_or w i 0) (get_or ts i 0) ≡ false → i ≡ shared w ts
  shared_stop l m e = let k = common_prefix_len-drop_no nat_eq w ts i 0 0 l m e in omega (arith, k)

  -- one of both has no more
  pub shared_end : (length w ≤ i) ⊎ (length ts ≤ i) → i ≡ shared w ts
  shared_end (inl l) = let k = (common_prefix_len-le nat_eq (drop i w) (drop i ts)).0 in omega (arith, k, length-drop i w)
  shared_end (inr l) = let k = (common_prefix_len-le nat_eq (drop i w) (drop i ts)).1 in omega (arith, k, length-drop i ts)

-- ---- words that don't begin each other

module _ {W : Type 0} (spelled : W → Bytes) where
  -- of a word and others none begins the other
  free_in : (v : W) (words : List W) → is_free spelled v words ≡ true → (w : W) → In words w
      → (begins_word (spelled v) (spelled w) ≡ false) × (begins_word (spelled w) (spelled v) ≡ false)
  free_in v [] e w i = absurd i
  free_in v (x ∷ words) e w (inl h) =
      let k = both (not (begins_word (spelled v) (spelled x)) && not (begins_word (spelled x) (spelled v))) (is_free spelled v words) e in
      let l = both (not (begins_word (spelled v) (spelled x))) (not (begins_word (spelled x) (spelled v))) k.0 in
      subst (λ y. (begins_word (spelled v) (spelled y) ≡ false) × (begins_word (spelled y) (spelled v) ≡ false)) h (not_true _ l.0, not_true _ l.1)
  free_in v (x ∷ words) e w (inr i) =
      let k = both (not (begins_word (spelled v) (spelled x)) && not (begins_word (spelled x) (spelled v))) (is_free spelled v words) e in
      free_in v words k.1 w i

  -- so one that begins another is it
  apart_is : (words : List W) → are_apart spelled words ≡ true → (v w : W) → In words v → In words w → begins_word (spelled v) (spelled w) ≡ true → v ≡ w
  apart_is [] e v w i j h = absurd i
  apart_is (x ∷ words) e v w (inl i) (inl j) h = sym i ∙ j
  apart_is (x ∷ words) e v w (inl i) (inr j) h =
      let k = both (is_free spelled x words) (are_apart spelled words) e in
      absurd (let l = (free_in x words k.0 w j).0 in let m = ap (λ y. begins_word (spelled y) (spelled w)) i in cc)
  apart_is (x ∷ words) e v w (inr i) (inl j) h =
      let k = both (is_free spelled x words) (are_apart spelled words) e in
      absurd (let l = (free_in x words k.0 v i).1 in let m = ap (λ y. begins_word (spelled v) (spelled y)) j in cc)
  apart_is (x ∷ words) e v w (inr i) (inr j) h = apart_is words (both (is_free spelled x words) (are_apart spelled words) e).1 v w i j h

  -- ---- the closest

  -- the closer of two has at least as much in common as both
  closer_most : (ts : Bytes) (v w : W)
      → (shared (spelled v) ts ≤ shared (spelled (closer spelled ts v w)) ts)
      × (shared (spelled w) ts ≤ shared (spelled (closer spelled ts v w)) ts)
  closer_most ts v w = by_test (nat_lt (shared (spelled v) ts) (shared (spelled w) ts)) refl
    where
      by_test : (t : Bool) → nat_lt (shared (spelled v) ts) (shared (spelled w) ts) ≡ t
          → (shared (spelled v) ts ≤ shared (spelled (cond t w v)) ts)
          × (shared (spelled w) ts ≤ shared (spelled (cond t w v)) ts)
      by_test true e = let l : shared (spelled v) ts < shared (spelled w) ts = grind (arith, nat_tests, e) in (omega arith, omega arith)
      by_test false e = let l : shared (spelled w) ts ≤ shared (spelled v) ts = grind (arith, nat_tests, e) in (omega arith, omega arith)

  -- the closest has at least as much as each
  closest_most : (ts : Bytes) (best : W) (others : List W) (w : W) → In (best ∷ others) w
      → shared (spelled w) ts ≤ shared (spelled (closest spelled ts best others)) ts
  unfolding closest
  closest_most ts best [] w (inl e) = let k = ap (λ x. shared (spelled x) ts) e in omega arith
  closest_most ts best [] w (inr i) = absurd i
  closest_most ts best (x ∷ others) w (inl e) =
      let k = ap (λ y. shared (spelled y) ts) e in
      let l = (closer_most ts best x).0 in
      let m = closest_most ts (closer spelled ts best x) others (closer spelled ts best x) (inl refl) in
      omega arith
  closest_most ts best (x ∷ others) w (inr (inl e)) =
      let k = ap (λ y. shared (spelled y) ts) e in
      let l = (closer_most ts best x).1 in
      let m = closest_most ts (closer spelled ts best x) others (closer spelled ts best x) (inl refl) in
      omega arith
  closest_most ts best (x ∷ others) w (inr (inr i)) = closest_most ts (closer spelled ts best x) others w (inr i)

  -- it is the same where all have as much in common
  closest_same : (ts vs : Bytes) → ((w : W) → shared (spelled w) ts ≡ shared (spelled w) vs) → (best : W) (others : List W)
      → closest spelled ts best others ≡ closest spelled vs best others
  unfolding closest
  closest_same ts vs same best [] = refl
  closest_same ts vs same best (x ∷ others) =
      let k : closer spelled ts best x ≡ closer spelled vs best x =
      ap (λ n. cond (nat_lt n (shared (spelled x) ts)) x best) (same best)
      ∙ ap (λ n. cond (nat_lt (shared (spelled best) vs) n) x best) (same x) in
      ap (λ y. closest spelled ts y others) k ∙ closest_same ts vs same (closer spelled vs best x) others

-- ---- the loop over the words

module _ {W : Type 0} (spelled : W → Bytes) (ts : Bytes) (best whole : W) (words : List W) (i : ℕ)
    (so_far : closest spelled ts best (drop i words) ≡ whole) where
  -- one more is looked at
  pub closest_on : (w : W) → i < length words → w ≡ get_or words i w → closest spelled ts (closer spelled ts best w) (drop (i + 1) words) ≡ whole
  unfolding closest
  closest_on w l e =
      ap (λ x. closest spelled ts (closer spelled ts best x) (drop (i + 1) words)) e
      ∙ ap (closest spelled ts best) (sym (drop_more words i w l)) ∙ so_far

  -- none is left
  pub closest_end : length words ≤ i → best ≡ whole
  unfolding closest
  closest_end l = ap (closest spelled ts best) (sym (drop_all i words l)) ∙ so_far

-- ---- the reader

module _ {W : Type 0} (spelled : W → Bytes) (first : W) (others : List W) (table : AreWords spelled first others) where
  -- one of the words, where it is known which
  read_as : W → Reader ℕ W
  read_as w = of (λ _. w) (word (spelled w))

  -- a word that is known fits, since it is made of bytes
  read_fits : (w : W) → Fits IsByte (read_as w) (Of (λ _. w) (Word (spelled w))) any
  unfolding read_as
  read_fits w = named_fits (spelled w) w (table.bytes w)

  -- the word that is ahead is the closest
  closest_is : (w : W) (vs : Bytes) → closest spelled (spelled w ++ vs) first others ≡ w
  closest_is w vs =
      let c = closest spelled (spelled w ++ vs) first others in
      let l = closest_most spelled (spelled w ++ vs) first others w (table.all w) in
      sym (apart_is spelled (first ∷ others) table.apart w c (table.all w) (table.all c)
      (shared_begins (spelled w) (spelled c) vs (omega (arith, shared_self (spelled w) vs))))

  -- where it is known which word is the closest, the choice reads that word
  by_closest : (ts : Bytes) (w : W) → closest spelled ts first others ≡ w → one_of spelled first others ts ≡ read_as w ts
  unfolding one_of read_as
  by_closest ts w e = ap (λ x. of (λ _. x) (word (spelled x)) ts) e

  -- what derives the word has it ahead
  ahead_closest : (w a : W) (ts us : Bytes) → Of (λ _. w) (Word (spelled w)) ts a us → closest spelled ts first others ≡ w
  ahead_closest w a ts us r = ap (λ xs. closest spelled xs first others) r.first ∙ closest_is w r.middle

  -- what is read is the closest word; it is ahead then, and so stays the closest whatever follows
  one_takes : (ts us : Bytes) (a : W) → one_of spelled first others ts ≡ Ok (a, us) → Taken (one_of spelled first others) (SpelledBy spelled) ts a us
  one_takes ts us a e =
      let c = closest spelled ts first others in
      let x = (read_fits c).takes ts us a (sym (by_closest ts c refl) ∙ e) in
      record {
        prefix = x.prefix;
        cut = x.cut;
        derives = λ vs. spelled_to IsByte spelled (x.prefix ++ vs) vs a (c, x.derives vs);
        again = λ vs h. by_closest (x.prefix ++ vs) c (ahead_closest c a (x.prefix ++ vs) vs (x.derives vs)) ∙ x.again vs h;
      }

  -- a word that is ahead is the closest, and so it is the one that is read
  one_reads : (ts us : Bytes) (a : W) → SpelledBy spelled ts a us → one_of spelled first others ts ≡ Ok (a, us)
  one_reads ts us a r =
      by_closest ts a (ap (λ xs. closest spelled xs first others) r ∙ closest_is a us)
      ∙ (read_fits a).reads ts us a (record { value = tt; middle = us; first = r; second = record { is = refl; here = refl } }) refl

  -- giving a value to a word that was read refuses nothing, so the word itself was refused
  refused_word : (w : W) (ts us : Bytes) → read_as w ts ≡ Err us → word (spelled w) ts ≡ Err us
  unfolding read_as
  refused_word w ts us e = by_outcome (word (spelled w) ts) refl e
    where
      by_outcome : (o : _) → word (spelled w) ts ≡ o → and_then o (λ _ vs. Ok (w, vs)) ≡ Err us → o ≡ Err us
      by_outcome (Ok (u, vs)) h r = absurd (cc)
      by_outcome (Err vs) h r = let k : vs ≡ us = cc in ap (λ xs. Err xs) k

  -- no word shares more than the prefix that was read, so where the same byte is ahead all share as much, and the closest stays
  one_refuses : (ts us : Bytes) → one_of spelled first others ts ≡ Err us → Stuck IsByte (one_of spelled first others) (SpelledBy spelled) ts us
  one_refuses ts us e =
      let c = closest spelled ts first others in
      let h = sym (by_closest ts c refl) ∙ e in
      let x = (read_fits c).refuses ts us h in
      let most : shared (spelled c) ts ≤ length x.prefix =
      omega (arith, word_shared (spelled c) ts us (refused_word c ts us h), ap length x.cut, length-append x.prefix us) in
      record {
        prefix = x.prefix;
        cut = x.cut;
        again = λ vs n. by_closest (x.prefix ++ vs) c (sym (stays vs x.prefix x.cut most n)) ∙ x.again vs n;
        completes =
            record {
              rest = x.completes.rest;
              value = x.completes.value;
              possible = x.completes.possible;
              derives =
                  λ vs. spelled_to IsByte spelled (x.prefix ++ (x.completes.rest ++ vs)) vs x.completes.value (c, x.completes.derives vs);
            };
      }
    where
      stays : (vs prefix : Bytes) → ts ≡ prefix ++ us → shared (spelled (closest spelled ts first others)) ts ≤ length prefix
          → next vs ≡ next us → closest spelled ts first others ≡ closest spelled (prefix ++ vs) first others
      stays vs prefix cut most n = closest_same spelled ts (prefix ++ vs) (λ w.
          let l = closest_most spelled ts first others w (table.all w) in
          let k = ap (shared (spelled w)) cut in
          k ∙ sym (shared_kept (spelled w) prefix us vs (omega arith) n)) first others

  -- One of the words, whatever follows.
  pub one_of_fits : Fits IsByte (one_of spelled first others) (SpelledBy spelled) any
  one_of_fits =
      let x = (read_fits first).some in
      record {
        takes = one_takes;
        reads = λ ts us a r h. one_reads ts us a r;
        refuses = one_refuses;
        some =
            record {
              rest = x.rest;
              value = x.value;
              possible = x.possible;
              derives = λ vs. spelled_to IsByte spelled (x.rest ++ vs) vs x.value (first, x.derives vs);
            };
      }
