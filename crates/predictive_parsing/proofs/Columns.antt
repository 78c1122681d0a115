-- Columns at which items stop.
use Rattle.std.proofs.Common.{◌≡◌, ◌<◌, ◌+◌, ◌-◌, ℕ, List, [], ◌∷◌, ◌++◌, length, get_or, drop, refl, ap, sym, ◌∙◌}
use Rattle.std.proofs.Common.{subst, arith, length-append, append_assoc, append-nil}
use Rattle.predictive_parsing.specs.Rules.{Rule, Whole}
use Rattle.predictive_parsing.specs.Stops.{StopsAt, NoFurther, CanGoOn}
use Rattle.predictive_parsing.specs.Columns.{IsColumn}

module _ {I A : Type 0} (Possible : I → Type 0) (P : Rule I A) (ts : List I) where
  -- the place at which items stop is a column, counted by the items that are left
  pub column_by : (column : ℕ) (rest : List I) → StopsAt Possible P ts rest → column ≡ length ts - length rest + 1 → IsColumn Possible P ts column
  column_by column rest s e = record { rest = rest; stops = s; place = omega (arith, e, ap length s.cut, length-append s.before rest) }

  -- where no value has the next item too, the items have none
  stopped : (before rest : List I) → ts ≡ before ++ rest → NoFurther P before rest → (a : A) → Whole P ts a → ⊥
  stopped before [] e none a r = none a (subst (λ xs. Whole P xs a) (e ∙ append-nil before) r)
  stopped before (b ∷ rest) e none a r = none rest a (subst (λ xs. Whole P xs a) (e ∙ sym (append_assoc before (b ∷ []) rest)) r)

  -- so items that have a column have no value
  pub column_no_spelling : (column : ℕ) (a : A) → IsColumn Possible P ts column → Whole P ts a → ⊥
  column_no_spelling column a x r = stopped x.stops.before x.rest x.stops.cut x.stops.no_further a r

-- Of two cuts of the same items, the longer prefix goes on with the item at which the shorter one ends.
record Longer {I : Type 0} (before rest longer : List I) : Type 0 where
  item : I
  others : List I
  more : List I
  ahead : rest ≡ item ∷ others
  whole : longer ≡ (before ++ item ∷ []) ++ more

-- the same behind one item more
one_further : {I : Type 0} (b c : I) (before rest longer : List I) → b ≡ c → Longer before rest longer → Longer (b ∷ before) rest (c ∷ longer)
one_further b c before rest longer e x =
    record {
      item = x.item;
      others = x.others;
      more = x.more;
      ahead = x.ahead;
      whole = ap (λ d. d ∷ longer) (sym e) ∙ ap (λ xs. b ∷ xs) x.whole;
    }

-- by the items of the shorter prefix
longer_cut : {I : Type 0} (before rest longer left : List I) → before ++ rest ≡ longer ++ left → length before < length longer → Longer before rest longer
longer_cut before rest [] left e l = absurd (omega arith)
longer_cut [] [] (c ∷ longer) left e l = absurd (cc)
longer_cut [] (b ∷ rest) (c ∷ longer) left e l =
    record {
      item = b;
      others = rest;
      more = longer;
      ahead = refl;
      whole = ap (λ d. d ∷ longer) (ap (λ xs. get_or xs 0 b) (sym e));
    }
longer_cut (b ∷ before) rest (c ∷ longer) left e l =
    one_further b c before rest longer (ap (λ xs. get_or xs 0 b) e) (longer_cut before rest longer left (ap (drop 1) e) (omega arith))

module _ {I A : Type 0} (Possible : I → Type 0) (P : Rule I A) where
  -- nothing goes on behind a place where nothing goes on
  no_longer : (before rest longer : List I) → NoFurther P before rest → CanGoOn Possible P longer → Longer before rest longer → ⊥
  no_longer before rest longer none goes x =
      let stop : NoFurther P before (x.item ∷ x.others) = subst (NoFurther P before) x.ahead none in
      let others = goes.0 in
      stop (x.more ++ others) goes.1 (subst (λ xs. Whole P xs goes.1)
      (ap (λ xs. xs ++ others) x.whole ∙ append_assoc (before ++ x.item ∷ []) x.more others) goes.3)

  -- so no place where items stop is behind another
  not_longer : (ts rest left : List I) (s : StopsAt Possible P ts rest) (t : StopsAt Possible P ts left) → length s.before < length t.before → ⊥
  not_longer ts rest left s t l = no_longer s.before rest t.before s.no_further t.goes_on (longer_cut s.before rest t.before left (sym s.cut ∙ t.cut) l)

  -- of two numbers of which neither is less both are equal
  same_length : (m n : ℕ) → (m < n → ⊥) → (n < m → ⊥) → m ≡ n
  same_length m n a b = omega (arith, a, b)

  -- items have one column at most
  pub one_column : (ts : List I) (c d : ℕ) → IsColumn Possible P ts c → IsColumn Possible P ts d → c ≡ d
  one_column ts c d x y =
      let k =
      same_length (length x.stops.before) (length y.stops.before) (not_longer ts x.rest y.rest x.stops y.stops)
      (not_longer ts y.rest x.rest y.stops x.stops) in
      omega (arith, x.place, y.place)
