-- Whole lists of items.
use Rattle.std.proofs.Common.{◌≡◌, Bool, true, List, [], ◌∷◌, ◌++◌, Option, None, Ok, Err, refl, ap, sym, ◌∙◌, subst, append-nil}
use Rattle.std.proofs.lemmas.List.Elements.{All-nil}
use Rattle.predictive_parsing.specs.Reading.{Outcome, Reader, next, whole, whole_of}
use Rattle.predictive_parsing.specs.Rules.{Rule, Whole}
use Rattle.predictive_parsing.specs.Fits.{Fits, Taken, Stuck}
use Rattle.predictive_parsing.specs.Stops.{StopsAt, NoFurther}
use Rattle.predictive_parsing.proofs.Basic.{assoc, ok_pair, sound}

module _ {I A : Type 0} (Possible : I → Type 0) (p : Reader I A) (P : Rule I A) (follows : Option I → Bool)
    (fp : Fits Possible p P follows) (ends : follows None ≡ true) where
  -- what the rule derives of all items is read up to the end, which may follow it
  derived : (ts : List I) (a : A) → Whole P ts a → p ts ≡ Ok (a, [])
  derived ts a r = fp.reads ts [] a r ends

  -- all that the rule derives is read
  pub whole_complete : (ts : List I) (a : A) → Whole P ts a → whole p ts ≡ Ok a
  unfolding whole
  whole_complete ts a r = ap whole_of (derived ts a r)

  -- by what was read: only a value with no item left behind it is the value of them all
  sound_by : (ts : List I) (a : A) (o : Outcome I A) → p ts ≡ o → whole_of o ≡ Ok a → Whole P ts a
  sound_by ts a (Ok (b, [])) e h = let k : b ≡ a = cc in subst (λ x. Whole P ts x) k (sound p P ts [] b (fp.takes ts [] b e))
  sound_by ts a (Ok (b, t ∷ us)) e h = absurd (cc)
  sound_by ts a (Err us) e h = absurd (cc)

  -- what is read is derived
  pub whole_sound : (ts : List I) (a : A) → whole p ts ≡ Ok a → Whole P ts a
  unfolding whole
  whole_sound ts a e = sound_by ts a (p ts) refl e

  -- the items have one value at most
  pub whole_unique : (ts : List I) (a b : A) → Whole P ts a → Whole P ts b → a ≡ b
  whole_unique ts a b r s = (ok_pair a b [] [] (sym (derived ts a r) ∙ derived ts b s)).0

  -- ---- where they stop

  -- an outcome isn't both a value and a refusal
  apart : (a : A) (us vs : List I) (o : Outcome I A) → o ≡ Ok (a, us) → o ≡ Err vs → ⊥
  apart a us vs o e h = cc

  -- nor a value with no item left and one with an item left
  past : (a b : A) (t : I) (us : List I) (o : Outcome I A) → o ≡ Ok (a, []) → o ≡ Ok (b, t ∷ us) → ⊥
  past a b t us o e h = let k = (ok_pair a b [] (t ∷ us) (sym e ∙ h)).1 in cc

  -- the reader refuses an item inside
  stuck_stops : (ts us : List I) → Stuck Possible p P ts us → StopsAt Possible P ts us
  stuck_stops ts us x =
      let c = x.completes in
      record {
        before = x.prefix;
        cut = x.cut;
        goes_on =
            (c.rest, c.value, c.possible, subst (λ xs. Whole P (x.prefix ++ xs) c.value) (append-nil c.rest) (c.derives []));
        no_further = no_more us x.again;
      }
    where
      no_more : (us : List I) → ((vs : List I) → next vs ≡ next us → p (x.prefix ++ vs) ≡ Err vs) → NoFurther P x.prefix us
      no_more [] again = λ a r. apart a [] [] (p (x.prefix ++ [])) (ap p (append-nil x.prefix) ∙ derived x.prefix a r) (again [] refl)
      no_more (t ∷ us) again = λ others a r.
          apart a [] (t ∷ others) (p (x.prefix ++ (t ∷ others)))
          (ap p (sym (assoc x.prefix (t ∷ []) others)) ∙ derived ((x.prefix ++ t ∷ []) ++ others) a r) (again (t ∷ others) refl)

  -- the reader is done, and an item is left
  rest_stops : (ts us : List I) (a : A) (t : I) → Taken p P ts a (t ∷ us) → StopsAt Possible P ts (t ∷ us)
  rest_stops ts us a t x = record {
    before = x.prefix;
    cut = x.cut;
    goes_on = ([], a, All-nil Possible, x.derives []);
    no_further = λ others b r.
        past b a t others (p (x.prefix ++ (t ∷ others)))
        (ap p (sym (assoc x.prefix (t ∷ []) others)) ∙ derived ((x.prefix ++ t ∷ []) ++ others) b r)
        (x.again (t ∷ others) refl);
  }

  -- by what was read: either the reader refused an item, or it was done and an item is left
  stops_by : (ts rest : List I) (o : Outcome I A) → p ts ≡ o → whole_of o ≡ Err rest → StopsAt Possible P ts rest
  stops_by ts rest (Ok (a, [])) e h = absurd (cc)
  stops_by ts rest (Ok (a, t ∷ us)) e h =
      let k : t ∷ us ≡ rest = cc in subst (λ xs. StopsAt Possible P ts xs) k (rest_stops ts us a t (fp.takes ts (t ∷ us) a e))
  stops_by ts rest (Err us) e h = let k : us ≡ rest = cc in subst (λ xs. StopsAt Possible P ts xs) k (stuck_stops ts us (fp.refuses ts us e))

  -- What is refused is the first item with which nothing goes on that the rule derives.
  pub whole_stops : (ts rest : List I) → whole p ts ≡ Err rest → StopsAt Possible P ts rest
  unfolding whole
  whole_stops ts rest e = stops_by ts rest (p ts) refl e
