-- Outcomes taken apart, and prefixes put together.
use Rattle.std.proofs.Common.{◌≡◌, Bool, true, false, not, ◌&&◌, ◌⊎◌, List, [], ◌∷◌, ◌++◌, Ok, Err, refl, ap, sym, ◌∙◌, subst, inl, inr, append_assoc}
use Rattle.predictive_parsing.specs.Reading.{Outcome, Reader, next, and_then}
use Rattle.predictive_parsing.specs.Rules.{Rule}
use Rattle.predictive_parsing.specs.Fits.{Taken, Stuck, Completes}

-- the item ahead is that of the prefix, or of what follows an empty one
pub next_same : {I : Type 0} (prefix us vs : List I) → next vs ≡ next us → next (prefix ++ vs) ≡ next (prefix ++ us)
next_same [] us vs e = e
next_same (item ∷ prefix) us vs e = refl

-- what is ahead stays so where what follows the prefix begins alike
pub next_kept : {I : Type 0} (ts prefix us vs : List I) → ts ≡ prefix ++ us → next vs ≡ next us → next (prefix ++ vs) ≡ next ts
next_kept ts prefix us vs cut e = next_same prefix us vs e ∙ ap next (sym cut)

-- prefixes are associative
pub assoc : {I : Type 0} (a b c : List I) → (a ++ b) ++ c ≡ a ++ (b ++ c)
assoc a b c = append_assoc a b c

-- two prefixes after one another make one
pub cut_twice : {I : Type 0} (ts us vs a b : List I) → ts ≡ a ++ us → us ≡ b ++ vs → ts ≡ (a ++ b) ++ vs
cut_twice ts us vs a b e h = e ∙ ap (λ xs. a ++ xs) h ∙ sym (assoc a b vs)

-- equal outcomes hold equal values and equal rests
pub ok_pair : {I A : Type 0} (a b : A) (ts us : List I) → ◌≡◌ {A = Outcome I A} (Ok (a, ts)) (Ok (b, us)) → (a ≡ b) × (ts ≡ us)
ok_pair {I} {A} a b ts us e = let k : ◌≡◌ {A = A × List I} (a, ts) (b, us) = cc in (ap (λ p. p.0) k, ap (λ p. p.1) k)

-- equal refusals leave equal items
pub err_same : {I A : Type 0} (ts us : List I) → ◌≡◌ {A = Outcome I A} (Err ts) (Err us) → ts ≡ us
err_same ts us e = cc

-- a test holds or fails
pub bool_cases : (b : Bool) → (b ≡ true) ⊎ (b ≡ false)
bool_cases true = inl refl
bool_cases false = inr refl

-- of two tests that hold together each holds
pub both : (a b : Bool) → a && b ≡ true → (a ≡ true) × (b ≡ true)
both true true e = (refl, refl)
both true false e = absurd (cc)
both false b e = absurd (cc)

-- where the opposite of a test holds, the test fails
pub not_true : (b : Bool) → not b ≡ true → b ≡ false
not_true true e = absurd (cc)
not_true false e = refl

-- ---- the two steps of a reading that goes on

-- one reader after another goes well where both do, the second on what the first leaves
pub record Bound {I A B : Type 0} (r : Outcome I A) (q : A → Reader I B) (o : Outcome I B) : Type 0 where
  pub value : A
  pub middle : List I
  pub first : r ≡ Ok (value, middle)
  pub second : q value middle ≡ o

-- a value at the end has one in the middle
pub bind_ok : {I A B : Type 0} (r : Outcome I A) (q : A → Reader I B) (b : B) (vs : List I) → and_then r q ≡ Ok (b, vs) → Bound r q (Ok (b, vs))
bind_ok (Ok (a, us)) q b vs e = record { value = a; middle = us; first = refl; second = e }
bind_ok (Err us) q b vs e = absurd (cc)

-- what refuses does so in the first step or in the second
pub bind_err : {I A B : Type 0} (r : Outcome I A) (q : A → Reader I B) (vs : List I) → and_then r q ≡ Err vs → (r ≡ Err vs) ⊎ Bound r q (Err vs)
bind_err (Ok (a, us)) q vs e = inr (record { value = a; middle = us; first = refl; second = e })
bind_err (Err us) q vs e = inl (let k : us ≡ vs = cc in ap (λ xs. Err xs) k)

-- ---- what was taken

-- what was read is derived
pub sound : {I A : Type 0} (p : Reader I A) (P : Rule I A) (ts us : List I) (a : A) → Taken p P ts a us → P ts a us
sound p P ts us a x = subst (λ xs. P xs a us) (sym x.cut) (x.derives us)

module _ {I A : Type 0} (p q : Reader I A) (P Q : Rule I A) (wider : (ts us : List I) (a : A) → P ts a us → Q ts a us) where
  -- the same prefix for a reader that does the same there, and a rule that derives as much
  pub taken_as : (ts us : List I) (a : A) → ((vs : List I) → next vs ≡ next ts → p vs ≡ q vs) → Taken p P ts a us → Taken q Q ts a us
  taken_as ts us a same x = record {
    prefix = x.prefix;
    cut = x.cut;
    derives = λ vs. wider (x.prefix ++ vs) vs a (x.derives vs);
    again = λ vs h. sym (same (x.prefix ++ vs) (next_kept ts x.prefix us vs x.cut h)) ∙ x.again vs h;
  }

  -- what a prefix goes on to is derived by the wider rule too
  pub completes_as : (Possible : I → Type 0) (prefix : List I) → Completes Possible P prefix → Completes Possible Q prefix
  completes_as Possible prefix x = record {
    rest = x.rest;
    value = x.value;
    possible = x.possible;
    derives = λ vs. wider (prefix ++ (x.rest ++ vs)) vs x.value (x.derives vs);
  }

  -- a reader that does the same there is stuck at the same prefix, which goes on to the same under the wider rule
  pub stuck_as : (Possible : I → Type 0) (ts us : List I) → ((vs : List I) → next vs ≡ next ts → p vs ≡ q vs)
      → Stuck Possible p P ts us → Stuck Possible q Q ts us
  stuck_as Possible ts us same x = record {
    prefix = x.prefix;
    cut = x.cut;
    again = λ vs h. sym (same (x.prefix ++ vs) (next_kept ts x.prefix us vs x.cut h)) ∙ x.again vs h;
    completes = completes_as Possible x.prefix x.completes;
  }
