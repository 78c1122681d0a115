-- A reader fits its rule where its parts do: one lemma for each way to put readers together.
use Rattle.std.proofs.Common.{◌≡◌, Bool, true, false, not, List, [], ◌∷◌, ◌++◌, length, take, drop, min, ℕ, ◌≤◌, ◌⊎◌}
use Rattle.std.proofs.Common.{arith, Option, Some, None, Ok, Err, refl, ap, sym, ◌∙◌, subst, cond, inl, inr}
use Rattle.std.proofs.lemmas.List.Elements.{All-nil, All-append, All-cons, All-take}
use Rattle.std.specs.List.{prefix_len, AllPass}
use Rattle.std.proofs.lemmas.List.{take-append-drop, length-take-le}
use Rattle.std.proofs.lemmas.List.Sums.{prefix_len-le-length}
use Rattle.std.proofs.Math.Seq.{take-append_seam, drop-append_seam}
use Rattle.predictive_parsing.specs.Reading.{Reader, next, is_made, begins, ahead, passing, and_then, pure, one}
use Rattle.predictive_parsing.specs.Reading.{on_made, either, optional, guided, run, run_up_to}
use Rattle.predictive_parsing.specs.Rules.{Rule, One, Then, Pure, Or, Optional, Of, Word, SpelledBy, Run, RunUpTo}
use Rattle.predictive_parsing.proofs.Prefixes.{prefix_len-front, prefix_len-least, prefix-passes, prefix-stops, le_or, take-shorter}
use Rattle.predictive_parsing.specs.Fits.{Fits, Taken, Stuck, Completes, any, unless}
use Rattle.predictive_parsing.proofs.Basic.{next_kept, assoc, cut_twice, ok_pair, err_same, both, not_true, bind_ok, bind_err, taken_as, stuck_as, completes_as}

module _ {I : Type 0} (Possible : I → Type 0) where
  -- ---- no item

  -- Nothing is taken, and so anything may follow.
  pub pure_fits : {A : Type 0} (a : A) → Fits Possible (pure a) (Pure a) any
  pure_fits a = record {
    takes =
        λ ts us b e. let k = ok_pair a b ts us e in
        record {
          prefix = [];
          cut = k.1;
          derives = λ vs. record { is = sym k.0; here = refl };
          again = λ vs h. ap (λ x. Ok (x, vs)) k.0;
        };
    reads = λ ts us b r h. ap (λ x. Ok (x, ts)) (sym r.is) ∙ ap (λ xs. Ok (b, xs)) r.here;
    refuses = λ ts us e. absurd (cc);
    some = record { rest = []; value = a; possible = All-nil Possible; derives = λ vs. record { is = refl; here = refl } };
  }

  -- ---- one item

  module _ {A : Type 0} (f : I → Option A) where
    -- an item that is derived is one that begins so
    pub one_begins : (ts us : List I) (a : A) → One f ts a us → begins f (next ts) ≡ true
    one_begins ts us a r = ap (λ xs. begins f (next xs)) r.first ∙ ap is_made r.made

    -- an item that is taken has its value made by f, and what is behind it is left
    one_ok : (item : I) (ts us : List I) (a : A) (o : Option A) → f item ≡ o → on_made item o ts ≡ Ok (a, us) → (f item ≡ Some a) × (ts ≡ us)
    one_ok item ts us a (Some b) e h = let k = ok_pair b a ts us h in (e ∙ ap (λ x. Some x) k.0, k.1)
    one_ok item ts us a None e h = absurd (cc)

    -- an item that is refused has no value made by f, and is left with what is behind it
    one_err : (item : I) (ts us : List I) (o : Option A) → f item ≡ o → on_made item o ts ≡ Err us → (f item ≡ None) × (item ∷ ts ≡ us)
    one_err item ts us None e h = (e, err_same (item ∷ ts) us h)
    one_err item ts us (Some a) e h = absurd (cc)

    -- an item of which f makes a value is taken
    pub one_made : (item : I) (ts : List I) (a : A) → f item ≡ Some a → one f (item ∷ ts) ≡ Ok (a, ts)
    unfolding one
    one_made item ts a e = ap (λ o. on_made item o ts) e

    -- another item is refused, and so is the end
    pub one_refused : (item : I) (vs : List I) → next vs ≡ Some item → f item ≡ None → one f vs ≡ Err vs
    unfolding one
    one_refused item [] e n = absurd (cc)
    one_refused item (v ∷ vs) e n = let k : v ≡ item = cc in ap (λ o. on_made v o vs) (ap f k ∙ n)

    -- at the end there is nothing to take
    pub one_ended : (vs : List I) → next vs ≡ None → one f vs ≡ Err vs
    unfolding one
    one_ended [] e = refl
    one_ended (v ∷ vs) e = absurd (cc)

    -- the prefix is the one item: f makes its value again, whatever follows
    one_takes : (ts us : List I) (a : A) → one f ts ≡ Ok (a, us) → Taken (one f) (One f) ts a us
    unfolding one
    one_takes [] us a e = absurd (cc)
    one_takes (item ∷ ts) us a e =
        let k = one_ok item ts us a (f item) refl e in
        record {
          prefix = item ∷ [];
          cut = ap (λ xs. item ∷ xs) k.1;
          derives = λ vs. record { item = item; first = refl; made = k.0 };
          again = λ vs h. one_made item vs a k.0;
        }

    module _ (example : I) (value : A) (made : f example ≡ Some value) (possible : Possible example) where
      -- the example alone is an item of which f makes a value
      one_some : Completes Possible (One f) []
      one_some = record {
        rest = example ∷ [];
        value = value;
        possible = All-cons Possible example [] possible (All-nil Possible);
        derives = λ vs. record { item = example; first = refl; made = made };
      }

      -- nothing was taken: the same item, or the end, is refused again, and the example could have come
      one_stuck : (ts us : List I) → one f ts ≡ Err us → Stuck Possible (one f) (One f) ts us
      unfolding one
      one_stuck [] us e =
          let k : [] ≡ us = err_same {A = A} [] us e in
          record { prefix = []; cut = k; again = λ vs h. one_ended vs (h ∙ ap next (sym k)); completes = one_some }
      one_stuck (item ∷ ts) us e =
          let k = one_err item ts us (f item) refl e in
          record { prefix = []; cut = k.1; again = λ vs h. one_refused item vs (h ∙ ap next (sym k.1)) k.0; completes = one_some }

      -- One item says all of itself. An example shows that there is such an item.
      pub one_fits : Fits Possible (one f) (One f) any
      one_fits = record {
        takes = one_takes;
        reads = λ ts us a r h. ap (one f) r.first ∙ one_made r.item us a r.made;
        refuses = one_stuck;
        some = one_some;
      }

  -- ---- one thing, and then another

  module _ {A B : Type 0} (p : Reader I A) (P : Rule I A) (q : A → Reader I B) (Q : A → Rule I B) where
    -- the first reader, and then the second
    abbrev after : Reader I B
    after ts = and_then (p ts) q

    -- the prefixes of both, one after the other
    pub then_taken : (ts us vs : List I) (a : A) (b : B) → Taken p P ts a us → Taken (q a) (Q a) us b vs → Taken after (Then P Q) ts b vs
    then_taken ts us vs a b x y = record {
      prefix = x.prefix ++ y.prefix;
      cut = cut_twice ts us vs x.prefix y.prefix x.cut y.cut;
      derives = λ ws. record {
        value = a;
        middle = y.prefix ++ ws;
        first = subst (λ xs. P xs a (y.prefix ++ ws)) (sym (assoc x.prefix y.prefix ws)) (x.derives (y.prefix ++ ws));
        second = y.derives ws;
      };
      again = λ ws h.
          ap after (assoc x.prefix y.prefix ws)
          ∙ ap (λ o. and_then o q) (x.again (y.prefix ++ ws) (next_kept us y.prefix vs ws y.cut h))
          ∙ y.again ws h;
    }

    -- what the first goes on to, and then something of the second
    pub then_completes : (prefix : List I) → ((a : A) → Completes Possible (Q a) []) → Completes Possible P prefix → Completes Possible (Then P Q) prefix
    then_completes prefix some x =
        let y = some x.value in
        record {
          rest = x.rest ++ y.rest;
          value = y.value;
          possible = All-append Possible x.rest y.rest x.possible y.possible;
          derives = λ vs. record {
            value = x.value;
            middle = y.rest ++ vs;
            first = subst (λ xs. P (prefix ++ xs) x.value (y.rest ++ vs)) (sym (assoc x.rest y.rest vs)) (x.derives (y.rest ++ vs));
            second = y.derives vs;
          };
        }

    -- where the first refuses, both do, and what its prefix goes on to can be followed by something of the second
    pub first_stuck : (ts us : List I) → ((a : A) → Completes Possible (Q a) []) → Stuck Possible p P ts us → Stuck Possible after (Then P Q) ts us
    first_stuck ts us some x = record {
      prefix = x.prefix;
      cut = x.cut;
      again = λ vs h. ap (λ o. and_then o q) (x.again vs h);
      completes = then_completes x.prefix some x.completes;
    }

    -- where the first took a prefix and the second refuses, both are stuck behind the two prefixes together
    pub second_stuck : (ts us vs : List I) (a : A) → Taken p P ts a us → Stuck Possible (q a) (Q a) us vs → Stuck Possible after (Then P Q) ts vs
    second_stuck ts us vs a x y = record {
      prefix = x.prefix ++ y.prefix;
      cut = cut_twice ts us vs x.prefix y.prefix x.cut y.cut;
      again = λ ws h.
          ap after (assoc x.prefix y.prefix ws)
          ∙ ap (λ o. and_then o q) (x.again (y.prefix ++ ws) (next_kept us y.prefix vs ws y.cut h))
          ∙ y.again ws h;
      completes = record {
        rest = y.completes.rest;
        value = y.completes.value;
        possible = y.completes.possible;
        derives = λ ws.
            let left = y.completes.rest ++ ws in
            record {
              value = a;
              middle = y.prefix ++ left;
              first = subst (λ xs. P xs a (y.prefix ++ left)) (sym (assoc x.prefix y.prefix left)) (x.derives (y.prefix ++ left));
              second = y.completes.derives ws;
            };
      };
    }

    module _ (between follows : Option I → Bool) (fp : Fits Possible p P between) (fq : (a : A) → Fits Possible (q a) (Q a) follows)
        (meets : (a : A) (us vs : List I) (b : B) → Q a us b vs → follows (next vs) ≡ true → between (next us) ≡ true) where
      -- the first refused, or it took a prefix and the second refused
      then_refuses : (ts vs : List I) → after ts ≡ Err vs → Stuck Possible after (Then P Q) ts vs
      then_refuses ts vs e = elim (bind_err (p ts) q vs e) [
        | inl h ↦ first_stuck ts vs (λ a. (fq a).some) (fp.refuses ts vs h)
        | inr x ↦ second_stuck ts x.middle vs x.value (fp.takes ts x.middle x.value x.first) ((fq x.value).refuses x.middle vs x.second)
      ]

      -- What begins the second is what may follow the first.
      pub then_fits : Fits Possible after (Then P Q) follows
      then_fits = record {
        takes = λ ts vs b e.
            let x = bind_ok (p ts) q b vs e in
            then_taken ts x.middle vs x.value b (fp.takes ts x.middle x.value x.first) ((fq x.value).takes x.middle vs b x.second);
        reads = λ ts vs b r h.
            ap (λ o. and_then o q) (fp.reads ts r.middle r.value r.first (meets r.value r.middle vs b r.second h))
            ∙ (fq r.value).reads r.middle vs b r.second h;
        refuses = then_refuses;
        some = then_completes [] (λ a. (fq a).some) fp.some;
      }

  -- ---- short forms of the same

  -- less may follow than could
  pub narrowed : {A : Type 0} {p : Reader I A} {P : Rule I A} {wide : Option I → Bool} (narrow : Option I → Bool)
      → ((h : Option I) → narrow h ≡ true → wide h ≡ true) → Fits Possible p P wide → Fits Possible p P narrow
  narrowed narrow within fp = record {
    takes = fp.takes;
    reads = λ ts us a r h. fp.reads ts us a r (within (next us) h);
    refuses = fp.refuses;
    some = fp.some;
  }

  -- what was read, seen as another value
  pub seen : {A B : Type 0} {p : Reader I A} {P : Rule I A} {follows : Option I → Bool} (f : A → B) → Fits Possible p P follows
      → Fits Possible (λ ts. and_then (p ts) (λ a. pure (f a))) (Then P (λ a. Pure (f a))) follows
  seen {A} {B} {p} {P} {follows} f fp =
      then_fits p P (λ a. pure (f a)) (λ a. Pure (f a)) follows follows fp (λ a. narrowed follows (λ h e. refl) (pure_fits (f a)))
      (λ a us vs b r h. ap (λ xs. follows (next xs)) r.here ∙ h)

  -- a first thing that anything may follow
  pub onwards : {A B : Type 0} {p : Reader I A} {P : Rule I A} {q : A → Reader I B} {Q : A → Rule I B} {follows : Option I → Bool}
      → Fits Possible p P any → ((a : A) → Fits Possible (q a) (Q a) follows) → Fits Possible (λ ts. and_then (p ts) q) (Then P Q) follows
  onwards {A} {B} {p} {P} {q} {Q} {follows} fp fq = then_fits p P q Q any follows fp fq (λ a us vs b r h. refl)

  -- a first thing, and what may follow it
  pub followed : {A B : Type 0} {p : Reader I A} {P : Rule I A} {between : Option I → Bool} {q : A → Reader I B} {Q : A → Rule I B} {follows : Option I → Bool}
      → Fits Possible p P between → ((a : A) → Fits Possible (q a) (Q a) follows)
      → ((a : A) (us vs : List I) (b : B) → Q a us b vs → follows (next vs) ≡ true → between (next us) ≡ true)
      → Fits Possible (λ ts. and_then (p ts) q) (Then P Q) follows
  followed {A} {B} {p} {P} {between} {q} {Q} {follows} fp fq meets = then_fits p P q Q between follows fp fq meets

  -- ---- by what is ahead

  module _ {A : Type 0} (starts : Option I → Bool) (p q : Reader I A) (P Q : Rule I A) (follows : Option I → Bool)
      (fp : Fits Possible p P follows) (fq : Fits Possible q Q follows)
      (begins : (ts us : List I) (a : A) → P ts a us → starts (next ts) ≡ true)
      (other : (ts us : List I) (a : A) → Q ts a us → follows (next us) ≡ true → starts (next ts) ≡ false) where
    -- what the test says of the item ahead decides between the two readers
    by : (b : Bool) (ts : List I) → starts (next ts) ≡ b → either starts p q ts ≡ cond b (p ts) (q ts)
    by b ts s = ap (λ c. cond c (p ts) (q ts)) s

    -- where the same item is ahead, the same reader is chosen
    chosen : (ts : List I) (b : Bool) → starts (next ts) ≡ b → (vs : List I) → next vs ≡ next ts → cond b (p vs) (q vs) ≡ either starts p q vs
    chosen ts b s vs e = sym (by b vs (ap starts e ∙ s))

    -- the chosen reader takes its prefix, and is chosen again where the same item is ahead
    takes_by : (ts us : List I) (a : A) (b : Bool) → starts (next ts) ≡ b → cond b (p ts) (q ts) ≡ Ok (a, us) → Taken (either starts p q) (Or P Q) ts a us
    takes_by ts us a true s e = taken_as p (either starts p q) P (Or P Q) (λ xs ys c r. inl r) ts us a (chosen ts true s) (fp.takes ts us a e)
    takes_by ts us a false s e = taken_as q (either starts p q) Q (Or P Q) (λ xs ys c r. inr r) ts us a (chosen ts false s) (fq.takes ts us a e)

    -- what the first derives begins so, and what the second derives does not, so the right reader is chosen
    reads_by : (ts us : List I) (a : A) → Or P Q ts a us → follows (next us) ≡ true → either starts p q ts ≡ Ok (a, us)
    reads_by ts us a (inl r) h = by true ts (begins ts us a r) ∙ fp.reads ts us a r h
    reads_by ts us a (inr r) h = by false ts (other ts us a r h) ∙ fq.reads ts us a r h

    -- the chosen reader is stuck, and is chosen again where the same item is ahead
    refuses_by : (ts us : List I) (b : Bool) → starts (next ts) ≡ b → cond b (p ts) (q ts) ≡ Err us → Stuck Possible (either starts p q) (Or P Q) ts us
    refuses_by ts us true s e = stuck_as p (either starts p q) P (Or P Q) (λ xs ys c r. inl r) Possible ts us (chosen ts true s) (fp.refuses ts us e)
    refuses_by ts us false s e = stuck_as q (either starts p q) Q (Or P Q) (λ xs ys c r. inr r) Possible ts us (chosen ts false s) (fq.refuses ts us e)

    -- The test is true where the first begins, and false where the second does.
    pub either_fits : Fits Possible (either starts p q) (Or P Q) follows
    either_fits = record {
      takes = λ ts us a e. takes_by ts us a (starts (next ts)) refl e;
      reads = reads_by;
      refuses = λ ts us e. refuses_by ts us (starts (next ts)) refl e;
      some = completes_as p p P (Or P Q) (λ xs ys c r. inl r) Possible [] fp.some;
    }

  module _ {A : Type 0} (starts : Option I → Bool) (p : Reader I A) (P : Rule I A) (follows : Option I → Bool) (fp : Fits Possible p P follows)
      (begins : (ts us : List I) (a : A) → P ts a us → starts (next ts) ≡ true) where
    -- One or none, where what follows can't be taken for the one.
    pub optional_fits : Fits Possible (optional starts p) (Optional P) (unless starts follows)
    unfolding optional
    optional_fits = either_fits starts _ _ _ _ (unless starts follows)
        (narrowed (unless starts follows) (λ h e. (both (follows h) (not (starts h)) e).0) (seen (λ a. Some a) fp))
        (narrowed (unless starts follows) (λ h e. refl) (pure_fits None))
        (λ ts us a r. begins ts r.middle r.value r.first)
        (λ ts us a r e. ap (λ xs. starts (next xs)) r.here ∙ not_true (starts (next us)) (both (follows (next us)) (not (starts (next us))) e).1)

  -- ---- another rule that derives the same

  module _ {A : Type 0} {p : Reader I A} {P Q : Rule I A} {follows : Option I → Bool} where
    -- the same reader fits it
    pub fits_as : ((ts us : List I) (a : A) → P ts a us → Q ts a us) → ((ts us : List I) (a : A) → Q ts a us → P ts a us)
        → Fits Possible p P follows → Fits Possible p Q follows
    fits_as to from fp = record {
      takes = λ ts us a e. taken_as p p P Q to ts us a (λ vs h. refl) (fp.takes ts us a e);
      reads = λ ts us a r h. fp.reads ts us a (from ts us a r) h;
      refuses = λ ts us e. stuck_as p p P Q to Possible ts us (λ vs h. refl) (fp.refuses ts us e);
      some = completes_as p p P Q to Possible [] fp.some;
    }

  -- a word that is read for a value is the items of that value
  pub spelled_to : {A : Type 0} (f : A → List I) (ts us : List I) (c : A) → (a : A) × Of (λ _. a) (Word (f a)) ts c us → SpelledBy f ts c us
  spelled_to f ts us c r =
      let o = r.1 in
      o.first ∙ ap (λ xs. f r.0 ++ xs) o.second.here ∙ ap (λ x. f x ++ us) (sym o.second.is)

  -- and the items of a value are its word
  pub spelled_from : {A : Type 0} (f : A → List I) (ts us : List I) (c : A) → SpelledBy f ts c us → (a : A) × Of (λ _. a) (Word (f a)) ts c us
  spelled_from f ts us c r = (c, record { value = tt; middle = us; first = r; second = record { is = refl; here = refl } })

  -- ---- what the item ahead tells

  module _ {A B : Type 0} (guess : Option I → A) (q : A → Reader I B) (Q : A → Rule I B) (follows : Option I → Bool)
      (fq : (a : A) → Fits Possible (q a) (Q a) follows)
      (right : (a : A) (ts us : List I) (b : B) → Q a ts b us → follows (next us) ≡ true → guess (next ts) ≡ a) (example : A) where
    -- one of the forms
    abbrev SomeOf : Rule I B
    SomeOf ts b us = (a : A) × Q a ts b us

    -- the same form is told wherever the same item is ahead
    told : (ts vs : List I) → next vs ≡ next ts → q (guess (next ts)) vs ≡ guided guess q vs
    told ts vs h = ap (λ o. q (guess o) vs) (sym h)

    -- What is ahead tells which form it is, wherever one is derived.
    pub guided_fits : Fits Possible (guided guess q) SomeOf follows
    guided_fits = record {
      takes =
          λ ts us b e. taken_as (q (guess (next ts))) (guided guess q) (Q (guess (next ts))) SomeOf
          (λ xs ys c r. (guess (next ts), r)) ts us b (told ts) ((fq (guess (next ts))).takes ts us b e);
      reads = λ ts us b r h. ap (λ a. q a ts) (right r.0 ts us b r.1 h) ∙ (fq r.0).reads ts us b r.1 h;
      refuses =
          λ ts us e. stuck_as (q (guess (next ts))) (guided guess q) (Q (guess (next ts))) SomeOf
          (λ xs ys c r. (guess (next ts), r)) Possible ts us (told ts) ((fq (guess (next ts))).refuses ts us e);
      some = completes_as (q example) (q example) (Q example) SomeOf (λ xs ys c r. (example, r)) Possible [] (fq example).some;
    }

  -- ---- items that pass a test

  -- an item that is taken as it passes does pass
  pub passing_is : (test : I → Bool) (item a : I) → passing test item ≡ Some a → test item ≡ true
  passing_is test item a e = by_test (test item) e
    where
      by_test : (t : Bool) → cond t (Some item) None ≡ Some a → t ≡ true
      by_test true h = refl
      by_test false h = absurd (cc)

  -- so one is ahead
  pub passing_ahead : (test : I → Bool) (ts us : List I) (a : I) → One (passing test) ts a us → ahead test (next ts) ≡ true
  passing_ahead test ts us a r = ap (λ xs. ahead test (next xs)) r.first ∙ passing_is test r.item a r.made

  -- ---- as many items as pass a test

  module _ (passes : I → Bool) where
    -- what is read is a prefix that passes, with nothing that does behind it
    run_front : (ts us prefix : List I) → run passes ts ≡ Ok (prefix, us) → (ts ≡ prefix ++ us) × AllPass passes prefix × (ahead passes (next us) ≡ false)
    unfolding run
    run_front ts us prefix e =
        let k = ok_pair (take (prefix_len passes ts) ts) prefix (drop (prefix_len passes ts) ts) us e in (
          sym (take-append-drop (prefix_len passes ts) ts) ∙ ap (λ xs. xs ++ drop (prefix_len passes ts) ts) k.0
              ∙ ap (λ xs. prefix ++ xs) k.1,
          subst (λ xs. AllPass passes xs) k.0 (prefix-passes passes ts),
          ap
              (λ xs. ahead passes (next xs)) (sym k.1) ∙ prefix-stops passes ts,
        )

    -- such a prefix is read
    run_reads : (prefix us : List I) → AllPass passes prefix → ahead passes (next us) ≡ false → run passes (prefix ++ us) ≡ Ok (prefix, us)
    unfolding run
    run_reads prefix us all e =
        ap (λ n. Ok (take n (prefix ++ us), drop n (prefix ++ us))) (prefix_len-front passes prefix us all e)
        ∙ ap (λ xs. Ok (xs, drop (length prefix) (prefix ++ us))) (take-append_seam prefix us) ∙ ap (λ xs. Ok (prefix, xs)) (drop-append_seam prefix us)

    -- such a prefix passes whatever follows it, and is read again where again nothing that passes is ahead
    run_takes : (ts us prefix : List I) → run passes ts ≡ Ok (prefix, us) → Taken (run passes) (Run passes) ts prefix us
    run_takes ts us prefix e =
        let k = run_front ts us prefix e in
        record {
          prefix = prefix;
          cut = k.0;
          derives = λ vs. record { cut = refl; pass = k.1 };
          again = λ vs h. run_reads prefix vs k.1 (ap (ahead passes) h ∙ k.2);
        }

    -- a run is never refused
    run_reads_all : (ts us : List I) → run passes ts ≡ Err us → ⊥
    unfolding run
    run_reads_all ts us e = cc

    -- As many as there are: what follows doesn't pass.
    pub run_fits : Fits Possible (run passes) (Run passes) (unless (ahead passes) any)
    run_fits = record {
      takes = run_takes;
      reads = λ ts us prefix r h. ap (run passes) r.cut ∙ run_reads prefix us r.pass (not_true (ahead passes (next us)) h);
      refuses = λ ts us e. absurd (run_reads_all ts us e);
      some = record { rest = []; value = []; possible = All-nil Possible; derives = λ vs. record { cut = refl; pass = All-nil (λ x. passes x ≡ true) } };
    }

    -- ---- up to a limit

    module _ (limit : ℕ) where
      -- what is read is such a prefix, and there was no room for more or there is no more
      up_to_front : (ts us prefix : List I) → run_up_to limit passes ts ≡ Ok (prefix, us)
          → RunUpTo limit passes ts prefix us × ((length prefix ≡ limit) ⊎ (ahead passes (next us) ≡ false))
      unfolding run_up_to
      up_to_front ts us prefix e =
          let n = prefix_len passes ts in
          let m = min limit n in
          let k = ok_pair (take m ts) prefix (drop m ts) us e in
          let cut : ts ≡ prefix ++ us = sym (take-append-drop m ts) ∙ ap (λ xs. xs ++ drop m ts) k.0 ∙ ap (λ xs. prefix ++ xs) k.1 in
          let l = prefix_len-le-length passes ts in
          let same : length prefix ≡ m = ap length (sym k.0) ∙ length-take-le m ts (omega (arith, l)) in
          let pass : AllPass passes prefix =
          subst (λ xs. AllPass passes xs) k.0
          (subst (λ xs. AllPass passes xs) (take-shorter m n ts (omega arith))
          (All-take (λ x. passes x ≡ true) m (take n ts) (prefix-passes passes ts))) in (
            record { cut = cut; pass = pass; within = omega arith },
            elim (le_or limit n) [
              | inl h ↦ inl (omega arith)
              | inr h ↦ inr (let e : m ≡ n = omega arith in ap (λ xs. ahead passes (next xs)) (sym k.1 ∙ ap (λ i. drop i ts) e) ∙ prefix-stops passes ts)
            ],
          )

      -- such a prefix is read
      up_to_reads : (prefix us : List I) → AllPass passes prefix → length prefix ≤ limit
          → (length prefix ≡ limit) ⊎ (ahead passes (next us) ≡ false) → run_up_to limit passes (prefix ++ us) ≡ Ok (prefix, us)
      unfolding run_up_to
      up_to_reads prefix us all l stop =
          let k : min limit (prefix_len passes (prefix ++ us)) ≡ length prefix = min_is stop in
          ap (λ n. Ok (take n (prefix ++ us), drop n (prefix ++ us))) k
          ∙ ap (λ xs. Ok (xs, drop (length prefix) (prefix ++ us))) (take-append_seam prefix us) ∙ ap (λ xs. Ok (prefix, xs)) (drop-append_seam prefix us)
        where
          min_is : (length prefix ≡ limit) ⊎ (ahead passes (next us) ≡ false) → min limit (prefix_len passes (prefix ++ us)) ≡ length prefix
          min_is (inl e) = let m = prefix_len-least passes prefix us all in omega arith
          min_is (inr e) = let m = prefix_len-front passes prefix us all e in omega arith

      -- such a prefix is read again: there is still no room for more, or again nothing that passes is ahead
      up_to_takes : (ts us prefix : List I) → run_up_to limit passes ts ≡ Ok (prefix, us) → Taken (run_up_to limit passes) (RunUpTo limit passes) ts prefix us
      up_to_takes ts us prefix e =
          let k = up_to_front ts us prefix e in
          record {
            prefix = prefix;
            cut = k.0.cut;
            derives = λ vs. record { cut = refl; pass = k.0.pass; within = k.0.within };
            again = λ vs h. up_to_reads prefix vs k.0.pass k.0.within (elim k.1 [ inl l ↦ inl l | inr n ↦ inr (ap (ahead passes) h ∙ n) ]);
          }

      -- a run is never refused
      up_to_reads_all : (ts us : List I) → run_up_to limit passes ts ≡ Err us → ⊥
      unfolding run_up_to
      up_to_reads_all ts us e = cc

      -- As many as there are up to the limit: what follows doesn't pass.
      pub run_up_to_fits : Fits Possible (run_up_to limit passes) (RunUpTo limit passes) (unless (ahead passes) any)
      run_up_to_fits = record {
        takes = up_to_takes;
        reads = λ ts us prefix r h. ap (run_up_to limit passes) r.cut ∙ up_to_reads prefix us r.pass r.within (inr (not_true (ahead passes (next us)) h));
        refuses = λ ts us e. absurd (up_to_reads_all ts us e);
        some =
            record {
              rest = [];
              value = [];
              possible = All-nil Possible;
              derives = λ vs. record { cut = refl; pass = All-nil (λ x. passes x ≡ true); within = omega arith };
            };
      }
