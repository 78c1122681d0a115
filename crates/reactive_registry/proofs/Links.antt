-- Who stands at an address after a subscriber came or went, by the numbers of addresses and the edges to them.
use Rattle.std.proofs.Common.{◌≡◌, ◌⊎◌, inl, inr, ℕ, Bool, true, false, cond, ◌&&◌, List, Option, Some, None, Result, Ok, Err, OnErr, is_some, nat_eq, refl}
use Rattle.std.proofs.Common.{not, [], ◌∷◌, ◌==◌, length, IfOk, arith, sym, ap, subst, ◌∙◌}
use Rattle.std.specs.Option.{option_map_or}
use Rattle.std.specs.Ordering.{nat_cmp}
use Rattle.std.specs.Cmp.{eq_by_cmp_equiv, unsigned_tied}
use Rattle.std.specs.BTreeMap.{is_at}
use Rattle.std.proofs.lemmas.Bool.{eqb-true, eq-eqb}
use Rattle.slab.specs.Slab as slab
use Rattle.plain_data.proofs.Entries.{equal}
use Rattle.rdt_types.specs.declared.address.Address.{Address}
use Rattle.rdt_types.specs.Addresses.{address_cmp}
use Rattle.rdt_types.specs.contracts.address.AddressOrd.TheImpl.Laws as addresses
use Rattle.rdt_types.proofs.Addresses.{address_cmp-equal}
use Rattle.edge_slab.specs.Edges.{Edges, is_in, is_linked, subscribers_at, IsLinked}
use Rattle.edge_slab.proofs.Lists.{turned}
use Rattle.edge_slab.proofs.Membership.{linked-is}
use Rattle.reactive_registry.specs.Placed.{number_in}
use Rattle.reactive_registry.specs.Numbers.{AreNumbers}
use Rattle.reactive_registry.proofs.Giving.{numbers_as_given}

-- what holds holds at an error
pub on_err : {V E : Type 0} (r : Result V E) (P : Type 0) → P → OnErr r P
on_err (Ok v) P p = tt
on_err (Err e) P p = p

-- an address is equal to itself
pub address_itself : (a : Address) → is_at (address_cmp a) a ≡ true
address_itself a = (eq_by_cmp_equiv addresses.total-law).refl a

-- addresses that compare as equal are one
one_address : (a b : Address) → is_at (address_cmp a) b ≡ true → a ≡ b
one_address a b e = address_cmp-equal a b (equal (address_cmp a b) e)

-- numbers are equal by either test
pub number_test : (s t : ℕ) → nat_eq s t ≡ is_at (nat_cmp s) t
number_test s t = sym (unsigned_tied s t)

-- who stands at the address with a number, if it has one
abbrev pub stands : Edges → Option ℕ → ℕ → Bool
stands edges number t = option_map_or (λ n. is_linked edges t n) number false

module _ {T : Type 0} (numbers : List (Address × ℕ)) (given : slab.Slab T) (edges : Edges) (are : AreNumbers numbers given edges) where
  -- an address with the number of another is this one
  same_test : (k a : Address) (n m : ℕ) → number_in numbers k ≡ Some n → number_in numbers a ≡ Some m → nat_eq m n ≡ is_at (address_cmp k) a
  same_test k a n m at_k at_a = by (nat_eq m n) refl (is_at (address_cmp k) a) refl
    where
      by : (b : Bool) → nat_eq m n ≡ b → (c : Bool) → is_at (address_cmp k) a ≡ c → b ≡ c
      by true e true f = refl
      by false e false f = refl
      by true e false f =
          let same : k ≡ a = are.apart k a n at_k (at_a ∙ ap (λ x. Some x) (eqb-true m n e)) in
          sym (ap (is_at (address_cmp k)) (sym same) ∙ address_itself k) ∙ f
      by false e true f =
          let both : Some n ≡ Some m = sym at_k ∙ ap (number_in numbers) (one_address k a f) ∙ at_a in
          let same : m ≡ n = cc in
          sym e ∙ eq-eqb m n same

  -- an address without a number isn't one that has one
  other_test : (k a : Address) (n : ℕ) → number_in numbers k ≡ Some n → number_in numbers a ≡ None → is_at (address_cmp k) a ≡ false
  other_test k a n at_k at_a = by (is_at (address_cmp k) a) refl
    where
      by : (c : Bool) → is_at (address_cmp k) a ≡ c → c ≡ false
      by true f =
          let clash : Some n ≡ None = sym at_k ∙ ap (number_in numbers) (one_address k a f) ∙ at_a in
          absurd (cc)
      by false f = refl

  -- where edges to the number of one address come or go, who stands there comes or goes
  pub relinked : (edges' : Edges) (k : Address) (n s : ℕ) (w : Bool) → number_in numbers k ≡ Some n
      → ((t q : ℕ) → is_linked edges' t q ≡ cond (nat_eq q n && nat_eq s t) w (is_linked edges t q))
      → (a : Address) (t : ℕ) → stands edges' (number_in numbers a) t
      ≡ cond (is_at (address_cmp k) a && is_at (nat_cmp s) t) w (stands edges (number_in numbers a) t)
  relinked edges' k n s w at_k is a t = by (number_in numbers a) refl
    where
      lost : (b c : Bool) → b ≡ false → false ≡ cond (b && c) w false
      lost true c e = absurd (cc)
      lost false c e = refl

      by : (o : Option ℕ) → number_in numbers a ≡ o → stands edges' o t ≡ cond (is_at (address_cmp k) a && is_at (nat_cmp s) t) w (stands edges o t)
      by None at_a = lost (is_at (address_cmp k) a) (is_at (nat_cmp s) t) (other_test k a n at_k at_a)
      by (Some m) at_a =
          is t m
          ∙ ap (λ b. cond (b && nat_eq s t) w (is_linked edges t m)) (same_test k a n m at_k at_a)
          ∙ ap (λ c. cond (is_at (address_cmp k) a && c) w (is_linked edges t m)) (number_test s t)

  -- numbers stay numbers where edges come or go to a given one alone
  pub numbers_relinked : (edges' : Edges) (k : Address) (n s : ℕ) (w : Bool) → number_in numbers k ≡ Some n
      → ((t q : ℕ) → is_linked edges' t q ≡ cond (nat_eq q n && nat_eq s t) w (is_linked edges t q)) → AreNumbers numbers given edges'
  numbers_relinked edges' k n s w at_k is = record {
    apart = are.apart;
    given_out = are.given_out;
    unlinked = λ q t e. is t q ∙ by q t (nat_eq q n) refl e ∙ are.unlinked q t e;
  }
    where
      by : (q t : ℕ) (b : Bool) → nat_eq q n ≡ b → is_some (slab.get given q) ≡ false
          → cond (b && nat_eq s t) w (is_linked edges t q) ≡ is_linked edges t q
      by q t true e f =
          let out : is_some (slab.get given q) ≡ true = ap (λ x. is_some (slab.get given x)) (eqb-true q n e) ∙ are.given_out k n at_k in
          absurd (cc)
      by q t false e f = refl

  -- where nothing comes or goes, all is as before
  pub numbers_same : (edges' : Edges) → ((t q : ℕ) → is_linked edges' t q ≡ is_linked edges t q) → AreNumbers numbers given edges'
  numbers_same edges' is = record { apart = are.apart; given_out = are.given_out; unlinked = λ q t e. is t q ∙ are.unlinked q t e }

  -- where a subscriber's edges go, it stands nowhere
  pub dropped : (edges' : Edges) (s : ℕ) → ((t q : ℕ) → is_linked edges' t q ≡ cond (nat_eq s t) false (is_linked edges t q))
      → (a : Address) (t : ℕ) → stands edges' (number_in numbers a) t ≡ cond (is_at (nat_cmp s) t) false (stands edges (number_in numbers a) t)
  dropped edges' s is a t = by (number_in numbers a)
    where
      none : (b : Bool) → false ≡ cond b false false
      none true = refl
      none false = refl

      by : (o : Option ℕ) → stands edges' o t ≡ cond (is_at (nat_cmp s) t) false (stands edges o t)
      by None = none (is_at (nat_cmp s) t)
      by (Some m) = is t m ∙ ap (λ b. cond b false (is_linked edges t m)) (number_test s t)

  pub numbers_dropped : (edges' : Edges) (s : ℕ) → ((t q : ℕ) → is_linked edges' t q ≡ cond (nat_eq s t) false (is_linked edges t q))
      → AreNumbers numbers given edges'
  numbers_dropped edges' s is = record {
    apart = are.apart;
    given_out = are.given_out;
    unlinked = λ q t e. is t q ∙ ap (cond (nat_eq s t) false) (are.unlinked q t e) ∙ by (nat_eq s t);
  }
    where
      by : (b : Bool) → cond b false false ≡ false
      by true = refl
      by false = refl

  -- ---- a number more

  module _ (numbers' : List (Address × ℕ)) (given' : slab.Slab T) (k : Address) (n : ℕ) (lacks : number_in numbers k ≡ None)
      (fresh : is_some (slab.get given n) ≡ false)
      (puts : (a : Address) → number_in numbers' a ≡ cond (is_at (address_cmp k) a) (Some n) (number_in numbers a))
      (gives : (q : ℕ) → is_some (slab.get given' q) ≡ cond (nat_eq n q) true (is_some (slab.get given q))) where
    -- it is that of the address, or was there
    found : (a : Address) (m : ℕ) → number_in numbers' a ≡ Some m
        → ((is_at (address_cmp k) a ≡ true) × (n ≡ m)) ⊎ (number_in numbers a ≡ Some m)
    found a m e = by (is_at (address_cmp k) a) refl (sym (puts a) ∙ e)
      where
        by : (b : Bool) → is_at (address_cmp k) a ≡ b → cond b (Some n) (number_in numbers a) ≡ Some m
            → ((is_at (address_cmp k) a ≡ true) × (n ≡ m)) ⊎ (number_in numbers a ≡ Some m)
        by true f g = let same : n ≡ m = cc in inl (f, same)
        by false f g = inr g

    -- the new one is no other's
    not_new : (a : Address) → number_in numbers a ≡ Some n → ⊥
    not_new a e = let out : is_some (slab.get given n) ≡ true = are.given_out a n e in let clash : true ≡ false = sym out ∙ fresh in cc

    pub numbers_more : AreNumbers numbers' given' edges
    numbers_more = record {
      apart = λ a b m e f.
          elim (found a m e) [
            | inl p ↦ elim (found b m f) [
              | inl q ↦ sym (one_address k a p.0) ∙ one_address k b q.0
              | inr q ↦ absurd (not_new b (q ∙ ap (λ x. Some x) (sym p.1)))
            ]
            | inr p ↦ elim (found b m f) [
              | inl q ↦ absurd (not_new a (p ∙ ap (λ x. Some x) (sym q.1)))
              | inr q ↦ are.apart a b m p q
            ]
          ];
      given_out = λ a m e.
          gives m
          ∙ elim (found a m e) [
            | inl p ↦ ap (λ b. cond b true (is_some (slab.get given m))) (eq-eqb n m p.1)
            | inr p ↦ ap (cond (nat_eq n m) true) (are.given_out a m p) ∙ both (nat_eq n m)
          ];
      unlinked = λ q t e. are.unlinked q t (out (nat_eq n q) (is_some (slab.get given q)) (sym (gives q) ∙ e));
    }
      where
        both : (b : Bool) → cond b true true ≡ true
        both true = refl
        both false = refl

        out : (b x : Bool) → cond b true x ≡ false → x ≡ false
        out true x e = absurd (cc)
        out false x e = e

    -- nobody stands elsewhere
    pub stands_more : (a : Address) (t : ℕ) → stands edges (number_in numbers' a) t ≡ stands edges (number_in numbers a) t
    stands_more a t = ap (λ o. stands edges o t) (puts a) ∙ by (is_at (address_cmp k) a) refl
      where
        by : (b : Bool) → is_at (address_cmp k) a ≡ b → stands edges (cond b (Some n) (number_in numbers a)) t ≡ stands edges (number_in numbers a) t
        by true e = are.unlinked n t fresh ∙ sym (ap (λ o. stands edges o t) (ap (number_in numbers) (sym (one_address k a e)) ∙ lacks))
        by false e = refl

  -- ---- a number less

  module _ (numbers' : List (Address × ℕ)) (given' : slab.Slab T) (k : Address) (n : ℕ) (has : number_in numbers k ≡ Some n)
      (nobody : (t : ℕ) → is_linked edges t n ≡ false)
      (takes : (a : Address) → number_in numbers' a ≡ cond (is_at (address_cmp k) a) None (number_in numbers a))
      (gone : (q : ℕ) → is_some (slab.get given' q) ≡ cond (nat_eq n q) false (is_some (slab.get given q))) where
    -- what is there was there, and isn't the address
    left : (a : Address) (m : ℕ) → number_in numbers' a ≡ Some m → (is_at (address_cmp k) a ≡ false) × (number_in numbers a ≡ Some m)
    left a m e = by (is_at (address_cmp k) a) refl (sym (takes a) ∙ e)
      where
        by : (b : Bool) → is_at (address_cmp k) a ≡ b → cond b None (number_in numbers a) ≡ Some m
            → (is_at (address_cmp k) a ≡ false) × (number_in numbers a ≡ Some m)
        by true f g = absurd (cc)
        by false f g = (f, g)

    pub numbers_less : AreNumbers numbers' given' edges
    numbers_less = record {
      apart = λ a b m e f. are.apart a b m (left a m e).1 (left b m f).1;
      given_out = λ a m e. gone m ∙ kept a m (left a m e) (nat_eq n m) refl;
      unlinked = λ q t e. empty q t (nat_eq n q) refl (sym (gone q) ∙ e);
    }
      where
        kept : (a : Address) (m : ℕ) → (is_at (address_cmp k) a ≡ false) × (number_in numbers a ≡ Some m) → (b : Bool) → nat_eq n m ≡ b
            → cond b false (is_some (slab.get given m)) ≡ true
        kept a m there true e =
            let same : k ≡ a = are.apart k a n has (there.1 ∙ ap (λ x. Some x) (sym (eqb-true n m e))) in
            let clash : true ≡ false = sym (ap (is_at (address_cmp k)) (sym same) ∙ address_itself k) ∙ there.0 in
            absurd (cc)
        kept a m there false e = are.given_out a m there.1

        empty : (q t : ℕ) (b : Bool) → nat_eq n q ≡ b → cond b false (is_some (slab.get given q)) ≡ false → is_linked edges t q ≡ false
        empty q t true e f = ap (is_linked edges t) (sym (eqb-true n q e)) ∙ nobody t
        empty q t false e f = are.unlinked q t f

    pub stands_less : (a : Address) (t : ℕ) → stands edges (number_in numbers' a) t ≡ stands edges (number_in numbers a) t
    stands_less a t = ap (λ o. stands edges o t) (takes a) ∙ by (is_at (address_cmp k) a) refl
      where
        by : (b : Bool) → is_at (address_cmp k) a ≡ b → stands edges (cond b None (number_in numbers a)) t ≡ stands edges (number_in numbers a) t
        by true e = sym (ap (λ o. stands edges o t) (ap (number_in numbers) (sym (one_address k a e)) ∙ has) ∙ nobody t)
        by false e = refl

-- ---- answers

-- from an address without a number nothing is taken
pub nowhere : (numbers : List (Address × ℕ)) (edges : Edges) (k : Address) → number_in numbers k ≡ None → (s : ℕ) (a : Address) (t : ℕ)
    → stands edges (number_in numbers a) t ≡ cond (is_at (address_cmp k) a && is_at (nat_cmp s) t) false (stands edges (number_in numbers a) t)
nowhere numbers edges k none s a t = by (is_at (address_cmp k) a) refl (is_at (nat_cmp s) t)
  where
    by : (b : Bool) → is_at (address_cmp k) a ≡ b → (c : Bool)
        → stands edges (number_in numbers a) t ≡ cond (b && c) false (stands edges (number_in numbers a) t)
    by true e true = ap (λ o. stands edges o t) (ap (number_in numbers) (sym (one_address k a e)) ∙ none)
    by true e false = refl
    by false e c = refl

-- where nobody is left there, nobody is linked to a number
pub nobody_left : (edges : Edges) (n : ℕ) → (length (subscribers_at edges n) == 0) ≡ true → (t : ℕ) → is_linked edges t n ≡ false
nobody_left edges n e t = ap (is_in t) (empty (subscribers_at edges n) (eqb-true (length (subscribers_at edges n)) 0 e))
  where
    empty : (ns : List ℕ) → length ns ≡ 0 → ns ≡ []
    empty [] f = refl
    empty (m ∷ ns) f = absurd (omega (arith, f))

-- a number for an address that has none, by the answer
module _ {T E : Type 0} (r : Result ℕ E) (numbers numbers' : List (Address × ℕ)) (given given' : slab.Slab T) (edges : Edges) (k : Address)
    (are : AreNumbers numbers given edges) (lacks : number_in numbers k ≡ None)
    (fresh : IfOk r (λ n. is_some (slab.get given n) ≡ false))
    (puts : IfOk r (λ n. (a : Address) → number_in numbers' a ≡ cond (is_at (address_cmp k) a) (Some n) (number_in numbers a)))
    (gives : IfOk r (λ n. (q : ℕ) → is_some (slab.get given' q) ≡ cond (nat_eq n q) true (is_some (slab.get given q))))
    (as_numbered : OnErr r (numbers' ≡ numbers))
    (as_given : OnErr r ((q : ℕ) → is_some (slab.get given' q) ≡ is_some (slab.get given q))) where
  pub numbers_for : AreNumbers numbers' given' edges
  numbers_for = by r fresh puts gives as_numbered as_given
    where
      by : (r : Result ℕ E) → IfOk r (λ n. is_some (slab.get given n) ≡ false)
          → IfOk r (λ n. (a : Address) → number_in numbers' a ≡ cond (is_at (address_cmp k) a) (Some n) (number_in numbers a))
          → IfOk r (λ n. (q : ℕ) → is_some (slab.get given' q) ≡ cond (nat_eq n q) true (is_some (slab.get given q)))
          → OnErr r (numbers' ≡ numbers) → OnErr r ((q : ℕ) → is_some (slab.get given' q) ≡ is_some (slab.get given q))
          → AreNumbers numbers' given' edges
      by (Ok n) f p g x y = numbers_more numbers given edges are numbers' given' k n lacks f p g
      by (Err e) f p g x y =
          subst (λ (l : List (Address × ℕ)). AreNumbers l given' edges) (sym x) (numbers_as_given numbers given given' edges y are)

  pub stands_for : (a : Address) (t : ℕ) → stands edges (number_in numbers' a) t ≡ stands edges (number_in numbers a) t
  stands_for a t = by r fresh puts gives as_numbered
    where
      by : (r : Result ℕ E) → IfOk r (λ n. is_some (slab.get given n) ≡ false)
          → IfOk r (λ n. (a : Address) → number_in numbers' a ≡ cond (is_at (address_cmp k) a) (Some n) (number_in numbers a))
          → IfOk r (λ n. (q : ℕ) → is_some (slab.get given' q) ≡ cond (nat_eq n q) true (is_some (slab.get given q)))
          → OnErr r (numbers' ≡ numbers) → stands edges (number_in numbers' a) t ≡ stands edges (number_in numbers a) t
      by (Ok n) f p g x = stands_more numbers given edges are numbers' given' k n lacks f p g a t
      by (Err e) f p g x = ap (λ (l : List (Address × ℕ)). stands edges (number_in l a) t) x

  pub number_is : IfOk r (λ n. number_in numbers' k ≡ Some n)
  number_is = by r puts
    where
      by : (r : Result ℕ E) → IfOk r (λ n. (a : Address) → number_in numbers' a ≡ cond (is_at (address_cmp k) a) (Some n) (number_in numbers a))
          → IfOk r (λ n. number_in numbers' k ≡ Some n)
      by (Ok n) p = p k ∙ ap (λ b. cond b (Some n) (number_in numbers k)) (address_itself k)
      by (Err e) p = tt

-- who is linked once a pair is, whether it was new or not
pub linked_now : (old new : Edges) (s n : ℕ) (new_pair : Bool) → new_pair ≡ not (is_linked old s n) → IsLinked new_pair old s n new
    → (t q : ℕ) → is_linked new t q ≡ cond (nat_eq q n && nat_eq s t) true (is_linked old t q)
linked_now old new s n new_pair answer is t q =
    linked-is old new s n (subst (λ (b : Bool). IsLinked b old s n new) answer is) t q
    ∙ ap (λ b. cond (nat_eq q n && b) true (is_linked old t q)) (turned t s)
