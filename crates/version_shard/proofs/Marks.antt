-- What is found by a mark is what stands in the list of all.
use Rattle.std.proofs.Common.{◌≡◌, ℕ, Bool, true, false, cond, List, [], ◌∷◌, ◌++◌, Option, Some, None, IfSome, unwrap_or, is_some, refl, sym, ap, ◌∙◌, subst}
use Rattle.std.specs.List.{AllByRecursion}
use Rattle.std.specs.List.Sorted.{IsStrictlySortedBy}
use Rattle.std.specs.Map.{lookup, keys_of, set_value}
use Rattle.std.proofs.lemmas.Map.Steps.{set_value_same}
use Rattle.std.specs.BTreeMap.{is_at}
use Rattle.std.specs.Ordering.{nat_cmp, is_eq, is_ne}
use Rattle.std.specs.Cmp.{eq_by_cmp_equiv}
use Rattle.std.proofs.lemmas.Cmp.{nat_cmp_total}
use Rattle.std.specs.declared.cmp.Ordering.{Ordering}
use Rattle.std.specs.declared.cmp.Ordering.TheVariants.{Less, Equal, Greater}
use Rattle.std.proofs.lemmas.Bool.{false≢true}
use Rattle.std.specs.FinMap.{nat_cmp-IsAntisymmetric}
use Rattle.plain_data.proofs.Entries.{equal}
use Rattle.rdt_types.specs.declared.address.Address.{Address}
use Rattle.rdt_types.specs.Addresses.{address_cmp}
use Rattle.rdt_types.specs.contracts.address.AddressOrd.TheImpl.Laws as order
use Rattle.rdt_types.proofs.Addresses.{address_cmp-equal}
use Rattle.version_shard.specs.declared.kept.Own.{Own}
use Rattle.version_shard.specs.Versions.{Versioned}
use Rattle.version_shard.specs.Shards.{Kept, unchanged, versions_of}
use Rattle.version_shard.specs.code.Marks.{mark_of, Marked, owns, kept_by, IsMarked, IsPut}

-- ---- numbers as keys

-- a number is at itself
at-self : (m n : ℕ) → m ≡ n → is_at (nat_cmp m) n ≡ true
at-self m n is = subst (λ k. is_at (nat_cmp m) k ≡ true) is ((eq_by_cmp_equiv nat_cmp_total).refl m)

-- and at none but itself
pub at-same : (m n : ℕ) → is_at (nat_cmp m) n ≡ true → m ≡ n
at-same m n at = nat_cmp-IsAntisymmetric m n (equal (nat_cmp m n) at)

-- a mark below some is none of them
none-above : (m : ℕ) (marked : Marked) → AllByRecursion (λ n. nat_cmp m n ≡ Less) (keys_of marked) → lookup (is_at (nat_cmp m)) marked ≡ None
none-above m [] all = refl
none-above m (e ∷ rest) all = rw all.0 (none-above m rest all.1)

-- ---- the list of all

-- an address is at itself
self : (a : Address) → is_at (address_cmp a) a ≡ true
self a = (eq_by_cmp_equiv order.total-law).refl a

-- where one address isn't at another, neither is that at the first
other-way : (a b : Address) → is_at (address_cmp a) b ≡ false → is_at (address_cmp b) a ≡ false
other-way a b apart = (eq_by_cmp_equiv order.total-law).symm b a ∙ apart

-- what stands at a mark is an address' where it is of that address
abbrev pub own_at : Address → Option Own → Option Versioned
own_at a None = None
own_at a (Some own) = cond (is_at (address_cmp a) own.address) (Some own.versions) None

-- behind the first mark each is that of its address still, since the first one doesn't come again
theirs-rest : (e : ℕ × Own) (rest : Marked) → IsMarked (e ∷ rest) → IsMarked rest
unfolding IsStrictlySortedBy
theirs-rest e rest is = record { rising = is.rising.1; theirs = λ m own there. is.theirs m own (by m own there (is_at (nat_cmp m) e.0) refl) }
  where
    by : (m : ℕ) (own : Own) → lookup (is_at (nat_cmp m)) rest ≡ Some own → (b : Bool) → is_at (nat_cmp m) e.0 ≡ b
        → cond b (Some e.1) (lookup (is_at (nat_cmp m)) rest) ≡ Some own
    by m own there false apart = there
    by m own there true same =
        let none = none-above e.0 rest is.rising.0 in
        let m_is : m ≡ e.0 = at-same m e.0 same in
        absurd (cc)

-- An address is found in the list where what stands at its mark is its own, and else nowhere.
pub found-own : (a : Address) (marked : Marked) → IsMarked marked
    → lookup (is_at (address_cmp a)) (owns marked) ≡ own_at a (lookup (is_at (nat_cmp (mark_of a))) marked)
unfolding IsStrictlySortedBy
found-own a [] is = refl
found-own a (e ∷ rest) is =
    by (is_at (nat_cmp (mark_of a)) e.0) refl (is_at (address_cmp a) e.1.address) refl (found-own a rest (theirs-rest e rest is))
  where
    mine : mark_of e.1.address ≡ e.0
    mine = is.theirs e.0 e.1 (rw (at-self e.0 e.0 refl) refl)

    by : (m : Bool) → is_at (nat_cmp (mark_of a)) e.0 ≡ m → (b : Bool) → is_at (address_cmp a) e.1.address ≡ b
        → lookup (is_at (address_cmp a)) (owns rest) ≡ own_at a (lookup (is_at (nat_cmp (mark_of a))) rest)
        → cond b (Some e.1.versions) (lookup (is_at (address_cmp a)) (owns rest)) ≡ own_at a (cond m (Some e.1) (lookup (is_at (nat_cmp (mark_of a))) rest))
    by true here true same more = rw same refl
    by true here false apart more =
        let m_is : mark_of a ≡ e.0 = at-same (mark_of a) e.0 here in
        rw apart (more ∙ ap (own_at a) (subst (λ n. lookup (is_at (nat_cmp n)) rest ≡ None) (sym m_is) (none-above e.0 rest is.rising.0)))
    by false there true same more =
        let a_is : a ≡ e.1.address = address_cmp-equal a e.1.address (equal _ same) in
        absurd (false≢true (sym there ∙ at-self (mark_of a) e.0 (ap mark_of a_is ∙ mine)))
    by false there false apart more = more

-- the second of two, where the first is none
abbrev pub or_else : Option Versioned → Option Versioned → Option Versioned
or_else None second = second
or_else (Some first) second = Some first

-- a look-up in two lists, one after the other
pub lookup-both : (a : Address) (others rest : Kept)
    → lookup (is_at (address_cmp a)) (others ++ rest) ≡ or_else (lookup (is_at (address_cmp a)) others) (lookup (is_at (address_cmp a)) rest)
lookup-both a [] rest = refl
lookup-both a (e ∷ others) rest = by (is_at (address_cmp a) e.0) (lookup-both a others rest)
  where
    by : (b : Bool) → lookup (is_at (address_cmp a)) (others ++ rest) ≡ or_else (lookup (is_at (address_cmp a)) others) (lookup (is_at (address_cmp a)) rest)
        → cond b (Some e.1) (lookup (is_at (address_cmp a)) (others ++ rest))
        ≡ or_else (cond b (Some e.1) (lookup (is_at (address_cmp a)) others)) (lookup (is_at (address_cmp a)) rest)
    by true more = refl
    by false more = more

-- what is found among all is what stands among the others, or else at the mark
pub found : (a : Address) (others : Kept) (marked : Marked) → IsMarked marked
    → lookup (is_at (address_cmp a)) (kept_by others marked)
    ≡ or_else (lookup (is_at (address_cmp a)) others) (own_at a (lookup (is_at (nat_cmp (mark_of a))) marked))
found a others marked is = lookup-both a others (owns marked) ∙ ap (or_else (lookup (is_at (address_cmp a)) others)) (found-own a marked is)

-- ---- what is put

-- what is put among the others is put among all
pub put-other : (others new : Kept) (marked : Marked) (k : Address) (put : Versioned) → IsPut others new k put
    → IsPut (kept_by others marked) (kept_by new marked) k put
put-other others new marked k put puts q =
    lookup-both q new (owns marked) ∙ ap (λ o. or_else o (lookup (is_at (address_cmp q)) (owns marked))) (puts q)
    ∙ by (is_at (address_cmp k) q) ∙ ap (λ o. cond (is_at (address_cmp k) q) (Some put) o) (sym (lookup-both q others (owns marked)))
  where
    by : (b : Bool) → or_else (cond b (Some put) (lookup (is_at (address_cmp q)) others)) (lookup (is_at (address_cmp q)) (owns marked))
        ≡ cond b (Some put) (or_else (lookup (is_at (address_cmp q)) others) (lookup (is_at (address_cmp q)) (owns marked)))
    by true = refl
    by false = refl

-- a mark has what was put there, and the other marks have what they had
abbrev pub IsPutAt : Marked → Marked → ℕ → Own → Type 0
IsPutAt old new mark own = (m : ℕ) → lookup (is_at (nat_cmp m)) new ≡ cond (is_at (nat_cmp mark) m) (Some own) (lookup (is_at (nat_cmp m)) old)

-- what is put at its mark leaves each mark that of its address
pub marked-put : (old new : Marked) (own : Own) → IsMarked old → IsStrictlySortedBy nat_cmp (keys_of new)
    → IsPutAt old new (mark_of own.address) own → IsMarked new
marked-put old new own is rising puts = record {
  rising = rising;
  theirs = λ m other there. by m other (is_at (nat_cmp (mark_of own.address)) m) refl (sym (puts m) ∙ there);
}
  where
    by : (m : ℕ) (other : Own) (b : Bool) → is_at (nat_cmp (mark_of own.address)) m ≡ b
        → cond b (Some own) (lookup (is_at (nat_cmp m)) old) ≡ Some other → mark_of other.address ≡ m
    by m other true same there = let o : own ≡ other = (cc) in sym (ap (λ (x : Own). mark_of x.address) o) ∙ at-same (mark_of own.address) m same
    by m other false apart there = is.theirs m other there

-- What is put at its mark, where no other address stands, is put among all.
pub put-own : (others : Kept) (old new : Marked) (own : Own) → lookup (is_at (address_cmp own.address)) others ≡ None → IsMarked old → IsMarked new
    → IsPutAt old new (mark_of own.address) own → IfSome (lookup (is_at (nat_cmp (mark_of own.address))) old) (λ o. o.address ≡ own.address)
    → IsPut (kept_by others old) (kept_by others new) own.address own.versions
put-own others old new own none was is puts alone q = by (is_at (address_cmp own.address) q) refl
  where
    k : Address
    k = own.address

    -- another address finds what stood there
    apart-from : (m : Bool) → is_at (nat_cmp (mark_of k)) (mark_of q) ≡ m → is_at (address_cmp k) q ≡ false
        → own_at q (cond m (Some own) (lookup (is_at (nat_cmp (mark_of q))) old)) ≡ own_at q (lookup (is_at (nat_cmp (mark_of q))) old)
    apart-from false there apart = refl
    apart-from true here apart =
        rw (other-way k q apart)
        (sym (nothing (lookup (is_at (nat_cmp (mark_of q))) old)
        (subst (λ n. IfSome (lookup (is_at (nat_cmp n)) old) (λ (o : Own). o.address ≡ k)) (at-same (mark_of k) (mark_of q) here) alone)))
      where
        nothing : (o : Option Own) → IfSome o (λ x. x.address ≡ k) → own_at q o ≡ None
        nothing None all = refl
        nothing (Some x) all = rw (all, other-way k q apart) refl

    by : (b : Bool) → is_at (address_cmp k) q ≡ b
        → lookup (is_at (address_cmp q)) (kept_by others new) ≡ cond b (Some own.versions) (lookup (is_at (address_cmp q)) (kept_by others old))
    by true same =
        let k_is : k ≡ q = address_cmp-equal k q (equal _ same) in
        found q others new is ∙ ap (or_else (lookup (is_at (address_cmp q)) others)) (ap (own_at q) (puts (mark_of q)))
        ∙ rw (at-self (mark_of k) (mark_of q) (ap mark_of k_is))
        (subst (λ (x : Address). or_else (lookup (is_at (address_cmp x)) others) (cond (is_at (address_cmp x) k) (Some own.versions) None)
        ≡ Some own.versions) k_is
        (rw none (rw (self k) refl)))
    by false apart =
        found q others new is
        ∙ ap (or_else (lookup (is_at (address_cmp q)) others))
        (ap (own_at q) (puts (mark_of q)) ∙ apart-from (is_at (nat_cmp (mark_of k)) (mark_of q)) refl apart)
        ∙ sym (found q others old was)

-- ---- one address

-- an order that isn't equal, and one that isn't unequal
pub apart : (r : Ordering) → is_ne r ≡ true → is_eq r ≡ false
apart Less e = refl
apart Greater e = refl
apart Equal e = absurd (false≢true e)

-- the one order left is the equal one
pub alike : (r : Ordering) → is_ne r ≡ false → is_eq r ≡ true
alike Equal e = refl
alike Less e = absurd (false≢true (sym e))
alike Greater e = absurd (false≢true (sym e))

-- what was found and is written back changes nothing
pub written-back : {K X : Type 0} (test : K → Bool) (old new : List (K × X)) (v w : X) → new ≡ set_value test old w → Some v ≡ lookup test old → w ≡ v
    → new ≡ old
written-back test old new v w written there same = written ∙ set_value_same test old w (sym there ∙ ap (λ x. Some x) (sym same))

-- where neither part changed nothing did
pub same-kept : (others new_others : Kept) (marked new_marked : Marked) → new_others ≡ others → new_marked ≡ marked
    → kept_by new_others new_marked ≡ kept_by others marked
same-kept others new_others marked new_marked e f = ap (λ o. kept_by o new_marked) e ∙ ap (kept_by others) f

-- what is none was none in the first of two, and what isn't there is alone
pub none-first : (first second : Option Versioned) → or_else first second ≡ None → first ≡ None
none-first None second e = refl
none-first (Some v) second e = absurd (cc)

-- what isn't there has nothing to keep to
pub none-there : {X : Type 0} (o : Option X) (P : X → Type 0) → is_some o ≡ false → IfSome o P
none-there None P e = tt
none-there (Some x) P e = absurd (false≢true (sym e))

-- what stands at a mark and isn't of an address is none of its own
pub not-own : (a : Address) (own : Own) (o : Option Own) → Some own ≡ o → is_at (address_cmp a) own.address ≡ false → own_at a o ≡ None
not-own a own o there apart = ap (own_at a) (sym there) ∙ rw apart refl

module _ (others : Kept) (marked : Marked) (k : Address) where
  -- an address that stands among the others is found there
  pub others-first : (v : Versioned) → Some v ≡ lookup (is_at (address_cmp k)) others → Some v ≡ lookup (is_at (address_cmp k)) (kept_by others marked)
  others-first v there = ap (λ o. or_else o (lookup (is_at (address_cmp k)) (owns marked))) there ∙ sym (lookup-both k others (owns marked))

  -- and has its versions
  pub versions-other : (v : Versioned) → Some v ≡ lookup (is_at (address_cmp k)) others → v ≡ versions_of (kept_by others marked) k
  versions-other v there = ap (λ o. unwrap_or o (unchanged k)) (others-first v there)

  -- what is neither among the others nor at its mark is nowhere
  pub nowhere : IsMarked marked → None ≡ lookup (is_at (address_cmp k)) others → own_at k (lookup (is_at (nat_cmp (mark_of k))) marked) ≡ None
      → lookup (is_at (address_cmp k)) (kept_by others marked) ≡ None
  nowhere is none elsewhere =
      found k others marked is ∙ ap (λ o. or_else o (own_at k (lookup (is_at (nat_cmp (mark_of k))) marked))) (sym none) ∙ elsewhere

  module _ (own : Own) (is : IsMarked marked) (none : None ≡ lookup (is_at (address_cmp k)) others)
      (there : Some own ≡ lookup (is_at (nat_cmp (mark_of k))) marked) (same : is_at (address_cmp k) own.address ≡ true) where
    -- an address whose own stands at its mark is found there
    pub found-at : Some own.versions ≡ lookup (is_at (address_cmp k)) (kept_by others marked)
    found-at =
        sym (found k others marked is
        ∙ ap (λ o. or_else o (own_at k (lookup (is_at (nat_cmp (mark_of k))) marked))) (sym none)
        ∙ ap (own_at k) (sym there) ∙ rw same refl)

    -- and has its versions
    pub versions-own : own.versions ≡ versions_of (kept_by others marked) k
    versions-own = ap (λ o. unwrap_or o (unchanged k)) found-at

    -- and what is put in its place is put among all
    pub put-found : (new : Marked) (put : Versioned) → IsStrictlySortedBy nat_cmp (keys_of new)
        → IsPutAt marked new (mark_of k) (record { address = own.address; versions = put }) → IsPut (kept_by others marked) (kept_by others new) k put
    put-found new put rising puts = by k k_is none there puts
      where
        k_is : k ≡ own.address
        k_is = address_cmp-equal k own.address (equal _ same)

        by : (a : Address) → a ≡ own.address → None ≡ lookup (is_at (address_cmp a)) others → Some own ≡ lookup (is_at (nat_cmp (mark_of a))) marked
            → IsPutAt marked new (mark_of a) (record { address = own.address; versions = put }) → IsPut (kept_by others marked) (kept_by others new) a put
        by a a_is n t p =
            subst (λ (b : Address). IsPut (kept_by others marked) (kept_by others new) b put) (sym a_is)
            (put-own others marked new (record { address = own.address; versions = put })
            (sym (subst (λ (b : Address). None ≡ lookup (is_at (address_cmp b)) others) a_is n)) is
            (marked-put marked new (record { address = own.address; versions = put }) is rising q) q
            (subst (λ o. IfSome o (λ x. x.address ≡ own.address))
            (subst (λ (b : Address). Some own ≡ lookup (is_at (nat_cmp (mark_of b))) marked) a_is t) refl))
          where
            q : IsPutAt marked new (mark_of own.address) (record { address = own.address; versions = put })
            q = subst (λ (b : Address). IsPutAt marked new (mark_of b) (record { address = own.address; versions = put })) a_is p
