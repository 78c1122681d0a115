-- Values that a run observed at each of their addresses were asked for, one by one: so it is all the same whether they were read
-- in turn or stand there at once.
use Rattle.std.proofs.Common.{◌≡◌, ℕ, zero, suc, ◌<◌, ◌≤◌, Bool, true, false, cond, ◌||◌, ◌&&◌, T, List, [], ◌∷◌, Option, Some, None, refl, sym, ap, subst, ◌∙◌, arith}
use Rattle.std.specs.Option.{option_map}
use Rattle.std.specs.List.{AllByRecursion}
use Rattle.std.specs.List.Sorted.{IsStrictlySortedBy}
use Rattle.std.specs.Map.{lookup, keys_of}
use Rattle.std.specs.BTreeMap.{insert_entry, is_at}
use Rattle.std.specs.Cmp.{tied_itself}
use Rattle.std.specs.Ordering.{is_eq, is_lt}
use Rattle.std.specs.declared.cmp.Ordering.TheVariants.{Less}
use Rattle.std.specs.FinMap.Entries.{find, is_sorted, below_all, same_entries}
use Rattle.plain_data.proofs.Entries.{equal, lookup-insert_entry, sorted-insert_entry, sorted-none}
use Rattle.rdt_types.specs.contracts.address.AddressOrd.TheImpl.Laws as order
use Rattle.rdt_types.specs.declared.address.Address.{Address}
use Rattle.rdt_types.specs.Addresses.{address_cmp}
use Rattle.rdt_types.proofs.Addresses.{address_cmp-equal}
use Rattle.txn_trees.specs.declared.statement.Body.{Body}
use Rattle.txn_lang.specs.declared.run.Run.{Run}
use Rattle.txn_lang.specs.declared.run.Seen.{Seen}
use Rattle.txn_lang.specs.declared.snaps.Snap.{Snap}
use Rattle.txn_lang.specs.Execution.{Ran, need, done, exec}
use Rattle.txn_lang.specs.Observed.{IsThere, Extends}
use Rattle.txn_lang.proofs.Observed.{needs_are_missing, needs_stay, observed_is_there, runs_stay_done}
use Rattle.txn_eval.specs.Running.{values_of}
use Rattle.docc_prepare.specs.Attempts.{SnapList, AreAsked}
use Rattle.docc_prepare.specs.Serial.{is_observed}

-- what is found at an address
abbrev pub at : SnapList → Address → Option Snap
at snaps a = lookup (is_at (address_cmp a)) snaps

-- an address is at itself
pub at-itself : (a : Address) → is_eq (address_cmp a a) ≡ true
at-itself a = ap is_eq (tied_itself order.total-law a)

-- ---- two lists in order that find the same are the same

found-same : (q : Address) (snaps : SnapList) → find address_cmp q snaps ≡ at snaps q
found-same q [] = refl
found-same q (x ∷ snaps) = ap (λ o. cond (is_eq (address_cmp q x.0)) (Some x.1) o) (found-same q snaps)

both : (a b : Bool) → T a → T b → T (a && b)
both true b p q = q
both false b p q = p

below : (x : Address) (snaps : SnapList) → AllByRecursion (λ y. address_cmp x y ≡ Less) (keys_of snaps) → T (below_all address_cmp x snaps)
below x [] all = tt
below x (y ∷ snaps) all = both _ (below_all address_cmp x snaps) (subst (λ r. T (is_lt r)) (sym all.0) tt) (below x snaps all.1)

sorted : (snaps : SnapList) → IsStrictlySortedBy address_cmp (keys_of snaps) → T (is_sorted address_cmp snaps)
unfolding IsStrictlySortedBy
sorted [] h = tt
sorted (x ∷ snaps) h = both (below_all address_cmp x.0 snaps) _ (below x.0 snaps h.0) (sorted snaps h.1)

pub same-snaps : (xs ys : SnapList) → IsStrictlySortedBy address_cmp (keys_of xs) → IsStrictlySortedBy address_cmp (keys_of ys)
    → ((q : Address) → at xs q ≡ at ys q) → xs ≡ ys
same-snaps xs ys h i same = same_entries address_cmp order.total-law address_cmp-equal xs ys (sorted xs h) (sorted ys i)
    (λ q. found-same q xs ∙ (same q ∙ sym (found-same q ys)))

-- ---- fewer values

-- each of the first is among the second
abbrev Within : SnapList → SnapList → Type 0
Within sub all = (a : Address) (snap : Snap) → at sub a ≡ Some snap → at all a ≡ Some snap

-- so the values are
within-extends : (sub all : SnapList) → Within sub all → Extends (values_of sub) (values_of all)
within-extends sub all within a v there = by (at sub a) refl there
  where
    by : (o : Option Snap) → at sub a ≡ o → option_map (λ (x : Snap). x.value) o ≡ Some v → values_of all a ≡ Some v
    by None e is = absurd (cc)
    by (Some snap) e is = ap (option_map (λ (x : Snap). x.value)) (within a snap e) ∙ is

-- where there is no value nothing is found
none-found : (snaps : SnapList) (a : Address) → values_of snaps a ≡ None → at snaps a ≡ None
none-found snaps a is = by (at snaps a) refl is
  where
    by : (o : Option Snap) → at snaps a ≡ o → option_map (λ (x : Snap). x.value) o ≡ None → at snaps a ≡ None
    by None e is = e
    by (Some snap) e is = absurd (cc)

-- one more, of those that are there
within-more : (sub all : SnapList) (a : Address) (snap : Snap) → Within sub all → at all a ≡ Some snap → Within (insert_entry address_cmp sub a snap) all
within-more sub all a snap within there q x found = by (is_eq (address_cmp q a)) refl (sym (lookup-insert_entry address_cmp order.total-law q a snap sub) ∙ found)
  where
    by : (b : Bool) → is_eq (address_cmp q a) ≡ b → cond b (Some snap) (at sub q) ≡ Some x → at all q ≡ Some x
    by true e is = ap (at all) (address_cmp-equal q a (equal (address_cmp q a) e)) ∙ (there ∙ is)
    by false e is = within q x is

-- ---- how many are missing

abbrev counted : Option Snap → ℕ → ℕ
counted None n = suc n
counted (Some snap) n = n

abbrev missing : SnapList → SnapList → ℕ
missing sub [] = 0
missing sub (x ∷ rest) = counted (at sub x.0) (missing sub rest)

-- what is found stays found
abbrev Keeps : SnapList → SnapList → Type 0
Keeps sub more = (q : Address) → at more q ≡ None → at sub q ≡ None

keeps-more : (sub : SnapList) (a : Address) (snap : Snap) → Keeps sub (insert_entry address_cmp sub a snap)
keeps-more sub a snap q none = by (is_eq (address_cmp q a)) (sym (lookup-insert_entry address_cmp order.total-law q a snap sub) ∙ none)
  where
    by : (b : Bool) → cond b (Some snap) (at sub q) ≡ None → at sub q ≡ None
    by true is = absurd (cc)
    by false is = is

no-more : (sub more rest : SnapList) → Keeps sub more → missing more rest ≤ missing sub rest
no-more sub more [] keeps = omega arith
no-more sub more (x ∷ rest) keeps = by (at more x.0) (at sub x.0) (keeps x.0) (no-more sub more rest keeps)
  where
    by : (o p : Option Snap) → (o ≡ None → p ≡ None) → missing more rest ≤ missing sub rest → counted o (missing more rest) ≤ counted p (missing sub rest)
    by None None h less = omega arith
    by None (Some x) h less = absurd (let e = h refl in cc)
    by (Some x) None h less = omega arith
    by (Some x) (Some y) h less = less

-- one fewer is missing where one of them comes in
one-less : (sub : SnapList) (a : Address) (snap : Snap) (rest : SnapList) → at sub a ≡ None → at rest a ≡ Some snap
    → missing (insert_entry address_cmp sub a snap) rest < missing sub rest
one-less sub a snap [] none there = absurd (cc)
one-less sub a snap (x ∷ rest) none there =
    by (is_eq (address_cmp a x.0)) refl there (no-more sub (insert_entry address_cmp sub a snap) rest (keeps-more sub a snap)) (λ e. one-less sub a snap rest none e)
  where
    more : SnapList
    more = insert_entry address_cmp sub a snap

    here : (o : Option Snap) → at more x.0 ≡ o → is_eq (address_cmp x.0 a) ≡ true → missing more rest ≤ missing sub rest → counted (at sub x.0) (missing sub rest) ≡ suc (missing sub rest) → counted o (missing more rest) < counted (at sub x.0) (missing sub rest)
    here None e is less one = absurd (let f : Some snap ≡ None = sym (lookup-insert_entry address_cmp order.total-law x.0 a snap sub ∙ ap (λ b. cond b (Some snap) (at sub x.0)) is) ∙ e in cc)
    here (Some y) e is less one = omega (arith, one)

    by : (b : Bool) → is_eq (address_cmp a x.0) ≡ b → cond b (Some x.1) (at rest a) ≡ Some snap → missing more rest ≤ missing sub rest
        → (at rest a ≡ Some snap → missing more rest < missing sub rest)
        → counted (at more x.0) (missing more rest) < counted (at sub x.0) (missing sub rest)
    by true e is less further =
        let same : a ≡ x.0 = address_cmp-equal a x.0 (equal (address_cmp a x.0) e) in
        here (at more x.0) refl (subst (λ q. is_eq (address_cmp q a) ≡ true) same (at-itself a)) less
        (ap (λ o. counted o (missing sub rest)) (subst (λ q. at sub q ≡ None) same none))
    by false e is less further = elsewhere (at more x.0) (at sub x.0) (keeps-more sub a snap x.0) (further is)
      where
        elsewhere : (o p : Option Snap) → (o ≡ None → p ≡ None) → missing more rest < missing sub rest → counted o (missing more rest) < counted p (missing sub rest)
        elsewhere None None h less = omega arith
        elsewhere None (Some z) h less = absurd (let e = h refl in cc)
        elsewhere (Some y) None h less = omega arith
        elsewhere (Some y) (Some z) h less = less

-- ---- each was asked for

module _ (body : Body) (all : SnapList) (run : Run) (rising : IsStrictlySortedBy address_cmp (keys_of all)) (is : exec body (values_of all) ≡ done run)
    (observed : (a : Address) (snap : Snap) → at all a ≡ Some snap → is_observed run.observations a ≡ true) where
  -- what was observed is found
  observed-found : (snaps : SnapList) (seen : List Seen) (a : Address) → AllByRecursion (IsThere (values_of snaps)) seen → is_observed seen a ≡ true
      → (at snaps a ≡ None → ⊥)
  observed-found snaps [] a there e none = absurd (cc)
  observed-found snaps (z ∷ seen) a there e none = by (is_eq (address_cmp a z.address)) refl e (observed-found snaps seen a there.1)
    where
      by : (b : Bool) → is_eq (address_cmp a z.address) ≡ b → (b || is_observed seen a) ≡ true → (is_observed seen a ≡ true → at snaps a ≡ None → ⊥) → ⊥
      by true h e rest =
          let same : a ≡ z.address = address_cmp-equal a z.address (equal (address_cmp a z.address) h) in
          let clash : None ≡ Some there.0.value = sym (ap (option_map (λ (x : Snap). x.value)) (subst (λ q. at snaps q ≡ None) same none)) ∙ there.0.is in
          absurd (cc)
      by false h e rest = rest e none

  -- a run that is done on some of the values has them all
  ended : (sub : SnapList) (other : Run) → IsStrictlySortedBy address_cmp (keys_of sub) → Within sub all → exec body (values_of sub) ≡ done other → sub ≡ all
  ended sub other order_of within ends = same-snaps sub all order_of rising (λ q. by q (at sub q) (at all q) refl refl)
    where
      same : other ≡ run
      same = let e : done other ≡ done run = sym (runs_stay_done body (values_of sub) (values_of all) other (within-extends sub all within) ends) ∙ is in cc

      by : (q : Address) (o p : Option Snap) → at sub q ≡ o → at all q ≡ p → at sub q ≡ at all q
      by q None None e f = e ∙ sym f
      by q (Some x) p e f = e ∙ sym (within q x e)
      by q None (Some y) e f =
          absurd (observed-found sub run.observations q (subst (λ (r : Run). AllByRecursion (IsThere (values_of sub)) r.observations) same
          (observed_is_there body (values_of sub) other ends)) (observed q y f) e)

  -- a run that needs a value needs one of these
  step : (sub : SnapList) → IsStrictlySortedBy address_cmp (keys_of sub) → Within sub all → AreAsked body sub
      → ((a : Address) (snap : Snap) → exec body (values_of sub) ≡ need a → at all a ≡ Some snap → AreAsked body all) → AreAsked body all
  step sub order_of within asked more = by (exec body (values_of sub)) refl
    where
      there : (a : Address) → exec body (values_of sub) ≡ need a → (o : Option Snap) → at all a ≡ o → AreAsked body all
      there a e None f =
          let needs = needs_stay body (values_of sub) (values_of all) a (within-extends sub all within) e (ap (option_map (λ (x : Snap). x.value)) f) in
          let clash : need a ≡ done run = sym needs ∙ is in absurd (cc)
      there a e (Some snap) f = more a snap e f

      by : (r : Ran) → exec body (values_of sub) ≡ r → AreAsked body all
      by (done other) e = subst (AreAsked body) (ended sub other order_of within e) asked
      by (need a) e = there a e (at all a) refl

  -- one fewer is missing then
  fewer : (sub : SnapList) (a : Address) (snap : Snap) → exec body (values_of sub) ≡ need a → at all a ≡ Some snap
      → missing (insert_entry address_cmp sub a snap) all < missing sub all
  fewer sub a snap needs there = one-less sub a snap all (none-found sub a (needs_are_missing body (values_of sub) a needs)) there

  -- so all are asked for, one by one
  asked-on : (n : ℕ) (sub : SnapList) → missing sub all ≤ n → IsStrictlySortedBy address_cmp (keys_of sub) → Within sub all → AreAsked body sub
      → AreAsked body all
  asked-on zero sub few order_of within asked =
      step sub order_of within asked (λ a snap needs there. let less = fewer sub a snap needs there in absurd (omega arith))
  asked-on (suc n) sub few order_of within asked =
      step sub order_of within asked (λ a snap needs there. let less = fewer sub a snap needs there in
      asked-on n (insert_entry address_cmp sub a snap) (omega arith) (sorted-insert_entry address_cmp order.total-law a snap sub order_of)
      (within-more sub all a snap within there) (AreAsked.one_more a snap asked needs))

  -- EACH VALUE WAS ASKED FOR
  pub are-asked : AreAsked body all
  are-asked =
      asked-on (missing [] all) [] (omega arith) (sorted-none {K = Address} {V = Snap} address_cmp [] refl) (λ a snap e. absurd (cc)) AreAsked.none_yet
