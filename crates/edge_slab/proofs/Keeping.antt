-- What a slab of edges keeps after a pair came or went.
use Rattle.std.proofs.Common.{◌≡◌, ℕ, Bool, true, false, not, cond, ◌&&◌, List, [], ◌∷◌, ◌++◌, Option, Some, None, is_some}
use Rattle.std.proofs.Common.{Result, Ok, Err, OnErr, MatchOption, IfNone, nat_eq, refl, sym, ap, subst, ◌∙◌}
use Rattle.std.specs.List.{AllByRecursion, IsDistinct, list_any}
use Rattle.std.specs.Cmp.{nat_eq_equiv}
use Rattle.std.specs.Option.{option_map_or}
use Rattle.std.specs.Map.{lookup}
use Rattle.std.specs.HashMap.{HashMap, get}
use Rattle.std.proofs.lemmas.Bool.{and_parts, and_from, false_from_ne_true, not-true, eqb-false, ne_eqb}
use Rattle.std.proofs.lemmas.Map.Keys.{IsDistinct-push}
use Rattle.slab.specs.Slab as slab
use Rattle.edge_slab.specs.declared.links.Edge.{Edge}
use Rattle.edge_slab.specs.declared.links.Links.{Links}
use Rattle.edge_slab.specs.Edges.{across, without, is_in, is_linked, subscribers_at, places_of, SameEdges, IsLinked, IsUnlinked}
use Rattle.edge_slab.specs.Links.{Linked, linked_as, edge_from, edge_of, is_under, is_of, but, pair_eq, edges_of, AreLinks, AreEdges}
use Rattle.edge_slab.proofs.Lists.{each, each_of_some, each_passes, each_both, each_push, one_of, none_of, any_weaker, any_left, any_push, any_last, any_same}
use Rattle.edge_slab.proofs.Lists.{across-push, across-but, is_in-across, without-none, once-some, same_number, same_itself, and_turned}
use Rattle.edge_slab.proofs.Walking.{subscribers-across, places-across}

-- ---- pairs of numbers

-- two numbers
abbrev two : ℕ → ℕ → ℕ × ℕ
two m n = (m, n)

-- pairs that are equal by test are one
same_pair : (a b : ℕ × ℕ) → pair_eq a b ≡ true → a ≡ b
same_pair a b e =
    let parts = and_parts (nat_eq a.0 b.0) (nat_eq a.1 b.1) e in
    ap (λ m. two m a.1) (same_number a.0 b.0 parts.0) ∙ ap (two b.0) (same_number a.1 b.1 parts.1)

-- a pair is equal to itself
pair_itself : (a : ℕ × ℕ) → pair_eq a a ≡ true
pair_itself a = and_from (nat_eq a.0 a.0) (nat_eq a.1 a.1) (same_itself a.0) (same_itself a.1)

-- the tests of a pair by its key and by its sides
abbrev is_as : ℕ → ℕ → ℕ → Linked → Bool
is_as key s p l = is_under key l && is_of s p l

module _ {S : Type 0} (links : Links) (keys : HashMap (ℕ × ℕ) ℕ S) (all : List Linked) (are : AreEdges links keys all) where
  abbrev key_at : ℕ → ℕ → Option ℕ
  key_at s p = get pair_eq keys (s, p)

  -- the edge under a pair's key is the pair's
  edge_under : (s p key : ℕ) → key_at s p ≡ Some key → slab.get links.edges key ≡ Some (edge_from s p)
  edge_under s p key e =
      let one = one_of (λ (l : Linked). slab.get links.edges l.key ≡ Some (edge_of l)) (is_as key s p) all are.are_links.held (are.listed s p key e) in
      let parts = and_parts (is_under key one.0) (is_of s p one.0) one.1 in
      let sides = and_parts (nat_eq s one.0.subscriber) (nat_eq p one.0.place) parts.1 in
      ap (slab.get links.edges) (same_number key one.0.key parts.0)
      ∙ one.2
      ∙ ap (λ m. Some (edge_from m one.0.place)) (sym (same_number s one.0.subscriber sides.0))
      ∙ ap (λ m. Some (edge_from s m)) (sym (same_number p one.0.place sides.1))

  -- no other pair has the key
  one_pair : (s p t q key : ℕ) → key_at s p ≡ Some key → key_at t q ≡ Some key → pair_eq (s, p) (t, q) ≡ true
  one_pair s p t q key e f =
      let g = sym (edge_under s p key e) ∙ edge_under t q key f in
      let m : s ≡ t = ap (λ (o : Option Edge). option_map_or (λ edge. edge.subscriber) o 0) g in
      let n : p ≡ q = ap (λ (o : Option Edge). option_map_or (λ edge. edge.place) o 0) g in
      ap (λ x. pair_eq (x, p) (t, q)) m ∙ ap (λ x. pair_eq (t, x) (t, q)) n ∙ pair_itself (t, q)

  -- a pair is linked where it has a key
  pub has_key : (s p : ℕ) → is_some (key_at s p) ≡ list_any (is_of s p) all
  has_key s p = by (key_at s p) refl
    where
      by : (o : Option ℕ) → key_at s p ≡ o → is_some o ≡ list_any (is_of s p) all
      by (Some key) e =
          sym (any_weaker (is_as key s p) (is_of s p) (λ l f. (and_parts (is_under key l) (is_of s p l) f).1) all (are.listed s p key e))
      by None e =
          sym (none_of (is_of s p) all (each (λ (l : Linked). key_at l.subscriber l.place ≡ Some l.key) (λ (l : Linked). is_of s p l ≡ false)
          (λ l f. false_from_ne_true (is_of s p l) (λ g.
          let sides = and_parts (nat_eq s l.subscriber) (nat_eq p l.place) g in
          let same : key_at s p ≡ Some l.key =
          ap (λ m. key_at m p) (same_number s l.subscriber sides.0) ∙ ap (key_at l.subscriber) (same_number p l.place sides.1) ∙ f
          in
          let clash : Some l.key ≡ None = sym same ∙ e in
          cc)) all are.found))

  -- in both directions
  pub linked_at : (s p : ℕ) → is_linked (edges_of links) s p ≡ list_any (is_of s p) all
  linked_at s p =
      ap (is_in s) (subscribers-across links all are.are_links p)
      ∙ is_in-across (λ (l : Linked). l.place) (λ (l : Linked). l.subscriber) p s all
      ∙ any_same (λ (l : Linked). nat_eq p l.place && nat_eq s l.subscriber) (is_of s p) (λ (l : Linked). and_turned (nat_eq p l.place) (nat_eq s l.subscriber)) all

  pub linked_of : (s p : ℕ) → is_in p (places_of (edges_of links) s) ≡ list_any (is_of s p) all
  linked_of s p = ap (is_in p) (places-across links all are.are_links s) ∙ is_in-across (λ (l : Linked). l.subscriber) (λ (l : Linked). l.place) s p all

  -- whether a pair is linked is whether it has a key
  pub linked_key : (s p : ℕ) → is_some (key_at s p) ≡ is_linked (edges_of links) s p
  linked_key s p = has_key s p ∙ sym (linked_at s p)

  -- ---- nothing

  -- the same pairs in other links, and with the same keys
  pub same_edges : (links' : Links) → AreLinks links' all → SameEdges (edges_of links) (edges_of links')
  same_edges links' are' = record {
    at_place = λ p. subscribers-across links' all are' p ∙ sym (subscribers-across links all are.are_links p);
    of_subscriber = λ s. places-across links' all are' s ∙ sym (places-across links all are.are_links s);
  }

  pub same_kept : {S' : Type 0} (links' : Links) (keys' : HashMap (ℕ × ℕ) ℕ S') → AreLinks links' all
      → ((q : ℕ × ℕ) → get pair_eq keys' q ≡ get pair_eq keys q) → AreEdges links' keys' all
  same_kept links' keys' are' same = record {
    are_links = are';
    found =
        each (λ (l : Linked). key_at l.subscriber l.place ≡ Some l.key) (λ (l : Linked). get pair_eq keys' (l.subscriber, l.place) ≡ Some l.key)
        (λ l e. same (l.subscriber, l.place) ∙ e) all are.found;
    listed = λ s p key e. are.listed s p key (sym (same (s, p)) ∙ e);
    once_at = are.once_at;
    once_of = are.once_of;
  }

  -- ---- a pair more

  module _ {S' : Type 0} (links' : Links) (keys' : HashMap (ℕ × ℕ) ℕ S') (s p key : ℕ) (new : key_at s p ≡ None)
      (are' : AreLinks links' (all ++ linked_as (edge_from s p) key ∷ [])) where
    abbrev last_one : Linked
    last_one = linked_as (edge_from s p) key

    -- no pair before is this one
    not_there : list_any (is_of s p) all ≡ false
    not_there = sym (has_key s p) ∙ ap is_some new

    pub more_edges : IsLinked true (edges_of links) s p (edges_of links')
    more_edges = record {
      at_place = λ q.
          subscribers-across links' (all ++ last_one ∷ []) are' q
          ∙ across-push (λ (l : Linked). l.place) (λ (l : Linked). l.subscriber) q last_one all
          ∙ ap (λ (l : List ℕ). cond (nat_eq q p) (l ++ s ∷ []) l) (sym (subscribers-across links all are.are_links q));
      of_subscriber = λ t.
          places-across links' (all ++ last_one ∷ []) are' t
          ∙ across-push (λ (l : Linked). l.subscriber) (λ (l : Linked). l.place) t last_one all
          ∙ ap (λ (l : List ℕ). cond (nat_eq t s) (l ++ p ∷ []) l) (sym (places-across links all are.are_links t));
    }

    pub more_kept : ((q : ℕ × ℕ) → get pair_eq keys' q ≡ cond (pair_eq (s, p) q) (Some key) (get pair_eq keys q))
        → AreEdges links' keys' (all ++ last_one ∷ [])
    more_kept puts = record {
      are_links = are';
      found =
          each_push (λ (l : Linked). get pair_eq keys' (l.subscriber, l.place) ≡ Some l.key) all last_one
          (each (λ (l : Linked). key_at l.subscriber l.place ≡ Some l.key) (λ (l : Linked). get pair_eq keys' (l.subscriber, l.place) ≡ Some l.key)
          (λ l e. puts (l.subscriber, l.place) ∙ ap (λ b. cond b (Some key) (key_at l.subscriber l.place)) (others l e) ∙ e) all are.found)
          (puts (s, p) ∙ ap (λ b. cond b (Some key) (key_at s p)) (pair_itself (s, p)));
      listed = λ t q k e. listed t q k (pair_eq (s, p) (t, q)) refl (sym (puts (t, q)) ∙ e);
      once_at = λ q.
          subst (IsDistinct nat_eq) (sym (across-push (λ (l : Linked). l.place) (λ (l : Linked). l.subscriber) q last_one all))
          (once (nat_eq q p) (across (λ (l : Linked). l.place) (λ (l : Linked). l.subscriber) q all) s (are.once_at q)
          (λ e. is_in-across (λ (l : Linked). l.place) (λ (l : Linked). l.subscriber) q s all
          ∙ lacks_at q (same_number q p e)));
      once_of = λ t.
          subst (IsDistinct nat_eq) (sym (across-push (λ (l : Linked). l.subscriber) (λ (l : Linked). l.place) t last_one all))
          (once (nat_eq t s) (across (λ (l : Linked). l.subscriber) (λ (l : Linked). l.place) t all) p (are.once_of t)
          (λ e. is_in-across (λ (l : Linked). l.subscriber) (λ (l : Linked). l.place) t p all
          ∙ ap (λ m. list_any (is_of m p) all) (same_number t s e) ∙ not_there));
    }
      where
        others : (l : Linked) → key_at l.subscriber l.place ≡ Some l.key → pair_eq (s, p) (l.subscriber, l.place) ≡ false
        others l e = false_from_ne_true (pair_eq (s, p) (l.subscriber, l.place)) (λ f.
            let clash : Some l.key ≡ None = sym e ∙ ap (get pair_eq keys) (sym (same_pair (s, p) (l.subscriber, l.place) f)) ∙ new in
            cc)

        listed : (t q k : ℕ) (b : Bool) → pair_eq (s, p) (t, q) ≡ b → cond b (Some key) (key_at t q) ≡ Some k
            → list_any (is_as k t q) (all ++ last_one ∷ []) ≡ true
        listed t q k true same e =
            any_last (is_as k t q) all last_one
            (let it : key ≡ k = cc in
            and_from (nat_eq k key) (nat_eq t s && nat_eq q p) (ap (λ x. nat_eq x key) (sym it) ∙ same_itself key)
            (ap (λ (x : ℕ × ℕ). pair_eq x (s, p)) (sym (same_pair (s, p) (t, q) same)) ∙ pair_itself (s, p)))
        listed t q k false same e = any_push (is_as k t q) all last_one (are.listed t q k e)

        once : (b : Bool) (ns : List ℕ) (n : ℕ) → IsDistinct nat_eq ns → (b ≡ true → is_in n ns ≡ false) → IsDistinct nat_eq (cond b (ns ++ n ∷ []) ns)
        once true ns n old lacks = IsDistinct-push nat_eq_equiv ns n old (lacks refl)
        once false ns n old lacks = old

        lacks_at : (q : ℕ) → q ≡ p → list_any (λ (l : Linked). nat_eq q l.place && nat_eq s l.subscriber) all ≡ false
        lacks_at q e =
            none_of (λ (l : Linked). nat_eq q l.place && nat_eq s l.subscriber) all
            (each (λ (l : Linked). key_at l.subscriber l.place ≡ Some l.key) (λ (l : Linked). (nat_eq q l.place && nat_eq s l.subscriber) ≡ false)
            (λ l f. ap (λ m. nat_eq m l.place && nat_eq s l.subscriber) e ∙ and_turned (nat_eq p l.place) (nat_eq s l.subscriber) ∙ others l f) all are.found)

  -- ---- a pair less

  -- the key of a pair is that of one
  pub under : (s p key : ℕ) → key_at s p ≡ Some key → list_any (is_under key) all ≡ true
  under s p key had =
      any_weaker (is_as key s p) (is_under key) (λ l e. (and_parts (is_under key l) (is_of s p l) e).0) all (are.listed s p key had)

  module _ {S' : Type 0} (links' : Links) (keys' : HashMap (ℕ × ℕ) ℕ S') (s p key : ℕ) (had : key_at s p ≡ Some key) (are' : AreLinks links' (but key all)) where
    -- the pair alone has the key
    tests : AllByRecursion (λ (l : Linked). is_under key l ≡ is_of s p l) all
    tests =
        each (λ (l : Linked). key_at l.subscriber l.place ≡ Some l.key) (λ (l : Linked). is_under key l ≡ is_of s p l) (λ l e. by l e (is_under key l) refl) all are.found
      where
        by : (l : Linked) → key_at l.subscriber l.place ≡ Some l.key → (b : Bool) → is_under key l ≡ b → b ≡ is_of s p l
        by l e true f =
            sym (one_pair s p l.subscriber l.place key had (e ∙ ap (λ k. Some k) (sym (same_number key l.key f))))
        by l e false f = sym (false_from_ne_true (is_of s p l) (λ g.
            let at : key_at s p ≡ Some l.key = ap (get pair_eq keys) (same_pair (s, p) (l.subscriber, l.place) g) ∙ e in
            let same : key ≡ l.key = let both : Some key ≡ Some l.key = sym had ∙ at in cc in
            eqb-false key l.key f same))

    -- what is left across from a place, and from a subscriber
    left_at : (q : ℕ) → across (λ (l : Linked). l.place) (λ (l : Linked). l.subscriber) q (but key all)
        ≡ cond (nat_eq q p) (without s (across (λ (l : Linked). l.place) (λ (l : Linked). l.subscriber) q all)) (across (λ (l : Linked). l.place) (λ (l : Linked). l.subscriber) q all)
    left_at q =
        across-but (λ (l : Linked). l.place) (λ (l : Linked). l.subscriber) (is_under key) p s q all
        (each (λ (l : Linked). is_under key l ≡ is_of s p l) (λ (l : Linked). is_under key l ≡ (nat_eq p l.place && nat_eq s l.subscriber))
        (λ l e. e ∙ and_turned (nat_eq s l.subscriber) (nat_eq p l.place)) all tests)

    left_of : (t : ℕ) → across (λ (l : Linked). l.subscriber) (λ (l : Linked). l.place) t (but key all)
        ≡ cond (nat_eq t s) (without p (across (λ (l : Linked). l.subscriber) (λ (l : Linked). l.place) t all)) (across (λ (l : Linked). l.subscriber) (λ (l : Linked). l.place) t all)
    left_of t = across-but (λ (l : Linked). l.subscriber) (λ (l : Linked). l.place) (is_under key) s p t all tests

    pub less_edges : IsUnlinked (edges_of links) s p (edges_of links')
    less_edges = record {
      at_place = λ q.
          subscribers-across links' (but key all) are' q
          ∙ left_at q
          ∙ ap (λ (l : List ℕ). cond (nat_eq q p) (without s l) l) (sym (subscribers-across links all are.are_links q));
      of_subscriber = λ t.
          places-across links' (but key all) are' t
          ∙ left_of t
          ∙ ap (λ (l : List ℕ). cond (nat_eq t s) (without p l) l) (sym (places-across links all are.are_links t));
    }

    pub less_kept : ((q : ℕ × ℕ) → get pair_eq keys' q ≡ cond (pair_eq (s, p) q) None (get pair_eq keys q)) → AreEdges links' keys' (but key all)
    less_kept takes = record {
      are_links = are';
      found =
          each (λ (l : Linked). (key_at l.subscriber l.place ≡ Some l.key) × (not (is_under key l) ≡ true)) (λ (l : Linked). get pair_eq keys' (l.subscriber, l.place) ≡ Some l.key)
          (λ l e. takes (l.subscriber, l.place) ∙ ap (λ b. cond b None (key_at l.subscriber l.place)) (others l e.0 (not-true (is_under key l) e.1)) ∙ e.0)
          (but key all)
          (each_both (λ (l : Linked). key_at l.subscriber l.place ≡ Some l.key) (λ (l : Linked). not (is_under key l) ≡ true) (but key all)
          (each_of_some (λ (l : Linked). key_at l.subscriber l.place ≡ Some l.key) (λ (l : Linked). not (is_under key l)) all are.found)
          (each_passes (λ (l : Linked). not (is_under key l)) all));
      listed = λ t q k e. listed t q k (pair_eq (s, p) (t, q)) refl (sym (takes (t, q)) ∙ e);
      once_at = λ q. subst (IsDistinct nat_eq) (sym (left_at q)) (once (nat_eq q p) s (across (λ (l : Linked). l.place) (λ (l : Linked). l.subscriber) q all) (are.once_at q));
      once_of = λ t. subst (IsDistinct nat_eq) (sym (left_of t)) (once (nat_eq t s) p (across (λ (l : Linked). l.subscriber) (λ (l : Linked). l.place) t all) (are.once_of t));
    }
      where
        others : (l : Linked) → key_at l.subscriber l.place ≡ Some l.key → is_under key l ≡ false → pair_eq (s, p) (l.subscriber, l.place) ≡ false
        others l e f = false_from_ne_true (pair_eq (s, p) (l.subscriber, l.place)) (λ g.
            let at : key_at s p ≡ Some l.key = ap (get pair_eq keys) (same_pair (s, p) (l.subscriber, l.place) g) ∙ e in
            let same : key ≡ l.key = let both : Some key ≡ Some l.key = sym had ∙ at in cc in
            eqb-false key l.key f same)

        listed : (t q k : ℕ) (b : Bool) → pair_eq (s, p) (t, q) ≡ b → cond b None (key_at t q) ≡ Some k → list_any (is_as k t q) (but key all) ≡ true
        listed t q k true same e = absurd (cc)
        listed t q k false same e =
            any_left (is_as k t q) (λ (l : Linked). not (is_under key l))
            (λ l f. ap not (ne_eqb key l.key (λ is. differ (same_number k l.key (and_parts (is_under k l) (is_of t q l) f).0 ∙ sym is)))) all
            (are.listed t q k e)
          where
            differ : k ≡ key → ⊥
            differ is = let clash = one_pair s p t q key had (e ∙ ap (λ m. Some m) is) in let both : true ≡ false = sym clash ∙ same in cc

        once : (b : Bool) (n : ℕ) (ns : List ℕ) → IsDistinct nat_eq ns → IsDistinct nat_eq (cond b (without n ns) ns)
        once true n ns old = once-some (λ m. not (nat_eq n m)) ns old
        once false n ns old = old

  -- where a pair isn't linked, nothing is taken out
  pub nothing_less : (s p : ℕ) → key_at s p ≡ None → IsUnlinked (edges_of links) s p (edges_of links)
  nothing_less s p none = record {
    at_place = λ q. by (nat_eq q p) (subscribers_at (edges_of links) q) s (λ e. ap (λ m. is_linked (edges_of links) s m) (same_number q p e) ∙ out);
    of_subscriber = λ t. by (nat_eq t s) (places_of (edges_of links) t) p
        (λ e. ap (λ m. is_in p (places_of (edges_of links) m)) (same_number t s e) ∙ linked_of s p ∙ sym (has_key s p) ∙ ap is_some none);
  }
    where
      out : is_linked (edges_of links) s p ≡ false
      out = sym (linked_key s p) ∙ ap is_some none

      by : (b : Bool) (ns : List ℕ) (n : ℕ) → (b ≡ true → is_in n ns ≡ false) → ns ≡ cond b (without n ns) ns
      by true ns n lacks = sym (without-none n ns (lacks refl))
      by false ns n lacks = refl

-- ---- no pair

-- no number stands twice in an empty list
once_none : IsDistinct nat_eq []
unfolding IsDistinct
once_none = tt

-- links of no pairs, and no keys
pub none_kept : {S : Type 0} (links : Links) (keys : HashMap (ℕ × ℕ) ℕ S) → AreLinks links [] → keys.entries ≡ [] → AreEdges links keys []
none_kept links keys are empty = record {
  are_links = are;
  found = tt;
  listed = λ s p key e. let none : get pair_eq keys (s, p) ≡ None = ap (lookup (pair_eq (s, p))) empty in absurd (cc);
  once_at = λ place. once_none;
  once_of = λ subscriber. once_none;
}

-- ---- answers

-- what holds holds at an error
pub on_err : {V E : Type 0} (r : Result V E) (P : Type 0) → P → OnErr r P
on_err (Ok v) P p = tt
on_err (Err e) P p = p

-- what isn't there is nothing
pub nothing : {A : Type 0} (o : Option A) → is_some o ≡ false → o ≡ None
nothing None e = refl
nothing (Some x) e = absurd (cc)

-- where a walk gives nothing, nothing was left of it
pub none_left : (o : Option ℕ) (walk rest : List ℕ) (P : Type 0) → MatchOption o ((walk ≡ []) × (rest ≡ [])) (λ n. walk ≡ n ∷ rest)
    → (walk ≡ [] → P) → IfNone o P
none_left None walk rest P e so = so e.0
none_left (Some n) walk rest P e so = tt
