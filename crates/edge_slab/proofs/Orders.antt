-- The calls keep the walks those of the pairs that were linked and not unlinked, in the order of linking.
use Rattle.std.proofs.Common.{◌≡◌, ℕ, Bool, true, false, not, cond, ◌&&◌, List, [], ◌∷◌, ◌++◌, nat_eq, refl, sym, ap, ◌∙◌}
use Rattle.std.specs.List.{list_any}
use Rattle.edge_slab.specs.Edges.{Edges, across, without, is_in, is_linked, subscribers_at, places_of}
use Rattle.edge_slab.specs.Laws.{Pair, pair_of, is_pair, AreWalks, with_pair, LinksKeepOrder, UnlinksKeepOrder, DropsKeepOrder}
use Rattle.edge_slab.proofs.Lists.{always, any_same, across-push, across-but, across-but_other, across-but_side, is_in-across, and_turned}

-- the pairs of a place, and of a subscriber
abbrev at : ℕ → List Pair → List ℕ
at place pairs = across (λ pair. pair.place) (λ pair. pair.subscriber) place pairs

abbrev of : ℕ → List Pair → List ℕ
of subscriber pairs = across (λ pair. pair.subscriber) (λ pair. pair.place) subscriber pairs

-- a pair is linked where it is one of them
linked_pair : (pairs : List Pair) (edges : Edges) (s p : ℕ) → AreWalks edges pairs → is_linked edges s p ≡ list_any (is_pair s p) pairs
linked_pair pairs edges s p are =
    ap (is_in s) (are.at_place p)
    ∙ is_in-across (λ (pair : Pair). pair.place) (λ pair. pair.subscriber) p s pairs
    ∙ any_same (λ pair. nat_eq p pair.place && nat_eq s pair.subscriber) (is_pair s p) (λ pair. and_turned (nat_eq p pair.place) (nat_eq s pair.subscriber)) pairs

-- a pair that is new stands last in its walks, and nothing changes where it is there
pub links_keep_order : LinksKeepOrder
links_keep_order pairs old new s p are is = record {
  at_place = λ q. is.at_place q ∙ here q (is_linked old s p) (linked_pair pairs old s p are);
  of_subscriber = λ t. is.of_subscriber t ∙ there t (is_linked old s p) (linked_pair pairs old s p are);
}
  where
    here : (q : ℕ) (b : Bool) → b ≡ list_any (is_pair s p) pairs
        → cond (not b && nat_eq q p) (subscribers_at old q ++ s ∷ []) (subscribers_at old q) ≡ at q (with_pair s p pairs)
    here q b e = by b ∙ ap (λ c. at q (cond c pairs (pairs ++ pair_of s p ∷ []))) e
      where
        by : (b : Bool) → cond (not b && nat_eq q p) (subscribers_at old q ++ s ∷ []) (subscribers_at old q)
            ≡ at q (cond b pairs (pairs ++ pair_of s p ∷ []))
        by true = are.at_place q
        by false =
            ap (λ l. cond (nat_eq q p) (l ++ s ∷ []) l) (are.at_place q)
            ∙ sym (across-push (λ (pair : Pair). pair.place) (λ pair. pair.subscriber) q (pair_of s p) pairs)

    there : (t : ℕ) (b : Bool) → b ≡ list_any (is_pair s p) pairs
        → cond (not b && nat_eq t s) (places_of old t ++ p ∷ []) (places_of old t) ≡ of t (with_pair s p pairs)
    there t b e = by b ∙ ap (λ c. of t (cond c pairs (pairs ++ pair_of s p ∷ []))) e
      where
        by : (b : Bool) → cond (not b && nat_eq t s) (places_of old t ++ p ∷ []) (places_of old t)
            ≡ of t (cond b pairs (pairs ++ pair_of s p ∷ []))
        by true = are.of_subscriber t
        by false =
            ap (λ l. cond (nat_eq t s) (l ++ p ∷ []) l) (are.of_subscriber t)
            ∙ sym (across-push (λ (pair : Pair). pair.subscriber) (λ pair. pair.place) t (pair_of s p) pairs)

-- the pair that is gone leaves the others in their order
pub unlinks_keep_order : UnlinksKeepOrder
unlinks_keep_order pairs old new s p are is = record {
  at_place = λ q.
      is.at_place q
      ∙ ap (λ l. cond (nat_eq q p) (without s l) l) (are.at_place q)
      ∙ sym (across-but (λ (pair : Pair). pair.place) (λ pair. pair.subscriber) (is_pair s p) p s q pairs
      (always (λ pair. is_pair s p pair ≡ (nat_eq p pair.place && nat_eq s pair.subscriber))
      (λ pair. and_turned (nat_eq s pair.subscriber) (nat_eq p pair.place)) pairs));
  of_subscriber = λ t.
      is.of_subscriber t
      ∙ ap (λ l. cond (nat_eq t s) (without p l) l) (are.of_subscriber t)
      ∙ sym (across-but (λ (pair : Pair). pair.subscriber) (λ pair. pair.place) (is_pair s p) s p t pairs
      (always (λ pair. is_pair s p pair ≡ (nat_eq s pair.subscriber && nat_eq p pair.place)) (λ pair. refl) pairs));
}

-- and so do those of a subscriber that is gone
pub drops_keep_order : DropsKeepOrder
drops_keep_order pairs old new s are is = record {
  at_place = λ q.
      is.at_place q ∙ ap (without s) (are.at_place q) ∙ sym (across-but_other (λ (pair : Pair). pair.place) (λ pair. pair.subscriber) s q pairs);
  of_subscriber = λ t.
      is.of_subscriber t
      ∙ ap (λ l. cond (nat_eq t s) [] l) (are.of_subscriber t)
      ∙ sym (across-but_side (λ (pair : Pair). pair.subscriber) (λ pair. pair.place) s t pairs);
}
