-- What the calls of chains leave of their lists.
use Rattle.std.proofs.Common.{◌≡◌, ℕ, Bool, true, false, cond, ◌&&◌, List, Option, Some, None, is_some, slice_get, nat_eq}
use Rattle.std.proofs.Common.{refl, sym, ap, ◌∙◌}
use Rattle.std.specs.List.{list_any}
use Rattle.std.specs.Option.{unwrap_or}
use Rattle.std.specs.HashMap.{get}
use Rattle.edge_slab.specs.declared.chains.Spot.{Spot}
use Rattle.edge_slab.specs.declared.chains.Spot.TheVariants.{End, Key, Nowhere}
use Rattle.edge_slab.specs.declared.chains.Ties.{Ties}
use Rattle.edge_slab.specs.declared.chains.Chains.{Chains}
use Rattle.edge_slab.specs.Edges.{without}
use Rattle.edge_slab.specs.Chains.{ties_to, nowhere, ends_of_none, key_ties, end_ties, ties_of, next_of, last_of, is_there, is_same}
use Rattle.edge_slab.specs.Chains.{AreChains, IsReadyFor, with_key, IsTied}
use Rattle.edge_slab.proofs.Rings.{same_spot, same_spot_itself, apart, key_no_end, tied_both, closed, before_apart, same_runs, removed, pushed, Removes, Pushes}

-- ---- two spots tied

module _ (old mid new : Spot → Ties) (there there' : Spot → Bool) (o s : Spot) (t t' : Ties)
    (first : (q : Spot) → mid q ≡ cond (is_same o q && there o) t (old q))
    (second : (q : Spot) → new q ≡ cond (is_same s q && there' s) t' (mid q))
    (stays : (q : Spot) → there' q ≡ there q)
    (forward : t ≡ ties_to s (old o).last)
    (backward : t' ≡ ties_to (mid s).next o) where
  -- the second leaves all that lie behind
  nexts_stay : (q : Spot) → (new q).next ≡ (mid q).next
  nexts_stay q = ap (λ x. x.next) (second q) ∙ by (is_same s q) refl (there' s)
    where
      by : (b : Bool) → is_same s q ≡ b → (c : Bool) → (cond (b && c) t' (mid q)).next ≡ (mid q).next
      by true e true = ap (λ x. x.next) backward ∙ ap (λ x. (mid x).next) (same_spot s q e)
      by true e false = refl
      by false e c = refl

  -- the first leaves all that lie before
  lasts_stay : (q : Spot) → (mid q).last ≡ (old q).last
  lasts_stay q = ap (λ x. x.last) (first q) ∙ by (is_same o q) refl (there o)
    where
      by : (b : Bool) → is_same o q ≡ b → (c : Bool) → (cond (b && c) t (old q)).last ≡ (old q).last
      by true e true = ap (λ x. x.last) forward ∙ ap (λ x. (old x).last) (same_spot o q e)
      by true e false = refl
      by false e c = refl

  pub tie_forth : there o ≡ true → (new o).next ≡ s
  tie_forth e =
      nexts_stay o
      ∙ ap (λ x. x.next) (first o)
      ∙ ap (λ b. (cond (b && there o) t (old o)).next) (same_spot_itself o)
      ∙ ap (λ b. (cond b t (old o)).next) e
      ∙ ap (λ x. x.next) forward

  pub tie_back : there s ≡ true → (new s).last ≡ o
  tie_back e =
      ap (λ x. x.last) (second s)
      ∙ ap (λ b. (cond (b && there' s) t' (mid s)).last) (same_spot_itself s)
      ∙ ap (λ b. (cond b t' (mid s)).last) (stays s ∙ e)
      ∙ ap (λ x. x.last) backward

  pub tie_nexts : (q : Spot) → is_same o q ≡ false → (new q).next ≡ (old q).next
  tie_nexts q e = nexts_stay q ∙ ap (λ x. x.next) (first q) ∙ ap (λ b. (cond (b && there o) t (old q)).next) e

  pub tie_lasts : (q : Spot) → is_same s q ≡ false → (new q).last ≡ (old q).last
  tie_lasts q e = ap (λ x. x.last) (second q) ∙ ap (λ b. (cond (b && there' s) t' (mid q)).last) e ∙ lasts_stay q

-- so two spots are tied by two settings
pub tied : (old mid new : Chains) (o s : Spot) (t t' : Ties)
    → ((q : Spot) → ties_of mid q ≡ cond (is_same o q && is_there old o) t (ties_of old q))
    → ((q : Spot) → ties_of new q ≡ cond (is_same s q && is_there mid s) t' (ties_of mid q))
    → ((q : Spot) → is_there mid q ≡ is_there old q) → ((q : Spot) → is_there new q ≡ is_there mid q)
    → t ≡ ties_to s (last_of old o) → t' ≡ ties_to (next_of mid s) o → IsTied old o s new
tied old mid new o s t t' first second there there' forward backward = record {
  forth = tie_forth (ties_of old) (ties_of mid) (ties_of new) (is_there old) (is_there mid) o s t t' first second there forward backward;
  back = tie_back (ties_of old) (ties_of mid) (ties_of new) (is_there old) (is_there mid) o s t t' first second there forward backward;
  nexts = tie_nexts (ties_of old) (ties_of mid) (ties_of new) (is_there old) (is_there mid) o s t t' first second there forward backward;
  lasts = tie_lasts (ties_of old) (ties_of mid) (ties_of new) (is_there old) (is_there mid) o s t t' first second there forward backward;
  there = λ q. there' q ∙ there q;
}

-- ---- which ties are kept

-- where a tie leads somewhere, and not from an end back to itself, it is kept
there_from : (c : Chains) (f : Ties → Spot) → f nowhere ≡ Nowhere → ((n : ℕ) → f (ends_of_none n) ≡ End n) → (q s : Spot) → f (ties_of c q) ≡ s
    → (s ≡ Nowhere → ⊥) → ((n : ℕ) → s ≡ End n → is_there c (End n) ≡ true) → is_there c q ≡ true
there_from c f none ends (End n) s is leads itself = by (get nat_eq c.ends n) refl
  where
    by : (o : Option Ties) → get nat_eq c.ends n ≡ o → is_some o ≡ true
    by (Some t) e = refl
    by None e =
        sym (ap is_some e) ∙ itself n (sym is ∙ ap (λ (o : Option Ties). f (unwrap_or o (ends_of_none n))) e ∙ ends n)
there_from c f none ends (Key k) s is leads itself = by (slice_get c.ties.items k) refl
  where
    by : (o : Option Ties) → slice_get c.ties.items k ≡ o → is_some o ≡ true
    by (Some t) e = refl
    by None e = absurd (leads (sym is ∙ ap (λ (o : Option Ties). f (unwrap_or o nowhere)) e ∙ none))
there_from c f none ends Nowhere s is leads itself = absurd (leads (sym is ∙ none))

there_next : (c : Chains) (q s : Spot) → next_of c q ≡ s → (s ≡ Nowhere → ⊥)
    → ((n : ℕ) → s ≡ End n → is_there c (End n) ≡ true) → is_there c q ≡ true
there_next c q s = there_from c (λ t. t.next) refl (λ n. refl) q s

there_last : (c : Chains) (q s : Spot) → last_of c q ≡ s → (s ≡ Nowhere → ⊥)
    → ((n : ℕ) → s ≡ End n → is_there c (End n) ≡ true) → is_there c q ≡ true
there_last c q s = there_from c (λ t. t.last) refl (λ n. refl) q s

-- ---- whole calls

-- the same ties make the same lists
pub same_chains : (old new : Chains) → ((q : Spot) → ties_of new q ≡ ties_of old q) → (lists : ℕ → List ℕ) → AreChains old lists → AreChains new lists
same_chains old new same lists are list =
    same_runs (next_of old) (last_of old) (next_of new) (last_of new) (λ q. ap (λ t. t.next) (same q)) (λ q. ap (λ t. t.last) (same q))
    (lists list) (End list) (End list) (are list)

-- a key tied behind the last spot of a list, and before its end, is the last of the list
pub pushed_chains : (old mid new : Chains) (list key : ℕ) (last : Spot) → IsReadyFor old list key → last ≡ last_of old (End list)
    → IsTied old last (Key key) mid → IsTied mid (Key key) (End list) new
    → (lists : ℕ → List ℕ) → AreChains old lists → ((n : ℕ) → list_any (nat_eq key) (lists n) ≡ false) → AreChains new (with_key list key lists)
pushed_chains old mid new list key last ready is one two lists are lacks n =
    pushed (next_of old) (last_of old) (next_of new) (last_of new) list key put n (lists n) (lacks n) (are n)
  where
    end_round : next_of old (last_of old (End list)) ≡ End list
    end_round = closed (next_of old) (last_of old) (lists list) (End list) (End list) (are list)

    not_key : last_of old (End list) ≡ Key key → ⊥
    not_key = before_apart (next_of old) (last_of old) key (lists list) (End list) (End list) (λ e. key_no_end key list (sym e)) (lacks list) (are list)

    before : is_there old last ≡ true
    before =
        there_next old last (End list) (ap (next_of old) is ∙ end_round) (λ e. cc)
        (λ n e. ap (is_there old) (sym e) ∙ ready.end_there)

    put : Pushes (next_of old) (last_of old) (next_of new) (last_of new) list key
    put = record {
      closed = end_round;
      forth =
          two.nexts (last_of old (End list)) (apart (Key key) (last_of old (End list)) (λ e. not_key (sym e)))
          ∙ ap (next_of mid) (sym is)
          ∙ one.forth before;
      back = two.lasts (Key key) (apart (End list) (Key key) (λ e. key_no_end key list (sym e))) ∙ one.back ready.key_there ∙ is;
      forth_end = two.forth (one.there (Key key) ∙ ready.key_there);
      back_end = two.back (one.there (End list) ∙ ready.end_there);
      nexts = λ s other own. two.nexts s own ∙ one.nexts s (ap (λ x. is_same x s) is ∙ other);
      lasts = λ s other own. two.lasts s other ∙ one.lasts s own;
    }

-- a key whose neighbours are tied to one another is in no list
pub removed_chains : (old mid new : Chains) (key : ℕ) → IsTied old (last_of old (Key key)) (next_of old (Key key)) mid
    → ((q : Spot) → ties_of new q ≡ ties_of mid q)
    → (lists : ℕ → List ℕ) (list : ℕ) → AreChains old lists → list_any (nat_eq key) (lists list) ≡ true → AreChains new (λ n. without key (lists n))
removed_chains old mid new key over same lists list are has n =
    removed (next_of old) (last_of old) (next_of new) (last_of new) key out (lists n) n (are n)
  where
    both : (next_of old (last_of old (Key key)) ≡ Key key) × (last_of old (next_of old (Key key)) ≡ Key key)
    both = tied_both (next_of old) (last_of old) key (lists list) (End list) (End list) (are list) has

    before : is_there old (last_of old (Key key)) ≡ true
    before = there_next old (last_of old (Key key)) (Key key) both.0 (λ e. cc) (λ m e. absurd (key_no_end key m e))

    behind : is_there old (next_of old (Key key)) ≡ true
    behind = there_last old (next_of old (Key key)) (Key key) both.1 (λ e. cc) (λ m e. absurd (key_no_end key m e))

    out : Removes (next_of old) (last_of old) (next_of new) (last_of new) key
    out = record {
      forth = both.0;
      back = both.1;
      joined = ap (λ t. t.next) (same (last_of old (Key key))) ∙ over.forth before;
      joined_back = ap (λ t. t.last) (same (next_of old (Key key))) ∙ over.back behind;
      nexts = λ s other. ap (λ t. t.next) (same s) ∙ over.nexts s other;
      lasts = λ s other. ap (λ t. t.last) (same s) ∙ over.lasts s other;
    }

-- ---- room made

-- ends and keys whose ties are the same leave all ties the same
pub ties_same : (old new : Chains) → ((n : ℕ) → end_ties new.ends n ≡ end_ties old.ends n)
    → ((k : ℕ) → key_ties new.ties.items k ≡ key_ties old.ties.items k) → (q : Spot) → ties_of new q ≡ ties_of old q
ties_same old new ends keys (End n) = ends n
ties_same old new ends keys (Key k) = keys k
ties_same old new ends keys Nowhere = refl
