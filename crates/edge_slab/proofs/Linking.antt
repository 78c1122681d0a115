-- What the links of pairs are after one came or went.
use Rattle.std.proofs.Common.{◌≡◌, ℕ, ◌+◌, true, false, not, List, [], ◌∷◌, ◌++◌, Option, Some, None, nat_eq, sym, ap}
use Rattle.std.proofs.Common.{subst, ◌∙◌, arith, length-append, is_some, OnSome}
use Rattle.std.specs.List.{AllByRecursion, list_any}
use Rattle.std.proofs.lemmas.Bool.{eqb-false, ne_eqb, not-true}
use Rattle.slab.specs.Slab as slab
use Rattle.edge_slab.specs.declared.links.Edge.{Edge}
use Rattle.edge_slab.specs.declared.links.Links.{Links}
use Rattle.edge_slab.specs.declared.chains.Chains.{Chains}
use Rattle.edge_slab.specs.declared.chains.Spot.TheVariants.{End}
use Rattle.edge_slab.specs.Edges.{without}
use Rattle.edge_slab.specs.Chains.{AreChains, Runs, next_of, last_of, with_key}
use Rattle.edge_slab.specs.Links.{Linked, linked_as, edge_of, keys_of, is_under, but, AreLinks}
use Rattle.edge_slab.proofs.Lists.{each, each_of_some, each_passes, each_both, each_push, across-push, across-but_other, across-lacks, across-has, length-less, same_number, one_of}

-- lists that are equal one by one are the lists of the same chains
chains_like : (chains : Chains) (lists like : ℕ → List ℕ) → ((n : ℕ) → lists n ≡ like n) → AreChains chains lists → AreChains chains like
chains_like chains lists like same are n =
    subst (λ (keys : List ℕ). Runs (next_of chains) (last_of chains) (End n) keys (End n)) (same n) (are n)

-- a key without an edge is none of the pairs'
lacking : (edges : slab.Slab Edge) (all : List Linked) (key : ℕ) → AllByRecursion (λ (l : Linked). slab.get edges l.key ≡ Some (edge_of l)) all
    → slab.get edges key ≡ None → AllByRecursion (λ (l : Linked). nat_eq key l.key ≡ false) all
lacking edges all key held vacant =
    each (λ (l : Linked). slab.get edges l.key ≡ Some (edge_of l)) (λ (l : Linked). nat_eq key l.key ≡ false)
    (λ l e. ne_eqb key l.key (λ same. let f : slab.get edges key ≡ Some (edge_of l) = ap (slab.get edges) same ∙ e in cc)) all held

module _ (old new : Links) (edge : Edge) (key : ℕ) (all : List Linked) (are : AreLinks old all) where
  -- links with one more at the end
  pub pushed_links : slab.get old.edges key ≡ None → slab.Updates old.edges new.edges key (Some edge)
      → slab.slab_len new.edges ≡ slab.slab_len old.edges + 1
      → ((lists : ℕ → List ℕ) → AreChains old.at_place lists → ((n : ℕ) → list_any (nat_eq key) (lists n) ≡ false)
      → AreChains new.at_place (with_key edge.place key lists))
      → ((lists : ℕ → List ℕ) → AreChains old.of_subscriber lists → ((n : ℕ) → list_any (nat_eq key) (lists n) ≡ false)
      → AreChains new.of_subscriber (with_key edge.subscriber key lists))
      → AreLinks new (all ++ linked_as edge key ∷ [])
  pushed_links vacant updates more at of = record {
    at_place =
        chains_like new.at_place (with_key edge.place key (λ n. keys_of (λ (l : Linked). l.place) n all)) (λ n. keys_of (λ (l : Linked). l.place) n (all ++ linked_as edge key ∷ []))
        (λ n. sym (across-push (λ (l : Linked). l.place) (λ (l : Linked). l.key) n (linked_as edge key) all))
        (at (λ n. keys_of (λ (l : Linked). l.place) n all) are.at_place (across-lacks (λ (l : Linked). l.place) (λ (l : Linked). l.key) key all lacks));
    of_subscriber =
        chains_like new.of_subscriber (with_key edge.subscriber key (λ n. keys_of (λ (l : Linked). l.subscriber) n all))
        (λ n. keys_of (λ (l : Linked). l.subscriber) n (all ++ linked_as edge key ∷ []))
        (λ n. sym (across-push (λ (l : Linked). l.subscriber) (λ (l : Linked). l.key) n (linked_as edge key) all))
        (of (λ n. keys_of (λ (l : Linked). l.subscriber) n all) are.of_subscriber (across-lacks (λ (l : Linked). l.subscriber) (λ (l : Linked). l.key) key all lacks));
    held =
        each_push (λ (l : Linked). slab.get new.edges l.key ≡ Some (edge_of l)) all (linked_as edge key)
        (each (λ (l : Linked). (slab.get old.edges l.key ≡ Some (edge_of l)) × (nat_eq key l.key ≡ false)) (λ (l : Linked). slab.get new.edges l.key ≡ Some (edge_of l))
        (λ l e. updates.others l.key (λ same. eqb-false key l.key e.1 (sym same)) ∙ e.0) all
        (each_both (λ (l : Linked). slab.get old.edges l.key ≡ Some (edge_of l)) (λ (l : Linked). nat_eq key l.key ≡ false) all are.held lacks))
        updates.changed;
    few = omega (arith, are.few, more, length-append all (linked_as edge key ∷ []));
  }
    where
      lacks : AllByRecursion (λ (l : Linked). nat_eq key l.key ≡ false) all
      lacks = lacking old.edges all key are.held vacant

module _ (old new : Links) (key : ℕ) (all : List Linked) (are : AreLinks old all) (has : list_any (is_under key) all ≡ true) where
  -- links with one less
  pub removed_links : slab.Updates old.edges new.edges key None → slab.slab_len new.edges + 1 ≡ slab.slab_len old.edges
      → ((lists : ℕ → List ℕ) (list : ℕ) → AreChains old.at_place lists → list_any (nat_eq key) (lists list) ≡ true
      → AreChains new.at_place (λ n. without key (lists n)))
      → ((lists : ℕ → List ℕ) (list : ℕ) → AreChains old.of_subscriber lists → list_any (nat_eq key) (lists list) ≡ true
      → AreChains new.of_subscriber (λ n. without key (lists n)))
      → AreLinks new (but key all)
  removed_links updates less at of =
      let place = across-has (λ (l : Linked). l.place) (λ (l : Linked). l.key) key all has in
      let subscriber = across-has (λ (l : Linked). l.subscriber) (λ (l : Linked). l.key) key all has in
      record {
        at_place =
            chains_like new.at_place (λ n. without key (keys_of (λ (l : Linked). l.place) n all)) (λ n. keys_of (λ (l : Linked). l.place) n (but key all))
            (λ n. sym (across-but_other (λ (l : Linked). l.place) (λ (l : Linked). l.key) key n all))
            (at (λ n. keys_of (λ (l : Linked). l.place) n all) place.0 are.at_place place.1);
        of_subscriber =
            chains_like new.of_subscriber (λ n. without key (keys_of (λ (l : Linked). l.subscriber) n all)) (λ n. keys_of (λ (l : Linked). l.subscriber) n (but key all))
            (λ n. sym (across-but_other (λ (l : Linked). l.subscriber) (λ (l : Linked). l.key) key n all))
            (of (λ n. keys_of (λ (l : Linked). l.subscriber) n all) subscriber.0 are.of_subscriber subscriber.1);
        held =
            each (λ (l : Linked). (slab.get old.edges l.key ≡ Some (edge_of l)) × (not (is_under key l) ≡ true)) (λ (l : Linked). slab.get new.edges l.key ≡ Some (edge_of l))
            (λ l e. updates.others l.key (λ same. eqb-false key l.key (not-true (is_under key l) e.1) (sym same)) ∙ e.0) (but key all)
            (each_both (λ (l : Linked). slab.get old.edges l.key ≡ Some (edge_of l)) (λ (l : Linked). not (is_under key l) ≡ true) (but key all)
            (each_of_some (λ (l : Linked). slab.get old.edges l.key ≡ Some (edge_of l)) (λ (l : Linked). not (is_under key l)) all are.held)
            (each_passes (λ (l : Linked). not (is_under key l)) all));
        few = omega (arith, are.few, less, length-less (is_under key) all has);
      }

-- links whose chains stay the same, and whose edges do, are the same
pub same_links : (old new : Links) → ((key : ℕ) → slab.get new.edges key ≡ slab.get old.edges key)
    → slab.slab_len new.edges ≡ slab.slab_len old.edges
    → ((lists : ℕ → List ℕ) → AreChains old.at_place lists → AreChains new.at_place lists)
    → ((lists : ℕ → List ℕ) → AreChains old.of_subscriber lists → AreChains new.of_subscriber lists)
    → (all : List Linked) → AreLinks old all → AreLinks new all
same_links old new edges len at of all are = record {
  at_place = at (λ n. keys_of (λ (l : Linked). l.place) n all) are.at_place;
  of_subscriber = of (λ n. keys_of (λ (l : Linked). l.subscriber) n all) are.of_subscriber;
  held =
      each (λ (l : Linked). slab.get old.edges l.key ≡ Some (edge_of l)) (λ (l : Linked). slab.get new.edges l.key ≡ Some (edge_of l)) (λ l e. edges l.key ∙ e) all are.held;
  few = omega (arith, are.few, len);
}

-- a key of one of the pairs has an edge
pub under_held : (links : Links) (key : ℕ) (all : List Linked) → AreLinks links all → list_any (is_under key) all ≡ true
    → is_some (slab.get links.edges key) ≡ true
under_held links key all are has =
    let one = one_of (λ (l : Linked). slab.get links.edges l.key ≡ Some (edge_of l)) (is_under key) all are.held has in
    ap (λ k. is_some (slab.get links.edges k)) (same_number key one.0.key one.1) ∙ ap is_some one.2

-- what holds of something that is there
pub some_taken : {A P : Type 0} (o : Option A) → is_some o ≡ true → OnSome o P → P
some_taken (Some x) e p = p
some_taken None e p = absurd (cc)
