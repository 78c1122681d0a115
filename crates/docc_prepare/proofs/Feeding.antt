-- What a client is told of: the changes at its addresses, as they are pending there.
use Rattle.std.proofs.Common.{◌≡◌, ℕ, Bool, true, false, cond, List, [], ◌∷◌, map, filter, None, refl, sym, ap, ◌∙◌}
use Rattle.std.specs.List.{AllByRecursion}
use Rattle.std.specs.BTreeMap.{is_at}
use Rattle.plain_data.proofs.Entries.{equal}
use Rattle.rdt_types.specs.declared.address.Address.{Address}
use Rattle.rdt_types.specs.Addresses.{address_cmp}
use Rattle.rdt_types.specs.Deltas.{kind_changed}
use Rattle.rdt_types.specs.DeltaMaps.{Deltas, delta_at, with_delta}
use Rattle.rdt_types.proofs.Addresses.{address_cmp-equal}
use Rattle.change_feed.specs.declared.change.Change.{Change}
use Rattle.change_feed.specs.Changes.{of_address}
use Rattle.change_feed.specs.Feeds as feeds
use Rattle.change_feed.specs.Feeds.{with_changes}
use Rattle.change_feed.specs.Pending.{deltas_at, composed_after, pending}
use Rattle.change_feed.proofs.Feeds.{feeds_keep_pending}
use Rattle.txn_lang.specs.States.{Journal}
use Rattle.journal_core.specs.Changes.{changes_by, changes}
use Rattle.docc_prepare.specs.Serial.{AreOfTheirKinds}
use Rattle.docc_prepare.proofs.Each.{each-append}
use Rattle.journal_core.proofs.OfRuns.{kinds-with}

-- ---- by addresses

module _ (told : Address → Bool) (a : Address) where
  -- the changes at addresses that are told
  abbrev among : List Change → List Change
  among all = filter (λ change. told change.address) all

  -- the changes at the one address
  abbrev here : List Change → List Change
  here all = of_address a all

  -- an address that compares as equal is told alike
  same-address : (b : Address) → is_at (address_cmp a) b ≡ true → told b ≡ told a
  same-address b e = ap told (sym (address_cmp-equal a b (equal (address_cmp a b) e)))

  -- of a told address all is kept
  all-told : told a ≡ true → (all : List Change) → deltas_at a (among all) ≡ deltas_at a all
  all-told is [] = refl
  all-told is (x ∷ xs) = by (all-told is xs) (told x.address) refl (is_at (address_cmp a) x.address) refl
    where
      by : deltas_at a (among xs) ≡ deltas_at a xs → (t : Bool) → told x.address ≡ t → (i : Bool) → is_at (address_cmp a) x.address ≡ i
          → deltas_at a (cond t (x ∷ among xs) (among xs)) ≡ map (λ change. change.delta) (cond i (x ∷ here xs) (here xs))
      by rest true e true h = ap (λ t. map (λ (change : Change). change.delta) (cond t (x ∷ here (among xs)) (here (among xs)))) h
          ∙ ap (λ ds. x.delta ∷ ds) rest
      by rest true e false h = ap (λ t. map (λ (change : Change). change.delta) (cond t (x ∷ here (among xs)) (here (among xs)))) h ∙ rest
      by rest false e true h = absurd (let no : true ≡ false = sym is ∙ sym (same-address x.address h) ∙ e in cc)
      by rest false e false h = rest

  -- of another nothing is
  none-told : told a ≡ false → (all : List Change) → deltas_at a (among all) ≡ []
  none-told is [] = refl
  none-told is (x ∷ xs) = by (none-told is xs) (told x.address) refl (is_at (address_cmp a) x.address) refl
    where
      by : deltas_at a (among xs) ≡ [] → (t : Bool) → told x.address ≡ t → (i : Bool) → is_at (address_cmp a) x.address ≡ i
          → deltas_at a (cond t (x ∷ among xs) (among xs)) ≡ []
      by rest true e true h = absurd (let no : true ≡ false = sym e ∙ same-address x.address h ∙ is in cc)
      by rest true e false h = ap (λ t. map (λ (change : Change). change.delta) (cond t (x ∷ here (among xs)) (here (among xs)))) h ∙ rest
      by rest false e i h = rest

  -- at a told address a feed has what is pending there, and elsewhere nothing
  pub fed-is-pending : (all : List Change) → delta_at (with_changes [] (among all)) a ≡ cond (told a) (pending a all) None
  fed-is-pending all = feeds_keep_pending (among all) a ∙ by (told a) refl
    where
      by : (t : Bool) → told a ≡ t → pending a (among all) ≡ cond t (pending a all) None
      by true e = ap (composed_after None) (all-told e all)
      by false e = ap (composed_after None) (none-told e all)

-- ---- by kinds

-- the changes of a commit are of the kinds of their addresses, as its deltas are
kinds-by : (n : ℕ) (ds : Deltas) → AreOfTheirKinds ds → feeds.AreOfTheirKinds (changes_by n ds)
kinds-by n [] all = tt
kinds-by n (pair ∷ ds) all = (all.0, kinds-by n ds all.1)

-- the changes of a journal are of the kinds of their addresses
pub kinds-of-changes : (journal : Journal) → AllByRecursion (λ commit. AreOfTheirKinds commit.deltas) journal → feeds.AreOfTheirKinds (changes journal)
kinds-of-changes [] all = tt
kinds-of-changes (commit ∷ journal) all =
    each-append (λ change. kind_changed change.delta ≡ change.address.kind) (changes_by commit.number commit.deltas) (changes journal)
    (kinds-by commit.number commit.deltas all.0) (kinds-of-changes journal all.1)

-- and so are those of a feed of them
pub kinds-fed : (all : List Change) (ds : Deltas) → feeds.AreOfTheirKinds all → AreOfTheirKinds ds → AreOfTheirKinds (with_changes ds all)
kinds-fed [] ds each there = there
kinds-fed (x ∷ all) ds each there = kinds-fed all (with_delta ds x.address x.delta) each.1 (kinds-with ds x.address x.delta each.0 there)
