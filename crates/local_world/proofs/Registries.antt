-- The registry goes on following the journal, and what it has for a client is what the store has.
use Rattle.std.proofs.Common.{◌≡◌, ℕ, ◌≤◌, ◌<◌, Bool, true, false, cond, ◌&&◌, List, [], ◌∷◌, ◌++◌, filter, length, take, drop}
use Rattle.std.proofs.Common.{Option, Some, None, option_map, option_and_then, Result, Ok, Err, OnOk, OnErr, refl, sym, ap, ◌∙◌, subst, arith}
use Rattle.std.specs.Prelude.{◌==◌, IsSome}
use Rattle.std.specs.Option.{option_map_or}
use Rattle.std.specs.List.{AllByRecursion}
use Rattle.std.specs.List.Sorted.{IsStrictlySortedBy}
use Rattle.std.specs.Map.{keys_of}
use Rattle.std.specs.Ordering.{nat_cmp}
use Rattle.std.specs.BTreeMap.{is_at}
use Rattle.std.specs.BTreeSet.{insert_key}
use Rattle.std.proofs.Math.Path.{fun_ext}
use Rattle.std.proofs.Math.Seq.{take-length}
use Rattle.std.proofs.lemmas.List.{append_assoc, take-append-le, take-append-drop, length-append}
use Rattle.std.proofs.lemmas.Cmp.{eq_by_cmp_equiv, nat_cmp_total}
use Rattle.std.proofs.lemmas.Bool.Decides.{nat_tests}
use Rattle.plain_data.proofs.Entries.{sorted-insert_entry}
use Rattle.rdt_types.specs.declared.address.Address.{Address}
use Rattle.rdt_types.specs.Addresses.{address_cmp}
use Rattle.rdt_types.specs.DeltaMaps.{Deltas, delta_at, after_maybe, with_delta}
use Rattle.rdt_types.specs.contracts.address.AddressOrd.TheImpl.Laws as addresses
use Rattle.rdt_types.proofs.Addresses.{address_cmp-equal}
use Rattle.change_feed.specs.declared.change.Change.{Change}
use Rattle.change_feed.specs.declared.tail.Tail.{Tail}
use Rattle.change_feed.specs.Tails.{IsTail}
use Rattle.change_feed.specs.Pending.{deltas_at, composed_after, pending}
use Rattle.change_feed.specs.Feeds.{Fed, with_changes}
use Rattle.change_feed.proofs.Feeds.{feeds_keep_pending}
use Rattle.txn_lang.specs.States.{Journal}
use Rattle.journal_core.specs.Changes.{changes_of, changes, past, up_to, between, of_address}
use Rattle.journal_core.specs.Pairs.{AreNumbered}
use Rattle.journal_core.specs.Tails.{HasAll}
use Rattle.journal_core.proofs.ByShard.{changes-up_to, changes-between}
use Rattle.reactive_registry.specs.Registered.{Kept, Registered, kept_of, with_kept, is_address, is_subscribed, told, emptied, subscribed}
use Rattle.reactive_registry.specs.Registered.{unsubscribed, pending_for, pending_of}
use Rattle.reactive_registry.specs.Standing.{KeptFor, StandsFor}
use Rattle.reactive_registry.proofs.Pairs.{same_number}
use Rattle.reactive_registry.proofs.Standing.{deltas-chosen, takes_stand}
use Rattle.reactive_registry.proofs.GoingOn.{subscribes_stand, unsubscribes_stand}
use Rattle.reactive_registry.proofs.Clients.{one_stands, all_stand}
use Rattle.docc_prepare.specs.declared.limits.TheConstants.{CLIENTS}
use Rattle.local_world.specs.Stored.{taken_by}
use Rattle.local_world.specs.Standing.{IsFollowing, IsFedBy}
use Rattle.local_world.proofs.SamePairs.{same_pairs}

-- ---- the changes of a journal

-- the changes of some commits and then others are theirs in turn
changes-append : (journal later : Journal) → changes (journal ++ later) ≡ changes journal ++ changes later
changes-append [] later = refl
changes-append (commit ∷ journal) later = ap (λ more. changes_of commit ++ more) (changes-append journal later)
    ∙ sym (append_assoc (changes_of commit) (changes journal) (changes later))

-- those up to a number and those past it are all
changes-split : (journal : Journal) (front : ℕ) → AreNumbered journal
    → up_to front (changes journal) ++ between front (length journal) (changes journal) ≡ up_to (length journal) (changes journal)
changes-split journal front numbered =
    let n = length journal in
    let all : take n journal ≡ journal = take-length journal in
    ap (λ first. first ++ between front n (changes journal)) (changes-up_to front 0 front journal (omega arith) numbered)
    ∙ ap (λ rest. changes (take front journal) ++ rest) (sym (changes-between front n journal numbered))
    ∙ ap (λ (j : Journal). changes (take front journal) ++ changes (drop front j)) all
    ∙ sym (changes-append (take front journal) (drop front journal))
    ∙ ap changes (take-append-drop front journal)
    ∙ sym (changes-up_to n 0 n journal (omega arith) numbered ∙ ap changes all)

-- ---- numbers

-- the two ways to compare numbers agree
pub same_test : (m n : ℕ) → is_at (nat_cmp m) n ≡ (n == m)
same_test m n = by (is_at (nat_cmp m) n) (n == m) refl refl
  where
    by : (b d : Bool) → is_at (nat_cmp m) n ≡ b → (n == m) ≡ d → b ≡ d
    by true true e h = refl
    by false false e h = refl
    by true false e h = absurd (let same : m ≡ n = same_number m n e in grind (arith, nat_tests))
    by false true e h =
        let same : n ≡ m = grind (arith, nat_tests) in
        let not : true ≡ false = sym ((eq_by_cmp_equiv nat_cmp_total).refl m) ∙ ap (is_at (nat_cmp m)) (sym same) ∙ e in cc

-- ---- one subscriber

-- what is kept of one that is entered
kept-there : (o : Option Kept) → IsSome o → (kept : Kept) × (o ≡ Some kept)
kept-there None there = absurd (let no : false ≡ true = there in cc)
kept-there (Some kept) there = (kept, refl)

-- what is made of something that is there is there
some-mapped : {A B : Type 0} (f : A → B) (o : Option A) → IsSome o → IsSome (option_map f o)
some-mapped f None there = there
some-mapped f (Some x) there = there

module _ (journal : Journal) (old new : Registered) where
  -- the changes that the registry stands for: those up to its front
  abbrev followed : List Change
  followed = up_to old.front (changes journal)

  -- what stands by its front stands by an equal one
  by_front : IsFollowing journal old → new.front ≡ old.front → StandsFor followed new → ((client : ℕ) → client < CLIENTS → IsSome (kept_of new client))
      → IsFollowing journal new
  by_front f front stands entered = record {
    reached = subst (λ (n : ℕ). n ≤ length journal) (sym front) f.reached;
    stands = subst (λ (n : ℕ). StandsFor (up_to n (changes journal)) new) (sym front) stands;
    entered = entered;
  }

  -- where nothing changed it goes on following
  pub following-same : IsFollowing journal old → new.front ≡ old.front → ((s : ℕ) → kept_of new s ≡ kept_of old s) → IsFollowing journal new
  following-same f front is =
      by_front f front
      (record {
        followed = subst (λ (n : ℕ). AllByRecursion (λ (change : Change). change.number ≤ n) followed) (sym front) f.stands.followed;
        kept = λ s k e. subst (λ (n : ℕ). KeptFor followed n k) (sym front) (f.stands.kept s k (sym (is s) ∙ e));
      })
      (λ client below. subst IsSome (sym (is client)) (f.entered client below))

  -- by a tail of all changes it follows the journal to its end
  pub following-told : (tail : Tail) → AreNumbered journal → IsFollowing journal old
      → HasAll old.front (length journal) (between old.front (length journal) (changes journal)) tail → new.front ≡ tail.to
      → ((s : ℕ) → kept_of new s ≡ option_map (told tail.changes) (kept_of old s)) → IsFollowing journal new
  following-told tail numbered f all front is =
      let ends : new.front ≡ length journal = front ∙ all.ends in
      let in_order : IsTail old.front new.front tail.changes =
      subst (λ (n : ℕ). IsTail n new.front tail.changes) all.begins (subst (λ (n : ℕ). IsTail tail.from n tail.changes) (sym front) tail.in_order)
      in record {
        reached = omega arith;
        stands = subst (λ (cs : List Change). StandsFor cs new)
            (ap (λ later. followed ++ later) all.exact ∙ changes-split journal old.front numbered ∙ ap (λ (n : ℕ). up_to n (changes journal)) (sym ends))
            (all_stand followed tail.changes old new f.stands in_order is);
        entered = λ client below. subst IsSome (sym (is client)) (some-mapped (told tail.changes) (kept_of old client) (f.entered client below));
      }

  -- by the answer: Ok follows to the journal's end, an error leaves what is kept as it was
  pub following-after : {E : Type 0} (r : Result (Unit {0}) E) (tail : Tail) → AreNumbered journal → IsFollowing journal old
      → HasAll old.front (length journal) (between old.front (length journal) (changes journal)) tail → OnOk r (new.front ≡ tail.to)
      → OnOk r ((s : ℕ) → kept_of new s ≡ option_map (told tail.changes) (kept_of old s))
      → OnErr r (new.front ≡ old.front) → OnErr r ((s : ℕ) → kept_of new s ≡ kept_of old s) → IsFollowing journal new
  following-after (Ok u) tail numbered f all front is g h = following-told tail numbered f all front is
  following-after (Err e) tail numbered f all g h front is = following-same f front is

  -- what one subscriber keeps changed, and stands for the changes
  pub following-one : (client : ℕ) (f : Kept → Kept) → IsFollowing journal old → new.front ≡ old.front
      → ((s : ℕ) → kept_of new s ≡ with_kept old client (option_map f (kept_of old client)) s)
      → ((k : Kept) → kept_of old client ≡ Some k → KeptFor followed old.front (f k)) → IsFollowing journal new
  following-one client f following front is stands =
      by_front following front
      (one_stands followed old new client (option_map f (kept_of old client)) following.stands front is (λ k e. here k (kept_of old client) refl e))
      (λ s below. subst IsSome (sym (is s)) (there s (is_at (nat_cmp client) s) refl (following.entered s below)))
    where
      here : (k : Kept) (o : Option Kept) → kept_of old client ≡ o → option_map f o ≡ Some k → KeptFor followed old.front k
      here k None e is = absurd (cc)
      here k (Some x) e is = let same : f x ≡ k = cc in subst (KeptFor followed old.front) same (stands x e)

      there : (s : ℕ) (b : Bool) → is_at (nat_cmp client) s ≡ b → IsSome (kept_of old s) → IsSome (cond b (option_map f (kept_of old client)) (kept_of old s))
      there s true e entered = some-mapped f (kept_of old client) (subst (λ (n : ℕ). IsSome (kept_of old n)) (sym (same_number client s e)) entered)
      there s false e entered = entered

-- ---- who is told, and what was taken

-- whether what is kept, if it is, has an address
abbrev told_in : Address → Option Kept → Bool
told_in a o = option_map_or (λ kept. is_address kept a) o false

-- up to where what is kept, if it is, has taken
abbrev taken_in : Option Kept → ℕ
taken_in o = option_map_or (λ kept. kept.taken) o 0

module _ (old new : Registered) where
  -- to be told of changes alters neither
  pub told-as : (changes : List Change) → ((s : ℕ) → kept_of new s ≡ option_map (told changes) (kept_of old s)) → (c : ℕ) (a : Address)
      → is_subscribed new c a ≡ is_subscribed old c a
  told-as changes is c a = ap (told_in a) (is c) ∙ by (kept_of old c)
    where
      by : (o : Option Kept) → told_in a (option_map (told changes) o) ≡ told_in a o
      by None = refl
      by (Some kept) = refl

  -- nor does it alter up to where a subscriber has taken
  pub taken-as : (changes : List Change) → ((s : ℕ) → kept_of new s ≡ option_map (told changes) (kept_of old s)) → (c : ℕ) → taken_by new c ≡ taken_by old c
  taken-as changes is c = ap taken_in (is c) ∙ by (kept_of old c)
    where
      by : (o : Option Kept) → taken_in (option_map (told changes) o) ≡ taken_in o
      by None = refl
      by (Some kept) = refl

  -- where all that is kept is the same, the addresses are
  pub told-same : ((s : ℕ) → kept_of new s ≡ kept_of old s) → (c : ℕ) (a : Address) → is_subscribed new c a ≡ is_subscribed old c a
  told-same is c a = ap (told_in a) (is c)

  -- and so is up to where each has taken
  pub taken-same : ((s : ℕ) → kept_of new s ≡ kept_of old s) → (c : ℕ) → taken_by new c ≡ taken_by old c
  taken-same is c = ap taken_in (is c)

  module _ (client : ℕ) (f : Kept → Kept) (is : (s : ℕ) → kept_of new s ≡ with_kept old client (option_map f (kept_of old client)) s) where
    -- what alters no one's addresses alters nobody's
    pub told-one : ((k : Kept) (a : Address) → is_address (f k) a ≡ is_address k a) → (c : ℕ) (a : Address) → is_subscribed new c a ≡ is_subscribed old c a
    told-one same c a = ap (told_in a) (is c) ∙ by (is_at (nat_cmp client) c) refl
      where
        each : (o : Option Kept) → told_in a (option_map f o) ≡ told_in a o
        each None = refl
        each (Some k) = same k a

        by : (b : Bool) → is_at (nat_cmp client) c ≡ b → told_in a (cond b (option_map f (kept_of old client)) (kept_of old c)) ≡ is_subscribed old c a
        by true e = each (kept_of old client) ∙ ap (λ (n : ℕ). is_subscribed old n a) (same_number client c e)
        by false e = refl

    -- where the client has taken up to the same number as before, so has everyone
    pub taken-one : ((k : Kept) → (f k).taken ≡ k.taken) → (c : ℕ) → taken_by new c ≡ taken_by old c
    taken-one same c = ap taken_in (is c) ∙ by (is_at (nat_cmp client) c) refl
      where
        each : (o : Option Kept) → taken_in (option_map f o) ≡ taken_in o
        each None = refl
        each (Some k) = same k

        by : (b : Bool) → is_at (nat_cmp client) c ≡ b → taken_in (cond b (option_map f (kept_of old client)) (kept_of old c)) ≡ taken_by old c
        by true e = each (kept_of old client) ∙ ap (λ (n : ℕ). taken_by old n) (same_number client c e)
        by false e = refl

    -- one that is entered has taken up to a number
    pub taken-up_to : (n : ℕ) → IsSome (kept_of old client) → ((k : Kept) → (f k).taken ≡ n) → (c : ℕ) → taken_by new c ≡ cond (c == client) n (taken_by old c)
    taken-up_to n there same c = ap taken_in (is c) ∙ by (is_at (nat_cmp client) c) ∙ ap (λ b. cond b n (taken_by old c)) (same_test client c)
      where
        each : (o : Option Kept) → IsSome o → taken_in (option_map f o) ≡ n
        each None there = absurd (let no : false ≡ true = there in cc)
        each (Some k) there = same k

        by : (b : Bool) → taken_in (cond b (option_map f (kept_of old client)) (kept_of old c)) ≡ cond b n (taken_by old c)
        by true = each (kept_of old client) there
        by false = refl

-- ---- what a client takes

-- an empty list of deltas has its addresses in order
pub none-rising : IsStrictlySortedBy address_cmp (keys_of (let ds : Deltas = [] in ds))
unfolding IsStrictlySortedBy
none-rising = tt

-- addresses stay in order as changes are added
pub rising-with_changes : (changes : List Change) (deltas : Deltas) → IsStrictlySortedBy address_cmp (keys_of deltas)
    → IsStrictlySortedBy address_cmp (keys_of (with_changes deltas changes))
rising-with_changes [] deltas rising = rising
rising-with_changes (c ∷ changes) deltas rising =
    rising-with_changes changes (with_delta deltas c.address c.delta) (sorted-insert_entry address_cmp addresses.total-law c.address
    (after_maybe (delta_at deltas c.address) c.delta) deltas rising)

module _ (journal : Journal) (registry : Registered) (client : ℕ) (following : IsFollowing journal registry) (ended : registry.front ≡ length journal) where
  -- the changes since the client took last
  abbrev since_taken : List Change
  since_taken = between (taken_by registry client) (length journal) (changes journal)

  -- what is pending at an address is what changed there since the client took, where it is told of that
  pending-is : (kept : Kept) → kept_of registry client ≡ Some kept → (a : Address)
      → pending_of registry client a ≡ pending a (filter (λ change. is_subscribed registry client change.address) since_taken)
  pending-is kept found a =
      let stands = following.stands.kept client kept found in
      let taken : kept.taken ≡ taken_by registry client = sym (ap taken_in found) in
      let told : is_address kept a ≡ is_subscribed registry client a = sym (ap (told_in a) found) in
      ap (λ (o : Option Kept). option_and_then (λ k. pending_for k a) o) found
      ∙ ap (composed_after None)
      (stands.deltas a
      ∙ ap (λ b. cond b (deltas_at a (past kept.taken (up_to registry.front (changes journal)))) []) told
      ∙ ap (λ (n : ℕ). cond (is_subscribed registry client a) (deltas_at a (past n (up_to registry.front (changes journal)))) []) taken
      ∙ ap (λ (n : ℕ). cond (is_subscribed registry client a) (deltas_at a (past (taken_by registry client) (up_to n (changes journal)))) []) ended
      ∙ sym (deltas-chosen a (is_subscribed registry client) since_taken))

  -- a feed with its addresses in order is determined by what it has at each, and that is what is pending there
  pub fed : (feed : Fed) → client < CLIENTS → IsStrictlySortedBy address_cmp (keys_of feed.changes) → feed.to ≡ registry.front
      → ((a : Address) → delta_at feed.changes a ≡ pending_of registry client a)
      → feed ≡ record { to = length journal; changes = with_changes [] (filter (λ change. is_subscribed registry client change.address) since_taken) }
  fed feed below rising to is =
      let there = kept-there (kept_of registry client) (following.entered client below) in
      let chosen : List Change = filter (λ change. is_subscribed registry client change.address) since_taken in
      let deltas : feed.changes ≡ with_changes [] chosen =
      same_pairs address_cmp addresses.total-law address_cmp-equal feed.changes (with_changes [] chosen) rising (rising-with_changes chosen [] none-rising)
      (λ a. is a ∙ pending-is there.0 there.1 a ∙ sym (feeds_keep_pending chosen a))
      in
      ap (λ (n : ℕ). let f : Fed = record { to = n; changes = feed.changes } in f) (to ∙ ended)
      ∙ ap (λ (ds : Deltas). let f : Fed = record { to = length journal; changes = ds } in f) deltas

-- the feed of a store, by what it is made of
abbrev feed_by : Journal → (Address → Bool) → ℕ → Fed
feed_by journal told n = record {
  to = length journal;
  changes = with_changes [] (filter (λ change. told change.address) (between n (length journal) (changes journal)));
}

-- a registry that has followed to the end has what the store has, where both tell and took alike
pub fed-by : (journal : Journal) (old mid : Registered) (client : ℕ) (feed : Fed) → IsFollowing journal mid → mid.front ≡ length journal
    → ((c : ℕ) (a : Address) → is_subscribed mid c a ≡ is_subscribed old c a) → ((c : ℕ) → taken_by mid c ≡ taken_by old c)
    → client < CLIENTS → IsStrictlySortedBy address_cmp (keys_of feed.changes) → feed.to ≡ mid.front
    → ((a : Address) → delta_at feed.changes a ≡ pending_of mid client a) → IsFedBy journal old client feed
fed-by journal old mid client feed following ended told taken below rising to is s same_journal same_registry =
    fed journal mid client following ended feed below rising to is
    ∙ ap (λ (f : Address → Bool). feed_by journal f (taken_by mid client)) (fun_ext (told client))
    ∙ ap (feed_by journal (λ a. is_subscribed old client a)) (taken client)
    ∙ ap (λ (j : Journal). feed_by j (λ a. is_subscribed old client a) (taken_by old client)) (sym same_journal)
    ∙ ap (λ (r : Registered). feed_by s.journal (λ a. is_subscribed r client a) (taken_by r client)) (sym same_registry)

-- ---- by an answer

-- a tail of all changes stays one where its ends are named otherwise
pub all-from : (journal : Journal) (tail : Tail) (f g m n : ℕ) → f ≡ g → m ≡ n → HasAll f m (between f m (changes journal)) tail
    → HasAll g n (between g n (changes journal)) tail
all-from journal tail f g m n from to all =
    subst (λ (x : ℕ). HasAll x n (between x n (changes journal)) tail) from (subst (λ (x : ℕ). HasAll f x (between f x (changes journal)) tail) to all)

-- by the answer: to be told alters nobody's addresses, and an error alters nothing
pub told-after : {E : Type 0} (r : Result (Unit {0}) E) (old new : Registered) (changes : List Change)
    → OnOk r ((s : ℕ) → kept_of new s ≡ option_map (told changes) (kept_of old s)) → OnErr r ((s : ℕ) → kept_of new s ≡ kept_of old s)
    → (c : ℕ) (a : Address) → is_subscribed new c a ≡ is_subscribed old c a
told-after (Ok u) old new changes is same = told-as old new changes is
told-after (Err e) old new changes is same = told-same old new same

-- nor, by the answer, up to where any subscriber has taken
pub taken-after : {E : Type 0} (r : Result (Unit {0}) E) (old new : Registered) (changes : List Change)
    → OnOk r ((s : ℕ) → kept_of new s ≡ option_map (told changes) (kept_of old s)) → OnErr r ((s : ℕ) → kept_of new s ≡ kept_of old s)
    → (c : ℕ) → taken_by new c ≡ taken_by old c
taken-after (Ok u) old new changes is same = taken-as old new changes is
taken-after (Err e) old new changes is same = taken-same old new same

-- ---- a client takes

module _ (journal : Journal) (old new : Registered) (client : ℕ) (following : IsFollowing journal old) (front : new.front ≡ old.front)
    (is : (s : ℕ) → kept_of new s ≡ with_kept old client (option_map (emptied old.front) (kept_of old client)) s) where
  -- one that has taken up to the front has nothing left to take, and the others are as they were
  pub following-taken : IsFollowing journal new
  following-taken =
      following-one journal old new client (emptied old.front) following front is
      (λ k e. takes_stand (up_to old.front (changes journal)) old.front k following.stands.followed)

  -- a take alters nobody's addresses
  pub told-taken : (c : ℕ) (a : Address) → is_subscribed new c a ≡ is_subscribed old c a
  told-taken = told-one old new client (emptied old.front) is (λ k a. refl)

  -- the one that takes has then taken up to the front, which is the journal's end
  pub taken-taken : client < CLIENTS → old.front ≡ length journal → (c : ℕ) → taken_by new c ≡ cond (c == client) (length journal) (taken_by old c)
  taken-taken below ended c =
      taken-up_to old new client (emptied old.front) is old.front (following.entered client below) (λ k. refl) c
      ∙ ap (λ (n : ℕ). cond (c == client) n (taken_by old c)) ended

-- ---- an address comes or goes

-- what was missed at an address
missed-is : (journal : Journal) (front from : ℕ) (address : Address) (missed : Tail) (k : Kept) → from ≡ k.taken
    → HasAll from front (of_address address (between from front (changes journal))) missed
    → deltas_at address missed.changes ≡ deltas_at address (past k.taken (up_to front (changes journal)))
missed-is journal front from address missed k taken all =
    ap (deltas_at address) all.exact
    ∙ deltas-chosen address (is_at (address_cmp address)) (between from front (changes journal))
    ∙ ap (λ b. cond b (deltas_at address (between from front (changes journal))) []) ((eq_by_cmp_equiv addresses.total-law).refl address)
    ∙ ap (λ (n : ℕ). deltas_at address (past n (up_to front (changes journal)))) taken

-- by whether it is subscribed already: to subscribe never alters up to where one has taken
taken-subscribed : (address : Address) (missed : List Change) (k : Kept) → (subscribed address missed k).taken ≡ k.taken
taken-subscribed address missed k = by (is_address k address)
  where
    by : (b : Bool) → (cond b k (record k {
      addresses = insert_key address_cmp k.addresses address;
      changes = k.changes ++ of_address address missed;
    })).taken ≡ k.taken
    by true = refl
    by false = refl

module _ (journal : Journal) (old new : Registered) (client from : ℕ) (address : Address) (missed : Tail) (following : IsFollowing journal old)
    (taken : (k : Kept) → kept_of old client ≡ Some k → from ≡ k.taken)
    (all : HasAll from old.front (of_address address (between from old.front (changes journal))) missed) (front : new.front ≡ old.front) where
  -- by the answer: one that subscribes goes on standing with what it missed since it took, an error leaves all as it was
  pub following-tell : {E : Type 0} (r : Result (Unit {0}) E)
      → OnOk r ((s : ℕ) → kept_of new s ≡ with_kept old client (option_map (subscribed address missed.changes) (kept_of old client)) s)
      → OnErr r ((s : ℕ) → kept_of new s ≡ kept_of old s) → IsFollowing journal new
  following-tell (Ok u) is same =
      following-one journal old new client (subscribed address missed.changes) following front is
      (λ k e. subscribes_stand (up_to old.front (changes journal)) missed.changes old.front k address (following.stands.kept client k e)
      (missed-is journal old.front from address missed k (taken k e) all))
  following-tell (Err e) is same = following-same journal old new following front same

  -- by the answer: neither alters up to where anyone has taken
  pub taken-tell : {E : Type 0} (r : Result (Unit {0}) E)
      → OnOk r ((s : ℕ) → kept_of new s ≡ with_kept old client (option_map (subscribed address missed.changes) (kept_of old client)) s)
      → OnErr r ((s : ℕ) → kept_of new s ≡ kept_of old s) → (c : ℕ) → taken_by new c ≡ taken_by old c
  taken-tell (Ok u) is same = taken-one old new client (subscribed address missed.changes) is (taken-subscribed address missed.changes)
  taken-tell (Err e) is same = taken-same old new same

-- at Ok one address changes for one client, and both ways to compare numbers agree on which
pub told-tell : {E : Type 0} (r : Result (Unit {0}) E) (old new : Registered) (client : ℕ) (address : Address) (w : Bool)
    → OnOk r ((s : ℕ) (a : Address) → is_subscribed new s a ≡ cond (is_at (nat_cmp client) s && is_at (address_cmp address) a) w (is_subscribed old s a))
    → OnOk r ((c : ℕ) (a : Address) → is_subscribed new c a ≡ cond ((c == client) && is_at (address_cmp address) a) w (is_subscribed old c a))
told-tell (Ok u) old new client address w tells =
    λ c a. tells c a ∙ ap (λ b. cond (b && is_at (address_cmp address) a) w (is_subscribed old c a)) (same_test client c)
told-tell (Err e) old new client address w tells = tt

-- after an error what is kept is the same, and so are the addresses
pub told-untold : {E : Type 0} (r : Result (Unit {0}) E) (old new : Registered) → OnErr r ((s : ℕ) → kept_of new s ≡ kept_of old s)
    → OnErr r ((c : ℕ) (a : Address) → is_subscribed new c a ≡ is_subscribed old c a)
told-untold (Ok u) old new same = tt
told-untold (Err e) old new same = told-same old new same

module _ (journal : Journal) (old new : Registered) (client : ℕ) (address : Address) (following : IsFollowing journal old) (front : new.front ≡ old.front)
    (is : (s : ℕ) → kept_of new s ≡ with_kept old client (option_map (unsubscribed address) (kept_of old client)) s)
    (tells : (s : ℕ) (a : Address) → is_subscribed new s a ≡ cond (is_at (nat_cmp client) s && is_at (address_cmp address) a) false
    (is_subscribed old s a)) where
  -- one that unsubscribes goes on standing, and the others are as they were
  pub following-hush : IsFollowing journal new
  following-hush =
      following-one journal old new client (unsubscribed address) following front is
      (λ k e. unsubscribes_stand (up_to old.front (changes journal)) old.front k address (following.stands.kept client k e))

  -- to unsubscribe never alters up to where one has taken
  pub taken-hush : (c : ℕ) → taken_by new c ≡ taken_by old c
  taken-hush = taken-one old new client (unsubscribed address) is (λ k. refl)

  -- one address goes for one client, and both ways to compare numbers agree on which
  pub told-hush : (c : ℕ) (a : Address) → is_subscribed new c a ≡ cond ((c == client) && is_at (address_cmp address) a) false (is_subscribed old c a)
  told-hush c a = tells c a ∙ ap (λ b. cond (b && is_at (address_cmp address) a) false (is_subscribed old c a)) (same_test client c)

-- ---- the journal grows

-- the first commits stay, so the changes up to the registry's front do
pub following-longer : (journal later : Journal) (registry : Registered) → AreNumbered journal → AreNumbered (journal ++ later) → IsFollowing journal registry
    → IsFollowing (journal ++ later) registry
following-longer journal later registry first whole f =
    let l = length-append journal later in
    let r = f.reached in
    let same : up_to registry.front (changes journal) ≡ up_to registry.front (changes (journal ++ later)) =
    changes-up_to registry.front 0 registry.front journal (omega arith) first
    ∙ ap changes (sym (take-append-le registry.front journal later f.reached))
    ∙ sym (changes-up_to registry.front 0 registry.front (journal ++ later) (omega arith) whole)
    in record {
      reached = omega arith;
      stands = subst (λ (cs : List Change). StandsFor cs registry) same f.stands;
      entered = f.entered;
    }

-- ---- what was taken last

-- what was read of the one that is kept is its own number
pub last-taken : (o : Option Kept) (n : ℕ) → Some n ≡ option_map (λ (kept : Kept). kept.taken) o → (k : Kept) → o ≡ Some k → n ≡ k.taken
last-taken o n is k e = let both : Some n ≡ Some k.taken = is ∙ ap (option_map (λ (kept : Kept). kept.taken)) e in cc

-- so it is within the front, as each number taken is
pub last-within : (o : Option Kept) (n front : ℕ) → Some n ≡ option_map (λ (kept : Kept). kept.taken) o →
    ((k : Kept) → o ≡ Some k → k.taken ≤ front) → n ≤ front
last-within None n front is each = absurd (cc)
last-within (Some k) n front is each = subst (λ (m : ℕ). m ≤ front) (sym (last-taken (Some k) n is k refl)) (each k refl)

-- where nothing was read nobody is kept
pub nothing-taken : (o : Option Kept) (n : ℕ) → None ≡ option_map (λ (kept : Kept). kept.taken) o → (k : Kept) → o ≡ Some k → n ≡ k.taken
nothing-taken o n is k e = absurd (let no : None ≡ Some k.taken = is ∙ ap (option_map (λ (kept : Kept). kept.taken)) e in cc)

-- what was missed up to a front was missed up to an equal one
pub missed-from : (journal : Journal) (missed : Tail) (address : Address) (from f g : ℕ) → f ≡ g
    → HasAll from f (of_address address (between from f (changes journal))) missed
    → HasAll from g (of_address address (between from g (changes journal))) missed
missed-from journal missed address from f g same all = subst (λ (x : ℕ). HasAll from x (of_address address (between from x (changes journal))) missed) same all
