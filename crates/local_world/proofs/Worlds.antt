-- Each call of a world goes by the step, and leaves its parts standing for its journal.
use Rattle.std.proofs.Common.{◌≡◌, ℕ, ◌+◌, ◌-◌, ◌≤◌, ◌<◌, Bool, true, false, cond, ◌&&◌, max, List, [], ◌∷◌, ◌++◌, length, take, get_or, set, Option}
use Rattle.std.proofs.Common.{Some, None, inl, inr, refl, sym, ap, ◌∙◌, subst, arith}
use Rattle.std.specs.Prelude.{◌⊎◌, ◌==◌}
use Rattle.std.specs.List.{AllByRecursion}
use Rattle.std.specs.BTreeMap.{is_at}
use Rattle.rdt_types.specs.declared.settings.Settings.{Settings}
use Rattle.rdt_types.specs.declared.address.Address.{Address}
use Rattle.rdt_types.specs.Addresses.{address_cmp}
use Rattle.rdt_types.specs.Shards.{shard_of}
use Rattle.change_feed.specs.Feeds.{Fed}
use Rattle.txn_lang.specs.declared.snaps.Snap.{Snap}
use Rattle.txn_lang.specs.States.{Journal, state}
use Rattle.abort_witness.specs.declared.witness.Based.{Based}
use Rattle.abort_witness.specs.Kinds.{IsBasedOfOneKind}
use Rattle.txn_lang.specs.Journals.{IsLegal, own}
use Rattle.txn_lang.specs.Tree.{tree}
use Rattle.txn_eval.specs.Running.{values_of}
use Rattle.journal_core.specs.declared.hold.Barred.{Barred}
use Rattle.journal_core.specs.declared.ready.Ready.{Ready}
use Rattle.journal_core.specs.Holds.{observed_alone, seen_behind, seen_by}
use Rattle.journal_core.specs.Pairs.{pairs, least_pair, past_fronts, AreNumbered}
use Rattle.journal_core.specs.Readies.{made_of}
use Rattle.abort_witness.specs.declared.witness.Witness.{Witness}
use Rattle.journal_core.specs.Journals.{Standing, found_past}
use Rattle.hold_core.specs.Books.{Holding, book_of}
use Rattle.version_shard.specs.Shards.{Sharded}
use Rattle.version_shard.specs.Standing.{Holds}
use Rattle.reactive_registry.specs.Registered.{Registered, is_subscribed}
use Rattle.docc_prepare.specs.Calls.{Call, Answer}
use Rattle.docc_prepare.specs.Backends.{CanCall, CanValidate, CanPrepare, CanAppend}
use Rattle.docc_prepare.specs.Witnesses.{least_witness}
use Rattle.docc_prepare.proofs.Each.{each-more}
use Rattle.docc_prepare.proofs.Growing.{legal_is_orderly}
use Rattle.docc_prepare.proofs.Missing.{none-of-least}
use Rattle.docc_prepare.proofs.Undisturbed.{runs_as_it_ran}
use Rattle.docc_prepare.proofs.Stored.{IsOf, one-kinds, found-is, stalled-sound, followed-sound}
use Rattle.docc_prepare.proofs.Nexts.{appends}
use Rattle.docc_prepare.specs.declared.limits.TheConstants.{CLIENTS}
use Rattle.docc_prepare.specs.Stores.{Store, least_base, late_base, validated, decided, telling, followed, HasStalled, Does, IsSound, known_by}
use Rattle.local_world.specs.Stored.{Stored, taken_by, store_of}
use Rattle.local_world.specs.Standing.{IsHeld, AreHeld, HaveRisen, IsFollowing, IsFedBy, IsKept, fronts_of, stored}
use Rattle.local_world.specs.Answering.{GoesBy, back_at}
use Rattle.local_world.specs.Deciding.{MayDecide, HasJournal, IsDecided}
use Rattle.local_world.proofs.Holding.{front-at, shard-there, held-there, held-all-longer}
use Rattle.local_world.proofs.Registries.{following-longer}
use Rattle.local_world.proofs.Going.{goes_by, sound_after, stalled, unchanged, told_alike, does-read, does-prepare, does-read_at, does-append}
use Rattle.local_world.proofs.Going.{does-told, does-take}

-- what an append leaves is the journal, or one commit more
left-cases : (s : Store) (client : ℕ) (ready : Ready) (o : Option Witness) (b : Option Barred) (full : Bool) (left : Journal)
    → left ≡ (decided s client ready o b full).0.journal → (left ≡ s.journal) ⊎ (left ≡ s.journal ++ made_of s.journal ready ∷ [])
left-cases s client ready (Some w) b full left is = inl is
left-cases s client ready None (Some b) full left is = inl is
left-cases s client ready None None true left is = inl is
left-cases s client ready None None false left is = inr is

module _ (settings : Settings) (standing : Standing) (shards : List Sharded) (seens : List ℕ) (registry : Registered)
    (book : Holding) (kept : IsKept settings standing shards seens registry book) (client : ℕ) (below : client < CLIENTS) where
  -- the world before the call
  abbrev old : Stored
  old = stored settings standing.commits shards seens registry

  -- it goes by the step, wherever the world stands in its variable
  pub goes : (self : Stored) (new : Stored) (c : Call) (a : Answer) → old ≡ self → CanCall (known_by (store_of self) client) c
      → (CanCall (known_by (store_of old) client) c → Does (store_of old) client c a (store_of new)) → GoesBy self client c a new
  goes self new c a is can does =
      let here : CanCall (known_by (store_of old) client) c = subst (λ (o : Stored). CanCall (known_by (store_of o) client) c) (sym is) can in
      subst (λ (o : Stored). GoesBy o client c a new) is (goes_by old new client c a kept.sound below here (does here))

  -- what goes by the step is a sound store, and the parts stand for its journal as before
  pub stays : (shards' : List Sharded) (seens' : List ℕ) (registry' : Registered) (c : Call) (a : Answer)
      → CanCall (known_by (store_of old) client) c → Does (store_of old) client c a (store_of (stored settings standing.commits shards' seens' registry'))
      → AreHeld standing.commits settings shards' → IsFollowing standing.commits registry' → IsKept settings standing shards' seens' registry' book
  stays shards' seens' registry' c a can does held following = record {
    sound = sound_after (store_of old) (store_of (stored settings standing.commits shards' seens' registry')) client c a kept.sound below can does;
    all_shards = kept.all_shards;
    limit_is = kept.limit_is;
    held = held;
    following = following;
    book_is = kept.book_is;
  }

  -- the client is one of those whose number of seen commits is kept
  pub client-there : client < length seens
  client-there = let n = kept.sound.all_clients in omega arith

  -- what the client has seen is within the journal
  pub seen-within : get_or seens client 0 ≤ length standing.commits
  seen-within = kept.sound.seen client

  -- ---- calls

  -- a refresh sets what the client has seen to the journal's length, which it answers
  pub refreshing : (seens' : List ℕ) (n : ℕ) → n ≡ length standing.commits → seens' ≡ set seens client n
      → Does (store_of old) client Call.refresh (Answer.number n) (store_of (stored settings standing.commits shards seens' registry))
  refreshing seens' n is seen =
      ap (λ (ns : List ℕ). let p : Store × Answer = (store_of (stored settings standing.commits shards ns registry), Answer.number n) in p) seen
      ∙ ap (λ (k : ℕ). let p : Store × Answer = (store_of (stored settings standing.commits shards (set seens client k) registry), Answer.number k) in p) is

  -- where memory was wanting only fronts have risen, within the journal
  pub want : (shards' : List Sharded) → HaveRisen standing.commits (fronts_of shards) (fronts_of shards')
      → HasStalled (store_of old) (store_of (stored settings standing.commits shards' seens registry))
  want shards' risen = stalled old (fronts_of shards') risen

  -- a read gives the state at the front that its shard has then reached, and the client has seen as much
  pub reading : (address : Address) (shards' : List Sharded) (seens' : List ℕ) (snap : Snap)
      → snap.base ≡ max (get_or (fronts_of shards) (shard_of address settings.shards) 0) (get_or seens client 0)
      → snap.value ≡ state standing.commits snap.base address
      → fronts_of shards' ≡ set (fronts_of shards) (shard_of address settings.shards) snap.base → seens' ≡ set seens client snap.base
      → Does (store_of old) client (Call.read address) (Answer.snap snap) (store_of (stored settings standing.commits shards' seens' registry))
  reading address shards' seens' snap base value moved seen =
      subst (λ (ns : List ℕ). Does (store_of old) client (Call.read address) (Answer.snap snap)
      (store_of (stored settings standing.commits shards' ns registry))) (sym seen)
      (does-read old client address (fronts_of shards') snap base value moved)

  -- a take hands on the store's feed, and the client has then taken and seen all of the journal
  pub taking : (feed : Fed) (seens' : List ℕ) (registry' : Registered) → IsFedBy standing.commits registry client feed
      → ((c : ℕ) (a : Address) → is_subscribed registry' c a ≡ is_subscribed registry c a)
      → ((c : ℕ) → taken_by registry' c ≡ cond (c == client) (length standing.commits) (taken_by registry c)) → seens' ≡ set seens client feed.to
      → Does (store_of old) client Call.take (Answer.feed feed) (store_of (stored settings standing.commits shards seens' registry'))
  taking feed seens' registry' fed told taken seen =
      subst (λ (ns : List ℕ). Does (store_of old) client Call.take (Answer.feed feed)
      (store_of (stored settings standing.commits shards ns registry'))) (sym seen)
      (does-take old client registry' feed fed told taken)

  -- where memory was wanting the registry may have followed, which alters nobody's addresses and nothing taken
  pub not_taking : (registry' : Registered) → ((c : ℕ) (a : Address) → is_subscribed registry' c a ≡ is_subscribed registry c a)
      → ((c : ℕ) → taken_by registry' c ≡ taken_by registry c) → HasStalled (store_of old) (store_of (stored settings standing.commits shards seens registry'))
  not_taking registry' told taken = told_alike old registry' kept.sound told taken

  -- an address is told from now on, or no longer
  pub telling-to : (address : Address) (told : Bool) (registry' : Registered)
      → ((c : ℕ) (a : Address) → is_subscribed registry' c a ≡ cond ((c == client) && is_at (address_cmp address) a) told (is_subscribed registry c a))
      → ((c : ℕ) → taken_by registry' c ≡ taken_by registry c)
      → store_of (stored settings standing.commits shards seens registry') ≡ telling (store_of old) client address told
  telling-to address told registry' tells taken = does-told old client address told registry' tells taken

  -- a read at a number moves its shard's front to it, and answers what the step does there
  pub backing : (address : Address) (number : ℕ) (shards' : List Sharded) (a : Answer)
      → fronts_of shards' ≡ set (fronts_of shards) (shard_of address settings.shards)
      (max (get_or (fronts_of shards) (shard_of address settings.shards) 0) number)
      → a ≡ back_at standing.commits settings.window address number (max (get_or (fronts_of shards) (shard_of address settings.shards) 0) number)
      → Does (store_of old) client (Call.read_at address number) a (store_of (stored settings standing.commits shards' seens registry))
  backing address number shards' a moved is = does-read_at old client address number (fronts_of shards') a moved is

  -- where memory was wanting from the first, nothing changed
  pub want_nothing : HasStalled (store_of old) (store_of old)
  want_nothing = unchanged (store_of old) kept.sound

  -- ---- a preparing

  module _ (shard : ℕ) (based : List Based) (s : Sharded) (can : CanPrepare (known_by (store_of old) client) shard based) (at : s ≡ get_or shards shard s) where
    -- the shard holds the journal up to its front
    here : IsHeld standing.commits settings shard s
    here = held-there standing.commits settings shards kept.held shard s can.below at

    -- each observation is in the shard, as the client owes it
    pub all-here : AllByRecursion (λ b. shard_of b.address s.shards ≡ s.number) based
    all-here =
        each-more (CanValidate (known_by (store_of old) client) shard) (λ (b : Based). shard_of b.address s.shards ≡ s.number) based
        (λ b v. ap (shard_of b.address) here.shards ∙ v.here ∙ sym here.number) can.each

    -- and it is of its address' kind
    pub all-kinds : AllByRecursion IsBasedOfOneKind based
    all-kinds = each-more (CanValidate (known_by (store_of old) client) shard) IsBasedOfOneKind based (λ b v. v.one_kind) can.each

    -- what the shard answers at its front is what the step does, as its number and window are those of the world
    pub preparing : (a : Answer) (seens' : List ℕ) (all : List Based) → all ≡ based
        → ((journal : Journal) → IsLegal 0 journal → Holds (take s.front journal) s
        → a ≡ validated s.number s.front (s.front - s.window) (late_base (s.front - s.window) (least_base all)) (least_witness all (take s.front journal)))
        → seens' ≡ set seens client (max (get_or seens client 0) s.front)
        → Does (store_of old) client (Call.prepare shard based) a (store_of (stored settings standing.commits shards seens' registry))
    preparing a seens' all alike is seen =
        let front = get_or (fronts_of shards) shard 0 in
        let same : front ≡ s.front = front-at shards shard s (shard-there standing.commits settings shards kept.held shard s can.below at) in
        let made : ℕ → ℕ → ℕ → Answer = λ k f w. validated k f (f - w) (late_base (f - w) (least_base based)) (least_witness based (take f standing.commits)) in
        subst (λ (ns : List ℕ). Does (store_of old) client (Call.prepare shard based) a (store_of (stored settings standing.commits shards ns registry)))
        (sym (seen ∙ ap (λ (f : ℕ). set seens client (max (get_or seens client 0) f)) (sym same)))
        (does-prepare old client shard based a
        (is standing.commits kept.sound.legal here.holds
        ∙ ap (λ (bs : List Based). validated s.number s.front (s.front - s.window) (late_base (s.front - s.window) (least_base bs))
        (least_witness bs (take s.front standing.commits))) alike
        ∙ ap (λ k. made k s.front s.window) here.number ∙ ap (λ f. made shard f s.window) (sym same) ∙ ap (made shard front) here.window))

  -- ---- an append

  module _ (ready : Ready) (can : CanAppend (known_by (store_of old) client) ready) where
    -- what is handed on is of the attempt that the client owes
    of : IsOf (store_of old) client ready can.attempt
    of = record {
      fits = can.told.fits;
      runs = appends can.attempt ready.run can.next;
      made = can.made;
      text = can.text;
      all_shards = can.all_shards;
      next = can.told.seq;
    }

    -- it is this client's
    mine : ready.client ≡ client
    mine = ap (λ (r : Ready). r.client) of.made

    -- without a pair the attempt's body runs behind the whole journal as it ran
    runs-alone : least_pair ready.based standing.commits ≡ None → observed_alone standing.commits (made_of standing.commits ready) ≡ ready.run.observations
    runs-alone none =
        let clear : pairs ready.based standing.commits ≡ [] = none-of-least (pairs ready.based standing.commits) none in
        ap (λ (r : Ready). seen_behind standing.commits (tree r.body)) of.made
        ∙ ap (seen_behind standing.commits) of.text
        ∙ ap seen_by (runs_as_it_ran standing.commits can.attempt ready.run (legal_is_orderly standing.commits kept.sound.legal)
        (record { fits = of.fits; runs = of.runs; undisturbed = ap (λ (r : Ready). pairs r.based standing.commits) (sym of.made) ∙ clear }))

    -- to look past the fronts is to look at all
    looks-at-all : found_past ready standing ≡ least_pair ready.based standing.commits
    looks-at-all =
        ap (λ (n : ℕ). least_pair (past_fronts n ready.fronts ready.based) standing.commits) kept.all_shards
        ∙ found-is (store_of old) kept.sound client ready can.attempt of

    -- the attempt fits the journal and its run is done, so the journal may decide on what it hands on
    pub may-decide : MayDecide ready standing
    may-decide = record {
      legal = kept.sound.legal;
      run = record {
        body = can.attempt.body.body;
        values = values_of can.attempt.snaps;
        read = ap (λ (r : Ready). tree r.body) of.made ∙ of.text;
        ran = of.runs;
      };
      body_text = can.body_text;
      next = of.next ∙ ap (λ (n : ℕ). length (own n standing.commits) + 1) (sym mine);
      spared = looks-at-all;
      kinds = one-kinds (store_of old) kept.sound client ready can.attempt of;
      few = can.few;
      alone = λ clear. runs-alone (sym looks-at-all ∙ clear);
    }

    -- the store of the world has the journal's commits and settings
    has-journal : HasJournal (store_of old) standing
    has-journal = record { journal = refl; shards = sym kept.all_shards; limit = sym kept.limit_is }

    -- what the journal decides is the step's answer and leaves the step's journal, which the client has then seen
    pub appending : (a : Answer) (standing' : Standing) (seens' : List ℕ) (n : ℕ)
        → ((s : Store) → HasJournal s standing → IsDecided s ready a standing'.commits) → n ≡ length standing'.commits → seens' ≡ set seens client n
        → Does (store_of old) client (Call.append ready) a (store_of (stored settings standing'.commits shards seens' registry))
    appending a standing' seens' n decides number seen =
        let after : List ℕ → Store = λ ns. store_of (stored settings standing'.commits shards ns registry) in
        subst (λ (ns : List ℕ). Does (store_of old) client (Call.append ready) a (after ns)) (sym (seen ∙ ap (set seens client) number))
        (subst (λ (c : ℕ). Does (store_of old) c (Call.append ready) a (after (set seens c (length standing'.commits)))) mine
        (does-append old ready a standing'.commits (decides (store_of old) has-journal)))

    -- what the store's journal is after it: the same, or one commit longer
    pub held-after : (later : Journal) → AreHeld (standing.commits ++ later) settings shards
    held-after later = held-all-longer standing.commits later settings shards kept.held

    -- the shards and the registry go on standing for it
    pub appended : (a : Answer) (standing' : Standing) (seens' : List ℕ) (n : ℕ) (book' : Holding)
        → ((s : Store) → HasJournal s standing → IsDecided s ready a standing'.commits) → n ≡ length standing'.commits → seens' ≡ set seens client n
        → standing'.shards ≡ standing.shards → standing'.limit ≡ standing.limit → book' ≡ book_of 0 standing'.commits
        → IsKept settings standing' shards seens' registry book'
    appended a standing' seens' n book' decides number seen all_shards limit book_is =
        let new : Store = store_of (stored settings standing'.commits shards seens' registry) in
        let sound : IsSound new = sound_after (store_of old) new client (Call.append ready) a kept.sound below can
        (appending a standing' seens' n decides number seen) in
        let orderly = legal_is_orderly standing'.commits sound.legal in
        elim (left-cases (store_of old) ready.client ready _ _ _ standing'.commits (decides (store_of old) has-journal).journal) [
          | inl e ↦ record {
            sound = sound;
            all_shards = all_shards ∙ kept.all_shards;
            limit_is = limit ∙ kept.limit_is;
            held = subst (λ (j : Journal). AreHeld j settings shards) (sym e) kept.held;
            following = subst (λ (j : Journal). IsFollowing j registry) (sym e) kept.following;
            book_is = book_is;
          }
          | inr e ↦ record {
            sound = sound;
            all_shards = all_shards ∙ kept.all_shards;
            limit_is = limit ∙ kept.limit_is;
            held = subst (λ (j : Journal). AreHeld j settings shards) (sym e)
                (held-all-longer standing.commits (made_of standing.commits ready ∷ []) settings shards kept.held);
            following = subst (λ (j : Journal). IsFollowing j registry) (sym e)
                (following-longer standing.commits (made_of standing.commits ready ∷ []) registry (legal_is_orderly standing.commits kept.sound.legal).numbered
                (subst AreNumbered e orderly.numbered) kept.following);
            book_is = book_is;
          }
        ]

    -- for want of memory nothing was appended
    pub not_appended : (standing' : Standing) (book' : Holding) → standing'.commits ≡ standing.commits → standing'.shards ≡ standing.shards
        → standing'.limit ≡ standing.limit → book' ≡ book_of 0 standing'.commits → IsKept settings standing' shards seens registry book'
    not_appended standing' book' same all_shards limit book_is = record {
      sound = subst (λ (j : Journal). IsSound (store_of (stored settings j shards seens registry))) (sym same) kept.sound;
      all_shards = all_shards ∙ kept.all_shards;
      limit_is = limit ∙ kept.limit_is;
      held = subst (λ (j : Journal). AreHeld j settings shards) (sym same) kept.held;
      following = subst (λ (j : Journal). IsFollowing j registry) (sym same) kept.following;
      book_is = book_is;
    }

    -- for want of memory the journal stays as it is, and the store with it
    pub stands_still : (standing' : Standing) → standing'.commits ≡ standing.commits
        → Does (store_of old) client (Call.append ready) (Answer.failed false) (store_of (stored settings standing'.commits shards seens registry))
    stands_still standing' same = (
      refl,
      subst (λ (j : Journal). HasStalled (store_of old) (store_of (stored settings j shards seens registry))) (sym same)
          (unchanged (store_of old) kept.sound),
    )

  -- ---- a shard follows

  module _ (shard : ℕ) (shards' : List Sharded) (seens' : List ℕ) (n : ℕ) (end : n ≡ length standing.commits)
      (moved : fronts_of shards' ≡ set (fronts_of shards) shard (max (get_or (fronts_of shards) shard 0) n))
      (seen : seens' ≡ set seens client (max (get_or seens client 0) n)) where
    -- no front is past the journal's end, so the shard's goes there and the client has seen as much
    pub followed-to : store_of (stored settings standing.commits shards' seens' registry) ≡ followed (store_of old) client shard
    followed-to =
        let made : List ℕ → List ℕ → Store = λ fs ns. store_of (record old { fronts = fs; seens = ns }) in
        let reached = kept.sound.reached shard in
        let all : max (get_or (fronts_of shards) shard 0) n ≡ length standing.commits = omega arith in
        ap (λ fs. made fs seens') (moved ∙ ap (set (fronts_of shards) shard) all)
        ∙ ap (made (set (fronts_of shards) shard (length standing.commits))) (seen ∙ ap (λ (k : ℕ). set seens client (max (get_or seens client 0) k)) end)

    -- a shard that follows leaves a sound store, and the other parts as they are
    pub followed-kept : AreHeld standing.commits settings shards' → IsKept settings standing shards' seens' registry book
    followed-kept held = record {
      sound = subst IsSound (sym followed-to) (followed-sound (store_of old) client kept.sound shard);
      all_shards = kept.all_shards;
      limit_is = kept.limit_is;
      held = held;
      following = kept.following;
      book_is = kept.book_is;
    }

  -- for want of memory it may have followed some of the way
  pub stalled-kept : (shards' : List Sharded) → HaveRisen standing.commits (fronts_of shards) (fronts_of shards') → AreHeld standing.commits settings shards'
      → IsKept settings standing shards' seens registry book
  stalled-kept shards' risen held = record {
    sound = stalled-sound (store_of old) (store_of (stored settings standing.commits shards' seens registry)) kept.sound (want shards' risen);
    all_shards = kept.all_shards;
    limit_is = kept.limit_is;
    held = held;
    following = kept.following;
    book_is = kept.book_is;
  }
