-- Each step of a store meets the clause of every call.
use Rattle.std.proofs.Common.{◌≡◌, ℕ, ◌+◌, ◌-◌, ◌≤◌, ◌<◌, Bool, true, false, cond, max, ◌&&◌, ◌||◌, not, List, [], ◌∷◌, length, take}
use Rattle.std.proofs.Common.{get_or, set, Option, Some, None, ◌⊎◌, inl, inr, refl, sym, ap, ◌∙◌, subst, arith}
use Rattle.std.specs.Prelude.{nat_lt, nat_le, ◌==◌}
use Rattle.std.specs.List.{AllByRecursion}
use Rattle.std.specs.Option.{option_and_then}
use Rattle.std.specs.BTreeMap.{is_at}
use Rattle.std.proofs.Math.Seq.{take-length, take-append_seam}
use Rattle.std.proofs.lemmas.List.{length-append, length-take, get_or-set_same}
use Rattle.std.proofs.lemmas.Bool.{eq-eqb}
use Rattle.std.proofs.lemmas.Bool.Decides.{nat_tests}
use Rattle.dio_core.specs.Counts.{IsCounted}
use Rattle.rdt_types.specs.declared.address.Address.{Address}
use Rattle.rdt_types.specs.Addresses.{address_cmp}
use Rattle.rdt_types.specs.Shards.{shard_of}
use Rattle.rdt_types.specs.Values.{kind_of}
use Rattle.rdt_types.specs.Deltas.{kind_changed}
use Rattle.change_feed.specs.declared.change.Change.{Change}
use Rattle.change_feed.specs.Pending.{pending}
use Rattle.abort_witness.specs.declared.witness.Based.{Based}
use Rattle.abort_witness.specs.declared.witness.Witness.{Witness}
use Rattle.abort_witness.specs.Kinds.{IsBasedOfOneKind}
use Rattle.txn_lang.specs.declared.commit.Commit.{Commit}
use Rattle.txn_lang.specs.States.{Journal, state}
use Rattle.journal_core.specs.declared.ready.Ready.{Ready}
use Rattle.journal_core.specs.declared.hold.Barred.{Barred}
use Rattle.journal_core.specs.Changes.{changes, up_to, between}
use Rattle.journal_core.specs.Pairs.{pairs}
use Rattle.journal_core.specs.Readies.{made_of}
use Rattle.journal_core.proofs.Holding.{barred-within}
use Rattle.docc_prepare.specs.Serial.{AreOfTheirKinds, IsOrderly}
use Rattle.docc_prepare.specs.Witnesses.{witness_of, least_witness}
use Rattle.docc_prepare.specs.Calls.{Known, Call, Answer, is_fault}
use Rattle.docc_prepare.specs.Backends.{CanValidate, CanPrepare, CanAppend, CanCall, IsTaken, Row, OwnRow, SaysOfJournal, Shows, Keeps}
use Rattle.docc_prepare.specs.Backends.{Gives, subscribed_after, taken_after, denied_after, KnowsDenials, IsAnswered}
use Rattle.docc_prepare.specs.Stores.{Store, CLIENTS, front_of, seen_by, saw, moved, committed, telling, took, least_base, late_base, validated}
use Rattle.docc_prepare.specs.Stores.{witness_past, barred_by, decided, read_back, feed_for, step, HasStalled, Does, IsSound}
use Rattle.docc_prepare.specs.Stores.{known_by, StepsAreAnswered}
use Rattle.docc_prepare.proofs.Each.{each-more, each-take, each-filter}
use Rattle.docc_prepare.proofs.OfOneKind.{kind-left}
use Rattle.docc_prepare.proofs.Growing.{legal_is_orderly}
use Rattle.docc_prepare.proofs.Missing.{none-of-least}
use Rattle.docc_prepare.proofs.Nexts.{appends}
use Rattle.docc_prepare.proofs.Witnessed.{none-of-witness, witness-within, orderly-front, witness-of-front}
use Rattle.docc_prepare.proofs.Feeding.{fed-is-pending, kinds-of-changes, kinds-fed}
use Rattle.docc_prepare.proofs.LeastBase.{late-is}
use Rattle.docc_prepare.proofs.Stored.{IsOf, one-kinds, found-is, all-clear, commits-legally, StepsSoundly, step-sound, with_fronts, stalled-sound}
use Rattle.docc_prepare.proofs.Stored.{Grown, step-grows, stalled-grows, same-client, kept-given, does-one}

-- ---- tests

-- a number that is the front counts as reached
is-reached : (n front : ℕ) → front ≡ n → nat_le n front ≡ true
is-reached n front e = grind (arith, nat_tests)

-- what counts as reached is at most the front
reached-is : (n front : ℕ) → nat_le n front ≡ true → n ≤ front
reached-is n front e = grind (arith, nat_tests)

-- what is tested as below is below
below-is : (a b : ℕ) → nat_lt a b ≡ true → a < b
below-is a b e = grind (arith, nat_tests)

-- a client that subscribes is told of the address, and of what it was told of before
told-now : (mine here was : Bool) → mine ≡ true → cond (mine && here) true was ≡ (here || was)
told-now true true was e = refl
told-now true false was e = refl
told-now false here was e = absurd (cc)

-- a client that unsubscribes is told of the address no longer, and of all else as before
untold-now : (mine here was : Bool) → mine ≡ true → cond (mine && here) false was ≡ (not here && was)
untold-now true true was e = refl
untold-now true false was e = refl
untold-now false here was e = absurd (cc)

-- ---- the steps

-- what a client may hand on is of an attempt
of-append : (s : Store) (c : ℕ) (ready : Ready) (can : CanAppend (known_by s c) ready) → IsOf s c ready can.attempt
of-append s c ready can = record {
  fits = can.told.fits;
  runs = appends can.attempt ready.run can.next;
  made = can.made;
  text = can.text;
  all_shards = can.all_shards;
  next = can.told.seq;
}

module _ (s : Store) (sound : IsSound s) (c : ℕ) (ours : c < CLIENTS) where
  -- what the client knows before the call
  abbrev k : Known
  k = known_by s c

  -- the store's journal is legal, and so orderly
  orderly : IsOrderly s.journal
  orderly = legal_is_orderly s.journal sound.legal

  -- what a client has just seen is what it has seen
  seen-set : (n : ℕ) → get_or (set s.seens c n) c 0 ≡ n
  seen-set n = let all = sound.all_clients in get_or-set_same s.seens c n 0 (omega arith)

  -- of all that is said of a client's requests nothing changed
  abbrev Quiet : Store → Call → Answer → Type 0
  Quiet t call a =
      IsCounted (is_fault a) 0 0
      × ((address : Address) → t.subscribed c address ≡ subscribed_after k call a address)
      × (t.taken c ≡ taken_after k call a)
      × (0 ≡ denied_after k call a)
      × KnowsDenials k (known_by t c) call a

  -- what the answer shows and its row hold where the journal stays as it is
  abbrev Says : Store → Call → Answer → Type 0
  Says t call a = Shows k (known_by t c) call a × Row k (known_by t c) s.journal s.journal call a × OwnRow c s.journal s.journal call a

  -- what was given stays given, since fronts only rise
  keeps-of : (t : Store) (call : Call) → Grown s t → Keeps call k (known_by t c)
  keeps-of t (Call.append ready) grown = tt
  keeps-of t call grown = kept-given s t c grown

  -- the clause of a call that adds nothing to the journal
  answered : (t : Store) (call : Call) (a : Answer) → Grown s t → s.journal ≡ t.journal → seen_by s c ≤ seen_by t c → seen_by t c ≤ length s.journal
      → Quiet t call a → Gives call a (known_by t c) → Says t call a → IsAnswered k call a (known_by t c)
  answered t call a grown e rose within quiet gives says = record {
    client = same-client s t c grown;
    goes_on = record {
      seen = rose;
      draws = omega arith;
      looks = omega arith;
      faults = quiet.0;
      subscribed = quiet.1;
      taken = quiet.2;
      denied = quiet.3;
      denials = quiet.4;
    };
    keeps = keeps-of t call grown;
    gives = gives;
    shows = says.0;
    told = subst (λ (j : Journal). SaysOfJournal k (known_by t c) call a s.journal j) e
        (record { grows = take-length s.journal; legal = sound.legal; within = within; row = says.1; same_own = says.2 });
  }

  -- a refresh answers the journal's length, and the client has then seen as many
  refreshed : IsAnswered k Call.refresh (Answer.number (length s.journal)) (known_by (saw s c (length s.journal)) c)
  refreshed =
      let e = seen-set (length s.journal) in
      let n = sound.seen c in
      answered (saw s c (length s.journal)) Call.refresh (Answer.number (length s.journal)) (step-grows s c Call.refresh) refl (omega arith) (omega arith)
      (refl, (λ a. refl), refl, refl, omega arith) tt (sym e, e, refl)

  -- ---- reads

  -- the state at an address is of its kind, since all deltas of an orderly journal are of theirs
  kind-of-state : (n : ℕ) (a : Address) → kind_of (state s.journal n a) ≡ a.kind
  kind-of-state n a = kind-left (take n s.journal) a (each-take (λ (commit : Commit). AreOfTheirKinds commit.deltas) n s.journal orderly.kinds)

  -- a read moves its shard to what the client has seen, if it is behind, and gives the state at that front
  read-answered : (a : Address) (f : ℕ) → f ≡ max (front_of s (shard_of a s.shards)) (seen_by s c) → Grown s (saw (moved s (shard_of a s.shards) f) c f)
      → IsAnswered k (Call.read a) (Answer.snap (record { base = f; value = state s.journal f a })) (known_by (saw (moved s (shard_of a s.shards) f) c f) c)
  read-answered a f is grown =
      let i = shard_of a s.shards in
      let e = seen-set f in
      let n = sound.seen c in
      let r = sound.reached (shard_of a s.shards) in
      let some = sound.some in
      let all = sound.all_shards in
      let here = get_or-set_same s.fronts i f 0 (omega arith) in
      answered (saw (moved s i f) c f) (Call.read a) (Answer.snap (record { base = f; value = state s.journal f a })) grown refl (omega arith) (omega arith)
      (refl, (λ b. refl), refl, refl, omega arith) (is-reached f (get_or (set s.fronts i f) i 0) here) ((sym e, kind-of-state f a), refl, refl)

  -- by whether the number is below the horizon: then it is late, and else the state there is given
  read-back : (a : Address) (n f : ℕ) → n ≤ seen_by s c → f ≡ max (front_of s (shard_of a s.shards)) n → Grown s (moved s (shard_of a s.shards) f)
      → IsAnswered k (Call.read_at a n) (read_back s a n f).1 (known_by (read_back s a n f).0 c)
  read-back a n f seen is grown = by (nat_lt n (f - s.window)) refl
    where
      by : (t : Bool) → nat_lt n (f - s.window) ≡ t
          → IsAnswered k (Call.read_at a n) (cond t (Answer.late n (f - s.window)) (Answer.value (state s.journal n a)))
          (known_by (moved s (shard_of a s.shards) f) c)
      by true e =
          let l = below-is n (f - s.window) e in
          let m = sound.seen c in
          let r = sound.reached (shard_of a s.shards) in
          answered (moved s (shard_of a s.shards) f) (Call.read_at a n) (Answer.late n (f - s.window)) grown refl (omega arith) m
          (refl, (λ b. refl), refl, refl, omega arith) tt ((refl, refl), record { below = l; behind = omega arith }, refl)
      by false e =
          let m = sound.seen c in
          answered (moved s (shard_of a s.shards) f) (Call.read_at a n) (Answer.value (state s.journal n a)) grown refl (omega arith) m
          (refl, (λ b. refl), refl, refl, omega arith) tt ((refl, kind-of-state n a), refl, refl)

  -- ---- preparings
  module _ (shard : ℕ) (based : List Based) (can : CanPrepare k shard based) where
    -- the front of the shard
    abbrev front : ℕ
    front = front_of s shard

    -- the store after it: the client has seen up to the front
    abbrev t : Store
    t = saw s c (max (seen_by s c) front)

    -- each observation is of its address' kind, as the client owes it
    kinds-here : AllByRecursion IsBasedOfOneKind based
    kinds-here = each-more (CanValidate k shard) IsBasedOfOneKind based (λ b h. h.one_kind) can.each

    -- each base was given, so the shard of its address has reached it
    bases-here : AllByRecursion (λ (b : Based). b.base ≤ front) based
    bases-here =
        each-more (CanValidate k shard) (λ (b : Based). b.base ≤ front) based
        (λ b h. subst (λ (i : ℕ). b.base ≤ front_of s i) h.here (reached-is b.base (front_of s (shard_of b.address s.shards)) h.given.1)) can.each

    -- an answer of which its own part of the clause holds meets all of it, since the journal stays as it is
    validation : (a : Answer) → IsCounted (is_fault a) 0 0 → ((b : Address) → s.subscribed c b ≡ subscribed_after k (Call.prepare shard based) a b)
        → (s.taken c ≡ taken_after k (Call.prepare shard based) a) → (0 ≡ denied_after k (Call.prepare shard based) a)
        → KnowsDenials k (known_by t c) (Call.prepare shard based) a
        → Gives (Call.prepare shard based) a (known_by t c) → Says t (Call.prepare shard based) a → IsAnswered k (Call.prepare shard based) a (known_by t c)
    validation a counted told taken denied denials gives says =
        let e = seen-set (max (seen_by s c) front) in
        let n = sound.seen c in
        let r = sound.reached shard in
        answered t (Call.prepare shard based) a (step-grows s c (Call.prepare shard based)) refl (omega arith) (omega arith)
        (counted, told, taken, denied, denials) gives says

    -- by the answer: a late base is the least, a clash is the journal's least pair, and without either no pair is up to the front
    validated-by : (late : Option ℕ) (w : Option Witness) → late_base (front - s.window) (least_base based) ≡ late
        → least_witness based (take front s.journal) ≡ w
        → IsAnswered k (Call.prepare shard based) (validated shard front (front - s.window) late w) (known_by t c)
    validated-by (Some base) w el ew =
        let l = late-is (front - s.window) based base el in
        let below = l.1 in
        let r = sound.reached shard in
        validation (Answer.late base (front - s.window)) refl (λ b. refl) refl refl (omega arith) tt
        (tt, (l.0, record { below = below; behind = omega arith }), refl)
    validated-by None (Some w) el ew =
        let least = witness-of-front based s.journal front w orderly kinds-here ew in
        let within = witness-within based (take front s.journal) w (orderly-front front s.journal orderly) kinds-here ew in
        let number = within.0 in
        let size = length-take front s.journal in
        let e = seen-set (max (seen_by s c) front) in
        validation (Answer.clash w) refl (λ b. refl) refl refl (omega arith) tt (within.1, record { least = least; seen = omega arith }, refl)
    validated-by None None el ew =
        let none = none-of-witness based (take front s.journal) (orderly-front front s.journal orderly) kinds-here ew in
        validation (Answer.prepared (record { shard = shard; front = front })) refl (λ b. refl) refl refl (omega arith) refl
        (refl, record { seen = seen-set (max (seen_by s c) front); bases = bases-here; clear = none-of-least (pairs based (take front s.journal)) none }, refl)

  -- ---- appends
  module _ (ready : Ready) (can : CanAppend k ready) where
    -- what is handed on is of the attempt that the client owes
    of : IsOf s c ready can.attempt
    of = of-append s c ready can

    -- the store after a refusal: the client has seen all of the journal
    abbrev u : Store
    u = saw s c (length s.journal)

    -- and so does a refusal
    refused : (a : Answer) → IsCounted (is_fault a) 0 0 → ((b : Address) → s.subscribed c b ≡ subscribed_after k (Call.append ready) a b)
        → (s.taken c ≡ taken_after k (Call.append ready) a) → (0 ≡ denied_after k (Call.append ready) a) → KnowsDenials k (known_by u c) (Call.append ready) a
        → Gives (Call.append ready) a (known_by u c) → Says u (Call.append ready) a → IsAnswered k (Call.append ready) a (known_by u c)
    refused a counted told taken denied denials gives says =
        let e = seen-set (length s.journal) in
        let n = sound.seen c in
        answered u (Call.append ready) a (step-grows s c Call.refresh) refl (omega arith) (omega arith) (counted, told, taken, denied, denials) gives says

    -- Without a clash or a hold that bars, and with room, the commit goes behind the journal, which stays legal, and no pair is
    -- among those before it.
    added : witness_past s ready ≡ None → barred_by s c ready ≡ None → length s.journal < s.limit
        → IsAnswered k (Call.append ready) (Answer.number (length s.journal + 1)) (known_by (saw (committed s ready) c (length s.journal + 1)) c)
    added none unbarred room =
        let e = seen-set (length s.journal + 1) in
        let n = sound.seen c in
        let l = length-append s.journal (made_of s.journal ready ∷ []) in record {
          client = record { client = refl; trusted = refl; shards = refl; window = refl; limit = refl };
          goes_on = record {
            seen = omega arith;
            draws = omega arith;
            looks = omega arith;
            faults = refl;
            subscribed = λ a. refl;
            taken = refl;
            denied = refl;
            denials = omega arith;
          };
          keeps = tt;
          gives = tt;
          shows = sym e;
          told = record {
            grows = take-append_seam s.journal (made_of s.journal ready ∷ []);
            legal = commits-legally s sound c ready can.attempt of none;
            within = omega arith;
            row = (
              omega arith,
              record {
                before = s.journal;
                grown = take-length s.journal;
                same_own = refl;
                clear = all-clear s sound c ready can.attempt of none;
                unbarred = unbarred;
                numbered = refl;
                within = omega arith;
                added = refl;
              },
            );
            same_own = tt;
          };
        }

    -- By the decision: a clash names the journal's least pair, and without one a hold bars that is in the journal, or nothing
    -- bars and the journal is full, or the commit is added.
    decided-by : (w : Option Witness) (b : Option Barred) (full : Bool) → witness_past s ready ≡ w → barred_by s c ready ≡ b
        → nat_le s.limit (length s.journal) ≡ full
        → IsAnswered k (Call.append ready) (decided s c ready w b full).1 (known_by (decided s c ready w b full).0 c)
    decided-by (Some w) b full ew eb ef =
        let least = ap (option_and_then (witness_of ready.based s.journal)) (sym (found-is s sound c ready can.attempt of)) ∙ ew in
        let within = witness-within ready.based s.journal w orderly (one-kinds s sound c ready can.attempt of) least in
        let number = within.0 in
        let e = seen-set (length s.journal) in
        refused (Answer.clash w) refl (λ b. refl) refl refl (omega arith) tt (within.1, record { least = least; seen = omega arith }, refl)
    decided-by None (Some barred) full ew eb ef =
        let within = barred-within 0 s.journal c ready.run.deltas barred orderly.numbered eb in
        let e = seen-set (length s.journal) in
        refused (Answer.held barred.client barred.at) refl (λ b. refl) refl refl (omega arith) tt
        (tt, record { clear = all-clear s sound c ready can.attempt of ew; barred = eb; seen = omega arith }, refl)
    decided-by None None true ew eb ef =
        let reached = reached-is s.limit (length s.journal) ef in
        let e = seen-set (length s.journal) in
        refused (Answer.full s.limit) refl (λ b. refl) refl refl (omega arith) tt
        (tt, record { limit_is = refl; seen = omega arith; clear = all-clear s sound c ready can.attempt of ew; unbarred = eb }, refl)
    decided-by None None false ew eb ef = let room : length s.journal < s.limit = grind (arith, nat_tests) in added ew eb room

  -- ---- what a client is told of

  -- the feed has at each address that is told what is pending there since the last take
  taken-is : (n : ℕ) → n ≡ length s.journal → IsTaken k n (feed_for s c) s.journal
  taken-is n e address =
      fed-is-pending (s.subscribed c) address (between (s.taken c) (length s.journal) (changes s.journal))
      ∙ ap (λ (m : ℕ). cond (s.subscribed c address) (pending address (between (s.taken c) m (changes s.journal))) None) (sym e)

  -- the changes of the feed are made of some of the journal's, which are of the kinds of their addresses
  kinds-told : AreOfTheirKinds (feed_for s c).changes
  kinds-told =
      let all = changes s.journal in
      kinds-fed _ []
      (each-filter (λ (change : Change). kind_changed change.delta ≡ change.address.kind) (λ change. s.subscribed c change.address)
      (between (s.taken c) (length s.journal) all)
      (each-filter (λ (change : Change). kind_changed change.delta ≡ change.address.kind) (λ change. nat_lt (s.taken c) change.number)
      (up_to (length s.journal) all)
      (each-filter (λ (change : Change). kind_changed change.delta ≡ change.address.kind) (λ change. nat_le change.number (length s.journal)) all
      (kinds-of-changes s.journal orderly.kinds)))) tt

  -- a take hands that feed on, and all of the journal then counts as seen and taken
  took-answered : IsAnswered k Call.take (Answer.feed (feed_for s c)) (known_by (took (saw s c (length s.journal)) c (length s.journal)) c)
  took-answered =
      let e = seen-set (length s.journal) in
      let n = sound.seen c in
      answered (took (saw s c (length s.journal)) c (length s.journal)) Call.take (Answer.feed (feed_for s c)) (step-grows s c Call.take) refl
      (omega arith) (omega arith)
      (refl, (λ a. refl), ap (λ b. cond b (length s.journal) (s.taken c)) (eq-eqb c c refl), refl, omega arith) tt
      ((sym e, kinds-told), taken-is (seen_by (saw s c (length s.journal)) c) e, refl)

  -- a subscription changes only what the client is told of
  subscribed-answered : (a : Address) → IsAnswered k (Call.subscribe a) Answer.done (known_by (telling s c a true) c)
  subscribed-answered a =
      answered (telling s c a true) (Call.subscribe a) Answer.done (step-grows s c (Call.subscribe a)) refl (omega arith) (sound.seen c)
      (refl, (λ b. told-now (c == c) (is_at (address_cmp a) b) (s.subscribed c b) (eq-eqb c c refl)), refl, refl, omega arith) tt (refl, tt, refl)

  -- and so does the end of one
  unsubscribed-answered : (a : Address) → IsAnswered k (Call.unsubscribe a) Answer.done (known_by (telling s c a false) c)
  unsubscribed-answered a =
      answered (telling s c a false) (Call.unsubscribe a) Answer.done (step-grows s c (Call.unsubscribe a)) refl (omega arith) (sound.seen c)
      (refl, (λ b. untold-now (c == c) (is_at (address_cmp a) b) (s.subscribed c b) (eq-eqb c c refl)), refl, refl, omega arith) tt (refl, tt, refl)

  -- ---- failures

  -- what is said where nothing was done
  abbrev Failing : Store → Call → Type 0
  Failing t call = Quiet t call (Answer.failed false) × Gives call (Answer.failed false) (known_by t c) × Says t call (Answer.failed false)

  module _ (fronts : List ℕ) (risen : (i : ℕ) → front_of s i ≤ get_or fronts i 0) where
    -- the store with fronts that have risen
    abbrev v : Store
    v = with_fronts s fronts

    -- for want of memory nothing was asked for, given or shown, by any call
    failing : (call : Call) → Failing v call
    failing Call.refresh = ((refl, (λ a. refl), refl, refl, omega arith), tt, (tt, tt, refl))
    failing call = ((refl, (λ a. refl), refl, refl, omega arith), tt, (tt, tt, refl))

    -- so such a failure is within the clause of every call
    failed-answered : (call : Call) → IsAnswered k call (Answer.failed false) (known_by v c)
    failed-answered call =
        let parts = failing call in
        answered v call (Answer.failed false) (stalled-grows s fronts risen) refl (omega arith) (sound.seen c) parts.0 parts.1 parts.2

  -- ---- the step

  -- by the call, each as shown above
  step-answered : (call : Call) → CanCall k call → IsAnswered k call (step s c call).1 (known_by (step s c call).0 c)
  step-answered Call.refresh can = refreshed
  step-answered (Call.read a) can = read-answered a (max (front_of s (shard_of a s.shards)) (seen_by s c)) refl (step-grows s c (Call.read a))
  step-answered (Call.prepare shard based) can =
      validated-by shard based can (late_base (front_of s shard - s.window) (least_base based))
      (least_witness based (take (front_of s shard) s.journal)) refl refl
  step-answered (Call.append ready) can =
      decided-by ready can (witness_past s ready) (barred_by s c ready) (nat_le s.limit (length s.journal)) refl refl refl
  step-answered (Call.read_at a n) can = read-back a n (max (front_of s (shard_of a s.shards)) n) can.1 refl (step-grows s c (Call.read_at a n))
  step-answered (Call.subscribe a) can = subscribed-answered a
  step-answered (Call.unsubscribe a) can = unsubscribed-answered a
  step-answered Call.take can = took-answered
  step-answered Call.wait can = failed-answered s.fronts (λ i. omega arith) Call.wait

-- what a client owes makes the step sound
pub owed-soundly : (s : Store) (sound : IsSound s) (c : ℕ) (call : Call) → CanCall (known_by s c) call → StepsSoundly s c call
owed-soundly s sound c (Call.append ready) can = commits-legally s sound c ready can.attempt (of-append s c ready can)
owed-soundly s sound c (Call.read_at a n) can = can.1
owed-soundly s sound c call can = tt

-- what a call leaves is sound
pub does-sound : (s t : Store) (c : ℕ) (call : Call) (a : Answer) → IsSound s → CanCall (known_by s c) call → Does s c call a t → IsSound t
does-sound s t c call a sound can does = by (does-one s t c call a does)
  where
    by : ((a ≡ Answer.failed false) × HasStalled s t) ⊎ ((t, a) ≡ step s c call) → IsSound t
    by (inl stalled) = stalled-sound s t sound stalled.1
    by (inr e) = subst (λ (x : Store × Answer). IsSound x.0) (sym e) (step-sound s c sound call (owed-soundly s sound c call can))

-- a call went by the step or failed for want of memory, and both are within the clause
pub steps_are_answered : StepsAreAnswered
steps_are_answered s t c call a sound ours can does = (by (does-one s t c call a does), does-sound s t c call a sound can does)
  where
    by : ((a ≡ Answer.failed false) × HasStalled s t) ⊎ ((t, a) ≡ step s c call) → IsAnswered (known_by s c) call a (known_by t c)
    by (inl stalled) =
        subst (λ (b : Answer). IsAnswered (known_by s c) call b (known_by t c)) (sym stalled.0)
        (subst (λ (x : Store). IsAnswered (known_by s c) call (Answer.failed false) (known_by x c)) (sym stalled.1.same)
        (failed-answered s sound c ours t.fronts stalled.1.risen call))
    by (inr e) = subst (λ (x : Store × Answer). IsAnswered (known_by s c) call x.1 (known_by x.0 c)) (sym e) (step-answered s sound c ours call can)
