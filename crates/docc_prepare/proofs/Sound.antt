-- Every event in place, and every move, leaves a sound world.
use Rattle.std.proofs.Common.{◌≡◌, ℕ, ◌+◌, ◌-◌, ◌≤◌, Bool, true, false, cond, max, List, [], ◌∷◌, ◌++◌, length, take, Option, Some, None, refl, sym}
use Rattle.std.proofs.Common.{ap, ◌∙◌, subst, arith}
use Rattle.std.specs.Prelude.{◌==◌, IfSome, not}
use Rattle.std.specs.Str.{bytes_eq}
use Rattle.std.specs.List.{AllByRecursion}
use Rattle.std.specs.Map.{lookup}
use Rattle.std.specs.BTreeMap.{is_at}
use Rattle.std.specs.Ordering.{is_eq}
use Rattle.std.proofs.lemmas.List.{get_or-set_same}
use Rattle.std.proofs.lemmas.Bool.Decides.{nat_tests}
use Rattle.plain_data.proofs.Entries.{equal}
use Rattle.rdt_types.specs.declared.address.Address.{Address}
use Rattle.rdt_types.specs.Addresses.{address_cmp}
use Rattle.rdt_types.specs.Shards.{shard_of}
use Rattle.rdt_types.proofs.Addresses.{address_cmp-equal}
use Rattle.abort_witness.specs.declared.witness.Based.{Based}
use Rattle.abort_witness.specs.declared.witness.Witness.{Witness}
use Rattle.abort_witness.specs.Kinds.{IsBasedOfOneKind}
use Rattle.txn_lang.specs.declared.run.Run.{Run}
use Rattle.txn_lang.specs.declared.run.Seen.{Seen}
use Rattle.txn_lang.specs.declared.snaps.Snap.{Snap}
use Rattle.txn_lang.specs.States.{Journal, state}
use Rattle.txn_lang.specs.Execution.{Ran, need, done}
use Rattle.txn_lang.specs.Journals.{own}
use Rattle.journal_core.specs.declared.ready.PreparedFront.{PreparedFront}
use Rattle.journal_core.specs.Pairs.{pairs}
use Rattle.docc_prepare.specs.declared.attempt.Attempt.{Attempt}
use Rattle.docc_prepare.specs.declared.attempt.Next.TheVariants as next
use Rattle.docc_prepare.specs.Attempts.{SnapList, ran, base_in, base_at, with_base, based, in_shard, next_event, with_snap, with_front, ready_of}
use Rattle.docc_prepare.specs.Attempts.{AreAsked, SnapFits, FrontFits, FrontsFit, Fits}
use Rattle.docc_prepare.specs.Witnesses.{least_witness}
use Rattle.docc_prepare.specs.Calls.{Call}
use Rattle.docc_prepare.specs.Stores as stores
use Rattle.docc_prepare.specs.Stores.{Store, CLIENTS, first_store, front_of, seen_by, saw, least_base, late_base, validated, followed}
use Rattle.docc_prepare.specs.Worlds.{World, Event, attempt_of, holding, observed_in, append_of, call_of, taking, called, IsHeld, IsSound}
use Rattle.docc_prepare.specs.Worlds.{Reported, watches_of, watching, IsReported}
use Rattle.docc_prepare.specs.Worlds.{EventsStaySound, IsOpened, MovesStaySound, FirstIsSound, Turn, first_world, turned, IsTurn, after_turns}
use Rattle.docc_prepare.specs.Worlds.{AreTurns, EveryWorldIsSound}
use Rattle.docc_prepare.proofs.Nexts.{needs, appends, prepares}
use Rattle.docc_prepare.proofs.Each.{each-more, each-push, each-filter}
use Rattle.docc_prepare.proofs.EachRead.{each-inserted}
use Rattle.docc_prepare.proofs.Missing.{none-of-least}
use Rattle.docc_prepare.proofs.Undisturbed.{observed_of_one_kind}
use Rattle.docc_prepare.proofs.Growing.{fits_stays, legal_is_orderly}
use Rattle.docc_prepare.proofs.Witnessed.{orderly-front, none-of-witness}
use Rattle.docc_prepare.proofs.Stored.{kept, all_alike, commits-legally, StepsSoundly, step-sound, followed-sound, Grown, saw-grown, step-grows}
use Rattle.docc_prepare.proofs.Stored.{followed-grows, first_store_is_sound}
use Rattle.docc_prepare.proofs.Reported.{kept-each, step-rises, followed-rises, reported-on, reported-anew}

-- ---- held attempts

-- a client's open attempt is held, if it has one
abbrev HeldMaybe : Store → Option Attempt → Type 0
HeldMaybe s o = IfSome o (IsHeld s)

-- each base is at most its shard's front
abbrev Reached : Store → ℕ → Address × Snap → Type 0
Reached s shards read = read.1.base ≤ front_of s (shard_of read.0 shards)

-- an attempt stays held when its store has gone on
held-grown : (s t : Store) (attempt : Attempt) → Grown s t → IsHeld s attempt → IsHeld t attempt
held-grown s t attempt grown held = record {
  fits = subst (λ (journal : Journal). Fits journal attempt) (sym grown.journal) (fits_stays s.journal grown.more attempt held.fits);
  same_shards = held.same_shards ∙ sym grown.shards;
  bases = each-more (Reached s attempt.shards) (Reached t attempt.shards) attempt.snaps
      (λ read h. let u = grown.risen (shard_of read.0 attempt.shards) in omega arith) held.bases;
  text = held.text;
}

-- and so does one that may be open
maybe-grown : (s t : Store) (o : Option Attempt) → Grown s t → HeldMaybe s o → HeldMaybe t o
maybe-grown s t None grown held = held
maybe-grown s t (Some attempt) grown held = held-grown s t attempt grown held

-- what a client has seen matters to no attempt
held-saw : (s : Store) (c n : ℕ) (o : Option Attempt) → HeldMaybe s o → HeldMaybe (saw s c n) o
held-saw s c n o held = maybe-grown s (saw s c n) o (saw-grown s c n) held

-- ---- a read

-- where no front stands, all that stand fit
no-fronts : (journal : Journal) (shards : ℕ) (snaps : SnapList) (fronts : List PreparedFront) (r : Ran) → fronts ≡ [] → FrontsFit journal shards snaps fronts r
no-fronts journal shards snaps fronts (need a) e = e
no-fronts journal shards snaps fronts (done run) e =
    subst (AllByRecursion (λ prepared. FrontFits journal (in_shard shards prepared.shard (based snaps run.observations)) prepared)) (sym e) tt

-- a run that needs a value has no fronts yet, and the new snap is what the journal leaves at a front that is reached
held-read : (s : Store) (attempt : Attempt) (a : Address) (f : ℕ) → IsHeld s attempt → next_event attempt ≡ next.Read a → f ≤ length s.journal
    → f ≤ front_of s (shard_of a attempt.shards) → IsHeld s (with_snap attempt a (record { base = f; value = state s.journal f a }))
held-read s attempt a f held is within reached =
    let none = subst (FrontsFit s.journal attempt.shards attempt.snaps attempt.fronts) (needs attempt a is) held.fits.fronts in
    let snap : Snap = record { base = f; value = state s.journal f a } in record {
      fits = record {
        asked = AreAsked.one_more a snap held.fits.asked (needs attempt a is);
        snaps = each-inserted (SnapFits s.journal) attempt.snaps a snap (record { within = within; value = refl }) held.fits.snaps;
        fronts = no-fronts s.journal attempt.shards (with_snap attempt a snap).snaps attempt.fronts (ran (with_snap attempt a snap)) none;
      };
      same_shards = held.same_shards;
      bases = each-inserted (Reached s attempt.shards) attempt.snaps a snap reached held.bases;
      text = held.text;
    }

-- ---- a preparing

module _ (s : Store) (shards : ℕ) where
  -- by whether the first snap is that of the address; without a snap the base is 0
  base-reached : (snaps : SnapList) (a : Address) → AllByRecursion (Reached s shards) snaps → base_at snaps a ≤ front_of s (shard_of a shards)
  base-reached [] a all = omega arith
  base-reached (pair ∷ snaps) a all = by (base-reached snaps a all.1) (is_eq (address_cmp a pair.0)) refl
    where
      by : base_at snaps a ≤ front_of s (shard_of a shards) → (x : Bool) → is_eq (address_cmp a pair.0) ≡ x
          → base_in (cond x (Some pair.1) (lookup (is_at (address_cmp a)) snaps)) ≤ front_of s (shard_of a shards)
      by rest true e =
          subst (λ b. pair.1.base ≤ front_of s (shard_of b shards)) (sym (address_cmp-equal a pair.0 (equal (address_cmp a pair.0) e))) all.0
      by rest false e = rest

  -- so the base of each observation in a shard is at most its front
  bases-reached : (snaps : SnapList) (shard : ℕ) (seen : List Seen) → AllByRecursion (Reached s shards) snaps
      → AllByRecursion (λ b. b.base ≤ front_of s shard) (in_shard shards shard (based snaps seen))
  bases-reached snaps shard [] all = tt
  bases-reached snaps shard (z ∷ seen) all = by (bases-reached snaps shard seen all) (shard_of z.address shards == shard) refl
    where
      by : AllByRecursion (λ b. b.base ≤ front_of s shard) (in_shard shards shard (based snaps seen)) → (x : Bool) → (shard_of z.address shards == shard) ≡ x
          → AllByRecursion (λ b. b.base ≤ front_of s shard)
          (cond x (with_base snaps z ∷ in_shard shards shard (based snaps seen)) (in_shard shards shard (based snaps seen)))
      by rest true e =
          let same : shard_of z.address shards ≡ shard = grind (arith, nat_tests) in
          (subst (λ (k : ℕ). base_at snaps z.address ≤ front_of s k) same (base-reached snaps z.address all), rest)
      by rest false e = rest

-- the new front is within the journal, no base in its shard is above it, and up to it nothing clashes
held-prepared : (s : Store) (attempt : Attempt) (shard : ℕ) (run : Run) → IsHeld s attempt → ran attempt ≡ done run → front_of s shard ≤ length s.journal
    → pairs (in_shard attempt.shards shard (based attempt.snaps run.observations)) (take (front_of s shard) s.journal) ≡ []
    → IsHeld s (with_front attempt shard (front_of s shard))
held-prepared s attempt shard run held is within clear =
    let prepared : PreparedFront = record { shard = shard; front = front_of s shard } in record {
      fits = record {
        asked = held.fits.asked;
        snaps = held.fits.snaps;
        fronts = subst (FrontsFit s.journal attempt.shards attempt.snaps (attempt.fronts ++ prepared ∷ [])) (sym is)
            (each-push (λ prepared. FrontFits s.journal (in_shard attempt.shards prepared.shard (based attempt.snaps run.observations)) prepared)
            attempt.fronts prepared (subst (FrontsFit s.journal attempt.shards attempt.snaps attempt.fronts) is held.fits.fronts)
            (record { within = within; bases = bases-reached s attempt.shards attempt.snaps shard run.observations held.bases; clear = clear }));
      };
      same_shards = held.same_shards;
      bases = held.bases;
      text = held.text;
    }

-- ---- the events

-- the world after a call is sound, where its client's attempt is held
called-sound : (w : World) (c : ℕ) (call : Call) → IsSound w → StepsSoundly w.store c call
    → HeldMaybe (stores.step w.store c call).0 (taking call (stores.step w.store c call).1 (attempt_of w c)) → IsSound (called w c (Some call)).0
called-sound w c call s soundly mine = record {
  stored = step-sound w.store c s.stored call soundly;
  held = λ d. kept (HeldMaybe (stores.step w.store c call).0) w.attempts c (taking call (stores.step w.store c call).1 (attempt_of w c)) None d mine
      (maybe-grown w.store (stores.step w.store c call).0 (attempt_of w d) (step-grows w.store c call) (s.held d));
  reported = λ d. reported-on w.store (stores.step w.store c call).0 d s.stored (step-grows w.store c call) (step-rises w.store c s.stored call d)
      (watches_of w d) (s.reported d);
}

module _ (w : World) (c : ℕ) (s : IsSound w) where
  -- the world's store
  abbrev store : Store
  store = w.store

  -- in a sound world each open attempt is held
  held-there : (attempt : Attempt) → attempt_of w c ≡ Some attempt → IsHeld store attempt
  held-there attempt e = subst (HeldMaybe store) e (s.held c)

  -- what the client holds is held on
  held-on : (call : Call) → HeldMaybe (stores.step store c call).0 (attempt_of w c)
  held-on call = maybe-grown store (stores.step store c call).0 (attempt_of w c) (step-grows store c call) (s.held c)

  -- a read moves its shard's front to the base of what it gives, so that base is reached
  read-held : (attempt : Attempt) (a : Address) (f : ℕ) → attempt_of w c ≡ Some attempt → next_event attempt ≡ next.Read a
      → f ≡ max (front_of store (shard_of a store.shards)) (seen_by store c)
      → IsHeld (stores.step store c (Call.read a)).0 (with_snap attempt a (record { base = f; value = state store.journal f a }))
  read-held attempt a f there is front =
      let held = held-there attempt there in
      let reached = s.stored.reached (shard_of a store.shards) in
      let seen = s.stored.seen c in
      let some = s.stored.some in
      let all = s.stored.all_shards in
      let here = get_or-set_same store.fronts (shard_of a store.shards) (max (front_of store (shard_of a store.shards)) (seen_by store c)) 0 (omega arith) in
      held-read (stores.step store c (Call.read a)).0 attempt a f
      (held-grown store (stores.step store c (Call.read a)).0 attempt (step-grows store c (Call.read a)) held) is (omega arith)
      (subst (λ (n : ℕ). f ≤ front_of (stores.step store c (Call.read a)).0 (shard_of a n)) (sym held.same_shards) (omega arith))

  -- by the answer: late or a clash leaves the attempt as it is, and a front is given only where no pair is up to it
  prepare-held : (attempt : Attempt) (shard : ℕ) (run : Run) → attempt_of w c ≡ Some attempt → ran attempt ≡ done run
      → (bs : List Based) → bs ≡ in_shard attempt.shards shard (based attempt.snaps run.observations) → (late : Option ℕ) (o : Option Witness)
      → least_witness bs (take (front_of store shard) store.journal) ≡ o
      → HeldMaybe store (taking (Call.prepare shard bs) (validated shard (front_of store shard) (front_of store shard - store.window) late o) (Some attempt))
  prepare-held attempt shard run there is bs same (Some base) o e = held-there attempt there
  prepare-held attempt shard run there is bs same None (Some witness) e = held-there attempt there
  prepare-held attempt shard run there is bs same None None e =
      let held = held-there attempt there in
      let orderly = legal_is_orderly store.journal s.stored.legal in
      let kinds = each-filter IsBasedOfOneKind (λ b. shard_of b.address attempt.shards == shard) (based attempt.snaps run.observations)
      (observed_of_one_kind store.journal attempt run orderly held.fits is) in
      let none = none-of-witness bs (take (front_of store shard) store.journal) (orderly-front (front_of store shard) store.journal orderly)
      (subst (AllByRecursion IsBasedOfOneKind) (sym same) kinds) e in
      held-prepared store attempt shard run held is (s.stored.reached shard)
      (ap (λ (all : List Based). pairs all (take (front_of store shard) store.journal)) (sym same)
      ∙ none-of-least (pairs bs (take (front_of store shard) store.journal)) none)

  -- an attempt that is held fits the journal, so what it hands on may be committed
  appends-soundly : (attempt : Attempt) (run : Run) → attempt_of w c ≡ Some attempt → ran attempt ≡ done run
      → StepsSoundly store c (Call.append (ready_of attempt run c (length (own c store.journal) + 1)))
  appends-soundly attempt run there is =
      let held = held-there attempt there in
      commits-legally store s.stored c (ready_of attempt run c (length (own c store.journal) + 1)) attempt
      (record { fits = held.fits; runs = is; made = refl; text = held.text; all_shards = held.same_shards; next = refl })

-- by the event: its call leaves a sound store, and each attempt is held, the client's with what it took
pub events_stay_sound : EventsStaySound
events_stay_sound w c Event.refresh s here = called-sound w c Call.refresh s tt (held-on w c s Call.refresh)
events_stay_sound w c (Event.read a) s here =
    subst (λ o. IsSound (called w c (call_of c w.store.journal (Event.read a) o)).0) (sym here.1)
    (called-sound w c (Call.read a) s tt
    (subst (λ o. HeldMaybe (stores.step w.store c (Call.read a)).0 (taking (Call.read a) (stores.step w.store c (Call.read a)).1 o)) (sym here.1)
    (read-held w c s here.0 a (max (front_of w.store (shard_of a w.store.shards)) (seen_by w.store c)) here.1 here.2 refl)))
events_stay_sound w c (Event.prepare shard) s here =
    let attempt = here.0 in
    let run = here.2.0 in
    let is = (prepares attempt shard run here.2.1).ran in
    let bs = in_shard attempt.shards shard (based attempt.snaps run.observations) in
    let call = Call.prepare shard bs in
    let front = front_of w.store shard in
    subst (λ o. IsSound (called w c (call_of c w.store.journal (Event.prepare shard) o)).0) (sym here.1)
    (subst (λ r. IsSound (called w c (Some (Call.prepare shard (observed_in attempt shard r)))).0) (sym is)
    (called-sound w c call s tt
    (subst (λ o. HeldMaybe (stores.step w.store c call).0 (taking call (stores.step w.store c call).1 o)) (sym here.1)
    (held-saw w.store c (max (seen_by w.store c) front)
    (taking call (stores.step w.store c call).1 (Some attempt))
    (prepare-held w c s attempt shard run here.1 is bs refl (late_base (front - w.store.window) (least_base bs))
    (least_witness bs (take front w.store.journal)) refl)))))
events_stay_sound w c Event.append s here =
    let attempt = here.0 in
    let run = here.1 in
    let is = appends attempt run here.3 in
    let call = Call.append (ready_of attempt run c (length (own c w.store.journal) + 1)) in
    subst (λ o. IsSound (called w c (call_of c w.store.journal Event.append o)).0) (sym here.2)
    (subst (λ r. IsSound (called w c (append_of c w.store.journal attempt r)).0) (sym is)
    (called-sound w c call s (appends-soundly w c s attempt run here.2 is) (held-on w c s call)))
events_stay_sound w c (Event.read_at a n) s here = called-sound w c (Call.read_at a n) s here (held-on w c s (Call.read_at a n))
events_stay_sound w c (Event.subscribe a) s here = called-sound w c (Call.subscribe a) s tt (held-on w c s (Call.subscribe a))
events_stay_sound w c (Event.unsubscribe a) s here = called-sound w c (Call.unsubscribe a) s tt (held-on w c s (Call.unsubscribe a))
events_stay_sound w c Event.take s here = called-sound w c Call.take s tt (held-on w c s Call.take)
events_stay_sound w c (Event.follow shard) s here = record {
  stored = followed-sound w.store c s.stored shard;
  held = λ d. maybe-grown w.store (followed w.store c shard) (attempt_of w d) (followed-grows w.store c shard s.stored) (s.held d);
  reported = λ d. reported-on w.store (followed w.store c shard) d s.stored (followed-grows w.store c shard s.stored)
      (followed-rises w.store c s.stored shard d) (watches_of w d) (s.reported d);
}

-- ---- moves, and the first world

-- an attempt that has just been opened has read and prepared nothing that could fail to fit
none-held : (w : World) (attempt : Attempt) → IsOpened w attempt → IsHeld w.store attempt
none-held w attempt opened = record {
  fits = record {
    asked = subst (AreAsked attempt.body.body) (sym opened.unread) AreAsked.none_yet;
    snaps = subst (AllByRecursion (SnapFits w.store.journal)) (sym opened.unread) tt;
    fronts = no-fronts w.store.journal attempt.shards attempt.snaps attempt.fronts (ran attempt) opened.unprepared;
  };
  same_shards = opened.shards;
  bases = subst (AllByRecursion (Reached w.store attempt.shards)) (sym opened.unread) tt;
  text = opened.text;
}

-- a move changes only its client's attempt
holding-sound : (w : World) (c : ℕ) (o : Option Attempt) → IsSound w → HeldMaybe w.store o → IsSound (holding w c o)
holding-sound w c o s h = record {
  stored = s.stored;
  held = λ d. kept (HeldMaybe w.store) w.attempts c o None d h (s.held d);
  reported = s.reported;
}

-- or only its client's watches
watching-sound : (w : World) (c : ℕ) (watches : List Reported) → IsSound w → AllByRecursion (IsReported w.store c) watches → IsSound (watching w c watches)
watching-sound w c watches s all = record {
  stored = s.stored;
  held = s.held;
  reported = λ d. kept-each (λ e (ws : List Reported). AllByRecursion (IsReported w.store e) ws) w.watches c watches [] d all (s.reported d);
}

-- An opened attempt is held, and where none is open none need be. A new watch and a report are bodies' runs, and the watches
-- that stay are as before.
pub moves_stay_sound : MovesStaySound
moves_stay_sound = record {
  opening = λ w c attempt s opened. holding-sound w c (Some attempt) s (none-held w attempt opened);
  closing = λ w c s. holding-sound w c None s tt;
  making = λ w c watch s runs. watching-sound w c (watches_of w c ++ watch ∷ []) s
      (each-push (IsReported w.store c) (watches_of w c) watch (s.reported c) runs);
  reporting = λ w c name n run s runs. watching-sound w c _ s (reported-anew w.store c name n run (watches_of w c) (s.reported c) runs);
  forgetting = λ w c name s. watching-sound w c _ s
      (each-filter (IsReported w.store c) (λ watch. not (bytes_eq name watch.name)) (watches_of w c) (s.reported c));
}

-- the first store is sound, no attempt is open, and nobody has a watch
pub first_is_sound : FirstIsSound
first_is_sound shards window limit some = record {
  stored = first_store_is_sound shards window limit some;
  held = λ c. all_alike (HeldMaybe (first_store shards window limit)) CLIENTS c None tt;
  reported = λ c. all_alike (λ (ws : List Reported). AllByRecursion (IsReported (first_store shards window limit) c) ws) CLIENTS c [] tt;
}

-- ---- lists of turns

-- a turn is an event or a move, and both leave a sound world
turn-sound : (w : World) (turn : Turn) → IsSound w → IsTurn w turn → IsSound (turned w turn)
turn-sound w (Turn.event c e) s here = events_stay_sound w c e s here
turn-sound w (Turn.opens c attempt) s here = moves_stay_sound.opening w c attempt s here.1
turn-sound w (Turn.closes c) s here = moves_stay_sound.closing w c s
turn-sound w (Turn.watches c watch) s here = moves_stay_sound.making w c watch s here
turn-sound w (Turn.reports c name n run) s here = moves_stay_sound.reporting w c name n run s here
turn-sound w (Turn.forgets c name) s here = moves_stay_sound.forgetting w c name s

-- so do turns, one after another
turns-sound : (w : World) (turns : List Turn) → IsSound w → AreTurns w turns → IsSound (after_turns w turns)
turns-sound w [] s here = s
turns-sound w (turn ∷ rest) s here = turns-sound (turned w turn) rest (turn-sound w turn s here.0) here.1

-- the first world is sound, and each turn leaves it so
pub every_world_is_sound : EveryWorldIsSound
every_world_is_sound shards window limit turns some here =
    turns-sound (first_world shards window limit) turns (first_is_sound shards window limit some) here
