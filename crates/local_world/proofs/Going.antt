-- Each call of a world goes by the step of its store.
use Rattle.std.proofs.Common.{◌≡◌, ℕ, ◌+◌, ◌-◌, ◌<◌, Bool, true, false, cond, ◌&&◌, max, List, length, get_or, set, Option, Some}
use Rattle.std.proofs.Common.{None, refl, sym, ap, ◌∙◌, subst, arith}
use Rattle.std.specs.Prelude.{◌==◌, nat_lt}
use Rattle.std.specs.BTreeMap.{is_at}
use Rattle.std.proofs.Math.Path.{fun_ext}
use Rattle.std.proofs.lemmas.List.{length-append}
use Rattle.rdt_types.specs.declared.address.Address.{Address}
use Rattle.rdt_types.specs.Addresses.{address_cmp}
use Rattle.rdt_types.specs.Shards.{shard_of}
use Rattle.change_feed.specs.Feeds.{Fed}
use Rattle.abort_witness.specs.declared.witness.Based.{Based}
use Rattle.abort_witness.specs.declared.witness.Witness.{Witness}
use Rattle.txn_lang.specs.declared.snaps.Snap.{Snap}
use Rattle.txn_lang.specs.States.{Journal, state}
use Rattle.journal_core.specs.declared.hold.Barred.{Barred}
use Rattle.journal_core.specs.declared.ready.Ready.{Ready}
use Rattle.reactive_registry.specs.Registered.{Registered, is_subscribed}
use Rattle.docc_prepare.specs.Calls.{Call, Answer}
use Rattle.docc_prepare.specs.Backends.{CanCall}
use Rattle.docc_prepare.specs.declared.limits.TheConstants.{CLIENTS}
use Rattle.docc_prepare.specs.Stores.{Store, saw, moved, telling, validated, prepare_at, decided, append_to}
use Rattle.docc_prepare.specs.Stores.{feed_for, step, HasStalled, Does, IsSound, known_by}
use Rattle.docc_prepare.proofs.Answered.{steps_are_answered}
use Rattle.local_world.specs.Stored.{Stored, taken_by, store_of}
use Rattle.local_world.specs.Standing.{HaveRisen, IsFedBy}
use Rattle.local_world.specs.Answering.{GoesBy, back_at}
use Rattle.local_world.specs.Deciding.{IsDecided}

-- what goes by the step is answered within the clause of every call
pub goes_by : (old new : Stored) (client : ℕ) (c : Call) (a : Answer) → IsSound (store_of old) → client < CLIENTS → CanCall (known_by (store_of old) client) c
    → Does (store_of old) client c a (store_of new) → GoesBy old client c a new
goes_by old new client c a sound below can does = record {
  does = does;
  sound = sound;
  answered = (steps_are_answered (store_of old) (store_of new) client c a sound below can does).0;
}

-- and leaves a sound store
pub sound_after : (s t : Store) (client : ℕ) (c : Call) (a : Answer) → IsSound s → client < CLIENTS → CanCall (known_by s client) c
    → Does s client c a t → IsSound t
sound_after s t client c a sound below can does = (steps_are_answered s t client c a sound below can does).1

-- ---- for want of memory

-- shards may have followed some of the way
pub stalled : (old : Stored) (fronts : List ℕ) → HaveRisen old.journal old.fronts fronts → HasStalled (store_of old) (store_of (record old { fronts = fronts }))
stalled old fronts risen = record { all_shards = risen.as_many; risen = risen.risen; reached = risen.reached; same = refl }

-- nothing changed
pub unchanged : (s : Store) → IsSound s → HasStalled s s
unchanged s sound = record { all_shards = refl; risen = λ k. omega arith; reached = sound.reached; same = refl }

-- the registry may have followed
pub told_alike : (old : Stored) (registry : Registered) → IsSound (store_of old) →
    ((c : ℕ) (a : Address) → is_subscribed registry c a ≡ is_subscribed old.registry c a)
    → ((c : ℕ) → taken_by registry c ≡ taken_by old.registry c) → HasStalled (store_of old) (store_of (record old { registry = registry }))
told_alike old registry sound told taken = record {
  all_shards = refl;
  risen = λ k. omega arith;
  reached = sound.reached;
  same =
      ap (λ (f : ℕ → Address → Bool). let t : Store = record (store_of old) { subscribed = f; taken = λ c. taken_by registry c } in t)
      (fun_ext (λ c. fun_ext (told c)))
      ∙ ap (λ (f : ℕ → ℕ). let t : Store = record (store_of old) { taken = f } in t) (fun_ext taken);
}

-- ---- by the step

-- a snap was read at the front
pub does-read : (old : Stored) (client : ℕ) (address : Address) (fronts : List ℕ) (snap : Snap)
    → snap.base ≡ max (get_or old.fronts (shard_of address old.shards) 0) (get_or old.seens client 0) → snap.value ≡ state old.journal snap.base address
    → fronts ≡ set old.fronts (shard_of address old.shards) snap.base
    → Does (store_of old) client (Call.read address) (Answer.snap snap) (store_of (record old { fronts = fronts; seens = set old.seens client snap.base }))
does-read old client address fronts snap base value is =
    let k = shard_of address old.shards in
    let at : ℕ → Snap = λ n. record { base = n; value = state old.journal n address } in
    let one : snap ≡ at snap.base = ap (λ v. let x : Snap = record { base = snap.base; value = v } in x) value in
    let both : Snap → Store × Answer = λ x. (saw (moved (store_of old) k x.base) client x.base, Answer.snap x) in
    ap (λ (ns : List ℕ). let t : Store × Answer = (store_of (record old { fronts = ns; seens = set old.seens client snap.base }), Answer.snap snap) in t) is
    ∙ ap both (one ∙ ap at base)

-- an answer to a preparing is that of the step
does-validated : (s t : Store) (client shard front horizon : ℕ) (based : List Based) (o : Option ℕ) (w : Option Witness)
    → (t, validated shard front horizon o w) ≡ step s client (Call.prepare shard based)
    → Does s client (Call.prepare shard based) (validated shard front horizon o w) t
does-validated s t client shard front horizon based (Some base) w is = is
does-validated s t client shard front horizon based None (Some witness) is = is
does-validated s t client shard front horizon based None None is = is

-- what a preparing leaves is what the step does, and each answer that may come is one that the step gives
pub does-prepare : (old : Stored) (client shard : ℕ) (based : List Based) (a : Answer)
    → a ≡ (prepare_at (store_of old) client shard based (get_or old.fronts shard 0)).1
    → Does (store_of old) client (Call.prepare shard based) a
    (store_of (record old { seens = set old.seens client (max (get_or old.seens client 0) (get_or old.fronts shard 0)) }))
does-prepare old client shard based a is =
    let t = store_of (record old { seens = set old.seens client (max (get_or old.seens client 0) (get_or old.fronts shard 0)) }) in
    subst (λ b. Does (store_of old) client (Call.prepare shard based) b t) (sym is) (does-validated (store_of old) t client shard _ _ based _ _ refl)

-- an answer to a read at a number is that of the step
does-chosen : (s t : Store) (client number horizon : ℕ) (address : Address) (b : Bool)
    → (t, cond b (Answer.late number horizon) (Answer.value (state s.journal number address))) ≡ step s client (Call.read_at address number)
    → Does s client (Call.read_at address number) (cond b (Answer.late number horizon) (Answer.value (state s.journal number address))) t
does-chosen s t client number horizon address true is = is
does-chosen s t client number horizon address false is = is

-- a read at a number moves its shard as the step does, and answers as that does at the front it moved to
pub does-read_at : (old : Stored) (client : ℕ) (address : Address) (number : ℕ) (fronts : List ℕ) (a : Answer)
    → fronts ≡ set old.fronts (shard_of address old.shards) (max (get_or old.fronts (shard_of address old.shards) 0) number)
    → a ≡ back_at old.journal old.window address number (max (get_or old.fronts (shard_of address old.shards) 0) number)
    → Does (store_of old) client (Call.read_at address number) a (store_of (record old { fronts = fronts }))
does-read_at old client address number fronts a moved is =
    let s = store_of old in
    let front = max (get_or old.fronts (shard_of address old.shards) 0) number in
    let t : List ℕ → Store = λ ns. store_of (record old { fronts = ns }) in
    subst (λ b. Does s client (Call.read_at address number) b (t fronts)) (sym is)
    (does-chosen s (t fronts) client number (front - old.window) address (nat_lt number (front - old.window))
    (ap (λ (ns : List ℕ). let p : Store × Answer = (t ns, back_at old.journal old.window address number front) in p) moved))

-- an answer to an append is that of the step
does-decided : (s t : Store) (client : ℕ) (ready : Ready) (o : Option Witness) (b : Option Barred) (full : Bool) → t ≡ (decided s client ready o b full).0
    → (decided s client ready o b full ≡ append_to s client ready) → Does s client (Call.append ready) (decided s client ready o b full).1 t
does-decided s t client ready (Some w) b full left is = ap (λ (x : Store). let p : Store × Answer = (x, Answer.clash w) in p) left ∙ is
does-decided s t client ready None (Some b) full left is = ap (λ (x : Store). let p : Store × Answer = (x, Answer.held b.client b.at) in p) left ∙ is
does-decided s t client ready None None true left is = ap (λ (x : Store). let p : Store × Answer = (x, Answer.full s.limit) in p) left ∙ is
does-decided s t client ready None None false left is = ap (λ (x : Store). let p : Store × Answer = (x, Answer.number (length s.journal + 1)) in p) left ∙ is

-- by the decision: what a client has seen is the length of the journal that is left
left-by : (s : Store) (client : ℕ) (ready : Ready) (o : Option Witness) (b : Option Barred) (full : Bool) (left : Journal)
    → left ≡ (decided s client ready o b full).0.journal
    → (let t : Store = record s { journal = left; seens = set s.seens client (length left) } in t) ≡ (decided s client ready o b full).0
left-by s client ready (Some w) b full left is = ap (λ (j : Journal). let t : Store = record s { journal = j; seens = set s.seens client (length j) } in t) is
left-by s client ready None (Some b) full left is = ap (λ (j : Journal). let t : Store = record s { journal = j; seens = set s.seens client (length j) } in t) is
left-by s client ready None None true left is = ap (λ (j : Journal). let t : Store = record s { journal = j; seens = set s.seens client (length j) } in t) is
left-by s client ready None None false left is =
    ap (λ (j : Journal). let t : Store = record s { journal = j; seens = set s.seens client (length j) } in t) is
    ∙ ap (λ (n : ℕ). let t : Store = record s { journal = (decided s client ready None None false).0.journal; seens = set s.seens client n } in t)
    (length-append s.journal _)

-- what was decided is the step's answer, and the journal that is left is the step's
pub does-append : (old : Stored) (ready : Ready) (a : Answer) (left : Journal) → IsDecided (store_of old) ready a left
    → Does (store_of old) ready.client (Call.append ready) a (store_of (record old { journal = left; seens = set old.seens ready.client (length left) }))
does-append old ready a left decides =
    let s = store_of old in
    let c = ready.client in
    let t = store_of (record old { journal = left; seens = set old.seens c (length left) }) in
    subst (λ b. Does s c (Call.append ready) b t) (sym decides.answer)
    (does-decided s t c ready _ _ _ (left-by s c ready _ _ _ left decides.journal) refl)

-- who is told changes at one address
pub does-told : (old : Stored) (client : ℕ) (address : Address) (told : Bool) (registry : Registered)
    → ((c : ℕ) (a : Address) → is_subscribed registry c a ≡ cond ((c == client) && is_at (address_cmp address) a) told (is_subscribed old.registry c a))
    → ((c : ℕ) → taken_by registry c ≡ taken_by old.registry c)
    → store_of (record old { registry = registry }) ≡ telling (store_of old) client address told
does-told old client address told registry tells taken =
    ap (λ (f : ℕ → Address → Bool). let t : Store = record (store_of old) { subscribed = f; taken = λ c. taken_by registry c } in t)
    (fun_ext (λ c. fun_ext (tells c)))
    ∙ ap (λ (f : ℕ → ℕ). let t : Store = record (telling (store_of old) client address told) { taken = f } in t) (fun_ext taken)

-- a client takes
pub does-take : (old : Stored) (client : ℕ) (registry : Registered) (feed : Fed) → IsFedBy old.journal old.registry client feed
    → ((c : ℕ) (a : Address) → is_subscribed registry c a ≡ is_subscribed old.registry c a)
    → ((c : ℕ) → taken_by registry c ≡ cond (c == client) (length old.journal) (taken_by old.registry c))
    → Does (store_of old) client Call.take (Answer.feed feed) (store_of (record old { seens = set old.seens client feed.to; registry = registry }))
does-take old client registry feed is told taken =
    let s = store_of old in
    let fed : feed ≡ feed_for s client = is old refl refl in
    let n = length old.journal in
    ap (λ (f : Fed). let p : Store × Answer = (store_of (record old { seens = set old.seens client f.to; registry = registry }), Answer.feed f) in p) fed
    ∙ ap (λ (f : ℕ → Address → Bool). let p : Store × Answer = (
      record s {
        seens = set old.seens client n;
        subscribed = f;
        taken = λ c. taken_by registry c;
      },
      Answer.feed (feed_for s client),
    ) in p)
    (fun_ext (λ c. fun_ext (told c)))
    ∙ ap (λ (f : ℕ → ℕ). let p : Store × Answer = (record s { seens = set old.seens client n; taken = f }, Answer.feed (feed_for s client)) in p)
    (fun_ext taken)
