-- The store of one thread, behind each client's backend: each call of a client is one step of it, which gives an answer.
use Rattle.std.specs.Prelude.{◌≡◌, ◌≢◌, ℕ, ◌+◌, ◌-◌, ◌≤◌, ◌<◌, ◌==◌, Bool, true, false, ◌&&◌, max, nat_lt, nat_le, if◌then◌else◌, List, [], ◌∷◌, ◌++◌}
use Rattle.std.specs.Prelude.{filter, length, take, get_or, set, replicate, Option, Some, None, IfSome, codes, pos, refl}
use Rattle.std.specs.BTreeMap.{is_at}
use Rattle.std.specs.Option.{option_and_then}
use Rattle.rdt_types.specs.declared.address.Kind.TheVariants as kind
use Rattle.rdt_types.specs.declared.address.Address.{Address}
use Rattle.rdt_types.specs.declared.delta.Delta.TheVariants as delta
use Rattle.rdt_types.specs.declared.operation.WriteOp.TheVariants as op
use Rattle.rdt_types.specs.declared.outcome.Item.TheVariants as item
use Rattle.rdt_types.specs.declared.outcome.Outcome.TheVariants as outcome
use Rattle.rdt_types.specs.declared.value.Value.TheVariants as value
use Rattle.rdt_types.specs.Addresses.{address_cmp}
use Rattle.rdt_types.specs.Shards.{shard_of}
use Rattle.conflict_table.specs.declared.observation.Obs.TheVariants as obs
use Rattle.change_feed.specs.Feeds.{Fed, with_changes}
use Rattle.abort_witness.specs.declared.witness.Based.{Based}
use Rattle.abort_witness.specs.declared.witness.Found.{Found}
use Rattle.abort_witness.specs.declared.witness.Witness.{Witness}
use Rattle.txn_lang.specs.States.{Journal, state}
use Rattle.txn_lang.specs.Journals.{IsLegal}
use Rattle.journal_core.specs.declared.ready.Ready.{Ready}
use Rattle.journal_core.specs.declared.hold.Barred.{Barred}
use Rattle.journal_core.specs.Changes.{changes, between, adding}
use Rattle.journal_core.specs.Holds.{bars}
use Rattle.journal_core.specs.Pairs.{least_pair, past_fronts}
use Rattle.journal_core.specs.Readies.{made_of}
pub use Rattle.version_shard.specs.Bases.{least_base, late_base}
pub use Rattle.docc_prepare.specs.declared.limits.TheConstants.{CLIENTS}
use Rattle.docc_prepare.specs.Witnesses.{witness_of, least_witness}
use Rattle.docc_prepare.specs.Calls.{Known, Call, Answer}
use Rattle.docc_prepare.specs.Backends.{CanCall, IsAnswered, IsLater, IsSameClient, KeepsGiven}

-- the journal, the front of each shard, and of each client what it has seen, what it is told of, and up to where it has
-- taken that
pub record Store : Type 0 where
  pub shards : ℕ
  pub window : ℕ
  pub limit : ℕ
  pub journal : Journal
  pub fronts : List ℕ
  pub seens : List ℕ
  pub subscribed : ℕ → Address → Bool
  pub taken : ℕ → ℕ

-- nothing was done yet
abbrev pub first_store : ℕ → ℕ → ℕ → Store
first_store shards window limit = record {
  shards = shards;
  window = window;
  limit = limit;
  journal = [];
  fronts = replicate shards 0;
  seens = replicate CLIENTS 0;
  subscribed = λ client address. false;
  taken = λ client. 0;
}

-- the front of a shard
abbrev pub front_of : Store → ℕ → ℕ
front_of s shard = get_or s.fronts shard 0

-- how many commits a client has seen
abbrev pub seen_by : Store → ℕ → ℕ
seen_by s client = get_or s.seens client 0

-- a client has seen so many commits
abbrev pub saw : Store → ℕ → ℕ → Store
saw s client number = record s { seens = set s.seens client number }

-- a shard has followed to a front
abbrev pub moved : Store → ℕ → ℕ → Store
moved s shard front = record s { fronts = set s.fronts shard front }

-- the journal has one commit more
abbrev pub committed : Store → Ready → Store
committed s ready = record s { journal = s.journal ++ made_of s.journal ready ∷ [] }

-- whether an address is told to a client is so from now on
abbrev pub telling : Store → ℕ → Address → Bool → Store
telling s client address told =
    record s { subscribed = λ c a. if c == client && is_at (address_cmp address) a then told else s.subscribed c a }

-- a client has taken up to a number
abbrev pub took : Store → ℕ → ℕ → Store
took s client number = record s { taken = λ c. if c == client then number else s.taken c }

-- ---- what is answered

-- A read lets its shard follow to what the client has seen, if it is behind that, and gives the value at the front.
abbrev pub read_at_front : Store → ℕ → Address → ℕ → Store × Answer
read_at_front s client address front =
    (saw (moved s (shard_of address s.shards) front) client front, Answer.snap (record { base = front; value = state s.journal front address }))

-- late where a base is below the horizon, else a clash where there is one up to the front, and else the front
abbrev pub validated : ℕ → ℕ → ℕ → Option ℕ → Option Witness → Answer
validated shard front horizon (Some base) witness = Answer.late base horizon
validated shard front horizon None (Some witness) = Answer.clash witness
validated shard front horizon None None = Answer.prepared (record { shard = shard; front = front })

-- a preparing moves no front
abbrev pub prepare_at : Store → ℕ → ℕ → List Based → ℕ → Store × Answer
prepare_at s client shard based front = (
  saw s client (max (seen_by s client) front),
  validated shard front (front - s.window) (late_base (front - s.window) (least_base based)) (least_witness based (take front s.journal)),
)

-- a pair past the prepared fronts, if there is one
abbrev pub found_past : Store → Ready → Option Found
found_past s ready = least_pair (past_fronts s.shards ready.fronts ready.based) s.journal

-- a clash past the fronts, where there is one, else held where a live hold bars, else full where the journal takes no more, and
-- else the commit
abbrev pub decided : Store → ℕ → Ready → Option Witness → Option Barred → Bool → Store × Answer
decided s client ready (Some witness) barred full = (saw s client (length s.journal), Answer.clash witness)
decided s client ready None (Some barred) full = (saw s client (length s.journal), Answer.held barred.client barred.at)
decided s client ready None None true = (saw s client (length s.journal), Answer.full s.limit)
decided s client ready None None false = (saw (committed s ready) client (length s.journal + 1), Answer.number (length s.journal + 1))

-- the witness of that pair
abbrev pub witness_past : Store → Ready → Option Witness
witness_past s ready = option_and_then (witness_of ready.based s.journal) (found_past s ready)

-- the live hold that bars it, if there is one
abbrev pub barred_by : Store → ℕ → Ready → Option Barred
barred_by s client ready = bars 0 s.journal client ready.run.deltas

-- an append: the least clash past the fronts aborts it, and a live hold or a full journal refuses it
abbrev pub append_to : Store → ℕ → Ready → Store × Answer
append_to s client ready =
    decided s client ready (witness_past s ready) (barred_by s client ready) (nat_le s.limit (length s.journal))

-- a read at a number lets its shard follow to it
abbrev pub read_back : Store → Address → ℕ → ℕ → Store × Answer
read_back s address number front = (
  moved s (shard_of address s.shards) front,
  if nat_lt number (front - s.window) then Answer.late number (front - s.window) else Answer.value (state s.journal number address),
)

-- what changed at the addresses that are told to a client, since it took last
abbrev pub feed_for : Store → ℕ → Fed
feed_for s client = record {
  to = length s.journal;
  changes = with_changes [] (filter (λ change. s.subscribed client change.address) (between (s.taken client) (length s.journal) (changes s.journal)));
}

-- The step: the store after a client's call, and the answer. Nobody waits where there is one thread.
abbrev pub step : Store → ℕ → Call → Store × Answer
step s client Call.refresh = (saw s client (length s.journal), Answer.number (length s.journal))
step s client (Call.read address) = read_at_front s client address (max (front_of s (shard_of address s.shards)) (seen_by s client))
step s client (Call.prepare shard based) = prepare_at s client shard based (front_of s shard)
step s client (Call.append ready) = append_to s client ready
step s client (Call.read_at address number) = read_back s address number (max (front_of s (shard_of address s.shards)) number)
step s client (Call.subscribe address) = (telling s client address true, Answer.done)
step s client (Call.unsubscribe address) = (telling s client address false, Answer.done)
step s client Call.take = (took (saw s client (length s.journal)) client (length s.journal), Answer.feed (feed_for s client))
step s client Call.wait = (s, Answer.failed false)

-- By `follow`, which scripts have besides, a shard follows to the journal's end.
abbrev pub followed : Store → ℕ → ℕ → Store
followed s client shard = saw (moved s shard (length s.journal)) client (max (seen_by s client) (length s.journal))

-- ---- what a call may leave

-- For want of memory nothing is done, but a shard may have followed some of the way.
pub record HasStalled (s t : Store) : Type 0 where
  pub all_shards : length t.fronts ≡ length s.fronts
  pub risen : (shard : ℕ) → front_of s shard ≤ front_of t shard
  pub reached : (shard : ℕ) → front_of t shard ≤ length s.journal
  pub same : t ≡ record s { fronts = t.fronts }

-- A call goes by the step, or it fails for want of memory.
abbrev pub Does : Store → ℕ → Call → Answer → Store → Type 0
Does s client c (Answer.failed by_fault) t = (by_fault ≡ false) × HasStalled s t
Does s client c answer t = (t, answer) ≡ step s client c

-- ---- sound stores

-- The journal is legal and no longer than its limit, and what was reached, seen and taken is within it.
pub record IsSound (s : Store) : Type 0 where
  pub legal : IsLegal 0 s.journal
  pub few : length s.journal ≤ s.limit
  pub some : 0 < s.shards
  pub all_shards : length s.fronts ≡ s.shards
  pub all_clients : length s.seens ≡ CLIENTS
  pub reached : (shard : ℕ) → front_of s shard ≤ length s.journal
  pub seen : (client : ℕ) → seen_by s client ≤ length s.journal
  pub taken : (client : ℕ) → s.taken client ≤ length s.journal

-- What the backend of a client stands for. A base was given where the shard has reached it; a front, always.
abbrev pub known_by : Store → ℕ → Known
known_by s client = record {
  journal = Some s.journal;
  trusted = 0;
  client = client;
  seen = seen_by s client;
  shards = s.shards;
  window = s.window;
  limit = s.limit;
  subscribed = s.subscribed client;
  taken = s.taken client;
  denied = 0;
  denials = 0;
  draws = 0;
  looks = 0;
  faults = 0;
  gave = λ address base. nat_le base (front_of s (shard_of address s.shards));
  fronted = λ shard based front. true;
}

-- ---- laws

-- The first store is sound.
abbrev pub FirstStoreIsSound : Type 0
FirstStoreIsSound = (shards window limit : ℕ) → 0 < shards → IsSound (first_store shards window limit)

-- Each call of a client is answered within the clause of every call, and leaves a sound store.
abbrev pub StepsAreAnswered : Type 0
StepsAreAnswered =
    (s t : Store) (client : ℕ) (c : Call) (a : Answer) → IsSound s → client < CLIENTS → CanCall (known_by s client) c → Does s client c a t
    → IsAnswered (known_by s client) c a (known_by t client) × IsSound t

-- Each step may be done, since a store that wants for no memory does it; and only a wait, for which there is nobody, fails.
pub record StepsMayBeDone : Type 0 where
  pub done : (s : Store) (client : ℕ) (c : Call) → IsSound s → Does s client c (step s client c).1 (step s client c).0
  pub failing : (s : Store) (client : ℕ) (c : Call) (by_fault : Bool) → (step s client c).1 ≡ Answer.failed by_fault → c ≡ Call.wait

-- To each other client it is as if others had been at work.
abbrev pub StepsLeaveOthers : Type 0
StepsLeaveOthers =
    (s t : Store) (client other : ℕ) (c : Call) (a : Answer) → IsSound s → other ≢ client → CanCall (known_by s client) c → Does s client c a t
    → IsLater (known_by s other) (known_by t other)

-- What a client knows once it has let a shard follow: of the same journal it has seen all.
pub record HasFollowed (k l : Known) : Type 0 where
  pub client : IsSameClient k l
  pub journal : l.journal ≡ k.journal
  pub seen : k.seen ≤ l.seen
  pub all_seen : IfSome k.journal (λ journal. l.seen ≡ length journal)
  pub keeps : KeepsGiven k l
  pub subscribed : (address : Address) → l.subscribed address ≡ k.subscribed address
  pub taken : l.taken ≡ k.taken
  pub denied : l.denied ≡ k.denied

-- A shard has followed to the journal's end.
pub record IsFollowed (s : Store) (client shard : ℕ) (t : Store) : Type 0 where
  pub sound : IsSound t
  pub front : front_of t shard ≡ length s.journal
  pub mine : HasFollowed (known_by s client) (known_by t client)
  pub others : (other : ℕ) → other ≢ client → IsLater (known_by s other) (known_by t other)

-- By `follow` a shard has followed. The journal is the same, so what fitted it fits it still.
abbrev pub ShardsFollow : Type 0
ShardsFollow =
    (s : Store) (client shard : ℕ) → IsSound s → client < CLIENTS → shard < s.shards → IsFollowed s client shard (followed s client shard)

-- ---- worked lines

-- there are 64 clients
CLIENTS-are : CLIENTS ≡ 64
CLIENTS-are = refl

-- the counter of a key
abbrev counter : List ℕ → Address
counter key = record { kind = kind.Counter; key = key }

-- a store in which somebody has added 1 to the counter x
abbrev with_one : Store
with_one = record (first_store 4 2 100) { journal = adding 1 (codes "x") ∷ [] }

-- who has seen nothing reads the default at front 0
read-example : (step with_one 5 (Call.read (counter (codes "x")))).1 ≡ Answer.snap (record { base = 0; value = value.Counter (pos 0) })
read-example = refl

-- who has learnt of the commit reads behind it
read-refreshed :
    (step (step with_one 5 Call.refresh).0 5 (Call.read (counter (codes "x")))).1 ≡ Answer.snap (record { base = 1; value = value.Counter (pos 1) })
read-refreshed = refl

-- an observation of x at a base
abbrev read_at_base : ℕ → Based
read_at_base base = record { address = counter (codes "x"); obs = obs.CounterIs; base = base }

-- what was read at 0 clashes with the commit once the shard, which is the first, has followed to it
prepare-example :
    (step (followed with_one 5 1) 5 (Call.prepare 1 (read_at_base 0 ∷ []))).1
    ≡ Answer.clash (record { address = counter (codes "x"); obs = obs.CounterIs; base = 0; part = op.AddCounter (pos 1); number = 1 })
prepare-example = refl

-- a hold that bars is named before a full journal
decided-held : (ready : Ready) → decided with_one 5 ready None (Some (record { client = 0; at = 1 })) true ≡ (saw with_one 5 1, Answer.held 0 1)
decided-held ready = refl

-- and a clash before a hold
decided-clash : (ready : Ready) (w : Witness) (barred : Option Barred) → (decided with_one 5 ready (Some w) barred true).1 ≡ Answer.clash w
decided-clash ready w barred = refl

-- a commit that writes is no hold, and bars nobody
barred-by-none : (ready : Ready) → barred_by with_one 5 ready ≡ None
barred-by-none ready = refl

-- a store in which client 0 has committed a hold
abbrev with_hold_of_0 : Store
with_hold_of_0 =
    record with_one { journal = record (adding 1 (codes "x")) { outcome = outcome.Ok (item.Text (codes "hold") ∷ []); deltas = [] } ∷ [] }

-- which doesn't bar that client
barred-by-own : (ready : Ready) → barred_by with_hold_of_0 0 ready ≡ None
barred-by-own ready = refl

-- a client is told what it asked for, and to where that goes
take-example :
    (step (step with_one 5 (Call.subscribe (counter (codes "x")))).0 5 Call.take).1
    ≡ Answer.feed (record { to = 1; changes = (counter (codes "x"), delta.AddCounter (pos 1)) ∷ [] })
take-example = refl

-- and nothing where it asked for nothing
take-nothing : (step with_one 5 Call.take).1 ≡ Answer.feed (record { to = 1; changes = [] })
take-nothing = refl
