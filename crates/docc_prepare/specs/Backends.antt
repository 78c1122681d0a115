-- What each call of a backend promises, whoever stands behind it: a world of one thread, a pass on a store that threads
-- share, a link to a server. What is said of the journal is said of those that tell it.
use Rattle.std.specs.Prelude.{◌≡◌, ℕ, ◌+◌, ◌≤◌, ◌<◌, ◌||◌, ◌&&◌, not, max, Bool, true, if◌then◌else◌, List, [], ◌∷◌, ◌++◌, length, take}
use Rattle.std.specs.Prelude.{slice_get, Some, None, IfSome, codes, refl}
use Rattle.std.specs.List.{AllByRecursion}
use Rattle.std.specs.BTreeMap.{is_at}
use Rattle.dio_core.specs.Counts.{one_more, Rose, IsCounted}
use Rattle.dio_core.specs.Told.{WhereTold}
use Rattle.rdt_types.specs.declared.address.Address.{Address}
use Rattle.rdt_types.specs.Addresses.{address_cmp}
use Rattle.rdt_types.specs.DeltaMaps.{delta_at}
use Rattle.rdt_types.specs.Shards.{shard_of}
use Rattle.rdt_types.specs.Values.{kind_of}
use Rattle.change_feed.specs.Feeds.{Fed}
use Rattle.change_feed.specs.Pending.{pending}
use Rattle.abort_witness.specs.declared.witness.Based.{Based}
use Rattle.abort_witness.specs.declared.witness.Witness.{Witness}
use Rattle.abort_witness.specs.Kinds.{IsBasedOfOneKind, IsOfOneKind}
use Rattle.abort_witness.specs.Pairs.{HavePlaces}
use Rattle.txn_lang.specs.declared.snaps.Snap.{Snap}
use Rattle.txn_lang.specs.States.{Journal, state}
use Rattle.txn_lang.specs.Journals.{IsLegal, own}
use Rattle.txn_lang.specs.Short.{IsShortAddress, IsShortObservation}
use Rattle.txn_lang.specs.Tree.{tree}
use Rattle.journal_core.specs.declared.ready.Ready.{Ready}
use Rattle.journal_core.specs.Bodies.{IsBodyText}
use Rattle.journal_core.specs.Changes.{changes, between, adding}
use Rattle.journal_core.specs.Holds.{bars}
use Rattle.journal_core.specs.Pairs.{pairs}
use Rattle.journal_core.specs.Readies.{made_of}
use Rattle.docc_prepare.specs.declared.attempt.Attempt.{Attempt}
use Rattle.docc_prepare.specs.declared.attempt.Next.TheVariants as next
use Rattle.docc_prepare.specs.Attempts.{in_shard, next_event, ready_of, Fits}
use Rattle.docc_prepare.specs.Serial.{AreOfTheirKinds}
use Rattle.docc_prepare.specs.Witnesses.{least_witness}
use Rattle.docc_prepare.specs.Calls.{Known, Call, Answer, is_fault}

-- the journal has grown, and nothing of it has changed
abbrev pub IsPrefix : Journal → Journal → Type 0
IsPrefix old new = take (length old) new ≡ old

-- ---- what a client owes

-- a base that the backend gave for an address, and that is among what was seen
abbrev pub IsGiven : Known → Address → ℕ → Type 0
IsGiven k address base = (base ≤ k.seen) × (k.gave address base ≡ true)

-- an observation of an address of the shard, at a base that was given
pub record CanValidate (k : Known) (shard : ℕ) (based : Based) : Type 0 where
  pub here : shard_of based.address k.shards ≡ shard
  pub given : IsGiven k based.address based.base
  pub one_kind : IsBasedOfOneKind based
  pub short : IsShortObservation based.address based.obs

-- a shard that there is, and observations of its addresses alone
pub record CanPrepare (k : Known) (shard : ℕ) (based : List Based) : Type 0 where
  pub below : shard < k.shards
  pub each : AllByRecursion (CanValidate k shard) based
  pub few : HavePlaces based

-- What is handed on fits the journal, and its seq is the client's next.
pub record FitsNext (k : Known) (attempt : Attempt) (ready : Ready) (journal : Journal) : Type 0 where
  pub fits : Fits journal attempt
  pub seq : ready.seq ≡ length (own k.client journal) + 1

-- What is handed on is that of an attempt whose next event is its append, with its body's text as it is kept, and with bases
-- and fronts that the backend gave.
pub record CanAppend (k : Known) (ready : Ready) : Type 0 where
  pub attempt : Attempt
  pub next : next_event attempt ≡ next.Append ready.run
  pub made : ready ≡ ready_of attempt ready.run k.client ready.seq
  pub text : tree attempt.body.source ≡ Some attempt.body.body
  pub body_text : IsBodyText ready.body
  pub all_shards : attempt.shards ≡ k.shards
  pub given : AllByRecursion (λ (read : Address × Snap). IsGiven k read.0 read.1.base) attempt.snaps
  pub fronted : AllByRecursion (λ prepared. k.fronted prepared.shard
      (in_shard k.shards prepared.shard ready.based) prepared.front ≡ true) ready.fronts
  pub each : AllByRecursion (λ based. CanValidate k (shard_of based.address k.shards) based) ready.based
  pub few : HavePlaces ready.based
  pub told : IfSome k.journal (FitsNext k attempt ready)

-- What a client owes at each call.
abbrev pub CanCall : Known → Call → Type 0
CanCall k (Call.read address) = IsShortAddress address
CanCall k (Call.prepare shard based) = CanPrepare k shard based
CanCall k (Call.append ready) = CanAppend k ready
CanCall k (Call.read_at address number) = IsShortAddress address × (number ≤ k.seen)
CanCall k (Call.subscribe address) = IsShortAddress address
CanCall k (Call.unsubscribe address) = IsShortAddress address
CanCall k c = Unit {0}

-- ---- what answers say of the journal, a row a call

-- the least pair is named, and the client has seen its commit
pub record IsClash (l : Known) (based : List Based) (journal : Journal) (witness : Witness) : Type 0 where
  pub least : least_witness based journal ≡ Some witness
  pub seen : witness.number ≤ l.seen

-- A shard is prepared: no base is above its front, and no commit up to it clashes.
pub record IsPrepared (k l : Known) (based : List Based) (front : ℕ) (journal : Journal) : Type 0 where
  pub seen : l.seen ≡ max k.seen front
  pub bases : AllByRecursion (λ b. b.base ≤ front) based
  pub clear : pairs based (take front journal) ≡ []

-- a number is below a horizon, which is so far behind the journal's end at least as the window is wide
pub record IsBelowHorizon (k : Known) (number horizon : ℕ) (journal : Journal) : Type 0 where
  pub below : number < horizon
  pub behind : horizon + k.window ≤ length journal

-- the base is among those of the observations, and none is less
pub record IsLeastBase (based : List Based) (base : ℕ) : Type 0 where
  pub place : ℕ
  pub observation : Based
  pub there : slice_get based place ≡ Some observation
  pub is : observation.base ≡ base
  pub least : AllByRecursion (λ b. base ≤ b.base) based

-- no live hold of another client bars what was handed on
abbrev pub IsUnbarred : Known → Ready → Journal → Type 0
IsUnbarred k ready journal = bars k.trusted journal k.client ready.run.deltas ≡ None

-- The commit that is made of what was handed on stands at the end, behind commits of others, of which none clashes and none bars.
-- The journal had room for it.
pub record IsAdded (k : Known) (ready : Ready) (number : ℕ) (old new : Journal) : Type 0 where
  pub before : Journal
  pub grown : IsPrefix old before
  pub same_own : own k.client before ≡ own k.client old
  pub clear : pairs ready.based before ≡ []
  pub unbarred : IsUnbarred k ready before
  pub numbered : number ≡ length before + 1
  pub within : number ≤ k.limit
  pub added : new ≡ before ++ made_of before ready ∷ []

-- Nothing clashes, but the hold of a number bars, which is this client's. The client has seen it.
pub record IsHeldBy (l : Known) (ready : Ready) (client number : ℕ) (journal : Journal) : Type 0 where
  pub clear : pairs ready.based journal ≡ []
  pub barred : bars l.trusted journal l.client ready.run.deltas ≡ Some (record { client = client; at = number })
  pub seen : number ≤ l.seen

-- the journal has as many commits as its limit, and the client has seen as many
pub record IsFullAt (l : Known) (ready : Ready) (limit : ℕ) (journal : Journal) : Type 0 where
  pub limit_is : limit ≡ l.limit
  pub seen : limit ≤ l.seen
  pub clear : pairs ready.based journal ≡ []
  pub unbarred : IsUnbarred l ready journal

-- nothing clashes and nothing bars: it was the disk's alone
pub record IsDenied (l : Known) (ready : Ready) (journal : Journal) : Type 0 where
  pub clear : pairs ready.based journal ≡ []
  pub unbarred : IsUnbarred l ready journal

-- at each subscribed address there is what is pending since the last take, and elsewhere nothing
abbrev pub IsTaken : Known → ℕ → Fed → Journal → Type 0
IsTaken k to feed journal =
    (address : Address) → delta_at feed.changes address ≡ (if k.subscribed address then pending address
    (between k.taken to (changes journal)) else None)

-- What an answer says of the journal as it is known before the call and after it.
abbrev pub Row : Known → Known → Journal → Journal → Call → Answer → Type 0
Row k l old new c (Answer.failed by_fault) = Unit {0}
Row k l old new Call.refresh (Answer.number n) = l.seen ≡ length new
Row k l old new (Call.read address) (Answer.snap s) = s.value ≡ state new s.base address
Row k l old new (Call.prepare shard based) (Answer.prepared p) = IsPrepared k l based p.front new
Row k l old new (Call.prepare shard based) (Answer.late base horizon) = IsLeastBase based base × IsBelowHorizon k base horizon new
Row k l old new (Call.prepare shard based) (Answer.clash w) = IsClash l based new w
Row k l old new (Call.append ready) (Answer.number n) = (l.seen ≡ length new) × IsAdded k ready n old new
Row k l old new (Call.append ready) (Answer.clash w) = IsClash l ready.based new w
Row k l old new (Call.append ready) (Answer.held client number) = IsHeldBy l ready client number new
Row k l old new (Call.append ready) (Answer.full limit) = IsFullAt l ready limit new
Row k l old new (Call.append ready) Answer.disk = IsDenied l ready new
Row k l old new (Call.read_at address number) (Answer.value v) = v ≡ state new number address
Row k l old new (Call.read_at address number) (Answer.late n horizon) = IsBelowHorizon k number horizon new
Row k l old new (Call.subscribe address) Answer.done = Unit {0}
Row k l old new (Call.unsubscribe address) Answer.done = Unit {0}
Row k l old new Call.take (Answer.feed f) = IsTaken k l.seen f new
Row k l old new Call.wait Answer.done = Unit {0}
Row k l old new c answer = ⊥

-- No call but an append that is answered with a number, whose row says so, adds to the client's own commits.
abbrev pub OwnRow : ℕ → Journal → Journal → Call → Answer → Type 0
OwnRow client old new (Call.append ready) (Answer.number n) = Unit {0}
OwnRow client old new c answer = own client new ≡ own client old

-- What is said of a journal that is told: it has only grown, it is legal, and the answer's row holds.
pub record SaysOfJournal (k l : Known) (c : Call) (a : Answer) (old new : Journal) : Type 0 where
  pub grows : IsPrefix old new
  pub legal : IsLegal l.trusted new
  pub within : l.seen ≤ length new
  pub row : Row k l old new c a
  pub same_own : OwnRow k.client old new c a

-- ---- what answers say whether or not the journal is told

-- what an answer says of what is known behind the call
abbrev pub Shows : Known → Known → Call → Answer → Type 0
Shows k l c (Answer.failed by_fault) = Unit {0}
Shows k l Call.refresh (Answer.number n) = n ≡ l.seen
Shows k l (Call.read address) (Answer.snap s) = (s.base ≡ l.seen) × (kind_of s.value ≡ address.kind)
Shows k l (Call.prepare shard based) (Answer.prepared p) = p.shard ≡ shard
Shows k l (Call.prepare shard based) (Answer.late base horizon) = Unit {0}
Shows k l (Call.prepare shard based) (Answer.clash w) = IsOfOneKind w
Shows k l (Call.append ready) (Answer.number n) = n ≡ l.seen
Shows k l (Call.append ready) (Answer.clash w) = IsOfOneKind w
Shows k l (Call.append ready) (Answer.held client number) = Unit {0}
Shows k l (Call.append ready) (Answer.full limit) = Unit {0}
Shows k l (Call.append ready) Answer.disk = Unit {0}
Shows k l (Call.read_at address number) (Answer.value v) = (l.seen ≡ k.seen) × (kind_of v ≡ address.kind)
Shows k l (Call.read_at address number) (Answer.late n horizon) = (l.seen ≡ k.seen) × (n ≡ number)
Shows k l (Call.subscribe address) Answer.done = l.seen ≡ k.seen
Shows k l (Call.unsubscribe address) Answer.done = l.seen ≡ k.seen
Shows k l Call.take (Answer.feed f) = (f.to ≡ l.seen) × AreOfTheirKinds f.changes
Shows k l Call.wait Answer.done = k.seen < l.seen
Shows k l c answer = ⊥

-- one client of one store
pub record IsSameClient (k l : Known) : Type 0 where
  pub client : l.client ≡ k.client
  pub trusted : l.trusted ≡ k.trusted
  pub shards : l.shards ≡ k.shards
  pub window : l.window ≡ k.window
  pub limit : l.limit ≡ k.limit

-- every call but an append keeps what it gave
pub record KeepsGiven (k l : Known) : Type 0 where
  pub bases : (address : Address) (base : ℕ) → k.gave address base ≡ true → l.gave address base ≡ true
  pub fronts : (shard : ℕ) (based : List Based) (front : ℕ) → k.fronted shard based front ≡ true → l.fronted shard based front ≡ true

-- what was given stays given, but by an append, which ends the attempt
abbrev pub Keeps : Call → Known → Known → Type 0
Keeps (Call.append ready) k l = Unit {0}
Keeps c k l = KeepsGiven k l

-- a read gives a base, and a preparing gives a front
abbrev pub Gives : Call → Answer → Known → Type 0
Gives (Call.read address) (Answer.snap s) l = l.gave address s.base ≡ true
Gives (Call.prepare shard based) (Answer.prepared p) l = l.fronted shard based p.front ≡ true
Gives c answer l = Unit {0}

-- ---- what stays, and what counts

-- whether an address is among the subscriptions behind a call
abbrev pub subscribed_after : Known → Call → Answer → Address → Bool
subscribed_after k (Call.subscribe address) Answer.done a = is_at (address_cmp address) a || k.subscribed a
subscribed_after k (Call.unsubscribe address) Answer.done a = not (is_at (address_cmp address) a) && k.subscribed a
subscribed_after k c answer a = k.subscribed a

-- up to which commit changes were taken behind a call
abbrev pub taken_after : Known → Call → Answer → ℕ
taken_after k Call.take (Answer.feed f) = f.to
taken_after k c answer = k.taken

-- how many appends were denied behind a call
abbrev pub denied_after : Known → Call → Answer → ℕ
denied_after k (Call.append ready) Answer.disk = one_more k.denied
denied_after k c answer = k.denied

-- a denied commit is one of the denials that are known
abbrev pub KnowsDenials : Known → Known → Call → Answer → Type 0
KnowsDenials k l (Call.append ready) Answer.disk = Rose k.denials l.denials
KnowsDenials k l c answer = k.denials ≤ l.denials

-- What is seen and counted never falls, and what a client asked for stays until it asks otherwise.
pub record GoesOn (k l : Known) (c : Call) (a : Answer) : Type 0 where
  pub seen : k.seen ≤ l.seen
  pub draws : k.draws ≤ l.draws
  pub looks : k.looks ≤ l.looks
  pub faults : IsCounted (is_fault a) k.faults l.faults
  pub subscribed : (address : Address) → l.subscribed address ≡ subscribed_after k c a address
  pub taken : l.taken ≡ taken_after k c a
  pub denied : l.denied ≡ denied_after k c a
  pub denials : KnowsDenials k l c a

-- The clause of every call: what a client knows before it, the call, the answer, and what it knows then.
pub record IsAnswered (k : Known) (c : Call) (a : Answer) (l : Known) : Type 0 where
  pub client : IsSameClient k l
  pub goes_on : GoesOn k l c a
  pub keeps : Keeps c k l
  pub gives : Gives c a l
  pub shows : Shows k l c a
  pub told : WhereTold (SaysOfJournal k l c a) k.journal l.journal

-- A call goes by the relation of its backend, and within the clause of every call.
pub record Goes {B : Type 0} (known : B → Known) (goes : B → Call → Answer → B → Type 0) (old : B) (c : Call) (a : Answer) (new : B) : Type 0 where
  pub step : goes old c a new
  pub answered : IsAnswered (known old) c a (known new)

-- ---- what others do to the store between a client's calls

-- the journal has grown, but not by the client's own commits
pub record HasGrown (k : Known) (old new : Journal) : Type 0 where
  pub grows : IsPrefix old new
  pub legal : IsLegal k.trusted new
  pub same_own : own k.client new ≡ own k.client old

-- The client's backend as others may have left it.
pub record IsLater (k l : Known) : Type 0 where
  pub client : IsSameClient k l
  pub seen : l.seen ≡ k.seen
  pub within : IfSome l.journal (λ journal. l.seen ≤ length journal)
  pub keeps : KeepsGiven k l
  pub subscribed : (address : Address) → l.subscribed address ≡ k.subscribed address
  pub taken : l.taken ≡ k.taken
  pub denied : l.denied ≡ k.denied
  pub denials : k.denials ≤ l.denials
  pub draws : k.draws ≤ l.draws
  pub looks : k.looks ≤ l.looks
  pub faults : l.faults ≡ k.faults
  pub told : WhereTold (HasGrown k) k.journal l.journal

-- A law: later is later still, and a call that comes later is answered as if what others did meanwhile were done within it.
pub record OthersCountAsWithin : Type 0 where
  pub again : (k l m : Known) → IsLater k l → IsLater l m → IsLater k m
  pub answered : (k l m : Known) (c : Call) (a : Answer) → IsLater k l → IsAnswered l c a m → IsAnswered k c a m

-- ---- worked lines

-- a journal of one commit, and of two
prefix-example : IsPrefix (adding 1 (codes "x") ∷ []) (adding 1 (codes "x") ∷ adding 2 (codes "y") ∷ [])
prefix-example = refl
