-- What a session keeps to between its lines, so that each call that it makes is one that its backend takes.
use Rattle.std.specs.Prelude.{◌≡◌, ℕ, ◌+◌, ◌≤◌, true, [], length, Option, Some, None, IfSome}
use Rattle.std.specs.List.{AllByRecursion}
use Rattle.rdt_types.specs.declared.address.Address.{Address}
use Rattle.rdt_types.specs.declared.limits.TheConstants.{LEAST_SHARDS, MOST_SHARDS}
use Rattle.rdt_types.specs.Values.{kind_of}
use Rattle.txn_lang.specs.declared.checked.Checked.{Checked}
use Rattle.txn_lang.specs.declared.snaps.Snap.{Snap}
use Rattle.txn_lang.specs.States.{Journal}
use Rattle.txn_lang.specs.Execution.{Ran, need, done}
use Rattle.txn_lang.specs.Journals.{own}
use Rattle.txn_lang.specs.Tree.{tree}
use Rattle.journal_core.specs.Bodies.{IsBodyText}
use Rattle.docc_prepare.specs.declared.attempt.Attempt.{Attempt}
use Rattle.docc_prepare.specs.Attempts.{ran, based, in_shard, Fits}
use Rattle.docc_prepare.specs.Calls.{Known}
use Rattle.docc_prepare.specs.Backends.{IsGiven}
use Rattle.client_watches.specs.declared.watching.Watching.{Watching}
use Rattle.client_watches.specs.Keeping.{Keeps}
use Rattle.client_watches.specs.Standing.{Subscribes, Stands}
use Rattle.docc_prepare.specs.Readable.{CanRead, CanReadOn}
use Rattle.session_core.specs.declared.line.Line.{Line}
use Rattle.session_core.specs.declared.line.Line.TheVariants as asked
use Rattle.session_core.specs.declared.session.Session.{Session}
use Rattle.session_core.specs.declared.error.SessionError.{SessionError}

-- a value of its address' kind, at a base that the backend gave
pub record IsRead (k : Known) (read : Address × Snap) : Type 0 where
  pub given : IsGiven k read.0 read.1.base
  pub kind : kind_of read.1.value ≡ read.0.kind

-- fronts stand only where the run is done, and the backend gave each for what the run observed in its shard
abbrev pub FrontsGiven : Known → Attempt → Ran → Type 0
FrontsGiven k a (need address) = a.fronts ≡ []
FrontsGiven k a (done run) =
    AllByRecursion (λ prepared. k.fronted prepared.shard (in_shard a.shards prepared.shard (based a.snaps run.observations)) prepared.front ≡ true) a.fronts

-- An open attempt holds: its body is that of its text, which is as it is kept; the backend gave its bases and fronts; and where
-- the journal is told, it fits that.
pub record Holds (k : Known) (a : Attempt) : Type 0 where
  pub shards : a.shards ≡ k.shards
  pub text : tree a.body.source ≡ Some a.body.body
  pub body_text : IsBodyText a.body.source
  pub reads : AllByRecursion (IsRead k) a.snaps
  pub fronts : FrontsGiven k a (ran a)
  pub told : IfSome k.journal (λ journal. Fits journal a)

-- a body that was read: it is that of its text, which is as it is kept
pub record IsReady (body : Checked) : Type 0 where
  pub text : tree body.source ≡ Some body.body
  pub body_text : IsBodyText body.source

-- the body that a line is to commit
abbrev pub BodyIsReady : Line → Type 0
BodyIsReady (asked.Begin body) = IsReady body
BodyIsReady (asked.Try tries body) = IsReady body
BodyIsReady l = Unit {0}

-- of a journal that is told: the seq is the client's next, and what it has seen is there
pub record Counts (k : Known) (seq : ℕ) (journal : Journal) : Type 0 where
  pub seq_is : seq ≡ length (own k.client journal) + 1
  pub within : k.seen ≤ length journal

-- of a journal that is told: the watches stand for it, and it can be read, however it grows
pub record Minds (k : Known) (w : Watching) (journal : Journal) : Type 0 where
  pub subscribes : Subscribes k w
  pub stands : Stands journal w
  pub can : CanRead journal
  pub can_on : CanReadOn k.trusted journal

-- The watches are those of the backend's client.
pub record WatchesAttend (k : Known) (w : Watching) : Type 0 where
  pub keeps : Keeps k w
  pub told : IfSome k.journal (Minds k w)

-- The session is the client's, and goes on; and the store has as many shards as a store may have.
pub record Attends (k : Known) (s : Session) : Type 0 where
  pub on : s.over ≡ None
  pub shards : (LEAST_SHARDS ≤ k.shards) × (k.shards ≤ MOST_SHARDS)
  pub client : s.client ≡ k.client
  pub begun : s.at ≤ k.seen
  pub counts : IfSome k.journal (Counts k s.seq)
  pub attempt : IfSome s.attempt (Holds k)
  pub watches : WatchesAttend k s.watching

-- this holds unless the session is over
abbrev pub UnlessOver : Option SessionError → Type 0 → Type 0
UnlessOver None P = P
UnlessOver (Some error) P = Unit {0}

-- THE CONDITION OF A LINE: the session is over, or is the client's and goes on.
abbrev pub Follows : Known → Session → Type 0
Follows k s = UnlessOver s.over (Attends k s)
