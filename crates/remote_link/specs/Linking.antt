-- What a client over a link stands for, by what it was answered: it doesn't tell a journal.
use Rattle.std.specs.Prelude.{◌≡◌, ◌<◌, ◌≤◌, ℕ, Bool, true, false, ◌||◌, ◌&&◌, not, if◌then◌else◌, None, [], refl}
use Rattle.std.specs.BTreeMap.{is_at}
use Rattle.dio_core.specs.Counts.{one_more}
use Rattle.rdt_types.specs.declared.address.Address.{Address}
use Rattle.rdt_types.specs.Addresses.{address_cmp}
use Rattle.docc_prepare.specs.Calls.{Known, Call}
use Rattle.docc_prepare.specs.Backends.{IsAnswered}
use Rattle.remote_wire.specs.declared.request.Request.{Request}
use Rattle.remote_wire.specs.declared.request.Request.TheVariants as request
use Rattle.remote_wire.specs.declared.answer.Given.{Given}
use Rattle.remote_wire.specs.declared.answer.Given.TheVariants as given
use Rattle.remote_wire.specs.declared.answer.WireAnswer.{WireAnswer}
use Rattle.remote_wire.specs.Answers.{IsAnswerTo}
use Rattle.remote_calls.specs.Spelled.{request_for, answered_by, seen_behind}

-- what a client over a link has to keep
pub record Linked : Type 0 where
  pub client : ℕ
  pub shards : ℕ
  pub seen : ℕ
  pub taken : ℕ  -- up to which commit changes were taken
  pub denied : ℕ  -- how many of its commits the disk denied
  pub faults : ℕ
  pub subscribed : Address → Bool

-- what it stands for: any base and any front counts as given, and each denial that it knows of is its own
abbrev pub known_at : Linked → Known
known_at v = record {
  journal = None;
  trusted = 0;
  client = v.client;
  seen = v.seen;
  shards = v.shards;
  window = 0;
  limit = 0;
  subscribed = v.subscribed;
  taken = v.taken;
  denied = v.denied;
  denials = v.denied;
  draws = 0;
  looks = 0;
  faults = v.faults;
  gave = λ address base. true;
  fronted = λ shard based front. true;
}

-- ---- behind an answer

-- who the client is, and how many shards the store has
abbrev pub client_behind : Request → Given → ℕ → ℕ
client_behind request.Hello (given.Hello client shards) old = client
client_behind r g old = old

abbrev pub shards_behind : Request → Given → ℕ → ℕ
shards_behind request.Hello (given.Hello client shards) old = shards
shards_behind r g old = old

-- up to which commit changes were taken
abbrev pub taken_behind : Request → Given → ℕ → ℕ
taken_behind request.Take (given.Feed f) old = f.to
taken_behind r g old = old

-- whether the disk denied a commit
abbrev pub is_disk : Given → Bool
is_disk given.Disk = true
is_disk g = false

-- how many commits were denied
abbrev pub denied_behind : Request → Given → ℕ → ℕ
denied_behind (request.Append seq body bases) g old = if is_disk g then one_more old else old
denied_behind r g old = old

-- which addresses are told of
abbrev pub told_behind : Request → Given → (Address → Bool) → Address → Bool
told_behind (request.Subscribe address) given.Done old a = is_at (address_cmp address) a || old a
told_behind (request.Unsubscribe address) given.Done old a = not (is_at (address_cmp address) a) && old a
told_behind r g old a = old a

-- a commit that the disk denied is the third
denied_behind-example : denied_behind (request.Append 1 [] []) given.Disk 2 ≡ 3
denied_behind-example = refl

-- what is known behind an answer
abbrev pub linked_behind : Linked → Request → WireAnswer → Linked
linked_behind v asked said = record {
  client = client_behind asked said.given v.client;
  shards = shards_behind asked said.given v.shards;
  seen = seen_behind asked v.seen said.seen;
  taken = taken_behind asked said.given v.taken;
  denied = denied_behind asked said.given v.denied;
  faults = v.faults;
  subscribed = told_behind asked said.given v.subscribed;
}

-- ---- the law

-- A seen number that doesn't go back behind another: a wait is answered by more, and all else by no less.
abbrev pub IsNoLess : Request → ℕ → ℕ → Type 0
IsNoLess request.Wait old seen = old < seen
IsNoLess r old seen = old ≤ seen

-- a look at the journal may find as many commits, and a wait finds more
IsNoLess-look : IsNoLess request.Refresh 5 5 ≡ (5 ≤ 5)
IsNoLess-look = refl

IsNoLess-wait : IsNoLess request.Wait 5 6 ≡ (5 < 6)
IsNoLess-wait = refl

-- THE LAW OF LINKS: what is an answer to the request, and goes back behind nothing that was seen, keeps the clause of every
-- call that is spelled so.
abbrev pub LinksAnswer : Type 0
LinksAnswer =
    (v : Linked) (c : Call) (said : WireAnswer) → IsAnswerTo (request_for c) said → IsNoLess (request_for c) v.seen said.seen
    → IsAnswered (known_at v) c (answered_by (request_for c) said.seen said.given) (known_at (linked_behind v (request_for c) said))
