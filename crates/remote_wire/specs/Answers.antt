-- Answers: which bytes are an answer to a request.
use Rattle.std.specs.Prelude.{◌≡◌, ℕ, Bool, true, false, ◌&&◌, ◌==◌, nat_le, List, [], Option, Some, None}
use Rattle.std.specs.Prelude.{if◌then◌else◌, refl}
use Rattle.rdt_types.specs.declared.address.Kind.{Kind}
use Rattle.rdt_types.specs.declared.value.Value.{Value}
use Rattle.rdt_types.specs.declared.outcome.Outcome.TheVariants as outcome
use Rattle.rdt_types.specs.declared.limits.TheConstants.{LEAST_SHARDS, MOST_SHARDS}
use Rattle.rdt_types.specs.contracts.address.KindPartialEq.TheImpl as kinds
use Rattle.rdt_types.specs.DeltaMaps.{Deltas}
use Rattle.rdt_types.specs.Values.{kind_of, kind_written}
use Rattle.conflict_table.specs.Observing.{kind_observed}
use Rattle.abort_witness.specs.declared.witness.Witness.{Witness}
use Rattle.commit_file.specs.declared.version.Version.TheVariants as version
use Rattle.record_code.specs.Fields.{Reader, ◌>>=◌, tag_at, pair_at}
use Rattle.record_code.specs.Reading.{deltas_at}
use Rattle.remote_wire.specs.declared.answer_limits.TheConstants.{LONGEST_ANSWER}
use Rattle.remote_wire.specs.declared.request.Request.{Request}
use Rattle.remote_wire.specs.declared.request.Request.TheVariants as request
use Rattle.remote_wire.specs.declared.answer.WireAnswer.{WireAnswer}
use Rattle.remote_wire.specs.declared.answer.Given.{Given}
use Rattle.remote_wire.specs.declared.answer.Given.TheVariants as given
use Rattle.remote_wire.specs.declared.answer_tags.AnswerTag.{AnswerTag}
use Rattle.remote_wire.specs.declared.answer_tags.AnswerTag.TheVariants as answers
use Rattle.remote_wire.specs.declared.answer_tags.GivenTag.{GivenTag}
use Rattle.remote_wire.specs.declared.answer_tags.GivenTag.TheVariants as gifts
use Rattle.remote_wire.specs.declared.answer_tags.TheConstants.{ANSWER_TAGS}
use Rattle.remote_wire.specs.AnswerForms.{HasChanges}
use Rattle.remote_wire.specs.Reading.{made, byte_at, long_at}
use Rattle.remote_wire.specs.AnswerReading.{short_number_at, value_at, witness_at}
use Rattle.remote_wire.specs.Whole.{whole}

-- ---- what is given

-- a client and how many shards there are
abbrev pub hello_of : ℕ × ℕ → Given
hello_of x = given.Hello x.0 x.1

-- a base and the value there
abbrev pub read_of : ℕ × Value → Given
read_of x = given.Read x.0 x.1

-- deltas by rising addresses, up to a number
abbrev pub changes_at : Reader Deltas
changes_at = deltas_at version.Two (outcome.Ok [])

abbrev pub feed_of : ℕ × Deltas → Given
feed_of x = given.Feed (record { to = x.0; changes = x.1 })

abbrev pub given_feed_at : Reader Given
given_feed_at = made feed_of (pair_at long_at changes_at)

-- a number that isn't kept, and the horizon
abbrev pub late_of : ℕ × ℕ → Given
late_of x = given.Late x.0 x.1

-- a client and the number of its hold
abbrev pub held_of : ℕ × ℕ → Given
held_of x = given.Held x.0 x.1

-- what is given, by what it is
unfoldable pub given_of : GivenTag → Reader Given
given_of gifts.Hello bytes = made hello_of (pair_at short_number_at byte_at) bytes
given_of gifts.Done bytes = Some (given.Done, bytes)
given_of gifts.Read bytes = made read_of (pair_at long_at value_at) bytes
given_of gifts.Front bytes = made given.Front long_at bytes
given_of gifts.Number bytes = made given.Number long_at bytes
given_of gifts.Value bytes = made given.Value value_at bytes
given_of gifts.Feed bytes = given_feed_at bytes
given_of gifts.Late bytes = made late_of (pair_at long_at long_at) bytes
given_of gifts.Clash bytes = made given.Clash witness_at bytes
given_of gifts.Full bytes = made given.Full short_number_at bytes
given_of gifts.Disk bytes = Some (given.Disk, bytes)
given_of gifts.Held bytes = made held_of (pair_at short_number_at long_at) bytes

-- ---- which answer belongs to which request

-- what a request is given where it is done
abbrev pub done_tag : Request → GivenTag
done_tag request.Hello = gifts.Hello
done_tag request.Refresh = gifts.Done
done_tag (request.Read address) = gifts.Read
done_tag (request.Prepare shard observed) = gifts.Front
done_tag (request.Append seq body bases) = gifts.Number
done_tag (request.ReadAt address number) = gifts.Value
done_tag (request.Subscribe address) = gifts.Done
done_tag (request.Unsubscribe address) = gifts.Done
done_tag request.Take = gifts.Feed
done_tag request.Wait = gifts.Done

-- what may come late: a shard that is prepared, and a number that is read
abbrev pub may_be_late : Request → Bool
may_be_late (request.Prepare shard observed) = true
may_be_late (request.ReadAt address number) = true
may_be_late _ = false

-- what may clash: a shard that is prepared, and a commit
abbrev pub may_clash : Request → Bool
may_clash (request.Prepare shard observed) = true
may_clash (request.Append seq body bases) = true
may_clash _ = false

-- a commit: it may find the journal full, the disk failed, and a hold that bars it
abbrev pub is_append : Request → Bool
is_append (request.Append seq body bases) = true
is_append _ = false

-- what is given, where it may be
abbrev pub only_if : Bool → GivenTag → Option GivenTag
only_if true gift = Some gift
only_if false gift = None

-- what a request is given, by the byte of the answer
abbrev pub given_tag : Request → AnswerTag → Option GivenTag
given_tag r answers.Done = Some (done_tag r)
given_tag r answers.Late = only_if (may_be_late r) gifts.Late
given_tag r answers.Clash = only_if (may_clash r) gifts.Clash
given_tag r answers.Full = only_if (is_append r) gifts.Full
given_tag r answers.Disk = only_if (is_append r) gifts.Disk
given_tag r answers.Held = only_if (is_append r) gifts.Held

-- ---- what suits the request and the number that the client has seen

-- a value of the kind of the address that was named
abbrev pub is_of : Request → Kind → Bool
is_of (request.Read address) k = kinds.ghosts.eq k address.kind
is_of (request.ReadAt address number) k = kinds.ghosts.eq k address.kind
is_of _ k = true

-- the number that was named, where one was
abbrev pub is_named : Request → ℕ → Bool
is_named (request.ReadAt address number) n = n == number
is_named _ n = true

-- as many shards as a store may have
abbrev pub are_shards : ℕ → Bool
are_shards shards = nat_le LEAST_SHARDS shards && nat_le shards MOST_SHARDS

-- an observation and a write of the kind of their address
abbrev pub is_of_one_kind : Witness → Bool
is_of_one_kind w =
    kinds.ghosts.eq (kind_observed w.obs) w.address.kind && kinds.ghosts.eq (kind_written w.part) w.address.kind

-- There are as many shards as a store may have; a base, the number of the commit and the end of a feed are what the client
-- has seen; a value is of the kind of the address that was named; what comes late is the number that was named; and a
-- witness is of one kind.
abbrev pub suits : Request → ℕ → Given → Bool
suits r seen (given.Hello client shards) = are_shards shards
suits r seen (given.Read base v) = (base == seen) && is_of r (kind_of v)
suits r seen (given.Number number) = number == seen
suits r seen (given.Value v) = is_of r (kind_of v)
suits r seen (given.Feed feed) = feed.to == seen
suits r seen (given.Late number horizon) = is_named r number
suits r seen (given.Clash witness) = is_of_one_kind witness
suits r seen _ = true

-- ---- answers

-- an answer with what it gives, where this suits
abbrev pub suited : Request → ℕ → Given × List ℕ → Option (WireAnswer × List ℕ)
suited r seen gift =
    if suits r seen gift.0 then Some (record { seen = seen; given = gift.0 }, gift.1) else None

-- what is given in an answer, by its byte
unfoldable pub rest_at : Request → AnswerTag → Reader WireAnswer
rest_at r tag bytes = do
  seen ← long_at bytes
  gift ← given_tag r tag
  x ← given_of gift seen.1
  suited r seen.0 x

unfoldable pub answer_at : Request → Reader WireAnswer
answer_at r bytes = do
  tag ← tag_at ANSWER_TAGS bytes
  rest_at r tag.0 tag.1

-- The answer to a request that bytes are, if they are one, with nothing behind it.
abbrev pub answer_in : Request → List ℕ → Option WireAnswer
answer_in r bytes = whole LONGEST_ANSWER (answer_at r) bytes

-- ---- what is an answer

-- how a gift comes about
abbrev pub tag_of : GivenTag → AnswerTag
tag_of gifts.Late = answers.Late
tag_of gifts.Clash = answers.Clash
tag_of gifts.Full = answers.Full
tag_of gifts.Disk = answers.Disk
tag_of gifts.Held = answers.Held
tag_of _ = answers.Done

-- what a gift is
abbrev pub gift_of : Given → GivenTag
gift_of (given.Hello client shards) = gifts.Hello
gift_of given.Done = gifts.Done
gift_of (given.Read base v) = gifts.Read
gift_of (given.Front front) = gifts.Front
gift_of (given.Number number) = gifts.Number
gift_of (given.Value v) = gifts.Value
gift_of (given.Feed feed) = gifts.Feed
gift_of (given.Late number horizon) = gifts.Late
gift_of (given.Clash witness) = gifts.Clash
gift_of (given.Full limit) = gifts.Full
gift_of given.Disk = gifts.Disk
gift_of (given.Held client number) = gifts.Held

-- An answer is one to a request where it gives what such a request may be given, and this suits.
pub record IsAnswerTo (r : Request) (a : WireAnswer) : Type 0 where
  pub belongs : given_tag r (tag_of (gift_of a.given)) ≡ Some (gift_of a.given)
  pub fits : suits r a.seen a.given ≡ true
  pub changes : HasChanges a.given

-- what four bytes tell
longest_answer : LONGEST_ANSWER ≡ 4294967295
longest_answer = refl
