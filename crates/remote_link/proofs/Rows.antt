-- Which answers are answers to a request, as a table.
use Rattle.std.proofs.Common.{◌≡◌, ℕ, ◌≤◌, true, [], ◌∷◌, Option, Some, None, subst}
use Rattle.std.specs.Prelude.{◌&&◌, nat_le}
use Rattle.std.specs.List.{AllByRecursion}
use Rattle.std.proofs.lemmas.Bool.{and_parts, eqb-true, leb-true}
use Rattle.rdt_types.specs.declared.limits.TheConstants.{LEAST_SHARDS, MOST_SHARDS}
use Rattle.rdt_types.specs.Values.{kind_of, kind_written}
use Rattle.conflict_table.specs.Observing.{kind_observed}
use Rattle.abort_witness.specs.declared.witness.Witness.{Witness}
use Rattle.abort_witness.specs.Kinds.{IsOfOneKind}
use Rattle.docc_prepare.specs.Serial.{AreOfTheirKinds}
use Rattle.record_code.proofs.KindsTold.{kind_same}
use Rattle.remote_wire.specs.declared.request.Request.{Request}
use Rattle.remote_wire.specs.declared.request.Request.TheVariants as request
use Rattle.remote_wire.specs.declared.answer.Given.{Given}
use Rattle.remote_wire.specs.declared.answer.Given.TheVariants as given
use Rattle.remote_wire.specs.declared.answer.WireAnswer.{WireAnswer}
use Rattle.remote_wire.specs.declared.answer_tags.AnswerTag.{AnswerTag}
use Rattle.remote_wire.specs.declared.answer_tags.AnswerTag.TheVariants as answers
use Rattle.remote_wire.specs.declared.answer_tags.GivenTag.{GivenTag}
use Rattle.remote_wire.specs.declared.answer_tags.GivenTag.TheVariants as gifts
use Rattle.rdt_types.specs.DeltaMaps.{Deltas}
use Rattle.record_code.specs.Forms.{IsFiled}
use Rattle.remote_link.specs.Table.{IsAnswer}
use Rattle.remote_wire.specs.Answers.{given_tag, is_of_one_kind, tag_of, gift_of, IsAnswerTo}

-- ---- what may be given

-- what a request may be given
abbrev pub MayBe : Request → GivenTag → Type 0
MayBe request.Hello gifts.Hello = Unit {0}
MayBe request.Refresh gifts.Done = Unit {0}
MayBe (request.Read address) gifts.Read = Unit {0}
MayBe (request.Prepare shard observed) gifts.Front = Unit {0}
MayBe (request.Prepare shard observed) gifts.Late = Unit {0}
MayBe (request.Prepare shard observed) gifts.Clash = Unit {0}
MayBe (request.Append seq body bases) gifts.Number = Unit {0}
MayBe (request.Append seq body bases) gifts.Clash = Unit {0}
MayBe (request.Append seq body bases) gifts.Full = Unit {0}
MayBe (request.Append seq body bases) gifts.Disk = Unit {0}
MayBe (request.Append seq body bases) gifts.Held = Unit {0}
MayBe (request.ReadAt address number) gifts.Value = Unit {0}
MayBe (request.ReadAt address number) gifts.Late = Unit {0}
MayBe (request.Subscribe address) gifts.Done = Unit {0}
MayBe (request.Unsubscribe address) gifts.Done = Unit {0}
MayBe request.Take gifts.Feed = Unit {0}
MayBe request.Wait gifts.Done = Unit {0}
MayBe r gift = ⊥

-- the same, where something is given
abbrev MayBeSome : Request → Option GivenTag → Type 0
MayBeSome r None = Unit {0}
MayBeSome r (Some gift) = MayBe r gift

-- what is given by a byte may be
tag_may : (r : Request) (tag : AnswerTag) → MayBeSome r (given_tag r tag)
tag_may request.Hello answers.Done = tt
tag_may request.Refresh answers.Done = tt
tag_may (request.Read address) answers.Done = tt
tag_may (request.Prepare shard observed) answers.Done = tt
tag_may (request.Append seq body bases) answers.Done = tt
tag_may (request.ReadAt address number) answers.Done = tt
tag_may (request.Subscribe address) answers.Done = tt
tag_may (request.Unsubscribe address) answers.Done = tt
tag_may request.Take answers.Done = tt
tag_may request.Wait answers.Done = tt
tag_may (request.Prepare shard observed) answers.Late = tt
tag_may (request.ReadAt address number) answers.Late = tt
tag_may r answers.Late = tt
tag_may (request.Prepare shard observed) answers.Clash = tt
tag_may (request.Append seq body bases) answers.Clash = tt
tag_may r answers.Clash = tt
tag_may (request.Append seq body bases) answers.Full = tt
tag_may r answers.Full = tt
tag_may (request.Append seq body bases) answers.Disk = tt
tag_may r answers.Disk = tt
tag_may (request.Append seq body bases) answers.Held = tt
tag_may r answers.Held = tt

-- so what an answer gives may be
given_may : (r : Request) (said : WireAnswer) → IsAnswerTo r said → MayBe r (gift_of said.given)
given_may r said is = subst (MayBeSome r) is.belongs (tag_may r (tag_of (gift_of said.given)))

-- ---- what suits

one_kind : (w : Witness) → is_of_one_kind w ≡ true → IsOfOneKind w
one_kind w fits =
    let parts = and_parts _ _ fits in record {
      observed = kind_same (kind_observed w.obs) w.address.kind parts.0;
      written = kind_same (kind_written w.part) w.address.kind parts.1;
    }

of_their_kinds : (changes : Deltas) → AllByRecursion IsFiled changes → AreOfTheirKinds changes
of_their_kinds [] each = tt
of_their_kinds (pair ∷ changes) each = (each.0.kind, of_their_kinds changes each.1)

in_range : (shards : ℕ) → (nat_le LEAST_SHARDS shards && nat_le shards MOST_SHARDS) ≡ true → (LEAST_SHARDS ≤ shards) × (shards ≤ MOST_SHARDS)
in_range shards fits =
    let parts = and_parts _ _ fits in (leb-true LEAST_SHARDS shards parts.0, leb-true shards MOST_SHARDS parts.1)

-- ---- the table

-- what is given, by what may be and what suits
rows : (r : Request) (seen : ℕ) (g : Given) → MayBe r (gift_of g) → IsAnswerTo r (record { seen = seen; given = g }) → IsAnswer r seen g
rows request.Hello seen (given.Hello client shards) may is = in_range shards is.fits
rows request.Hello seen g may is = absurd may
rows request.Refresh seen given.Done may is = tt
rows request.Refresh seen g may is = absurd may
rows (request.Read address) seen (given.Read base v) may is =
    let parts = and_parts _ _ is.fits in (eqb-true base seen parts.0, kind_same (kind_of v) address.kind parts.1)
rows (request.Read address) seen g may is = absurd may
rows (request.Prepare shard based) seen (given.Front front) may is = tt
rows (request.Prepare shard based) seen (given.Late base horizon) may is = tt
rows (request.Prepare shard based) seen (given.Clash w) may is = one_kind w is.fits
rows (request.Prepare shard based) seen g may is = absurd may
rows (request.Append seq body bases) seen (given.Number n) may is = eqb-true n seen is.fits
rows (request.Append seq body bases) seen (given.Clash w) may is = one_kind w is.fits
rows (request.Append seq body bases) seen (given.Held client number) may is = tt
rows (request.Append seq body bases) seen (given.Full limit) may is = tt
rows (request.Append seq body bases) seen given.Disk may is = tt
rows (request.Append seq body bases) seen g may is = absurd may
rows (request.ReadAt address number) seen (given.Value v) may is = kind_same (kind_of v) address.kind is.fits
rows (request.ReadAt address number) seen (given.Late n horizon) may is = eqb-true n number is.fits
rows (request.ReadAt address number) seen g may is = absurd may
rows (request.Subscribe address) seen given.Done may is = tt
rows (request.Subscribe address) seen g may is = absurd may
rows (request.Unsubscribe address) seen given.Done may is = tt
rows (request.Unsubscribe address) seen g may is = absurd may
rows request.Take seen (given.Feed f) may is = (eqb-true f.to seen is.fits, of_their_kinds f.changes is.changes.each)
rows request.Take seen g may is = absurd may
rows request.Wait seen given.Done may is = tt
rows request.Wait seen g may is = absurd may

-- so an answer to a request is in the table
pub in_table : (r : Request) (said : WireAnswer) → IsAnswerTo r said → IsAnswer r said.seen said.given
in_table r said is = rows r said.seen said.given (given_may r said is) is
