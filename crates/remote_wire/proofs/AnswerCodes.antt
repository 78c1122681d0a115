-- Answers are read as they are written.
use Rattle.std.proofs.Common.{◌≡◌, ℕ, Bool, true, false, List, [], ◌∷◌, ◌++◌, slice_get}
use Rattle.std.proofs.Common.{Some, refl, sym, ap, subst, ◌∙◌, append_assoc}
use Rattle.std.specs.Prelude.{Result, Ok, Err, IfOk}
use Rattle.std.specs.List.{AllByRecursion}
use Rattle.std.specs.declared.alloc.AllocError.{AllocError}
use Rattle.rdt_types.specs.declared.outcome.Outcome.TheVariants as outcome
use Rattle.rdt_types.specs.DeltaMaps.{Deltas}
use Rattle.commit_file.specs.declared.version.Version.TheVariants as version
use Rattle.record_code.specs.Spelling.{deltas_bytes}
use Rattle.record_code.specs.Fields.{◌>>=◌, tag_at}
use Rattle.record_code.specs.Forms.{AreForms}
use Rattle.record_code.specs.Room.{Always, Both, HaveRoom, DeltaHasRoom}
use Rattle.record_code.specs.Payloads.{IsKindOf}
use Rattle.record_code.proofs.Codes.{IsBytes, IsCode, behind, bind_some, test_some, reformed, pair_code, tag_code, variant}
use Rattle.record_code.proofs.Commits.{deltas_code}
use Rattle.record_code.proofs.KindsTold.{two_has}
use Rattle.remote_wire.specs.declared.answer_limits.TheConstants.{LONGEST_ANSWER}
use Rattle.remote_wire.specs.declared.request.Request.{Request}
use Rattle.remote_wire.specs.declared.request.Request.TheVariants as request
use Rattle.remote_wire.specs.declared.answer.WireAnswer.{WireAnswer}
use Rattle.remote_wire.specs.declared.answer.Given.{Given}
use Rattle.remote_wire.specs.declared.answer.Given.TheVariants as given
use Rattle.remote_wire.specs.declared.answer_tags.AnswerTag.{AnswerTag}
use Rattle.remote_wire.specs.declared.answer_tags.AnswerTag.TheVariants as answers
use Rattle.remote_wire.specs.declared.answer_tags.GivenTag.{GivenTag}
use Rattle.remote_wire.specs.declared.answer_tags.GivenTag.TheVariants as gifts
use Rattle.remote_wire.specs.declared.answer_tags.TheConstants.{ANSWER_TAGS}
use Rattle.remote_wire.specs.Spelling.{long_bytes}
use Rattle.remote_wire.specs.AnswerSpelling.{given_byte, given_parts, answer_bytes}
use Rattle.remote_wire.specs.Forms.{IsEightBytes}
use Rattle.remote_wire.specs.AnswerForms.{IsGiven, HasChanges}
use Rattle.remote_wire.specs.Reading.{long_at}
use Rattle.remote_wire.specs.Answers.{changes_at, hello_of, read_of, feed_of, late_of, held_of, given_of, done_tag}
use Rattle.remote_wire.specs.Answers.{may_be_late, may_clash, is_append, only_if, given_tag, suits, suited, rest_at}
use Rattle.remote_wire.specs.Answers.{answer_at, answer_in, tag_of, gift_of, IsAnswerTo}
use Rattle.remote_wire.specs.AnswerLaws.{HasAnswerSpelling, AnswersAreRead, WhatIsReadIsAnAnswer}
use Rattle.remote_wire.proofs.PartCodes.{made_again, bare, byte_code, long_code}
use Rattle.remote_wire.proofs.GivenCodes.{short_number_code, value_code, witness_code}
use Rattle.remote_wire.proofs.Wholes.{fits_at, whole_again, whole_takes}

-- ---- the deltas of a feed

abbrev AreChanges : Deltas → Type 0
AreChanges changes = AreForms (outcome.Ok []) changes × HaveRoom (Both Always DeltaHasRoom) changes

of_two : (deltas : Deltas) → AllByRecursion (λ pair. IsKindOf version.Two pair.0.kind) deltas
of_two [] = tt
of_two (x ∷ deltas) = (two_has x.0.kind, of_two deltas)

changes_code : IsCode AreChanges deltas_bytes changes_at
changes_code =
    reformed (deltas_code version.Two (outcome.Ok []))
    (λ x h. (record { outcome = tt; rising = h.rising; each = h.each; only = h.only }, h.room))
    (λ x h. record { rising = h.0.rising; each = h.0.each; kinds = of_two x; room = h.1; only = h.0.only })

-- ---- what is given

given_again : (x : Given) (rest : List ℕ) → IsGiven x → HasChanges x
    → given_of (gift_of x) (given_parts x ++ rest) ≡ Some (x, rest)
unfolding given_of
given_again (given.Hello client shards) rest h c =
    made_again (pair_code short_number_code byte_code) hello_of (client, shards) rest h
given_again given.Done rest h c = refl
given_again (given.Read base v) rest h c = made_again (pair_code long_code value_code) read_of (base, v) rest h
given_again (given.Front front) rest h c = made_again long_code given.Front front rest h
given_again (given.Number number) rest h c = made_again long_code given.Number number rest h
given_again (given.Value v) rest h c = made_again value_code given.Value v rest h
given_again (given.Feed feed) rest h c =
    made_again (pair_code long_code changes_code) feed_of (feed.to, feed.changes) rest (h.0, (c, h.1))
given_again (given.Late number horizon) rest h c =
    made_again (pair_code long_code long_code) late_of (number, horizon) rest h
given_again (given.Clash witness) rest h c = made_again witness_code given.Clash witness rest h
given_again (given.Full limit) rest h c = made_again short_number_code given.Full limit rest h
given_again given.Disk rest h c = refl
given_again (given.Held client number) rest h c =
    made_again (pair_code short_number_code long_code) held_of (client, number) rest h

-- it is of its form, and what was to be read
abbrev IsGift : GivenTag → Given → Type 0
IsGift gift x = IsGiven x × HasChanges x × (gift_of x ≡ gift)

given_of_takes : (gift : GivenTag) (rest : List ℕ) (z : Given × List ℕ) → IsBytes rest → given_of gift rest ≡ Some z
    → IsGift gift z.0 × (rest ≡ given_parts z.0 ++ z.1)
unfolding given_of
given_of_takes gifts.Hello rest z fits e =
    variant (pair_code short_number_code byte_code) (IsGift gifts.Hello) given_parts [] hello_of (λ x. refl)
    (λ x h. (h, tt, refl)) rest z fits e
given_of_takes gifts.Done rest z fits e = bare (IsGift gifts.Done) given_parts [] given.Done rest z (tt, tt, refl) refl e
given_of_takes gifts.Read rest z fits e =
    variant (pair_code long_code value_code) (IsGift gifts.Read) given_parts [] read_of (λ x. refl)
    (λ x h. (h, tt, refl)) rest z fits e
given_of_takes gifts.Front rest z fits e = variant long_code (IsGift gifts.Front) given_parts [] given.Front
    (λ x. refl) (λ x h. (h, tt, refl)) rest z fits e
given_of_takes gifts.Number rest z fits e = variant long_code (IsGift gifts.Number) given_parts [] given.Number
    (λ x. refl) (λ x h. (h, tt, refl)) rest z fits e
given_of_takes gifts.Value rest z fits e = variant value_code (IsGift gifts.Value) given_parts [] given.Value
    (λ x. refl) (λ x h. (h, tt, refl)) rest z fits e
given_of_takes gifts.Feed rest z fits e =
    variant (pair_code long_code changes_code) (IsGift gifts.Feed) given_parts [] feed_of (λ x. refl)
    (λ x h. ((h.0, h.1.1), h.1.0, refl)) rest z fits e
given_of_takes gifts.Late rest z fits e =
    variant (pair_code long_code long_code) (IsGift gifts.Late) given_parts [] late_of (λ x. refl)
    (λ x h. (h, tt, refl)) rest z fits e
given_of_takes gifts.Clash rest z fits e = variant witness_code (IsGift gifts.Clash) given_parts [] given.Clash
    (λ x. refl) (λ x h. (h, tt, refl)) rest z fits e
given_of_takes gifts.Full rest z fits e = variant short_number_code (IsGift gifts.Full) given_parts [] given.Full
    (λ x. refl) (λ x h. (h, tt, refl)) rest z fits e
given_of_takes gifts.Disk rest z fits e = bare (IsGift gifts.Disk) given_parts [] given.Disk rest z (tt, tt, refl) refl e
given_of_takes gifts.Held rest z fits e =
    variant (pair_code short_number_code long_code) (IsGift gifts.Held) given_parts [] held_of (λ x. refl)
    (λ x h. (h, tt, refl)) rest z fits e

-- ---- the byte of an answer

abbrev answer_byte : AnswerTag → ℕ
answer_byte answers.Done = 0
answer_byte answers.Late = 1
answer_byte answers.Clash = 2
answer_byte answers.Full = 3
answer_byte answers.Disk = 4
answer_byte answers.Held = 5

answer_byte-found : (tag : AnswerTag) → slice_get ANSWER_TAGS (answer_byte tag) ≡ Some tag
answer_byte-found answers.Done = refl
answer_byte-found answers.Late = refl
answer_byte-found answers.Clash = refl
answer_byte-found answers.Full = refl
answer_byte-found answers.Disk = refl
answer_byte-found answers.Held = refl

given_byte-is : (x : Given) → given_byte x ≡ answer_byte (tag_of (gift_of x))
given_byte-is (given.Hello client shards) = refl
given_byte-is given.Done = refl
given_byte-is (given.Read base v) = refl
given_byte-is (given.Front front) = refl
given_byte-is (given.Number number) = refl
given_byte-is (given.Value v) = refl
given_byte-is (given.Feed feed) = refl
given_byte-is (given.Late number horizon) = refl
given_byte-is (given.Clash witness) = refl
given_byte-is (given.Full limit) = refl
given_byte-is given.Disk = refl
given_byte-is (given.Held client number) = refl

done_tag-done : (r : Request) → tag_of (done_tag r) ≡ answers.Done
done_tag-done request.Hello = refl
done_tag-done request.Refresh = refl
done_tag-done (request.Read address) = refl
done_tag-done (request.Prepare shard observed) = refl
done_tag-done (request.Append seq body bases) = refl
done_tag-done (request.ReadAt address number) = refl
done_tag-done (request.Subscribe address) = refl
done_tag-done (request.Unsubscribe address) = refl
done_tag-done request.Take = refl
done_tag-done request.Wait = refl

only_if-is : (may : Bool) (gift found : GivenTag) → only_if may gift ≡ Some found → gift ≡ found
only_if-is true gift found e = cc
only_if-is false gift found e = absurd cc

-- a gift comes about by the byte that was read
given_tag-by : (r : Request) (tag : AnswerTag) (gift : GivenTag) → given_tag r tag ≡ Some gift → tag_of gift ≡ tag
given_tag-by r answers.Done gift e =
    let is : done_tag r ≡ gift = cc in
    ap tag_of (sym is) ∙ done_tag-done r
given_tag-by r answers.Late gift e = ap tag_of (sym (only_if-is (may_be_late r) gifts.Late gift e))
given_tag-by r answers.Clash gift e = ap tag_of (sym (only_if-is (may_clash r) gifts.Clash gift e))
given_tag-by r answers.Full gift e = ap tag_of (sym (only_if-is (is_append r) gifts.Full gift e))
given_tag-by r answers.Disk gift e = ap tag_of (sym (only_if-is (is_append r) gifts.Disk gift e))
given_tag-by r answers.Held gift e = ap tag_of (sym (only_if-is (is_append r) gifts.Held gift e))

-- ---- answers

module _ (r : Request) where
  abbrev made_of : ℕ → Given → WireAnswer
  made_of seen x = record { seen = seen; given = x }

  -- what is asked of an answer
  pub record IsRead (a : WireAnswer) : Type 0 where
    pub seen : IsEightBytes a.seen
    pub form : IsGiven a.given
    pub to : IsAnswerTo r a

  rest_again : (a : WireAnswer) (rest : List ℕ) → IsRead a
      → rest_at r (tag_of (gift_of a.given)) (long_bytes a.seen ++ (given_parts a.given ++ rest)) ≡ Some (a, rest)
  unfolding rest_at
  rest_again a rest h =
      rw (
        long_code.again a.seen (given_parts a.given ++ rest) h.seen,
        h.to.belongs,
        given_again a.given rest h.form h.to.changes,
        h.to.fits,
      ) refl

  answer_again : (a : WireAnswer) (rest : List ℕ) → IsRead a → answer_at r (answer_bytes a ++ rest) ≡ Some (a, rest)
  unfolding answer_at tag_at
  answer_again a rest h =
      rw (given_byte-is a.given, answer_byte-found (tag_of (gift_of a.given)))
      (ap (rest_at r (tag_of (gift_of a.given))) (append_assoc (long_bytes a.seen) (given_parts a.given) rest)
      ∙ rest_again a rest h)

  -- what is read behind the byte
  rest_takes : (tag : AnswerTag) (rest : List ℕ) (z : WireAnswer × List ℕ) → IsBytes rest → rest_at r tag rest ≡ Some z
      → IsRead z.0 × ((answer_byte tag ∷ []) ++ rest ≡ answer_bytes z.0 ++ z.1)
  unfolding rest_at
  rest_takes tag rest z fits e =
      let s = bind_some (long_at rest)
      (λ n. given_tag r tag >>= λ gift. given_of gift n.1 >>= suited r n.0) z e in
      let g = bind_some (given_tag r tag) (λ gift. given_of gift s.0.1 >>= suited r s.0.0) z s.2 in
      let v = bind_some (given_of g.0 s.0.1) (suited r s.0.0) z g.2 in
      let x : Given = v.0.0 in
      let w = test_some (suits r s.0.0 x) (made_of s.0.0 x, v.0.1) z v.2 in
      let t = long_code.takes rest s.0 fits s.1 in
      let u = given_of_takes g.0 s.0.1 v.0 (behind long_code rest s.0 fits s.1) v.1 in
      let by : tag_of (gift_of x) ≡ tag = ap tag_of u.0.2 ∙ given_tag-by r tag g.0 g.1 in
      let belongs : given_tag r (tag_of (gift_of x)) ≡ Some (gift_of x) =
      ap (given_tag r) by ∙ g.1 ∙ ap (λ (o : GivenTag). Some o) (sym u.0.2) in
      let byte : answer_byte tag ≡ given_byte x = sym (given_byte-is x ∙ ap answer_byte by) in
      let parts : answer_byte tag ∷ rest ≡ given_byte x ∷ ((long_bytes s.0.0 ++ given_parts x) ++ v.0.1) =
      ap (λ (n : ℕ). n ∷ rest) byte
      ∙ ap (λ (l : List ℕ). given_byte x ∷ l) (t.1 ∙ ap (λ (l : List ℕ). long_bytes s.0.0 ++ l) u.1
      ∙ sym (append_assoc (long_bytes s.0.0) (given_parts x) v.0.1)) in
      let read : IsRead (made_of s.0.0 x) = record {
        seen = t.0;
        form = u.0.0;
        to = record { belongs = belongs; fits = w.0; changes = u.0.1 };
      } in
      subst (λ (y : WireAnswer × List ℕ). IsRead y.0 × (answer_byte tag ∷ rest ≡ answer_bytes y.0 ++ y.1)) w.1
      (read, parts)

  answer_takes : (bytes : List ℕ) (z : WireAnswer × List ℕ) → IsBytes bytes → answer_at r bytes ≡ Some z → IsRead z.0
      × (bytes ≡ answer_bytes z.0 ++ z.1)
  unfolding answer_at
  answer_takes bytes z fits e =
      let code = tag_code answer_byte ANSWER_TAGS refl in
      let p = bind_some (tag_at ANSWER_TAGS bytes) (λ tag. rest_at r tag.0 tag.1) z e in
      let t = code.takes bytes p.0 fits p.1 in
      let u = rest_takes p.0.0 p.0.1 z (behind code bytes p.0 fits p.1) p.2 in
      (u.0, t.1 ∙ u.1)

  pub answer_code : IsCode IsRead answer_bytes (answer_at r)
  answer_code = record { again = answer_again; takes = answer_takes }

pub answers_are_read : AnswersAreRead
answers_are_read r a h to =
    whole_again (answer_code r) LONGEST_ANSWER a (record { seen = h.seen; form = h.form; to = to }) h.short

pub what_is_read_is_an_answer : WhatIsReadIsAnAnswer
what_is_read_is_an_answer r bytes a all e =
    let t = whole_takes (answer_code r) LONGEST_ANSWER bytes a (λ i. fits_at i bytes all) e in
    (record { seen = t.0.seen; form = t.0.form; short = t.1 }, t.0.to, t.2)

-- ---- what the code answers

-- what is written is read as it was
pub is_read_again : (a : WireAnswer) (answer : Result (List ℕ) AllocError) → IfOk answer (λ bytes. bytes ≡ answer_bytes a)
    → IfOk answer (λ bytes. HasAnswerSpelling a)
    → IfOk answer (λ bytes. (r : Request) → IsAnswerTo r a → answer_in r bytes ≡ Some a)
is_read_again a (Ok bytes) is spelled = λ r to. ap (answer_in r) is ∙ answers_are_read r a spelled to
is_read_again a (Err error) is spelled = tt
