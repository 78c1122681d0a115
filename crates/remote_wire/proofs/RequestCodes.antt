-- Requests are read as they are written.
use Rattle.std.proofs.Common.{◌≡◌, ℕ, ◌^◌, ◌<◌, ◌≤◌, List, [], ◌∷◌, ◌++◌, length, Some, refl, ap, subst, ◌∙◌, arith}
use Rattle.std.specs.Prelude.{Result, Ok, Err, IfOk}
use Rattle.std.specs.declared.alloc.AllocError.{AllocError}
use Rattle.journal_core.specs.declared.limits.TheConstants.{LONGEST_BODY}
use Rattle.record_code.specs.Spelling.{text_bytes}
use Rattle.record_code.specs.Fields.{tag_at, text_at}
use Rattle.record_code.proofs.Codes.{IsBytes, IsCode, IsWithin, text_code, pair_code, list_code, tagged, variant}
use Rattle.remote_wire.specs.declared.limits.TheConstants.{LONGEST_REQUEST}
use Rattle.remote_wire.specs.declared.request.Request.{Request}
use Rattle.remote_wire.specs.declared.request.Request.TheVariants as request
use Rattle.remote_wire.specs.declared.tags.RequestTag.{RequestTag}
use Rattle.remote_wire.specs.declared.tags.RequestTag.TheVariants as asked
use Rattle.remote_wire.specs.declared.tags.TheConstants.{REQUEST_TAGS}
use Rattle.remote_wire.specs.Spelling.{request_bytes}
use Rattle.remote_wire.specs.Forms.{IsRequest}
use Rattle.remote_wire.specs.Requests.{prepare_of, append_of, read_at_of, request_of, request_at, request_in}
use Rattle.remote_wire.specs.Laws.{HasSpelling, RequestsAreRead, WhatIsReadIsARequest}
use Rattle.remote_wire.proofs.PartCodes.{made_again, bare, byte_code, long_code, place_code, based_code, base_code}
use Rattle.remote_wire.proofs.Wholes.{fits_at, whole_again, whole_takes}

limit_short : LONGEST_BODY < 2 ^ 32
limit_short = let is : LONGEST_BODY ≡ 4096 = refl in omega (arith, is)

-- the text of a body
body_code : IsCode (IsWithin LONGEST_BODY) text_bytes (text_at LONGEST_BODY)
body_code = text_code LONGEST_BODY limit_short

abbrev asked_byte : RequestTag → ℕ
asked_byte asked.Nothing = 0
asked_byte asked.Hello = 1
asked_byte asked.Refresh = 2
asked_byte asked.Read = 3
asked_byte asked.Prepare = 4
asked_byte asked.Append = 5
asked_byte asked.ReadAt = 6
asked_byte asked.Subscribe = 7
asked_byte asked.Unsubscribe = 8
asked_byte asked.Take = 9
asked_byte asked.Wait = 10

request_again : (x : Request) (rest : List ℕ) → IsRequest x → request_at (request_bytes x ++ rest) ≡ Some (x, rest)
unfolding request_at request_of tag_at
request_again request.Hello rest h = refl
request_again request.Refresh rest h = refl
request_again (request.Read address) rest h = made_again place_code request.Read address rest h
request_again (request.Prepare shard observed) rest h =
    made_again (pair_code byte_code (list_code based_code)) prepare_of (shard, observed) rest h
request_again (request.Append seq body bases) rest h =
    made_again (pair_code long_code (pair_code body_code (list_code base_code))) append_of (seq, (body, bases)) rest
    (h.seq, (h.body, h.bases))
request_again (request.ReadAt address number) rest h =
    made_again (pair_code place_code long_code) read_at_of (address, number) rest h
request_again (request.Subscribe address) rest h = made_again place_code request.Subscribe address rest h
request_again (request.Unsubscribe address) rest h = made_again place_code request.Unsubscribe address rest h
request_again request.Take rest h = refl
request_again request.Wait rest h = refl

request_of_takes : (tag : RequestTag) (rest : List ℕ) (z : Request × List ℕ) → IsBytes rest
    → request_of tag rest ≡ Some z
    → IsRequest z.0 × ((asked_byte tag ∷ []) ++ rest ≡ request_bytes z.0 ++ z.1)
unfolding request_of
request_of_takes asked.Nothing rest z fits e = absurd cc
request_of_takes asked.Hello rest z fits e = bare IsRequest request_bytes (1 ∷ []) request.Hello rest z tt refl e
request_of_takes asked.Refresh rest z fits e = bare IsRequest request_bytes (2 ∷ []) request.Refresh rest z tt refl e
request_of_takes asked.Read rest z fits e = variant place_code IsRequest request_bytes (3 ∷ []) request.Read
    (λ x. refl) (λ x h. h) rest z fits e
request_of_takes asked.Prepare rest z fits e =
    variant (pair_code byte_code (list_code based_code)) IsRequest request_bytes (4 ∷ []) prepare_of (λ x. refl)
    (λ x h. h) rest z fits e
request_of_takes asked.Append rest z fits e =
    variant (pair_code long_code (pair_code body_code (list_code base_code))) IsRequest request_bytes (5 ∷ [])
    append_of (λ x. refl) (λ x h. record { seq = h.0; body = h.1.0; bases = h.1.1 }) rest z fits e
request_of_takes asked.ReadAt rest z fits e =
    variant (pair_code place_code long_code) IsRequest request_bytes (6 ∷ []) read_at_of (λ x. refl) (λ x h. h) rest z
    fits e
request_of_takes asked.Subscribe rest z fits e = variant place_code IsRequest request_bytes (7 ∷ [])
    request.Subscribe (λ x. refl) (λ x h. h) rest z fits e
request_of_takes asked.Unsubscribe rest z fits e = variant place_code IsRequest request_bytes (8 ∷ [])
    request.Unsubscribe (λ x. refl) (λ x h. h) rest z fits e
request_of_takes asked.Take rest z fits e = bare IsRequest request_bytes (9 ∷ []) request.Take rest z tt refl e
request_of_takes asked.Wait rest z fits e = bare IsRequest request_bytes (10 ∷ []) request.Wait rest z tt refl e

request_takes : (bytes : List ℕ) (z : Request × List ℕ) → IsBytes bytes → request_at bytes ≡ Some z → IsRequest z.0
    × (bytes ≡ request_bytes z.0 ++ z.1)
unfolding request_at
request_takes bytes z fits e =
    tagged asked_byte REQUEST_TAGS refl IsRequest request_bytes request_of request_of_takes bytes z fits e

pub request_code : IsCode IsRequest request_bytes request_at
request_code = record { again = request_again; takes = request_takes }

pub requests_are_read : RequestsAreRead
requests_are_read r h = whole_again request_code LONGEST_REQUEST r h.form h.short

pub what_is_read_is_a_request : WhatIsReadIsARequest
what_is_read_is_a_request bytes r all e =
    let t = whole_takes request_code LONGEST_REQUEST bytes r (λ i. fits_at i bytes all) e in
    (record { form = t.0; short = t.1 }, t.2)

-- ---- what the code answers

-- what is written has a spelling
pub is_spelled : (r : Request) (answer : Result (List ℕ) AllocError) → IfOk answer (λ bytes. bytes ≡ request_bytes r)
    → IfOk answer (λ bytes. IsRequest r) → IfOk answer (λ bytes. length bytes ≤ LONGEST_REQUEST)
    → IfOk answer (λ bytes. HasSpelling r)
is_spelled r (Ok bytes) is form short =
    record { form = form; short = subst (λ (l : List ℕ). length l ≤ LONGEST_REQUEST) is short }
is_spelled r (Err error) is form short = tt

-- and is read as it was
pub is_read_again : (r : Request) (answer : Result (List ℕ) AllocError) → IfOk answer (λ bytes. bytes ≡ request_bytes r)
    → IfOk answer (λ bytes. HasSpelling r) → IfOk answer (λ bytes. request_in bytes ≡ Some r)
is_read_again r (Ok bytes) is spelled = ap request_in is ∙ requests_are_read r spelled
is_read_again r (Err error) is spelled = tt
