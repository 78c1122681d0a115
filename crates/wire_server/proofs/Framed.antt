-- Frames of requests and of answers, one behind another.
use Rattle.std.proofs.Common.{◌≡◌, ℕ, ◌+◌, ◌^◌, ◌<◌, ◌≤◌, ◌⊎◌, Bool, true, false, List, [], ◌∷◌, ◌++◌, map, length, take, Option, Some, None, refl, ap, sym, ◌∙◌, subst, arith}
use Rattle.std.proofs.Common.{append_assoc, length-append}
use Rattle.std.specs.Prelude.{nat_lt, if◌then◌else◌, IfSome}
use Rattle.std.specs.List.{AllByRecursion}
use Rattle.std.proofs.lemmas.Bool.Decides.{nat_tests}
use Rattle.std.proofs.lemmas.List.{map-append}
use Rattle.std.proofs.Math.Seq.{take-append-add}
use Rattle.dio_core.specs.Sources.{with_prefix}
use Rattle.dio_core.specs.Sinks.{with_more, TakesPrefix}
use Rattle.dio_core.specs.Told.{WhereTold}
use Rattle.dio_core.proofs.Sinks.{with_more-with_more}
use Rattle.dio_core.proofs.Sources.{WhereTold-prefix}
use Rattle.dio_core.proofs.Told.{WhereTold-then, WhereTold-map}
use Rattle.record_code.specs.Fields.{Reader, ◌>>=◌}
use Rattle.txn_grammar.specs.Characters.{Text}
use Rattle.remote_wire.specs.declared.answer.WireAnswer.{WireAnswer}
use Rattle.remote_wire.specs.declared.answer_limits.TheConstants.{LONGEST_ANSWER}
use Rattle.remote_wire.specs.declared.limits.TheConstants.{LONGEST_REQUEST}
use Rattle.remote_wire.specs.declared.request.Request.{Request}
use Rattle.remote_wire.specs.Answers.{answer_at, answer_in}
use Rattle.remote_wire.specs.Whole.{ended, whole}
use Rattle.wire_frames.specs.Frames.{Front, frame, frames, frame_in, IsText}
use Rattle.wire_frames.proofs.Cut.{frames-cut, frames-more, frames-one}
use Rattle.wire_server.specs.Talking.{Exchange, request_of, reply_of}
use Rattle.wire_server.specs.Promises.{HasRead}

-- ---- frames behind one another

-- one frame more
pub frames-last : (texts : List Text) (text : Text) → frames (texts ++ text ∷ []) ≡ frames texts ++ frame text
frames-last texts text = frames-more texts (text ∷ []) ∙ ap (λ bytes. frames texts ++ bytes) (frames-one text)

-- of one request more
pub requests-more : (es : List Exchange) (e : Exchange) → frames (map request_of (es ++ e ∷ [])) ≡ frames (map request_of es) ++ frame (request_of e)
requests-more es e = ap frames (map-append request_of es (e ∷ [])) ∙ frames-last (map request_of es) (request_of e)

-- and of its answer
pub replies-more : (es : List Exchange) (e : Exchange) → frames (map reply_of (es ++ e ∷ [])) ≡ frames (map reply_of es) ++ frame (reply_of e)
replies-more es e = ap frames (map-append reply_of es (e ∷ [])) ∙ frames-last (map reply_of es) (reply_of e)

-- ---- what was read

-- one that fits is behind those that fit
pub sized-more : (P : Text → Type 0) (texts : List Text) (text : Text) → AllByRecursion P texts → P text → AllByRecursion P (texts ++ text ∷ [])
sized-more P [] text all one = (one, tt)
sized-more P (x ∷ texts) text all one = (all.0, sized-more P texts text all.1 one)

-- nothing was read yet
pub read-none : (all : Text) → HasRead [] all all
read-none all = record { cut = refl; sized = tt }

-- one request more
pub read-more : (es : List Exchange) (e : Exchange) (all mid rest : Text) → HasRead es all mid → IsText LONGEST_REQUEST (request_of e)
    → mid ≡ frame (request_of e) ++ rest → HasRead (es ++ e ∷ []) all rest
read-more es e all mid rest past one front = record {
  cut =
      past.cut
      ∙ ap (λ bytes. frames (map request_of es) ++ bytes) front
      ∙ sym (append_assoc (frames (map request_of es)) (frame (request_of e)) rest)
      ∙ ap (λ bytes. bytes ++ rest) (sym (requests-more es e));
  sized = subst (AllByRecursion (IsText LONGEST_REQUEST)) (sym (map-append request_of es (e ∷ [])))
      (sized-more (IsText LONGEST_REQUEST) (map request_of es) (request_of e) past.sized one);
}

-- what is left is what is behind other bytes
pub read-behind : (es : List Exchange) (all mid bytes rest : Text) → HasRead es all mid → mid ≡ bytes ++ rest → HasRead es all (bytes ++ rest)
read-behind es all mid bytes rest past front = subst (HasRead es all) front past

-- ---- answers fit frames

-- what is too long is nothing
short-enough : {A : Type 0} (most : ℕ) (reader : Reader A) (bytes : List ℕ) (x : A) → whole most reader bytes ≡ Some x → length bytes ≤ most
short-enough {A = A} most reader bytes x is = by (nat_lt most (length bytes)) refl
  where
    by : (t : Bool) → nat_lt most (length bytes) ≡ t → length bytes ≤ most
    by false short = grind (arith, nat_tests)
    by true long =
        let none : whole most reader bytes ≡ None = ap (λ t. if t then None else (reader bytes >>= ended)) long in
        absurd (let no : Some x ≡ None = sym is ∙ none in cc)

pub reply-short : (asked : Request) (bytes : List ℕ) (answer : WireAnswer) → answer_in asked bytes ≡ Some answer → length bytes < 2 ^ 32
reply-short asked bytes answer is =
    let few = short-enough LONGEST_ANSWER (answer_at asked) bytes answer is in omega (arith, few)

-- ---- what was taken

-- one answer more
pub taken-more : (es : List Exchange) (e : Exchange) (old mid new : Option Text) → mid ≡ with_more old (frames (map reply_of es))
    → new ≡ with_more mid (frame (reply_of e)) → new ≡ with_more old (frames (map reply_of (es ++ e ∷ [])))
taken-more es e old mid new past more =
    more
    ∙ ap (λ taken. with_more taken (frame (reply_of e))) past
    ∙ with_more-with_more old (frames (map reply_of es)) (frame (reply_of e))
    ∙ ap (with_more old) (sym (replies-more es e))

-- a prefix of one answer more
pub taken-part : (es : List Exchange) (e : Exchange) (old mid new : Option Text) → mid ≡ with_more old (frames (map reply_of es))
    → TakesPrefix (frame (reply_of e)) mid new → TakesPrefix (frames (map reply_of (es ++ e ∷ []))) old new
taken-part es e old mid new past (n, few, part) =
    let first = frames (map reply_of es) in
    let second = frame (reply_of e) in
    let both = replies-more es e in
    let size = length-append first second in (
      length first + n,
      subst (λ (bytes : Text). length first + n ≤ length bytes) (sym both) (omega (arith, few, size)),
      part
          ∙ ap (λ taken. with_more taken (take n second)) past
          ∙ with_more-with_more old first (take n second)
          ∙ ap (with_more old) (sym (take-append-add first second n))
          ∙ ap (λ bytes. with_more old (take (length first + n) bytes)) (sym both),
    )

-- ---- as many frames as there are

-- a frame isn't what stands in front of nothing
whole-some : (text rest : Text) → Front.Whole text rest ≡ Front.Nothing → ⊥
whole-some text rest e = let no : ⊥ = cc in no

-- two texts whose frames stand in front of the same bytes
same-front : (a b x y : Text) → IsText LONGEST_REQUEST a → IsText LONGEST_REQUEST b → frame a ++ x ≡ frame b ++ y → x ≡ y
same-front a b x y fits-a fits-b same =
    let short : LONGEST_REQUEST < 2 ^ 32 = omega arith in
    let e : Front.Whole a x ≡ Front.Whole b y =
    sym (frames-cut LONGEST_REQUEST a x short fits-a) ∙ ap (frame_in LONGEST_REQUEST) same ∙ frames-cut LONGEST_REQUEST b y short fits-b in
    let rest : x ≡ y = cc in rest

-- a frame is some bytes
no-frame : (a x : Text) → IsText LONGEST_REQUEST a → frame a ++ x ≡ [] → ⊥
no-frame a x fits none =
    let short : LONGEST_REQUEST < 2 ^ 32 = omega arith in
    whole-some a x (sym (frames-cut LONGEST_REQUEST a x short fits) ∙ ap (frame_in LONGEST_REQUEST) none)

-- Frames in front of bytes are no more than the frames that these are.
pub few-frames : (firsts all : List Text) (rest : Text) → AllByRecursion (IsText LONGEST_REQUEST) firsts → AllByRecursion (IsText LONGEST_REQUEST) all
    → frames all ≡ frames firsts ++ rest → length firsts ≤ length all
few-frames [] all rest fits-a fits-b same = omega arith
few-frames (a ∷ firsts) [] rest fits-a fits-b same =
    absurd (no-frame a (frames firsts ++ rest) fits-a.0 (sym (append_assoc (frame a) (frames firsts) rest) ∙ sym same))
few-frames (a ∷ firsts) (b ∷ all) rest fits-a fits-b same =
    let more = few-frames firsts all rest fits-a.1 fits-b.1
    (same-front b a (frames all) (frames firsts ++ rest) fits-b.0 fits-a.0 (same ∙ append_assoc (frame a) (frames firsts) rest)) in
    omega (arith, more)
