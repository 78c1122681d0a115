-- A talk over a link goes on.
use Rattle.std.proofs.Common.{◌≡◌, ap, sym, ◌∙◌, refl, List, [], ◌∷◌, ◌++◌, map}
use Rattle.std.proofs.lemmas.List.{map-append}
use Rattle.dio_core.specs.Links.{Both}
use Rattle.dio_core.specs.Sources.{with_prefix}
use Rattle.dio_core.specs.Sinks.{with_more}
use Rattle.dio_core.proofs.Sources.{with_prefix-append, with_prefix-none}
use Rattle.dio_core.proofs.Sinks.{with_more-with_more, with_more-nil}
use Rattle.wire_frames.specs.Frames.{frame, frames}
use Rattle.wire_frames.proofs.Cut.{frames-more, frames-one}
use Rattle.remote_wire.specs.declared.request.Request.{Request}
use Rattle.remote_wire.specs.declared.answer.WireAnswer.{WireAnswer}
use Rattle.remote_wire.specs.Spelling.{request_bytes}
use Rattle.remote_wire.specs.AnswerSpelling.{answer_bytes}
use Rattle.remote_link.specs.Exchanging.{Exchanges}
use Rattle.remote_link.specs.Talks.{Talk, asked_in, said_in, HasTalked, TalksGoOn}

-- the frames of a talk that has gone on by one
one_more_frame : {A : Type 0} (f : A → List _) (xs : List A) (x : A) → frames (map f (xs ++ x ∷ [])) ≡ frames (map f xs) ++ frame (f x)
one_more_frame f xs x =
    ap frames (map-append f xs (x ∷ [])) ∙ frames-more (map f xs) (f x ∷ []) ∙ ap (λ last. frames (map f xs) ++ last) (frames-one (f x))

goes_on : (talk : Talk) (asked : Request) (said : WireAnswer) (old mid new : Both) → HasTalked talk old mid → Exchanges asked said mid new
    → HasTalked (talk ++ (asked, said) ∷ []) old new
goes_on talk asked said old mid new talked next = record {
  taken =
      next.took.taken ∙ ap (λ taken. with_more taken (frame (request_bytes asked))) talked.taken
      ∙ with_more-with_more old.outwards.taken (asked_in talk) (frame (request_bytes asked))
      ∙ ap (with_more old.outwards.taken) (sym (one_more_frame (λ (x : Request × WireAnswer). request_bytes x.0) talk (asked, said)));
  gave =
      talked.gave ∙ ap (with_prefix (said_in talk)) next.gave
      ∙ sym (with_prefix-append (said_in talk) (frame (answer_bytes said)) new.inwards.left)
      ∙ ap (λ bytes. with_prefix bytes new.inwards.left) (sym (one_more_frame (λ (x : Request × WireAnswer). answer_bytes x.1) talk (asked, said)));
  sound = record { reads = next.sound.reads ∙ talked.sound.reads; writes = next.sound.writes ∙ talked.sound.writes };
}

pub talks-go_on : TalksGoOn
talks-go_on = record {
  none = λ link. record {
    taken = sym (with_more-nil link.outwards.taken);
    gave = sym (with_prefix-none link.inwards.left);
    sound = record { reads = refl; writes = refl };
  };
  more = goes_on;
}
