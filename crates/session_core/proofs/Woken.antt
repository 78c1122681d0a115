-- Who is to wait, and what is owned behind a wait.
use Rattle.std.proofs.Common.{◌≡◌, ℕ, List, [], ◌++◌, Option, Some, None, refl, ap, ◌∙◌}
use Rattle.std.proofs.lemmas.List.{append-nil}
use Rattle.session_text.specs.declared.reply.Reply.{Reply}
use Rattle.txn_lang.specs.Journals.{own}
use Rattle.txn_lang.specs.States.{Journal}
use Rattle.docc_prepare.specs.declared.attempt.Attempt.{Attempt}
use Rattle.docc_prepare.specs.Backends.{IsPrefix, IsSameClient}
use Rattle.docc_prepare.specs.Calls.{Known}
use Rattle.client_watches.specs.Explained.{ShownList, shown_of}
use Rattle.session_core.specs.declared.line.Line.{Line}
use Rattle.session_core.specs.declared.line.Line.TheVariants as asked
use Rattle.session_core.specs.declared.session.Session.{Session}
use Rattle.session_core.specs.declared.turn.Turn.TheVariants as turn
use Rattle.session_core.specs.Explained.{Setting, Story, IfOpen, attempting_of, story_of, Passes, attempting_after}
use Rattle.session_core.specs.Sessions.{committed_by, OwnsAnswered}
use Rattle.session_core.proofs.Grown.{prefix-again}
use Rattle.session_core.proofs.Said.{AreThere}

-- what some replies say of the client's commits
pub record HasOwned (client : ℕ) (replies : List Reply) (old new : Journal) : Type 0 where
  pub grows : IsPrefix old new
  pub own_is : OwnsAnswered client replies old new
  pub there : AreThere new replies

-- ---- who is to wait

-- neither way
neither : (o : Option Attempt) (P : Type 0) (Q : Attempt → Type 0) → (P → ⊥) → ((a : Attempt) → Q a → ⊥) → IfOpen o P Q → ⊥
neither None P Q first second h = first h
neither (Some a) P Q first second h = second a h

-- Only `wait` is answered that it is to wait, and that changes nothing of the client's story.
pub record Waits (y : Story) (l : Line) (u : Session) : Type 0 where
  pub line : l ≡ asked.Wait
  pub story : story_of y.low y.begun u ≡ y

-- by line: no other passes with that answer
pub waits-alone : (set : Setting) (journal : Journal) (y : Story) (l : Line) (u : Session)
    → Passes set journal y l turn.WaitWanted (shown_of u.watching.watches)
    → attempting_of u ≡ attempting_after set journal y.attempting l turn.WaitWanted → Waits y l u
waits-alone set journal y asked.Wait u h is = record {
  line = refl;
  story =
      ap (λ (watches : ShownList). record { low = y.low; begun = y.begun; attempting = attempting_of u; watches = watches }) h
      ∙ ap (λ x. record { low = y.low; begun = y.begun; attempting = x; watches = y.watches }) is;
}
waits-alone set journal y asked.Quiet u h is = absurd (let never : ⊥ = cc in never)
waits-alone set journal y (asked.Refused reason) u h is = absurd (let said = h.0 in cc)
waits-alone set journal y (asked.Begin body) u h is = absurd (neither y.attempting.attempt _ _ (λ h. h) (λ a h. cc) h.0)
waits-alone set journal y (asked.Try tries body) u h is = absurd (neither y.attempting.attempt _ _ (λ h. h) (λ a h. cc) h.0)
waits-alone set journal y asked.Step u h is = absurd (neither y.attempting.attempt _ _ (λ h. cc) (λ a h. h) h.0)
waits-alone set journal y asked.Go u h is = absurd (neither y.attempting.attempt _ _ (λ h. cc) (λ a h. h) h.0)
waits-alone set journal y asked.Drop u h is = absurd (neither y.attempting.attempt _ _ (λ h. cc) (λ a h. cc) h.0)
waits-alone set journal y (asked.Look body) u h is = absurd h.0
waits-alone set journal y (asked.At n body) u h is = absurd h.0
waits-alone set journal y asked.Seen u h is = absurd h.0
waits-alone set journal y asked.Quit u h is = absurd (let said = h.0 in cc)
waits-alone set journal y (asked.Watch name body) u h is = absurd h
waits-alone set journal y (asked.Unwatch name) u h is = absurd h
waits-alone set journal y asked.Sync u h is = absurd h

-- ---- a line at once, or one that was woken

-- one client of one store, by three steps
pub same-thrice : (k l m n : Known) → IsSameClient k l → IsSameClient l m → IsSameClient m n → IsSameClient k n
same-thrice k l m n first second third = record {
  client = third.client ∙ (second.client ∙ first.client);
  trusted = third.trusted ∙ (second.trusted ∙ first.trusted);
  shards = third.shards ∙ (second.shards ∙ first.shards);
  window = third.window ∙ (second.window ∙ first.window);
  limit = third.limit ∙ (second.limit ∙ first.limit);
}

-- commits are named once more, where nothing but others' came before
pub owned-behind : (client : ℕ) (old there woke new : Journal) (replies : List Reply) → HasOwned client [] old there → IsPrefix there woke
    → own client woke ≡ own client there → HasOwned client replies woke new → HasOwned client replies old new
owned-behind client old there woke new replies first grows same last = record {
  grows = prefix-again old there new first.grows (prefix-again there woke new grows last.grows);
  own_is = last.own_is ∙ ap (λ (xs : Journal). xs ++ committed_by new replies) (same ∙ (first.own_is ∙ append-nil (own client old)));
  there = last.there;
}
