-- Relations on journals where they are told, and what passes for a line.
use Rattle.std.proofs.Common.{◌≡◌, ℕ, Option, Some, None, refl, ap, ◌∙◌, subst}
use Rattle.dio_core.specs.Told.{WhereTold}
use Rattle.txn_lang.specs.States.{Journal}
use Rattle.docc_prepare.specs.declared.attempt.Attempt.{Attempt}
use Rattle.docc_prepare.specs.Backends.{IsSameClient}
use Rattle.docc_prepare.specs.Calls.{Known}
use Rattle.client_watches.specs.Explained.{ShownList}
use Rattle.session_core.specs.declared.line.Line.{Line}
use Rattle.session_core.specs.declared.line.Line.TheVariants as asked
use Rattle.session_core.specs.declared.session.Session.{Session}
use Rattle.session_core.specs.declared.turn.Turn.{Turn}
use Rattle.session_core.specs.Explained.{Setting, Story, PlainPasses, Passes, setting_of}
use Rattle.session_core.proofs.Explaining.{Asking}

-- two steps make one, where each knows what is told
pub told-then : {A B C : Type 0} {R : A → B → Type 0} {S : B → C → Type 0} {T : A → C → Type 0} (x : Option A) (y : Option B) (z : Option C)
    → ((a : A) (b : B) (c : C) → y ≡ Some b → z ≡ Some c → R a b → S b c → T a c) → WhereTold R x y → WhereTold S y z → WhereTold T x z
told-then None None None both first second = tt
told-then None None (Some c) both first second = second
told-then None (Some b) z both first second = absurd first
told-then (Some a) None z both first second = absurd first
told-then (Some a) (Some b) None both first second = second
told-then (Some a) (Some b) (Some c) both first second = both a b c refl refl first second

-- what holds of each journal that is told
pub told-start : {A : Type 0} (R : A → A → Type 0) (x : Option A) → ((a : A) → x ≡ Some a → R a a) → WhereTold R x x
told-start R None at = tt
told-start R (Some a) at = at a refl

-- what is related where it is told
pub where-told : {A B : Type 0} (R : A → B → Type 0) (x : Option A) (y : Option B) (a : A) (b : B) → x ≡ Some a → y ≡ Some b → WhereTold R x y → R a b
where-told R None y a b e f told = absurd (cc)
where-told R (Some c) None a b e f told = absurd (cc)
where-told R (Some c) (Some d) a b e f told = let left : c ≡ a = cc in let right : d ≡ b = cc in subst (λ z. R z b) left (subst (R c) right told)

-- the settings, by their numbers
abbrev set_with : ℕ → ℕ → ℕ → ℕ → Setting
set_with trusted shards window limit = record { trusted = trusted; shards = shards; window = window; limit = limit }

-- one store keeps its settings, number by number
pub same-setting : (k l : Known) → IsSameClient k l → setting_of l ≡ setting_of k
same-setting k l same = ap (λ (n : ℕ). set_with n l.shards l.window l.limit) same.trusted
    ∙ (ap (λ (n : ℕ). set_with k.trusted n l.window l.limit) same.shards
    ∙ (ap (λ (n : ℕ). set_with k.trusted k.shards n l.limit) same.window ∙ ap (λ (n : ℕ). set_with k.trusted k.shards k.window n) same.limit))

-- ---- a line

-- a line of a session over a backend, and what was shown before it
abbrev pub asking : Known → ℕ → ℕ → Session → Option Attempt → Line → Asking
asking k low begun s o l = record { set = setting_of k; low = low; begun = begun; session = s; attempt = o; line = l }

-- what passes, and leaves the watches as they were, passes for the line
pub plain-passes : (set : Setting) (journal : Journal) (y : Story) (l : Line) (t : Turn) (later : ShownList) → PlainPasses set journal y l t → later ≡ y.watches
    → Passes set journal y l t later
plain-passes set journal y asked.Quiet t later h same = (h, same)
plain-passes set journal y (asked.Refused reason) t later h same = (h, same)
plain-passes set journal y (asked.Begin body) t later h same = (h, same)
plain-passes set journal y (asked.Try tries body) t later h same = (h, same)
plain-passes set journal y asked.Step t later h same = (h, same)
plain-passes set journal y asked.Go t later h same = (h, same)
plain-passes set journal y asked.Drop t later h same = (h, same)
plain-passes set journal y (asked.Look body) t later h same = (h, same)
plain-passes set journal y (asked.At upto body) t later h same = (h, same)
plain-passes set journal y asked.Seen t later h same = (h, same)
plain-passes set journal y asked.Quit t later h same = (h, same)
plain-passes set journal y (asked.Watch name body) t later h same = absurd h
plain-passes set journal y (asked.Unwatch name) t later h same = absurd h
plain-passes set journal y asked.Sync t later h same = absurd h
plain-passes set journal y asked.Wait t later h same = absurd h
