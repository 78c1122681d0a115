-- What `serve` promises: what came of the links of a listener, and the line that it writes at its end.
use Rattle.std.specs.Prelude.{◌≡◌, ◌≢◌, ◌⊎◌, ℕ, ◌<◌, ◌==◌, Bool, true, false, List, [], ◌∷◌, ◌++◌, length, All, IsTrue, if◌then◌else◌, codes, refl}
use Rattle.std.specs.Prelude.{Option}
use Rattle.std.specs.List.{list_any}
use Rattle.std.specs.Fmt.{decimal}
use mathlib.Core.List.{IsPrefix}
use Rattle.dio_core.specs.declared.line.TheConstants.{NEWLINE}
use Rattle.dio_core.specs.Counts.{Rose}
use Rattle.dio_core.specs.Links.{Both}
use Rattle.dio_core.specs.Sinks.{with_more, TakesPrefix, IsPassedOn}
use Rattle.rdt_types.specs.declared.settings.Settings.{Settings}
use Rattle.txn_grammar.specs.Characters.{Text}
use Rattle.txn_lang.specs.Journals.{IsLegal}
use Rattle.txn_lang.specs.States.{Journal}
use Rattle.diamond_store.specs.Books.{IsAtMostRise}
use Rattle.diamond_store.specs.Passes.{Passed, known_of}
use Rattle.session_core.specs.Explained.{setting_of}
use Rattle.script_runner.specs.Script.{Writing}
use Rattle.script_runner.specs.declared.status.TheConstants.{WHOLE, WRITE_FAULT, NO_MEMORY}
use Rattle.diamond_server.specs.Accounts.{Gatherings, AllServed, AreEnded, LinesPromised}
use Rattle.diamond_server.specs.Ways.{Promising}
use Rattle.diamond_server.specs.declared.serving_all.Tally.{Tally}
use Rattle.wire_server.specs.Links.{RequestsPromised}
use Rattle.diamond_cli.specs.declared.line.TheConstants.{LISTENER_FAULT}

statuses-are : WHOLE ∷ WRITE_FAULT ∷ NO_MEMORY ∷ LISTENER_FAULT ∷ [] ≡ 0 ∷ 4 ∷ 5 ∷ 8 ∷ []
statuses-are = refl

-- a status is among these
abbrev pub IsAmong : List ℕ → ℕ → Type 0
IsAmong statuses status = IsTrue (list_any (λ s. s == status) statuses)

-- ---- the links

-- what is promised of each link: of one that brings requests of the wire, or of one that brings lines
abbrev pub promised_of : Bool → Promising
promised_of true = RequestsPromised
promised_of false = LinesPromised

-- WHAT CAME OF THE LINKS, of a store that began with the commits `kept`: its journal at its end begins with them and is legal, with
-- nothing but them taken on trust; and what is promised of all links is so by one prefix of it, under these settings, by which none of
-- the commits that were kept is a hold. The keeper's count of faults was `before` when the store was made, and is `after` at its end.
pub record HasServed {L : Type 0} (Promised : Promising) (told : L → Both) (settings : Settings) (sessions : ℕ) (g : Gatherings L) (kept : Journal) (before after : ℕ)
    (tally : Tally) (journal : Journal) : Type 0 where
  pub pass : Passed  -- what was known of the store when all sessions had ended
  pub low : ℕ  -- the links' clients have numbers from `low` to below `high`
  pub high : ℕ
  pub set : setting_of (known_of pass)
      ≡ record { trusted = length kept; shards = settings.shards; window = settings.window; limit = settings.limit }
  pub served : AllServed Promised told pass low high sessions g tally
  pub knows : IsPrefix kept pass.journal
  pub begins : IsPrefix pass.journal journal
  pub legal : IsLegal (length kept) journal
  -- those of the commits that were kept have lower ones
  pub others : All (λ commit. commit.client < low) kept
  -- no more was denied than the keeper failed, unless its count has come to its last value; so no link has more replies `disk`
  pub denied : IsAtMostRise before pass.denials after

-- EACH LINK HAS ENDED that the listener was given back, where it tells that, memory aside: nobody waits at its other end.
abbrev pub EndsLinks : {L : Type 0} → (L → Option Bool) → Gatherings L → ℕ → Type 0
EndsLinks ended g status = status ≢ NO_MEMORY → AreEnded ended g.given g.given_then

-- ---- the line

-- so many links were accepted, so many of them given back with another status than 0, and there are so many commits: as in
-- `served 4 sessions 1 faulted commits 3` and a newline
abbrev pub served_line : ℕ → ℕ → ℕ → Text
served_line accepted faulted commits =
    codes "served " ++ decimal accepted ++ codes " sessions " ++ decimal faulted ++ codes " faulted commits " ++ decimal commits ++ NEWLINE ∷ []

-- A line was tried: all of it was taken and passed on; or a prefix of it was taken, and a write or the flush failed and was counted.
pub record IsTried (line : Text) (done : Bool) (w : Writing) : Type 0 where
  pub whole : done ≡ true → (w.taken_then ≡ with_more w.taken line) × IsPassedOn w.taken_then w.passed_then × (w.faults_then ≡ w.faults)
  pub prefix : TakesPrefix line w.taken w.taken_then
  pub fault : done ≡ false → Rose w.faults w.faults_then

-- the status, by whether an accept had failed and whether the line was written: 8 stands before 4
abbrev pub ending : Bool → Bool → ℕ
ending failed done = if failed then LISTENER_FAULT else (if done then WHOLE else WRITE_FAULT)

ending-example : ending true false ≡ 8
ending-example = refl

-- the line of these links and this journal was tried, and so is the status
pub record IsSaid (tally : Tally) (journal : Journal) (status : ℕ) (w : Writing) : Type 0 where
  pub done : Bool
  pub tried : IsTried (served_line tally.accepted tally.faulted (length journal)) done w
  pub status_is : status ≡ ending tally.failed done

-- ---- the whole

-- all sessions ended, and the line was tried
pub record IsEnded {L : Type 0} (Promised : Promising) (told : L → Both) (settings : Settings) (sessions : ℕ) (g : Gatherings L) (kept : Journal) (before after : ℕ)
    (status : ℕ) (w : Writing) : Type 0 where
  pub tally : Tally
  pub journal : Journal
  pub served : HasServed Promised told settings sessions g kept before after tally journal
  pub said : IsSaid tally journal status w

-- WHAT `serve` PROMISES OF A STORE IN MEMORY, from the listener and the sink before it to both after it.
pub record ServesLinks {L : Type 0} (Promised : Promising) (told : L → Both) (settings : Settings) (sessions : ℕ) (g : Gatherings L) (status : ℕ)
    (w : Writing) : Type 0 where
  -- there are four statuses
  pub statuses : IsAmong (WHOLE ∷ WRITE_FAULT ∷ NO_MEMORY ∷ LISTENER_FAULT ∷ []) status
  -- memory aside, all sessions ended, and the line was tried; the store began with no commit, and denied none
  pub ended : status ≢ NO_MEMORY → IsEnded Promised told settings sessions g [] 0 0 status w
  -- for want of memory nothing is written
  pub unwritten : status ≡ NO_MEMORY → (w.taken_then ≡ w.taken) × (w.faults_then ≡ w.faults)
  -- at 8 an accept failed
  pub listener : status ≡ LISTENER_FAULT → Rose g.faults g.faults_then
  -- where no count rose, the status is 0 or 5
  pub completes : ¬ (Rose g.faults g.faults_then) → ¬ (Rose w.faults w.faults_then) → (status ≡ WHOLE) ⊎ (status ≡ NO_MEMORY)
