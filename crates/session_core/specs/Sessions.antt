-- Whole sessions: the lines of one client, one after another, with others at work between them. What a client is answered is
-- explained by the journal at the end; its commits and its denials are those that it was answered.
use Rattle.std.specs.Prelude.{◌≡◌, ◌⊎◌, ℕ, ◌≤◌, List, [], ◌∷◌, ◌++◌, map, fold, Option, Some, None, Result, Ok, Err, codes, refl}
use Rattle.dio_core.specs.Counts.{one_more, last_count}
use Rattle.dio_core.specs.Told.{WhereTold}
use Rattle.rdt_types.specs.declared.outcome.Outcome.{Outcome}
use Rattle.session_text.specs.declared.reply.Reply.{Reply}
use Rattle.session_text.specs.declared.reply.Reply.TheVariants as reply
use Rattle.txn_grammar.specs.Characters.{Text}
use Rattle.txn_lang.specs.declared.commit.Commit.{Commit}
use Rattle.txn_lang.specs.States.{Journal}
use Rattle.txn_lang.specs.Journals.{own}
use Rattle.journal_core.specs.Changes.{adding}
use Rattle.journal_core.specs.Journals.{commit_at}
use Rattle.docc_prepare.specs.Calls.{Known}
use Rattle.docc_prepare.specs.Backends.{IsPrefix, IsLater}
use Rattle.call_programs.specs.Safe.{CountsFault}
use Rattle.docc_prepare.specs.Readable.{CanRead}
use Rattle.session_core.specs.declared.line.Line.{Line}
use Rattle.session_core.specs.declared.line.Line.TheVariants as asked
use Rattle.session_core.specs.declared.session.Session.{Session}
use Rattle.session_core.specs.declared.error.SessionError.{SessionError}
use Rattle.session_core.specs.declared.error.SessionError.TheVariants as error
use Rattle.session_core.specs.declared.turn.Turn.{Turn}
use Rattle.session_core.specs.Lines.{line_of}
use Rattle.session_core.specs.Events.{closed}
use Rattle.session_core.specs.Holding.{Attends}
use Rattle.session_core.specs.Explained.{Setting, Story, AreReported, story_of, replies_in, Explains, MayBeTold, setting_of, IsExplained}

-- ---- the client's own commits

-- a commit that may be, as a list
abbrev pub as_list : Option Commit → List Commit
as_list None = []
as_list (Some commit) = commit ∷ []

-- the commits that replies name, as they stand in the journal
abbrev pub committed_by : Journal → List Reply → List Commit
committed_by journal [] = []
committed_by journal (reply.Commit n outcome ∷ rest) = as_list (commit_at journal n) ++ committed_by journal rest
committed_by journal (r ∷ rest) = committed_by journal rest

-- The client's commits are those before, and then those that the replies name.
abbrev pub OwnsAnswered : ℕ → List Reply → Journal → Journal → Type 0
OwnsAnswered client replies old new = own client new ≡ own client old ++ committed_by new replies

-- AFTER AN ERROR THE CLIENT OWNS NO MORE: its commits are those before.
abbrev pub OwnsNoMore : ℕ → Journal → Journal → Type 0
OwnsNoMore client old new = own client new ≡ own client old

-- what a line adds to its client's commits, where the journal is told
abbrev pub OwnGrows : Known → Known → Result Turn SessionError → Type 0
OwnGrows k l (Ok turn) = WhereTold (OwnsAnswered k.client (replies_in turn)) k.journal l.journal
OwnGrows k l (Err e) = WhereTold (OwnsNoMore k.client) k.journal l.journal

-- ---- what the disk denied

-- the count of denials after a reply, and after all
abbrev pub denied_by : ℕ → Reply → ℕ
denied_by count reply.Disk = one_more count
denied_by count r = count

-- the count of denials behind replies
abbrev pub denied_by_all : ℕ → List Reply → ℕ
denied_by_all count replies = fold denied_by count replies

-- `disk` is answered as often as the client's count of denials rises; an error hides none
abbrev pub CountsDenied : Known → Known → Result Turn SessionError → Type 0
CountsDenied k l (Ok turn) = l.denied ≡ denied_by_all k.denied (replies_in turn)
CountsDenied k l (Err e) = l.denied ≡ k.denied

-- of denials in the whole store it knows of no fewer more
abbrev pub CountsKnown : Known → Known → Result Turn SessionError → Type 0
CountsKnown k l (Ok turn) = denied_by_all k.denials (replies_in turn) ≤ l.denials
CountsKnown k l (Err e) = k.denials ≤ l.denials

-- A FAULT OF THE STORE IS TOLD: the answer is that error exactly where the store's count of faults has risen; else it has stayed.
abbrev pub TellsFault : Known → Known → Result Turn SessionError → Type 0
TellsFault k l result = CountsFault error.StoreFault result k.faults l.faults

-- all that is said of a line and of what it is answered
pub record IsAccounted (k l : Known) (s : Session) (line : Line) (result : Result Turn SessionError) (t : Session) : Type 0 where
  pub explained : IsExplained k l s line result t
  pub owns : OwnGrows k l result
  pub denied : CountsDenied k l result
  pub knows : CountsKnown k l result

-- ---- a session's end

-- Where a line has ended the session it was `quit`, by which nothing is asked; and the session keeps all but its open attempt.
pub record HasQuit {B : Type 0} (l : Line) (rs : List Reply) (old new : B) (s t : Session) : Type 0 where
  pub line : l ≡ asked.Quit
  pub replies : rs ≡ reply.Dropped ∷ []
  pub backend : new ≡ old
  pub session : t ≡ closed s

-- ---- a session that is over

-- What it answers: the error after which it is over, and nothing is done.
pub record AnswersAgain {B : Type 0} (e : SessionError) (result : Result Turn SessionError) (old new : B) (s t : Session) : Type 0 where
  pub answers : result ≡ Err e
  pub backend : new ≡ old
  pub session : t ≡ s

-- ---- line after line

-- how a line finds the backend: as the one before left it, or as others have left it since
abbrev pub Finds : Known → Known → Type 0
Finds k here = (here ≡ k) ⊎ IsLater k here

-- the replies of answers, one after another
abbrev pub all_replies : List Turn → List Reply
all_replies [] = []
all_replies (turn ∷ rest) = replies_in turn ++ all_replies rest

-- the journal has grown, and explains all answers
pub record ExplainsAll (set : Setting) (y : Story) (texts : List Text) (turns : List Turn) (old new : Journal) : Type 0 where
  pub grows : IsPrefix old new
  pub explains : Explains set new y (map line_of texts) turns

-- what a session comes to
pub record HasTalked (k l : Known) (s t : Session) (texts : List Text) (turns : List Turn) : Type 0 where
  pub attends : Attends l t
  pub explained : (low begun : ℕ) → MayBeTold k (story_of low begun s)
      → WhereTold (ExplainsAll (setting_of k) (story_of low begun s) texts turns) k.journal l.journal
  pub own_commits : WhereTold (OwnsAnswered k.client (all_replies turns)) k.journal l.journal
  pub denied : l.denied ≡ denied_by_all k.denied (all_replies turns)
  pub known_denied : denied_by_all k.denials (all_replies turns) ≤ l.denials

-- ---- laws

-- What a journal explains, every longer one explains, where both can be read and no watch was reported past what was shown.
abbrev pub ExplainsStays : Type 0
ExplainsStays = (set : Setting) (old new : Journal) (y : Story) (texts : List Text) (turns : List Turn) → CanRead old → CanRead new → IsPrefix old new
    → AreReported y → Explains set old y (map line_of texts) turns → Explains set new y (map line_of texts) turns

-- ---- worked lines

-- of two commits the second is named
committed_by-example : (outcome : Outcome) → committed_by (adding 1 (codes "x") ∷ adding 2 (codes "y") ∷ []) (reply.Commit 2 outcome ∷ []) ≡ adding 2
    (codes "y") ∷ []
committed_by-example outcome = refl

-- two denials, and a number that was seen
denied_by_all-example : denied_by_all 3 (reply.Disk ∷ reply.Seen 9 ∷ reply.Disk ∷ []) ≡ 5
denied_by_all-example = refl

-- at the last value the count stands
denied_by_all-last : denied_by_all last_count (reply.Disk ∷ []) ≡ last_count
denied_by_all-last = refl
