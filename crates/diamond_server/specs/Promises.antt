-- What a session over a link promises, by the status that it answers.
use Rattle.std.specs.Prelude.{◌≡◌, ℕ, ◌≤◌, ◌⊎◌, ◌==◌, true, false, List, [], ◌∷◌, ◌++◌, map, length, Option, Some, None, IfSome, IsTrue, T, codes, refl}
use Rattle.std.proofs.Common.{inl, inr, sym, subst, lit≤}
use Rattle.std.specs.List.{list_any}
use Rattle.dio_core.specs.declared.sink.Sink.{Ghosts as SinkTells}
use Rattle.dio_core.specs.declared.source.Source.{Ghosts as SourceTells}
use Rattle.dio_core.specs.Told.{WhereTold}
use Rattle.dio_core.specs.Counts.{Rose, IsCounted, one_more}
use Rattle.dio_core.specs.declared.line.Line.TheVariants as line
use Rattle.dio_core.specs.Lines.{lines, line_of as cut_of, TakesFirst, BreaksOff}
use Rattle.dio_core.specs.Links.{Both, Outgoing, incoming, outgoing}
use Rattle.dio_core.specs.Sinks.{with_more, TakesPrefix, IsPassedOn}
use Rattle.session_text.specs.declared.reply.Reply.{Reply}
use Rattle.txn_grammar.specs.Characters.{Text}
use Rattle.txn_lang.specs.declared.commit.Commit.{Commit}
use Rattle.txn_lang.specs.Journals.{own}
use Rattle.txn_lang.specs.States.{Journal}
use Rattle.docc_prepare.specs.Calls.{Known, Call, Answer}
use Rattle.session_core.specs.declared.session.Session.{Session}
use Rattle.session_core.specs.Explained.{story_of, setting_of}
use Rattle.session_core.specs.Sessions.{OwnsAnswered, committed_by, denied_by_all, all_replies, ExplainsAll}
use Rattle.script_runner.specs.declared.status.TheConstants.{WHOLE, READ_FAULT, WRITE_FAULT, NO_MEMORY, TOO_MANY_LINES}
use Rattle.script_runner.specs.declared.stop.TheConstants.{MOST_LINES}
use Rattle.diamond_server.specs.declared.status.TheConstants.{STORE_FAULT}
use Rattle.diamond_server.specs.Talking.{Told, Talks, MayBegin, AreInOrder, is_over, quit, first_session, output, line_told, texts_of, turns_of}

-- ---- the statuses

statuses-are : WHOLE ∷ READ_FAULT ∷ WRITE_FAULT ∷ NO_MEMORY ∷ STORE_FAULT ∷ TOO_MANY_LINES ∷ [] ≡ 0 ∷ 3 ∷ 4 ∷ 5 ∷ 6 ∷ 9 ∷ []
statuses-are = refl

-- ---- the two ends of a session

-- both sides of a link, by what it tells as a source and as a sink
abbrev pub sides : {K : Type 0} → SourceTells K → SinkTells K → K → Both
sides source sink link = record {
  inwards = incoming (source.left link) (source.read_faults link);
  outwards = outgoing (sink.taken link) (sink.passed link) (sink.write_faults link);
}

-- ---- what a talk comes to

-- All answers are explained by the journal at its end, whatever number the client had been shown before, up to what it had
-- seen; its commits are those before and the answered ones; the disk denied as many as were answered so; and the store never
-- failed.
pub record IsAccounted (k l : Known) (tolds : List Told) : Type 0 where
  pub explained : (low : ℕ) → low ≤ k.seen
      → WhereTold (ExplainsAll (setting_of k) (story_of low low (first_session k)) (texts_of tolds) (turns_of tolds)) k.journal l.journal
  pub own_commits : WhereTold (OwnsAnswered k.client (all_replies (turns_of tolds))) k.journal l.journal
  pub denied : l.denied ≡ denied_by_all k.denied (all_replies (turns_of tolds))
  pub known_denied : denied_by_all k.denials (all_replies (turns_of tolds)) ≤ l.denials
  pub faults : l.faults ≡ k.faults

-- ---- what a line comes to that was begun behind it

-- how many lines were begun
abbrev pub count_of : Option Text → ℕ
count_of None = 0
count_of (Some text) = 1

-- The client's commits are those before, then those that the replies name, and so many more at most.
pub record OwnsMore (most : ℕ) (client : ℕ) (replies : List Reply) (old new : Journal) : Type 0 where
  pub more : List Commit
  pub few : length more ≤ most
  pub own_commits : own client new ≡ (own client old ++ committed_by new replies) ++ more

-- a count is this one, or one more where a line was begun
abbrev pub MayCountMore : Option Text → ℕ → ℕ → Type 0
MayCountMore None least count = count ≡ least
MayCountMore (Some text) least count = (count ≡ least) ⊎ (count ≡ one_more least)

-- All answers are explained as before. If a line was begun behind them, nobody was told what it did: one commit at most, or one denial.
pub record IsNearlyAccounted (begun : Option Text) (k l : Known) (tolds : List Told) : Type 0 where
  pub explained : (low : ℕ) → low ≤ k.seen
      → WhereTold (ExplainsAll (setting_of k) (story_of low low (first_session k)) (texts_of tolds) (turns_of tolds)) k.journal l.journal
  pub own_commits : WhereTold (OwnsMore (count_of begun) k.client (all_replies (turns_of tolds))) k.journal l.journal
  pub denied : MayCountMore begun (denied_by_all k.denied (all_replies (turns_of tolds))) l.denied
  pub known_denied : denied_by_all k.denials (all_replies (turns_of tolds)) ≤ l.denials

-- ---- how much of the input was talked of

-- it was told of the first lines of the input, and of no others
pub record HasRead (tolds : List Told) (all rest : Text) : Type 0 where
  pub raws : List Text
  pub read : lines all ≡ raws ++ lines rest
  pub cut : map cut_of raws ≡ map line_told tolds

-- ENDED: nothing is left to read, or the last line of which it is told has ended the session
abbrev pub HasEnded : List Told → Text → Type 0
HasEnded tolds rest = (rest ≡ []) ⊎ (is_over tolds ≡ true)

-- to its end, or up to a line that ended the session
pub record ReadsToTheEnd (tolds : List Told) (all rest : Text) : Type 0 where
  pub read : HasRead tolds all rest
  pub ended : HasEnded tolds rest

-- a read failed in a line, behind those that were read whole, none of which ended the session
pub record ReadsUpToAFault (tolds : List Told) (all rest : Text) : Type 0 where
  pub broken : Text
  pub read : HasRead tolds all broken
  pub breaks : BreaksOff (Some broken) (Some rest)
  pub on : is_over tolds ≡ false

-- the most lines that may be read, none of which ended the session, and one line more
pub record ReadsOneMore (tolds : List Told) (all rest : Text) : Type 0 where
  pub most : length tolds ≡ MOST_LINES
  pub behind : Text
  pub next : Text
  pub read : HasRead tolds all behind
  pub more : lines behind ≡ next ∷ lines rest
  pub on : is_over tolds ≡ false

-- The line that was begun is the next one, if one was; and what else was read is lost.
pub record ReadsNext (begun : Option Text) (all rest : Text) : Type 0 where
  pub first : IfSome begun (λ text. TakesFirst (line.Bytes text) all rest)
  pub past : Text
  pub cut : all ≡ past ++ rest

-- behind the lines of which it is told
pub record ReadsPast (begun : Option Text) (tolds : List Told) (all rest : Text) : Type 0 where
  pub behind : Text
  pub read : HasRead tolds all behind
  pub next : ReadsNext begun behind rest

-- ---- how much of the output was taken

-- a prefix of it, behind what had been taken before
abbrev pub TakesPart : List Told → Outgoing → Outgoing → Type 0
TakesPart tolds x y = TakesPrefix (output tolds) x.taken y.taken

-- all of it; and where all before had been passed on, this has been, too
pub record TakesWhole (tolds : List Told) (x y : Outgoing) : Type 0 where
  pub taken : y.taken ≡ with_more x.taken (output tolds)
  pub flushed : IsPassedOn x.taken x.passed → IsPassedOn y.taken y.passed

-- ---- how a session ended

-- The link was left by a talk, whose lines are in order: what it took is the talk's whole output, behind what it had taken before, and
-- where all of that had been passed on, all of this has been.
pub record IsHeard (tolds : List Told) (x y : Both) (Reads : List Told → Text → Text → Type 0) : Type 0 where
  pub few : length tolds ≤ MOST_LINES
  pub in_order : AreInOrder tolds
  pub reads : WhereTold (Reads tolds) x.inwards.left y.inwards.left
  pub taken : y.outwards.taken ≡ with_more x.outwards.taken (output tolds)
  pub flushed : IsPassedOn x.outwards.taken x.outwards.passed → IsPassedOn y.outwards.taken y.outwards.passed

-- The backend and the link were left by a talk, which goes by steps of the backend's relation.
pub record IsServed {B : Type 0} (known : B → Known) (goes : B → Call → Answer → B → Type 0) (old new : B) (x y : Both)
    (Reads : List Told → Text → Text → Type 0) : Type 0 where
  pub tolds : List Told
  pub session : Option Session
  pub talks : Talks known goes old (first_session (known old)) tolds new session
  pub accounted : IsAccounted (known old) (known new) tolds
  pub heard : IsHeard tolds x y Reads

-- CUT SHORT: the backend was left by a talk, whose lines are in order, and behind it by a line that was begun, if one was. The link took so
-- much of the talk's output, and nothing else. `m` is what the client knows later.
pub record IsCutShort {B : Type 0} (known : B → Known) (goes : B → Call → Answer → B → Type 0) (m : Known) (old new : B) (x y : Both)
    (Takes : List Told → Outgoing → Outgoing → Type 0) : Type 0 where
  pub tolds : List Told
  pub begun : Option Text
  pub there : B
  pub session : Option Session
  pub talks : Talks known goes old (first_session (known old)) tolds there session
  pub behind : MayBegin known goes there session begun new
  pub accounted : IsNearlyAccounted begun (known old) m tolds
  pub few : length tolds ≤ MOST_LINES
  pub in_order : AreInOrder tolds
  pub reads : WhereTold (ReadsPast begun tolds) x.inwards.left y.inwards.left
  pub taken : Takes tolds x.outwards y.outwards

-- ---- what a session promises

-- At each status: what was talked of, and which counts rose. `Held` says what is told of a talk of so much of the input, and `Cut` of one
-- that was cut short, of whose output so much was taken; `k` and `l` are what the client knew before it and knows after it.
pub record Promises (Held : (List Told → Text → Text → Type 0) → Type 0) (Cut : (List Told → Outgoing → Outgoing → Type 0) → Type 0)
    (k l : Known) (status : ℕ) (x y : Both) : Type 0 where
  -- there are six statuses
  pub statuses : IsTrue (list_any (λ s. s == status) (WHOLE ∷ READ_FAULT ∷ WRITE_FAULT ∷ NO_MEMORY ∷ STORE_FAULT ∷ TOO_MANY_LINES ∷ []))
  -- at 0 the input was talked of to its end, or to a line that ended the session
  pub whole : status ≡ WHOLE → Held ReadsToTheEnd
  -- at 3 the lines that were read whole
  pub broken_off : status ≡ READ_FAULT → Held ReadsUpToAFault
  -- at 9 the most lines that may be read
  pub too_many : status ≡ TOO_MANY_LINES → Held ReadsOneMore
  -- at 4 a prefix of the output was taken
  pub cut_off : status ≡ WRITE_FAULT → Cut TakesPart
  -- at 5 and at 6 all of it, up to the line for which memory was wanting, or in which the store failed
  pub stalled : status ≡ NO_MEMORY → Cut TakesWhole
  pub failed : status ≡ STORE_FAULT → Cut TakesWhole
  -- the link's count of reads rose at 3, and at no other status
  pub reads : IsCounted (status == READ_FAULT) x.inwards.faults y.inwards.faults
  -- its count of writes at 4, and at no other status
  pub writes : IsCounted (status == WRITE_FAULT) x.outwards.faults y.outwards.faults
  -- at 6 the store's count of faults rose
  pub store_failed : status ≡ STORE_FAULT → Rose k.faults l.faults
  -- an input of no more lines than may be read, and over which no count rose, is talked of to its end, memory aside
  pub completes : (all : Text) → x.inwards.left ≡ Some all → length (lines all) ≤ MOST_LINES
      → ¬ (Rose x.inwards.faults y.inwards.faults) → ¬ (Rose x.outwards.faults y.outwards.faults) → ¬ (Rose k.faults l.faults)
      → (status ≡ WHOLE) ⊎ (status ≡ NO_MEMORY)

-- WHAT A SESSION PROMISES, from its backend before it to the backend after it.
abbrev pub KeepsPromises : {B : Type 0} → (B → Known) → (B → Call → Answer → B → Type 0) → ℕ → B → B → Both → Both → Type 0
KeepsPromises known goes status old new x y =
    Promises (IsServed known goes old new x y) (IsCutShort known goes (known new) old new x y) (known old) (known new) status x y

-- A FAULT OF THE STORE IS TOLD: the store's count of faults rose at 6, and stood at every other status but 4. (A write that fails behind
-- a fault of the store is told in its place.)
abbrev pub TellsStoreFault : Known → Known → ℕ → Type 0
TellsStoreFault k l status = (status ≡ WRITE_FAULT → ⊥) → IsCounted (status == STORE_FAULT) k.faults l.faults

-- ---- worked lines

-- where memory is wanting the store's count stands, and at 6 it doesn't
store-fault-told : (k l : Known) → TellsStoreFault k l NO_MEMORY → l.faults ≡ k.faults
store-fault-told k l told = told (λ same. subst (λ (n : ℕ). T (n == 5)) same tt)

store-fault-counted : (k l : Known) → TellsStoreFault k l STORE_FAULT → Rose k.faults l.faults
store-fault-counted k l told = told (λ same. subst (λ (n : ℕ). T (n == 6)) same tt)

-- bytes are left only behind a `quit`
ended-by-quit : HasEnded (Told.long ∷ quit ∷ []) (7 ∷ [])
ended-by-quit = inr refl

-- and not behind any line
left-unread : HasEnded (Told.long ∷ []) (7 ∷ []) → ⊥
left-unread (inl none) = subst (λ (bytes : Text). T (0 == length bytes)) (sym none) tt
left-unread (inr over) = subst T (sym over) tt

-- of `dropped` and its newline four bytes were taken
part-taken : TakesPart (quit ∷ []) (outgoing (Some []) None 0) (outgoing (Some (codes "drop")) None 1)
part-taken = (4, lit≤ tt, refl)

-- where no line was begun nothing more is denied, and else one
none-more : MayCountMore None 3 3
none-more = refl

one-denied : MayCountMore (Some []) 3 4
one-denied = inr refl

-- no two are
two-denied : MayCountMore (Some []) 3 5 → ⊥
two-denied (inl same) = subst (λ (n : ℕ). T (5 == n)) same tt
two-denied (inr one) = subst (λ (n : ℕ). T (5 == n)) one tt
