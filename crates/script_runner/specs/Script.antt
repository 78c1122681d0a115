-- What a run of a script promises, by the status that it answers.
use Rattle.std.specs.Prelude.{◌≡◌, ℕ, ◌-◌, ◌≤◌, ◌⊎◌, ◌==◌, List, [], ◌∷◌, ◌++◌, length, take, Option, Some, IfSome, IsTrue, refl}
use Rattle.std.specs.List.{list_any}
use Rattle.dio_core.specs.declared.sink.Sink.{Ghosts as SinkTells}
use Rattle.dio_core.specs.declared.source.Source.{Ghosts as SourceTells}
use Rattle.dio_core.specs.Told.{WhereTold}
use Rattle.dio_core.specs.Counts.{Rose, IsCounted}
use Rattle.dio_core.specs.Lines.{lines, BreaksOff}
use Rattle.dio_core.specs.Sinks.{with_more, IsPassedOn}
use Rattle.dio_core.specs.Sources.{IsAhead}
use Rattle.dio_core.specs.declared.line.TheConstants.{NEWLINE}
use Rattle.rdt_types.specs.declared.settings.Settings.{Settings}
use Rattle.txn_grammar.specs.Characters.{Text}
use Rattle.txn_lang.specs.Journals.{IsLegal}
use Rattle.script_runner.specs.declared.status.TheConstants.{WHOLE, READ_FAULT, WRITE_FAULT, NO_MEMORY, TOO_MANY_LINES}
use Rattle.script_runner.specs.declared.stop.TheConstants.{MOST_LINES}
use Rattle.script_runner.specs.Play.{played, play, commits_left}
use Rattle.script_runner.specs.Explained.{ExplainsScript}

-- ---- the limits and the statuses

MOST_LINES-is : MOST_LINES ≡ 1000000
MOST_LINES-is = refl

statuses-are : WHOLE ∷ READ_FAULT ∷ WRITE_FAULT ∷ NO_MEMORY ∷ TOO_MANY_LINES ∷ [] ≡ 0 ∷ 3 ∷ 4 ∷ 5 ∷ 9 ∷ []
statuses-are = refl

-- ---- the two streams of a run

-- The source, when the run begins and when it ends.
pub record Reading : Type 0 where
  pub left : Option Text  -- what it has left, or None where it doesn't tell
  pub left_then : Option Text
  pub faults : ℕ  -- how many reads have failed
  pub faults_then : ℕ

-- the source of a run, by what sources tell
abbrev pub reading : {S : Type 0} → SourceTells S → S → S → Reading
reading told old new = record { left = told.left old; left_then = told.left new; faults = told.read_faults old; faults_then = told.read_faults new }

-- The sink, when the run begins and when it ends.
pub record Writing : Type 0 where
  pub taken : Option Text  -- what it has taken, or None where it doesn't tell
  pub taken_then : Option Text
  pub passed_then : Option Text  -- what of it has been passed on at the end
  pub faults : ℕ  -- how many writes and flushes have failed
  pub faults_then : ℕ

-- the sink of a run, by what sinks tell
abbrev pub writing : {W : Type 0} → SinkTells W → W → W → Writing
writing told old new = record {
  taken = told.taken old;
  taken_then = told.taken new;
  passed_then = told.passed new;
  faults = told.write_faults old;
  faults_then = told.write_faults new;
}

-- ---- how a run may end, from all of an input to the rest of it, and from what was taken to what is taken then

-- The whole input was read, and its whole output was taken.
pub record IsPlayed (settings : Settings) (taken taken_then : Option Text) (all rest : Text) : Type 0 where
  pub whole : rest ≡ []
  pub few : length (lines all) ≤ MOST_LINES
  pub output : taken_then ≡ with_more taken (play settings all).output

-- A read failed in a line. The lines before it were read whole, and their output was taken.
pub record IsBrokenOff (settings : Settings) (taken taken_then : Option Text) (all rest : Text) : Type 0 where
  pub raws : List Text
  pub broken : Text
  pub read : lines all ≡ raws ++ lines broken
  pub few : length raws ≤ MOST_LINES
  pub breaks : BreaksOff (Some broken) (Some rest)
  pub output : taken_then ≡ with_more taken (played settings raws).output

-- One line more than the most was read. The output of those before it was taken.
pub record HasTooManyLines (settings : Settings) (taken taken_then : Option Text) (all rest : Text) : Type 0 where
  pub raws : List Text
  pub next : Text
  pub read : lines all ≡ raws ++ next ∷ lines rest
  pub most : length raws ≡ MOST_LINES
  pub output : taken_then ≡ with_more taken (played settings raws).output

-- all lines but the last
abbrev pub but_last : List Text → List Text
but_last raws = take (length raws - 1) raws

-- A write failed, or memory was wanting. Some lines were read, and perhaps one was begun. Of the output of those that
-- were read a prefix was taken, behind what had been taken before. It has all replies but that to the last of them: each
-- line is answered before the next one is read.
pub record IsCutOff (settings : Settings) (taken taken_then : Option Text) (all rest : Text) : Type 0 where
  pub raws : List Text
  pub behind : Text
  pub read : lines all ≡ raws ++ lines behind
  pub few : length raws ≤ MOST_LINES
  pub place : BreaksOff (Some behind) (Some rest)
  pub count : ℕ  -- how many bytes of the output were taken
  pub within : count ≤ length (played settings raws).output
  pub answered : length (played settings (but_last raws)).output ≤ count
  pub output : taken_then ≡ with_more taken (take count (played settings raws).output)

-- The same, where no byte behind the last line that was read was taken.
abbrev pub IsCutOffBehindLine : Settings → Option Text → Option Text → Text → Text → Type 0
IsCutOffBehindLine settings taken taken_then all rest = (cut : IsCutOff settings taken taken_then all rest) × (rest ≡ cut.behind)

-- A run has answered some lines, and the answers were taken. They were passed on, unless there were none or the source had a whole
-- line left behind them: so who waits for an answer has got it.
pub record HasPassedOn (settings : Settings) (w : Writing) (all : Text) : Type 0 where
  pub answered : List Text
  pub behind : Text
  pub read : lines all ≡ answered ++ lines behind
  pub output : w.taken_then ≡ with_more w.taken (played settings answered).output
  pub passed : (answered ≡ []) ⊎ (IsAhead NEWLINE (Some behind) ⊎ IsPassedOn w.taken_then w.passed_then)

-- A flush was tried: it has passed on all that was taken, or it failed and was counted.
abbrev pub TriesFlush : Writing → Type 0
TriesFlush w = ((w.faults_then ≡ w.faults) × IsPassedOn w.taken_then w.passed_then) ⊎ Rose w.faults w.faults_then

-- ---- what a run promises

-- ALL PROMISES OF A RUN, by its status.
pub record KeepsPromises (settings : Settings) (status : ℕ) (r : Reading) (w : Writing) : Type 0 where
  -- there are five statuses
  pub statuses : IsTrue (list_any (λ s. s == status) (WHOLE ∷ READ_FAULT ∷ WRITE_FAULT ∷ NO_MEMORY ∷ TOO_MANY_LINES ∷ []))
  -- at 0 nothing is left, and the whole output was taken
  pub whole : status ≡ WHOLE → WhereTold (IsPlayed settings w.taken w.taken_then) r.left r.left_then
  -- and passed on
  pub flushed : status ≡ WHOLE → IsPassedOn w.taken_then w.passed_then
  -- the journal that the script leaves is legal: each commit is what its body does on the state of those before it
  pub legal : IfSome r.left (λ all. IsLegal 0 (play settings all).world.store.journal)
  -- and the answers of every client are explained by it
  pub explained : IfSome r.left (ExplainsScript settings)
  -- at 3 the output of the lines that were read whole was taken
  pub broken_off : status ≡ READ_FAULT → WhereTold (IsBrokenOff settings w.taken w.taken_then) r.left r.left_then
  -- at 9 that of the most lines that may be read
  pub too_many : status ≡ TOO_MANY_LINES → WhereTold (HasTooManyLines settings w.taken w.taken_then) r.left r.left_then
  -- at 4 and 5 a prefix of the output of the lines that were read, which has all replies but the last; at 4 nothing of
  -- the next line was read
  pub unwritten : status ≡ WRITE_FAULT → WhereTold (IsCutOffBehindLine settings w.taken w.taken_then) r.left r.left_then
  pub wanting : status ≡ NO_MEMORY → WhereTold (IsCutOff settings w.taken w.taken_then) r.left r.left_then
  -- at 5 it stopped between two answers, and those so far were passed on, unless a whole line was ahead
  pub passed_on : status ≡ NO_MEMORY → IfSome r.left (HasPassedOn settings w)
  -- the source's count rose at 3, and at no other status
  pub reads : IsCounted (status == READ_FAULT) r.faults r.faults_then
  -- the sink's count rose at 4
  pub write_fault : status ≡ WRITE_FAULT → Rose w.faults w.faults_then
  -- it stayed at 0 and 5
  pub no_write_fault : (status ≡ WHOLE) ⊎ (status ≡ NO_MEMORY) → w.faults_then ≡ w.faults
  -- at 3 and 9 no write failed before the flush at the end, which may have failed
  pub tried : (status ≡ READ_FAULT) ⊎ (status ≡ TOO_MANY_LINES) → TriesFlush w
  -- an input of no more lines than may be read, and over which no count rose, is played to its end, memory aside
  pub completes : (all : Text) → r.left ≡ Some all → length (lines all) ≤ MOST_LINES → ¬ (Rose r.faults r.faults_then)
      → ¬ (Rose w.faults w.faults_then)
      → (status ≡ WHOLE) ⊎ (status ≡ NO_MEMORY)

-- ---- how many commits were made

-- a number, where one is answered, is that of the commits that the whole input leaves
abbrev pub HasCommits : Settings → Option ℕ → Text → Type 0
HasCommits settings number all = IfSome number (λ n. n ≡ commits_left settings all)
