-- What a load promises: its line is counted from what the script that the number makes is answered.
use Rattle.std.specs.Prelude.{◌≡◌, ◌⊎◌, ℕ, ◌==◌, Bool, true, not, [], ◌∷◌, IsTrue, refl}
use Rattle.std.specs.List.{list_any}
use Rattle.dio_core.specs.Counts.{Rose, IsCounted}
use Rattle.dio_core.specs.Sinks.{with_more, TakesPrefix, IsPassedOn}
use Rattle.plain_data.specs.Texts.{Bytes}
use Rattle.rdt_types.specs.declared.settings.Settings.{Settings}
use Rattle.load_script.specs.LoadText.{load_text}
use Rattle.load_script.specs.LoadLine.{load_line}
use Rattle.script_runner.specs.declared.status.TheConstants.{WHOLE, WRITE_FAULT, NO_MEMORY}
use Rattle.script_runner.specs.Play.{play, commits_left}
use Rattle.script_runner.specs.Script.{Writing}

statuses-are : WHOLE ∷ WRITE_FAULT ∷ NO_MEMORY ∷ [] ≡ 0 ∷ 4 ∷ 5 ∷ []
statuses-are = refl

-- THE LINE OF A LOAD: the replies that the script is answered with are counted, and so are the commits that it leaves.
abbrev pub line_of_load : Settings → ℕ → ℕ → Bytes
line_of_load settings seed count =
    let text = load_text seed count in load_line count (play settings text).output (commits_left settings text)

-- A line was tried: all of it was taken, behind what had been taken before, and passed on; or a prefix of it was taken, and a write
-- or the flush failed and was counted.
pub record IsTried (line : Bytes) (done : Bool) (w : Writing) : Type 0 where
  pub whole : done ≡ true → (w.taken_then ≡ with_more w.taken line) × IsPassedOn w.taken_then w.passed_then
  pub prefix : TakesPrefix line w.taken w.taken_then
  pub counted : IsCounted (not done) w.faults w.faults_then

-- WHAT A LOAD PROMISES, from the sink before it to it after.
pub record Loads (settings : Settings) (seed count status : ℕ) (w : Writing) : Type 0 where
  -- there are three statuses
  pub statuses : IsTrue (list_any (λ s. s == status) (WHOLE ∷ WRITE_FAULT ∷ NO_MEMORY ∷ []))
  -- at 0 the sink took exactly the line
  pub whole : status ≡ WHOLE → w.taken_then ≡ with_more w.taken (line_of_load settings seed count)
  -- and passed it on
  pub flushed : status ≡ WHOLE → IsPassedOn w.taken_then w.passed_then
  -- whatever comes, it took a prefix of the line
  pub prefix : TakesPrefix (line_of_load settings seed count) w.taken w.taken_then
  -- and at 5 nothing
  pub unwritten : status ≡ NO_MEMORY → w.taken_then ≡ w.taken
  -- the sink's count rose at 4, and at no other status
  pub writes : IsCounted (status == WRITE_FAULT) w.faults w.faults_then
  -- where it didn't rise, the status is 0 or 5
  pub completes : ¬ (Rose w.faults w.faults_then) → (status ≡ WHOLE) ⊎ (status ≡ NO_MEMORY)
