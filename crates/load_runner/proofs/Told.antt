-- The line of a load, by what its run answers; and what a load promises where nothing was written.
use Rattle.std.proofs.Common.{◌≡◌, ℕ, ◌++◌, [], Option, Some, Result, inr, refl, sym, ap, subst, ◌∙◌, arith}
use Rattle.std.specs.Prelude.{IfOk, IfSome}
use Rattle.std.specs.declared.alloc.AllocError.{AllocError}
use Rattle.dio_core.proofs.Sinks.{with_more-nil}
use Rattle.plain_data.specs.Texts.{Bytes}
use Rattle.rdt_types.specs.declared.settings.Settings.{Settings}
use Rattle.load_script.specs.LoadLine.{load_line}
use Rattle.script_runner.specs.declared.status.TheConstants.{NO_MEMORY}
use Rattle.script_runner.specs.Play.{play, commits_left}
use Rattle.script_runner.specs.Script.{Writing, IsPlayed}
use Rattle.load_runner.specs.Loads.{Loads}

-- a run that has read its whole script is counted by what its sink took, and by its commits
pub line-counted : (settings : Settings) (count n : ℕ) (text left rest before after taken : Bytes) (commits : Option ℕ) (r : Result Bytes AllocError)
    → left ≡ text → before ≡ [] → taken ≡ after → IsPlayed settings (Some before) (Some after) left rest → commits ≡ Some n
    → IfSome commits (λ k. k ≡ commits_left settings left) → IfOk r (λ line. line ≡ load_line count taken n)
    → IfOk r (λ line. line ≡ load_line count (play settings text).output (commits_left settings text))
line-counted settings count n text left rest before after taken commits r same none shown played some has told =
    let whole : Some after ≡ Some (before ++ (play settings left).output) = played.output in
    let output : after ≡ before ++ (play settings left).output = cc in
    let number = subst (λ (o : Option ℕ). IfSome o (λ k. k ≡ commits_left settings left)) some has in
    subst (λ (z : Bytes). IfOk r (λ line. line ≡ z))
    (ap (λ (t : Bytes). load_line count t n) (shown ∙ (output ∙ ap (λ (b : Bytes). b ++ (play settings left).output) none))
    ∙ (ap (λ (m : ℕ). load_line count (play settings left).output m) number
    ∙ ap (λ (t : Bytes). load_line count (play settings t).output (commits_left settings t)) same))
    told

module _ (settings : Settings) (seed count : ℕ) (w : Writing) where
  -- for want of memory nothing was written
  pub loads-unmade : w.taken_then ≡ w.taken → w.faults_then ≡ w.faults → Loads settings seed count NO_MEMORY w
  loads-unmade same faults = record {
    statuses = refl;
    whole = λ is. absurd (cc is);
    flushed = λ is. absurd (cc is);
    prefix = (0, omega arith, same ∙ sym (with_more-nil w.taken));
    unwritten = λ is. same;
    writes = faults;
    completes = λ written. inr refl;
  }
