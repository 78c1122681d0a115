use Rattle.std.proofs.Common.{◌≡◌, ◌∙◌, subst}
use Rattle.std.specs.Prelude.{IfOk}
use Rattle.plain_data.specs.Texts.{Bytes}
use Rattle.load_script.specs.LoadLine.{load_line}
use Rattle.script_runner.specs.Play.{play, commits_left}
use Rattle.load_runner.proofs.loading.line_of.Goals as goal

-- what was run is the script that the number makes
pub returns : goal.returns
returns c =
    let settings = c.args.settings.now in
    subst (λ (t : Bytes). IfOk c.counted.result (λ line. line ≡ load_line c.args.count (play settings t).output (commits_left settings t)))
    (c.as_slice.ensures ∙ c.in_ok-text.ensures) c.counted.ensures
