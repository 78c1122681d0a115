use Rattle.std.proofs.Common.{sym, ap, ◌∙◌}
use Rattle.commit_file.specs.declared.version.Version.{Version}
use Rattle.record_code.specs.Reading.{has_kinds}
use Rattle.record_code.proofs.KindsTold.{two_has-body}
use Rattle.record_code.proofs.kinds.has_kinds.Goals as goal

pub returns-in-Two : goal.returns-in-Two
returns-in-Two c =
    sym (ap (λ (version : Version). has_kinds version c.args.text.now) c.in-Two.is ∙ two_has-body c.args.text.now)
