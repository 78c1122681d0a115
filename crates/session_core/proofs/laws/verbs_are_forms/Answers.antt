use Rattle.session_core.proofs.Forms.{verbs_are_forms}
use Rattle.session_core.proofs.laws.verbs_are_forms.Goals as goal

pub returns : goal.returns
returns c = verbs_are_forms
