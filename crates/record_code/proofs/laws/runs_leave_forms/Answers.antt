use Rattle.record_code.proofs.Left.{runs_leave_forms as lemma}
use Rattle.record_code.proofs.laws.runs_leave_forms.Goals as goal

pub returns : goal.returns
returns c = lemma
