use Rattle.cli_words.proofs.Complete.{one_form}
use Rattle.cli_words.proofs.reading.laws_of_words.Goals as goal

pub returns : goal.returns
returns c = one_form
