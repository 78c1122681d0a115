use Rattle.predictive_parsing.specs.Bytes.{IsByte}
use Rattle.predictive_parsing.proofs.Columns.{column_no_spelling, one_column}
use Rattle.session_text.specs.Replies.{ReplyRule}
use Rattle.session_text.proofs.laws.columns_pin_answers.Goals as goal

pub returns : goal.returns
returns c = record { no_spelling = column_no_spelling IsByte ReplyRule; one = one_column IsByte ReplyRule }
