use Rattle.dtext.specs.Spellings.{TextRule, AddressRule, ItemRule, OutcomeRule, PartRule}
use Rattle.predictive_parsing.specs.Bytes.{IsByte}
use Rattle.predictive_parsing.proofs.Columns.{column_no_spelling}
use Rattle.dtext.proofs.laws.columns_are_of_no_spelling.Goals as goal

pub returns : goal.returns
returns c = record {
  texts = column_no_spelling IsByte TextRule;
  addresses = column_no_spelling IsByte AddressRule;
  items = column_no_spelling IsByte ItemRule;
  outcomes = column_no_spelling IsByte OutcomeRule;
  parts = column_no_spelling IsByte PartRule;
}
