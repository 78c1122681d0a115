use Rattle.dtext.specs.Spellings.{TextRule, AddressRule, ItemRule, OutcomeRule, PartRule}
use Rattle.predictive_parsing.specs.Bytes.{IsByte}
use Rattle.predictive_parsing.proofs.Columns.{one_column}
use Rattle.dtext.proofs.laws.columns_are_unique.Goals as goal

pub returns : goal.returns
returns c = record {
  texts = one_column IsByte TextRule;
  addresses = one_column IsByte AddressRule;
  items = one_column IsByte ItemRule;
  outcomes = one_column IsByte OutcomeRule;
  parts = one_column IsByte PartRule;
}
