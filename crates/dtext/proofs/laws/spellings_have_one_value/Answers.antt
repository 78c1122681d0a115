use Rattle.std.proofs.Common.{refl}
use Rattle.predictive_parsing.specs.Fits.{any}
use Rattle.dtext.specs.code.Reading as read
use Rattle.dtext.specs.Spellings.{TextRule, AddressRule, ItemRule, OutcomeRule, PartRule}
use Rattle.dtext.proofs.TextFits.{text_fits}
use Rattle.dtext.specs.Follows.{no_digit, no_more}
use Rattle.dtext.proofs.FormFits.{address_fits, item_fits, outcome_fits}
use Rattle.dtext.proofs.PartFits.{part_fits}
use Rattle.predictive_parsing.specs.Bytes.{IsByte}
use Rattle.predictive_parsing.proofs.Wholes.{whole_unique}
use Rattle.dtext.proofs.laws.spellings_have_one_value.Goals as goal

pub returns : goal.returns
returns c = record {
  texts = whole_unique IsByte read.text TextRule any text_fits refl;
  addresses = whole_unique IsByte read.address AddressRule any address_fits refl;
  items = whole_unique IsByte read.item ItemRule no_digit item_fits refl;
  outcomes = whole_unique IsByte read.outcome OutcomeRule no_more outcome_fits refl;
  parts = whole_unique IsByte read.part PartRule no_more part_fits refl;
}
