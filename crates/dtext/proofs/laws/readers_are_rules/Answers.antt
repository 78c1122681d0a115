use Rattle.dtext.proofs.TextFits.{text_fits}
use Rattle.dtext.proofs.NumberFits.{number_fits, natural_fits, positive_fits}
use Rattle.dtext.proofs.FormFits.{address_fits, item_fits, outcome_fits}
use Rattle.dtext.proofs.PartFits.{part_fits, part_of_fits}
use Rattle.dtext.proofs.laws.readers_are_rules.Goals as goal

pub returns : goal.returns
returns c = record {
  texts = text_fits;
  numbers = number_fits;
  naturals = natural_fits;
  positives = positive_fits;
  addresses = address_fits;
  items = item_fits;
  outcomes = outcome_fits;
  parts = part_fits;
  parts_of_kinds = part_of_fits;
}
