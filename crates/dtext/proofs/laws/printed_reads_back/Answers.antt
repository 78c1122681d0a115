use Rattle.std.proofs.Common.{[], subst, append-nil}
use Rattle.rdt_types.specs.Values.{kind_written}
use Rattle.rdt_types.specs.Printed.{printed_text, printed_address}
use Rattle.dtext.specs.Printing.{printed_item, printed_outcome, printed_part}
use Rattle.dtext.specs.ReadBack.{read_alone}
use Rattle.dtext.specs.Spellings.{TextRule, AddressRule, ItemRule, OutcomeRule, PartRule, PartOf}
use Rattle.dtext.proofs.PrintedBack.{text_made, address_made, item_made, outcome_made, part_made, part_of_made}
use Rattle.dtext.proofs.laws.printed_reads_back.Goals as goal

pub returns : goal.returns
returns c = record {
  texts = λ t. subst (λ ts. TextRule ts t []) (append-nil (printed_text t)) (text_made t []);
  addresses = λ a. subst (λ ts. AddressRule ts a []) (append-nil (printed_address a)) (address_made a []);
  items = λ i h. subst (λ ts. ItemRule ts i []) (append-nil (printed_item i)) (item_made i [] h);
  outcomes = λ o h. subst (λ ts. OutcomeRule ts o []) (append-nil (printed_outcome o)) (outcome_made o [] h);
  parts = λ p h. subst (λ ts. PartRule ts (read_alone p) []) (append-nil (printed_part p)) (part_made p [] h);
  parts_of_kinds = λ p h. subst (λ ts. PartOf (kind_written p) ts p []) (append-nil (printed_part p)) (part_of_made p [] h);
}
