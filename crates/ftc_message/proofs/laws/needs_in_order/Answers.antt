use Rattle.ftc_message.specs.Ordered.{is_lower}
use Rattle.ftc_message.proofs.InOrder.{count_with_items}
use Rattle.ftc_message.proofs.RiseLaws.{are_needs-with, are_needs-with_items, are_needs-filter}
use Rattle.ftc_message.proofs.laws.needs_in_order.Goals as goal

pub returns : goal.returns
returns c = record {
  one = are_needs-with;
  many = are_needs-with_items;
  fewer = are_needs-filter;
  count = λ test needs others. count_with_items test is_lower needs others;
}
