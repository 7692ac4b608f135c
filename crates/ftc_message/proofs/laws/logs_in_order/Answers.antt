use Rattle.ftc_message.specs.Ordered.{is_earlier}
use Rattle.ftc_message.proofs.InOrder.{count_with_items}
use Rattle.ftc_message.proofs.RiseLaws.{are_logs-with, are_logs-with_items, are_logs-filter}
use Rattle.ftc_message.proofs.laws.logs_in_order.Goals as goal

pub returns : goal.returns
returns c = record {
  one = are_logs-with;
  many = are_logs-with_items;
  fewer = are_logs-filter;
  count = λ test logs others. count_with_items test is_earlier logs others;
}
