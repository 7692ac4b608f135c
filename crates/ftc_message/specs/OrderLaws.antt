-- Logs and needs stand in an order.
use Rattle.std.proofs.Common.{arith}
use Rattle.std.specs.Cmp.{IsStrictWeakOrder}
use Rattle.std.proofs.lemmas.Bool.Decides.{nat_tests}
use Rattle.std.proofs.lemmas.List.Sorted.{IsStrictWeakOrder-by_number}
use Rattle.ftc_message.specs.declared.need.Need.{Need}
use Rattle.ftc_message.specs.Ordered.{is_earlier, is_lower}

pub earlier_is_order : IsStrictWeakOrder is_earlier
earlier_is_order = record {
  one_way = λ one other earlier. grind (arith, nat_tests, earlier);
  chain = λ one between other first second. grind (arith, nat_tests, first, second);
}

pub lower_is_order : IsStrictWeakOrder is_lower
lower_is_order = IsStrictWeakOrder-by_number (λ (need : Need). need.group)
