-- Which numbers a translator's rule may have.
use Rattle.std.specs.Prelude.{◌≡◌, ◌≤◌, false}
use Rattle.ftc_base.specs.Endpoint.{IsNet, contains}
use Rattle.ftc_nat.specs.declared.rule.NatRule.{NatRule}

pub record IsNatRule (rule : NatRule) : Type 0 where
  pub inside : IsNet rule.inside
  pub outside : rule.outside ≤ 4294967295
  pub beyond : contains rule.inside rule.outside ≡ false
  pub first : 1 ≤ rule.first
  pub ordered : rule.first ≤ rule.last
  pub last : rule.last ≤ 65535
