-- Which numbers a balancer's rule may have.
use Rattle.std.specs.Prelude.{◌≤◌, length}
use Rattle.std.specs.List.{AllByRecursion}
use Rattle.ftc_base.specs.declared.limits.TheConstants.{MOST_BACKENDS}
use Rattle.ftc_balance.specs.declared.rule.BalanceRule.{BalanceRule}

pub record IsBalanceRule (rule : BalanceRule) : Type 0 where
  pub address : rule.address ≤ 4294967295
  pub port : rule.port ≤ 65535
  pub some : 1 ≤ length rule.backends
  pub few : length rule.backends ≤ MOST_BACKENDS
  pub addresses : AllByRecursion (λ backend. backend ≤ 4294967295) rule.backends
