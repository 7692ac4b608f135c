-- Which numbers a firewall's rule may have.
use Rattle.std.specs.Prelude.{◌≡◌, ◌≤◌, ◌⊎◌, length, Some, None}
use Rattle.std.specs.List.{AllByRecursion}
use Rattle.ftc_base.specs.Endpoint.{IsNet}
use Rattle.ftc_base.specs.declared.limits.TheConstants.{MOST_FIREWALL_LINES}
use Rattle.ftc_firewall.specs.declared.rule.FireLine.{FireLine}
use Rattle.ftc_firewall.specs.declared.rule.FirewallRule.{FirewallRule}

pub record IsFireLine (line : FireLine) : Type 0 where
  pub protocol : (line.protocol ≡ None) ⊎ (line.protocol ≡ Some 6) ⊎ (line.protocol ≡ Some 17)
  pub source : IsNet line.source
  pub destination : IsNet line.destination
  pub ordered : line.low ≤ line.high
  pub high : line.high ≤ 65535

pub record IsFirewallRule (rule : FirewallRule) : Type 0 where
  pub few : length rule.lines ≤ MOST_FIREWALL_LINES
  pub lines : AllByRecursion IsFireLine rule.lines
