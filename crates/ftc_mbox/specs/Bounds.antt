-- Which numbers a rule may have.
use Rattle.std.specs.Prelude.{◌≤◌}
use Rattle.ftc_base.specs.declared.limits.TheConstants.{MOST_MONITOR_GROUPS}
use Rattle.ftc_nat.specs.Bounds.{IsNatRule}
use Rattle.ftc_firewall.specs.Bounds.{IsFirewallRule}
use Rattle.ftc_balance.specs.Bounds.{IsBalanceRule}
use Rattle.ftc_mbox.specs.declared.rule.Rule.{Rule}
use Rattle.ftc_mbox.specs.declared.rule.Rule.TheVariants.{Pass, Monitor, Nat, Firewall, Balance}

abbrev pub IsRule : Rule → Type 0
IsRule Pass = Unit {0}
IsRule (Monitor groups) = (1 ≤ groups) × (groups ≤ MOST_MONITOR_GROUPS)
IsRule (Nat rule) = IsNatRule rule
IsRule (Firewall rule) = IsFirewallRule rule
IsRule (Balance rule) = IsBalanceRule rule
