-- A chain: its middleboxes, how many servers may be down at once, and the partitions of each middlebox's keys.
use Rattle.std.specs.Prelude.{ℕ, ◌≤◌, ◌<◌, List, length}
use Rattle.std.specs.List.{AllByRecursion}
use Rattle.ftc_base.specs.declared.limits.TheConstants.{MOST_SERVERS, MOST_PARTITIONS}
use Rattle.ftc_mbox.specs.Bounds.{IsRule}
use Rattle.ftc_mbox.specs.declared.rule.Rule.{Rule}

pub record Chain : Type 0 where
  pub failures : ℕ
  pub partitions : ℕ
  pub rules : List Rule

-- all numbers and rules are in their bounds
pub record IsChain (chain : Chain) : Type 0 where
  pub servers : length chain.rules ≤ MOST_SERVERS
  pub failures : chain.failures < length chain.rules
  pub some_partition : 1 ≤ chain.partitions
  pub partitions : chain.partitions ≤ MOST_PARTITIONS
  pub rules : AllByRecursion IsRule chain.rules
