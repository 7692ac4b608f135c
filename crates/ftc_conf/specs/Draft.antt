-- What the lines so far say, and what one more line adds.
use Rattle.std.specs.Prelude.{ℕ, ◌≤◌, ◌<◌, ◌+◌, List, [], ◌∷◌, ◌++◌, length, Option, Some, None, IfSome}
use Rattle.std.specs.List.{AllByRecursion}
use Rattle.ftc_base.specs.declared.limits.TheConstants.{MOST_SERVERS, MOST_PARTITIONS, MOST_FIREWALL_LINES}
use Rattle.ftc_firewall.specs.Bounds.{IsFireLine, IsFirewallRule}
use Rattle.ftc_firewall.specs.declared.rule.FireLine.{FireLine}
use Rattle.ftc_firewall.specs.declared.rule.FirewallRule.{FirewallRule}
use Rattle.ftc_mbox.specs.Bounds.{IsRule}
use Rattle.ftc_mbox.specs.declared.rule.Rule.{Rule}
use Rattle.ftc_mbox.specs.declared.rule.Rule.TheVariants as rule
use Rattle.ftc_conf.specs.declared.statement.Statement.{Statement}
use Rattle.ftc_conf.specs.declared.statement.Statement.TheVariants as said
use Rattle.ftc_conf.specs.declared.draft.Draft.{Draft}

-- no line is read
abbrev pub no_lines : Draft
no_lines = record { failures = None; partitions = None; rules = []; firewall = None; spares = 0 }

-- the firewall whose lines may follow is the last middlebox
abbrev pub last_firewall : Option FirewallRule → List Rule
last_firewall None = []
last_firewall (Some firewall) = rule.Firewall firewall ∷ []

-- the rules of all servers
abbrev pub servers : Draft → List Rule
servers draft = draft.rules ++ last_firewall draft.firewall

abbrev pub with_server : Draft → Rule → Draft
with_server draft server = record draft { rules = servers draft ++ server ∷ []; firewall = None }

abbrev pub with_firewall : Draft → Draft
with_firewall draft = record draft { rules = servers draft; firewall = Some (record { lines = [] }) }

-- the firewall with one more line
abbrev pub longer_firewall : Option FirewallRule → FireLine → Option FirewallRule
longer_firewall None line = None
longer_firewall (Some firewall) line = Some (record { lines = firewall.lines ++ line ∷ [] })

abbrev pub with_fire_line : Draft → FireLine → Draft
with_fire_line draft line = record draft { firewall = longer_firewall draft.firewall line }

abbrev pub with_spare : Draft → Draft
with_spare draft = record (with_server draft rule.Pass) { spares = draft.spares + 1 }

-- the draft with what the line at that place says
abbrev pub with_statement : Draft → ℕ → Statement → Draft
with_statement draft place said.Nothing = draft
with_statement draft place (said.Failures number) =
    record draft { failures = Some (record { number = number; line = place }) }
with_statement draft place (said.Partitions number) = record draft { partitions = Some number }
with_statement draft place (said.Middlebox server) = with_server draft server
with_statement draft place said.Firewall = with_firewall draft
with_statement draft place (said.FireLine line) = with_fire_line draft line
with_statement draft place said.Spare = with_spare draft

-- what the lines so far say is in its bounds
pub record IsDraft (draft : Draft) : Type 0 where
  pub few : length (servers draft) ≤ MOST_SERVERS
  pub spares : draft.spares ≤ length draft.rules
  pub some_partition : IfSome draft.partitions (λ number. 1 ≤ number)
  pub partitions : IfSome draft.partitions (λ number. number ≤ MOST_PARTITIONS)
  pub rules : AllByRecursion IsRule draft.rules
  pub firewall : IfSome draft.firewall IsFirewallRule

-- what a line says is in its bounds
abbrev pub IsStatement : Statement → Type 0
IsStatement (said.Partitions number) = (1 ≤ number) × (number ≤ MOST_PARTITIONS)
IsStatement (said.Middlebox server) = IsRule server
IsStatement (said.FireLine line) = IsFireLine line
IsStatement other = Unit {0}

-- there is room for it behind the lines so far
abbrev pub HasRoom : Draft → Statement → Type 0
HasRoom draft (said.Middlebox server) = length (servers draft) < MOST_SERVERS
HasRoom draft said.Firewall = length (servers draft) < MOST_SERVERS
HasRoom draft (said.FireLine line) = IfSome draft.firewall (λ firewall. length firewall.lines < MOST_FIREWALL_LINES)
HasRoom draft said.Spare = length (servers draft) < MOST_SERVERS
HasRoom draft other = Unit {0}
