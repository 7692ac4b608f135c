-- What the rule of a middlebox asks next.
use Rattle.std.specs.Prelude.{ℕ, List, [], Option, Some, None}
use Rattle.ftc_base.specs.declared.ask.Answer.{Answer}
use Rattle.ftc_base.specs.declared.ask.Ask.{Ask}
use Rattle.ftc_base.specs.Ask.{forward}
use Rattle.ftc_packet.specs.declared.flow.Flow.{Flow}
use Rattle.ftc_packet.specs.Flow.{flow_found}
use Rattle.ftc_nat.specs.Nat.{nat_ask}
use Rattle.ftc_firewall.specs.Firewall.{firewall_ask}
use Rattle.ftc_balance.specs.Balance.{balance_ask}
use Rattle.ftc_mbox.specs.declared.rule.Rule.{Rule}
use Rattle.ftc_mbox.specs.declared.rule.Rule.TheVariants.{Pass, Monitor, Nat, Firewall, Balance}
use Rattle.ftc_mbox.specs.Monitor.{monitor_ask}

-- of a flow's packet
abbrev pub ask_of_flow : Rule → Flow → List Answer → Ask
ask_of_flow Pass flow answers = forward []
ask_of_flow (Monitor groups) flow answers = monitor_ask groups flow answers
ask_of_flow (Nat rule) flow answers = nat_ask rule flow answers
ask_of_flow (Firewall rule) flow answers = firewall_ask rule flow answers
ask_of_flow (Balance rule) flow answers = balance_ask rule flow answers

-- a packet of no flow goes on unread
abbrev pub ask_of : Rule → Option Flow → List Answer → Ask
ask_of rule None answers = forward []
ask_of rule (Some flow) answers = ask_of_flow rule flow answers

-- of a packet, after these answers
unfoldable pub ask : Rule → List ℕ → List Answer → Ask
ask rule packet answers = ask_of rule (flow_found packet) answers
