-- What the visit of its packet makes of a held message.
use Rattle.std.specs.Prelude.{ℕ, true, List, [], Option, Some, None}
use Rattle.ftc_base.specs.declared.ask.Verdict.{Verdict}
use Rattle.ftc_mbox.specs.Change.{packet_after}
use Rattle.ftc_message.specs.declared.message.Message.{Message}
use Rattle.ftc_message.specs.declared.need.Need.{Need}
use Rattle.ftc_message.specs.Logged.{Logged}
use Rattle.ftc_message.specs.Added.{logs_with, needs_with}
use Rattle.ftc_server.specs.declared.held.HeldMessage.{HeldMessage}
use Rattle.ftc_server.specs.declared.visited.Visited.{Visited}

-- a dropped packet needs nothing
abbrev pub needs_after : Option (List ℕ) → Option Logged → List Need → List Need
needs_after None log needs = []
needs_after (Some packet) log needs = needs_with log needs

-- what becomes of a packet, and of the logs and needs that ride with it
abbrev pub visit_of : ℕ → Option Logged → List ℕ → Verdict → Message → Visited
visit_of failures log packet verdict message =
    let after = packet_after packet verdict in
    record { packet = after; logs = logs_with failures log message.logs; needs = needs_after after log message.needs }

-- a held message after it
abbrev pub visited_by : Visited → HeldMessage → HeldMessage
visited_by visited held = record held {
  visited = true;
  message = record held.message { packet = visited.packet; logs = visited.logs; needs = visited.needs };
}
