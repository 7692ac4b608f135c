-- Messages at the forwarder.
use Rattle.std.specs.Prelude.{ℕ, List, [], None}
use Rattle.ftc_vector.specs.Vector.{by_partition}
use Rattle.ftc_vector.specs.Commits.{by_group}
use Rattle.ftc_message.specs.declared.message.Message.{Message}
use Rattle.ftc_message.specs.Logged.{Logged}
use Rattle.ftc_message.specs.Ordered.{with_items, is_earlier}

-- the message with each of the logs at its place among its own
abbrev pub attached : List Logged → Message → Message
attached logs message = record message { logs = with_items is_earlier logs message.logs }

-- a message without a packet, logs and needs, which knows nothing of the tails
abbrev pub begun : ℕ → Message
begun origin =
    record { origin = origin; packet = None; logs = []; needs = []; commits = by_group (λ _. by_partition (λ _. 0)) }
