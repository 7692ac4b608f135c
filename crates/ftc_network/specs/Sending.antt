-- What becomes of a link where a message is sent.
use Rattle.std.specs.Prelude.{ℕ, ◌≤◌, ◌<◌, Bool, length, Option, Some, None, IfSome}
use Rattle.ftc_base.specs.declared.limits.TheConstants.{MOST_CAPTURED}
use Rattle.ftc_link.specs.Queue.{Queue}
use Rattle.ftc_link.specs.Sending.{answer_of, after_answer}
use Rattle.ftc_message.specs.declared.message.Message.{Message}
use Rattle.ftc_message.specs.WellFormed.{IsWellFormed}

-- the message has a frame, if a frame has room for the count of its logs and for its packet
abbrev pub HasFrameIfRoom : Message → Type 0
HasFrameIfRoom message =
    length message.logs < 4294967296 → IfSome message.packet (λ packet. length packet ≤ MOST_CAPTURED) →
    IsWellFormed message

-- the link after what is sent, if anything is. A line of the script may lose it, and the receiver may be down.
abbrev pub queue_after : Option ℕ → Bool → Option Message → Queue → Queue
queue_after lost up None queue = queue
queue_after lost up (Some message) queue = after_answer (answer_of lost up) message queue
