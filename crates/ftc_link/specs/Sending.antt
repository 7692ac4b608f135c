-- What sending does.
use Rattle.std.specs.Prelude.{ℕ, Bool, true, false, [], ◌∷◌, ◌++◌, Option, Some, None}
use Rattle.ftc_message.specs.declared.message.Message.{Message}
use Rattle.ftc_link.specs.declared.link.Sent.{Sent}
use Rattle.ftc_link.specs.declared.link.Sent.TheVariants as sent
use Rattle.ftc_link.specs.Queue.{Queue}

-- lost where a line says so, else down where the receiver is down
abbrev pub answer_of : Option ℕ → Bool → Sent
answer_of (Some line) up = sent.Lost line
answer_of None true = sent.Sent
answer_of None false = sent.Down

-- a message that is sent is queued at the end, and every other leaves a gap
abbrev pub after_answer : Sent → Message → Queue → Queue
after_answer sent.Sent message link = record link { messages = link.messages ++ message ∷ [] }
after_answer (sent.Lost line) message link = record link { gap = true }
after_answer sent.Down message link = record link { gap = true }
