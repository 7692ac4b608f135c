-- What is taken from a link.
use Rattle.std.specs.Prelude.{◌≡◌, ◌∷◌, [], Option, Some, None}
use Rattle.ftc_message.specs.declared.message.Message.{Message}
use Rattle.ftc_link.specs.Queue.{Queue, IsSoundMessage}

-- the message was the oldest, and the others stay
pub record TakesOldest (old new : Queue) (message : Message) : Type 0 where
  pub oldest : old ≡ record new { messages = message ∷ new.messages }
  pub sound : IsSoundMessage message

-- the oldest message is taken out, or there was none
abbrev pub TakesIfAny : Queue → Queue → Option Message → Type 0
TakesIfAny old new (Some message) = TakesOldest old new message
TakesIfAny old new None = (old.messages ≡ []) × (new ≡ old)
