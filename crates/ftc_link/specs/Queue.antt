-- The link from one server to the next.
use Rattle.std.specs.Prelude.{◌≡◌, ℕ, Bool, List, [], ◌∷◌, length, Option, Some, None, Result, Ok, Err}
use Rattle.ftc_message.specs.declared.fault.FrameFault.{FrameFault}
use Rattle.ftc_message.specs.declared.message.Message.{Message}
use Rattle.ftc_message.specs.Spelling.{spelling}
use Rattle.ftc_message.specs.Reading.{message_of}
use Rattle.ftc_message.specs.WellFormed.{IsTyped, IsWellFormed}
use Rattle.ftc_link.specs.declared.queued.Queued.{Queued}

-- the sender, the messages on their way, the oldest first, and whether something may have been lost
pub record Queue : Type 0 where
  pub from : ℕ
  pub messages : List Message
  pub gap : Bool

abbrev pub oldest_of : List Message → Option Message
oldest_of [] = None
oldest_of (message ∷ messages) = Some message

-- a message that has a frame, and whose fields hold what their types do
pub record IsSoundMessage (message : Message) : Type 0 where
  pub typed : IsTyped message
  pub right : IsWellFormed message

-- the message that was read, and one that says nothing where none was
abbrev pub message_read : Result Message FrameFault → Message
message_read (Ok message) = message
message_read (Err fault) = record { origin = 0; packet = None; logs = []; needs = []; commits = [] }

-- the message whose frame is queued
unfoldable pub message_in : Queued → Message
message_in queued = message_read (message_of queued.frame)

-- the frame is one of a sound message, whose origin and count of logs are kept beside it
pub record IsQueued (queued : Queued) : Type 0 where
  pub read : message_of queued.frame ≡ Ok (message_in queued)
  pub spelled : queued.frame ≡ spelling (message_in queued)
  pub sound : IsSoundMessage (message_in queued)
  pub origin : queued.origin ≡ (message_in queued).origin
  pub logs : queued.logs ≡ length (message_in queued).logs
