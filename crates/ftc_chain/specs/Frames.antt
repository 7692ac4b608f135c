-- The frames on a link.
use Rattle.std.specs.Prelude.{ℕ, ◌≡◌, ◌≤◌, List, Option, Some, None, Ok}
use Rattle.ftc_message.specs.declared.message.Message.{Message as SentMessage}
use Rattle.ftc_message.specs.Reading.{message_of}
use Rattle.ftc_protocol.specs.Setting.{Setting}
use Rattle.ftc_protocol.specs.State.{Message, ChainState}
use Rattle.ftc_standing.specs.Stand.{IsSentAs}
use Rattle.ftc_standing.specs.View.{queued_on}

-- the frame is read as what stands for the message that is on the link for longest
pub record IsOldestFrame (setting : Setting) (state : ChainState) (link : ℕ) (frame : List ℕ) : Type 0 where
  pub origin : ℕ
  pub message : Message
  pub queued : queued_on state link origin ≡ Some message
  pub oldest : (other : ℕ) (another : Message) → queued_on state link other ≡ Some another →
      message.since ≤ another.since
  pub sent : SentMessage
  pub read : message_of frame ≡ Ok sent
  pub as_sent : IsSentAs setting state origin message sent

-- the oldest frame on a link, none where nothing is queued there
abbrev pub IsFrameOf : Setting → ChainState → ℕ → Option (List ℕ) → Type 0
IsFrameOf setting state link None = (origin : ℕ) → queued_on state link origin ≡ None
IsFrameOf setting state link (Some frame) = IsOldestFrame setting state link frame
