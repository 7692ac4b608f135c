-- What a queue knows of the message of a frame.
use Rattle.std.proofs.Common.{◌≡◌, length, Result, Ok, sym, ap, subst, ◌∙◌}
use Rattle.ftc_message.specs.declared.fault.FrameFault.{FrameFault}
use Rattle.ftc_message.specs.declared.message.Message.{Message}
use Rattle.ftc_message.specs.Spelling.{spelling}
use Rattle.ftc_message.specs.Reading.{message_of}
use Rattle.ftc_message.proofs.MessageLaws.{is_read}
use Rattle.ftc_link.specs.declared.queued.Queued.{Queued}
use Rattle.ftc_link.specs.Queue.{message_read, message_in, IsSoundMessage, IsQueued}

abbrev read_as : Message → Result Message FrameFault
read_as message = Ok message

-- the frame of a sound message is read as that message
pub message_in-frame : (queued : Queued) (message : Message) → queued.frame ≡ spelling message → IsSoundMessage message
    → message_in queued ≡ message
unfolding message_in
message_in-frame queued message spelled sound =
    ap message_read (ap message_of spelled ∙ is_read message sound.typed sound.right)

pub is_queued : (queued : Queued) (message : Message) → queued.frame ≡ spelling message → IsSoundMessage message
    → queued.origin ≡ message.origin → queued.logs ≡ length message.logs → IsQueued queued
is_queued queued message spelled sound origin logs =
    let same : message_in queued ≡ message = message_in-frame queued message spelled sound in
    record {
      read = ap message_of spelled ∙ is_read message sound.typed sound.right ∙ ap read_as (sym same);
      spelled = spelled ∙ ap spelling (sym same);
      sound = subst IsSoundMessage (sym same) sound;
      origin = origin ∙ ap (λ (m : Message). m.origin) (sym same);
      logs = logs ∙ ap (λ (m : Message). length m.logs) (sym same);
    }

-- what is read from a frame is its message
pub read_message : (queued : Queued) (message : Message) → message_of queued.frame ≡ Ok message →
    message ≡ message_in queued
unfolding message_in
read_message queued message told = sym (ap message_read told)
