use Rattle.ftc_message.proofs.MessageLaws.{same_message, no_front, is_read, no_fault}
use Rattle.ftc_message.proofs.laws.one_spelling.Goals as goal

pub returns : goal.returns
returns c = record { same = same_message; front = no_front; read = is_read; right = no_fault }
