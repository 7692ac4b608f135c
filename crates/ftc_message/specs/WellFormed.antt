-- What holds of a message: by the types of its fields, and by the condition that it is well formed.
use Rattle.std.specs.Prelude.{◌≡◌, ◌≤◌, ◌<◌, ◌^◌, [], length, None, IfSome}
use Rattle.std.specs.List.{AllByRecursion}
use Rattle.ftc_base.specs.declared.limits.TheConstants.{MOST_CAPTURED}
use Rattle.ftc_message.specs.declared.message.Message.{Message}
use Rattle.ftc_message.specs.Bounds.{AreLogs, AreNeeds, AreCommits, MarksSome}

-- what the types of a message's fields hold
pub record IsTyped (message : Message) : Type 0 where
  pub origin : message.origin < 2 ^ 32
  pub logs : AreLogs message.logs
  pub needs : AreNeeds message.needs
  pub commits : AreCommits message.commits

-- a message that has a frame
pub record IsWellFormed (message : Message) : Type 0 where
  pub packet : IfSome message.packet (λ packet. length packet ≤ MOST_CAPTURED)
  pub few_logs : length message.logs < 4294967296
  pub logs : AllByRecursion (λ log. MarksSome log.before) message.logs
  pub needs : AllByRecursion (λ need. MarksSome need.marks) message.needs
  pub no_needs : message.packet ≡ None → message.needs ≡ []
