-- When two logs, two needs and two messages are the same.
use Rattle.std.specs.Prelude.{ℕ, Bool, ◌&&◌, ◌==◌, nat_eq, List, Option}
use Rattle.std.specs.Option.{option_eq}
use Rattle.std.specs.Cmp.Lexicographic.{pointwise}
use Rattle.ftc_base.specs.declared.ask.Write.{Write}
use Rattle.ftc_message.specs.declared.need.Need.{Need}
use Rattle.ftc_message.specs.declared.message.Message.{Message}
use Rattle.ftc_message.specs.Logged.{Logged}

abbrev pub same_marks : List (Option ℕ) → List (Option ℕ) → Bool
same_marks one other = pointwise (option_eq nat_eq) one other

abbrev pub same_write : Write → Write → Bool
same_write one other = pointwise nat_eq one.key other.key && option_eq (pointwise nat_eq) one.value other.value

abbrev pub same_log : Logged → Logged → Bool
same_log one other =
    one.group == other.group && (one.origin == other.origin && (same_marks one.before other.before
    && (one.changed == other.changed && pointwise same_write one.writes other.writes)))

abbrev pub same_need : Need → Need → Bool
same_need one other = one.group == other.group && same_marks one.marks other.marks

abbrev pub same_message : Message → Message → Bool
same_message one other =
    one.origin == other.origin && (option_eq (pointwise nat_eq) one.packet other.packet
    && (pointwise same_log one.logs other.logs && (pointwise same_need one.needs other.needs
    && pointwise (pointwise nat_eq) one.commits other.commits)))
