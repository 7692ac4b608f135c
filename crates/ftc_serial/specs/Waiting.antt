-- Tests of where a packet is.
use Rattle.std.specs.Prelude.{ℕ, Bool, true, false, ◌==◌, Option, Some, None}
use Rattle.ftc_serial.specs.declared.position.Position.{Position}
use Rattle.ftc_serial.specs.declared.position.Position.TheVariants as position

-- it waits for that middlebox
abbrev pub is_waiting : Option Position → ℕ → Bool
is_waiting (Some (position.Waiting waited bytes)) server = waited == server
is_waiting (Some (position.Passed bytes)) server = false
is_waiting (Some (position.Filtered dropped)) server = false
is_waiting (Some position.Released) server = false
is_waiting None server = false

-- it has passed all middleboxes
abbrev pub is_passed : Option Position → Bool
is_passed (Some (position.Waiting waited bytes)) = false
is_passed (Some (position.Passed bytes)) = true
is_passed (Some (position.Filtered dropped)) = false
is_passed (Some position.Released) = false
is_passed None = false
