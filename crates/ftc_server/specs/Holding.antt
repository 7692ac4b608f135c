-- The messages that a server holds.
use Rattle.std.specs.Prelude.{ℕ, ◌≡◌, ◌≤◌, ◌==◌, Bool, false, not, List, [], ◌∷◌, Option, Some, None, find, is_some}
use Rattle.std.specs.Prelude.{if◌then◌else◌, nat_eq, unwrap_or}
use Rattle.std.specs.List.{list_any}
use Rattle.std.specs.Map.{lookup}
use Rattle.ftc_message.specs.declared.message.Message.{Message}
use Rattle.ftc_message.specs.Logged.{Logged, logs_rise}
use Rattle.ftc_message.specs.Ordered.{is_log_of}
use Rattle.ftc_server.specs.declared.held.HeldMessage.{HeldMessage}

-- in the order of taking, the origins of those that rest, which are passed over where one with work is looked for, how
-- many of the first logs of the message of an origin are noted as had, and for how many more there is room
pub record Holding : Type 0 where
  pub items : List HeldMessage
  pub resting : List ℕ
  pub had : List (ℕ × ℕ)
  pub spare : ℕ

-- the message of that origin rests
abbrev pub rests : ℕ → List ℕ → Bool
rests origin resting = list_any (λ other. other == origin) resting

-- how many of the first logs of the message of that origin are noted as had
abbrev pub noted : ℕ → List (ℕ × ℕ) → ℕ
noted origin had = unwrap_or (lookup (nat_eq origin) had) 0

-- the message doesn't rest
abbrev pub is_awake : List ℕ → HeldMessage → Bool
is_awake resting held = not (rests held.message.origin resting)

-- the message is of that origin
abbrev pub is_of : ℕ → HeldMessage → Bool
is_of origin held = held.message.origin == origin

-- the message of that origin
abbrev pub found : ℕ → List HeldMessage → Option HeldMessage
found origin items = find (is_of origin) items

abbrev pub is_held : ℕ → List HeldMessage → Bool
is_held origin items = is_some (found origin items)

-- the log of that packet and group among those of a held message
abbrev pub log_of : ℕ → ℕ → Option HeldMessage → Option Logged
log_of group packet None = None
log_of group packet (Some held) = find (is_log_of packet group) held.message.logs

-- the logs of the message rise
abbrev pub are_rising : HeldMessage → Bool
are_rising held = logs_rise None held.message.logs

abbrev pub origins_of : List HeldMessage → List ℕ
origins_of [] = []
origins_of (held ∷ items) = held.message.origin ∷ origins_of items

-- Each held message has its ticket, in the same order. So many there may be, and there is room for so many.
pub record AreTicketed (items : List HeldMessage) (ticketed : List ℕ) (count most : ℕ) : Type 0 where
  pub origins : ticketed ≡ origins_of items
  pub room : count ≤ most

-- the others, in their order
abbrev pub without : ℕ → List HeldMessage → List HeldMessage
without origin [] = []
without origin (held ∷ items) = if is_of origin held then items else held ∷ without origin items

-- that message is another, in its place
abbrev pub with_changed : ℕ → (HeldMessage → HeldMessage) → List HeldMessage → List HeldMessage
with_changed origin change [] = []
with_changed origin change (held ∷ items) =
    if is_of origin held then change held ∷ items else held ∷ with_changed origin change items

-- a message as it comes
abbrev pub arrived : Message → Bool → HeldMessage
arrived message by_ring = record { visited = false; by_ring = by_ring; message = message }
