-- What goes away with messages, by what is kept.
use Rattle.std.specs.Prelude.{ℕ, ◌==◌, ◌&&◌, Bool, false, Option, Some, None, is_some, if◌then◌else◌}
use Rattle.ftc_ring.specs.Ring.{next_of}
use Rattle.ftc_protocol.specs.declared.fate.Fate.{Fate}
use Rattle.ftc_protocol.specs.declared.fate.Fate.TheVariants.{Filtered, Inside, Lost, Released}
use Rattle.ftc_machine.specs.declared.state.message.Message.{Message}
use Rattle.ftc_machine.specs.declared.state.message.Place.{Place}
use Rattle.ftc_machine.specs.declared.state.message.Place.TheVariants.{Held, Queued}
use Rattle.ftc_machine.specs.Slots.{has_such}

-- the message goes away where the test is true
abbrev pub drop_kept : (Message → Bool) → Option Message → Option Message
drop_kept test None = None
drop_kept test (Some message) = if test message then None else Some message

-- and it carries a packet
abbrev pub loses_kept : (Message → Bool) → Option Message → Bool
loses_kept test slot = has_such (λ (message : Message). test message && is_some message.packet) slot

-- what became of a packet, or that it is lost by an event
abbrev pub fate_lost : Bool → ℕ → Option Fate → Option Fate
fate_lost lost event fate = if lost then Some (Lost event) else fate

-- a server holds it, or it is queued to that server
abbrev pub is_kept_at : ℕ → ℕ → Place → Bool
is_kept_at count server (Held other visited by_ring) = other == server
is_kept_at count server (Queued link known) = next_of count link == server

-- the middlebox of that server dropped the packet
abbrev pub was_filtered : ℕ → Fate → Bool
was_filtered server (Filtered by) = server == by
was_filtered server (Lost event) = false
was_filtered server Released = false
was_filtered server Inside = false
