-- A packet after a change of one of its ends, and after a verdict.
use Rattle.std.specs.Prelude.{ℕ, List, Option, Some, None}
use Rattle.ftc_base.specs.declared.ask.Change.{Change}
use Rattle.ftc_base.specs.declared.ask.Change.TheVariants.{Keep, Source, Destination}
use Rattle.ftc_base.specs.declared.ask.Verdict.{Verdict}
use Rattle.ftc_base.specs.declared.ask.Verdict.TheVariants.{Forward, Filter}
use Rattle.ftc_base.specs.declared.ask.Ask.{Ask}
use Rattle.ftc_base.specs.declared.ask.Ask.TheVariants.{Read, Finish}
use Rattle.ftc_packet.specs.Flow.{IsFlow}
use Rattle.ftc_packet.specs.Rewrite.{with_source, with_destination}

abbrev pub changed_packet : List ℕ → Change → List ℕ
changed_packet packet Keep = packet
changed_packet packet (Source address port) = with_source packet address port
changed_packet packet (Destination address port) = with_destination packet address port

-- the packet after a verdict, none where it is dropped
abbrev pub packet_after : List ℕ → Verdict → Option (List ℕ)
packet_after packet (Forward change) = Some (changed_packet packet change)
packet_after packet Filter = None

-- only a flow packet is changed
abbrev pub CanChange : List ℕ → Change → Type 0
CanChange packet Keep = Unit {0}
CanChange packet (Source address port) = IsFlow packet
CanChange packet (Destination address port) = IsFlow packet

abbrev pub CanEnd : List ℕ → Verdict → Type 0
CanEnd packet (Forward change) = CanChange packet change
CanEnd packet Filter = Unit {0}

-- where a visit ends by a rewrite, the packet is a flow packet
abbrev pub CanFollow : List ℕ → Ask → Type 0
CanFollow packet (Read key change) = Unit {0}
CanFollow packet (Finish finish) = CanEnd packet finish.verdict
