-- What was written for a packet of the list is its record.
use Rattle.std.proofs.Common.{◌≡◌, ◌<◌, ℕ, zero, suc, List, [], ◌∷◌, ◌++◌, length, arith}
use Rattle.std.specs.Prelude.{slice_get, IfSome}
use Rattle.std.specs.Option.{option_map_or}
use Rattle.ftc_pcap.specs.declared.packets.Packet.{Packet}

pub recorded : (record_of : Packet → List ℕ) (packets : List Packet) (place : ℕ) (old new : List ℕ) →
    place < length packets → IfSome (slice_get packets place) (λ packet. new ≡ old ++ record_of packet) →
    new ≡ old ++ option_map_or record_of (slice_get packets place) []
recorded record_of [] place old new known written = absurd (omega (arith, known))
recorded record_of (p ∷ ps) zero old new known written = written
recorded record_of (p ∷ ps) (suc place) old new known written =
    recorded record_of ps place old new (omega (arith, known)) written
