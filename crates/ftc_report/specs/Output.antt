-- The bytes of the packets that came out.
use Rattle.std.specs.Prelude.{ℕ, ◌<◌, ◌≤◌, List, ◌++◌, length}
use Rattle.std.specs.List.{flat_map, AllByRecursion}
use Rattle.ftc_base.specs.declared.limits.TheConstants.{MOST_CAPTURED}
use Rattle.ftc_base.specs.declared.released.Released.{Released}
use Rattle.ftc_pcap.specs.declared.capture.Capture.{Capture}
use Rattle.ftc_pcap.specs.declared.packets.Packet.{Packet}
pub use Rattle.ftc_pcap.specs.ReleasedRecord.{released_record}

-- the capture's header, and the record of each released packet in the order of release
abbrev pub out_bytes : Capture → List Released → List ℕ
out_bytes capture released = capture.header ++ flat_map (released_record capture) released

-- the record of a packet that was released with other bytes fits into a capture
abbrev pub IsWritable : List Packet → Released → Type 0
IsWritable packets released = (released.packet < length packets) × (length released.bytes ≤ MOST_CAPTURED)

abbrev pub AreWritable : List Packet → List Released → Type 0
AreWritable packets released = AllByRecursion (IsWritable packets) released
