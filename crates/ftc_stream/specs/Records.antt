-- The records of released packets, and how a file grows by them.
use Rattle.std.specs.Prelude.{◌≡◌, ◌⊎◌, ◌&&◌, ℕ, Bool, nat_lt, nat_le, List, [], ◌++◌, length, take}
use Rattle.std.specs.List.{filter, flat_map}
use Rattle.ftc_base.specs.declared.limits.TheConstants.{MOST_CAPTURED}
use Rattle.ftc_base.specs.declared.released.Released.{Released}
use Rattle.ftc_outside.specs.Desk.{Files, GrewAt}
use Rattle.ftc_pcap.specs.declared.capture.Capture.{Capture}
use Rattle.ftc_pcap.specs.declared.packets.Packet.{Packet}
pub use Rattle.ftc_pcap.specs.ReleasedRecord.{released_record}

-- the item has a record: its number is one of the capture's, and a record may have so many bytes
abbrev pub is_writable : List Packet → Released → Bool
is_writable packets item = nat_lt item.packet (length packets) && nat_le (length item.bytes) MOST_CAPTURED

-- the items that have a record; the others are passed over
abbrev pub writable : Capture → List Released → List Released
writable capture items = filter (is_writable capture.packets) items

-- the records of the items, one after another
abbrev pub records : Capture → List Released → List ℕ
records capture items = flat_map (released_record capture) (writable capture items)

-- the file of that name has these bytes more at its end; where there are none it may not be there
abbrev pub HasGrownBy : List ℕ → List ℕ → Files → Files → Type 0
HasGrownBy at bytes old new = GrewAt at bytes old new ⊎ ((bytes ≡ []) × (new at ≡ old at))

-- the file has the records of the items more, and a first part of one record more behind them
abbrev pub HasGrownInPart : List ℕ → Capture → List Released → Files → Files → Type 0
HasGrownInPart at capture items old new =
    (one : Released) × (count : ℕ)
    × HasGrownBy at (records capture items ++ take count (released_record capture one)) old new
