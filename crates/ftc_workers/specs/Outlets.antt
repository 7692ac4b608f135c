-- What lies between the latch and the writer.
use Rattle.std.specs.Prelude.{ℕ, List, Option, Some, None}
use Rattle.ftc_base.specs.declared.released.Released.{Released}
use Rattle.ftc_stream.specs.Flow.{Flow}

-- what was sent; where nothing is sent, what was taken out
abbrev pub sent_of : Option Flow → List Released → List Released
sent_of None drained = drained
sent_of (Some flow) drained = flow.items

-- for how many packets there is room; where nothing is sent, as many as there are
abbrev pub room_of : Option Flow → ℕ → ℕ
room_of None packets = packets
room_of (Some flow) packets = flow.room
