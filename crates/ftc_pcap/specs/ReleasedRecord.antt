-- The record of a packet that was released with bytes of its own.
use Rattle.std.specs.Prelude.{ℕ, List, [], slice_get}
use Rattle.std.specs.Option.{option_map_or}
use Rattle.ftc_base.specs.declared.released.Released.{Released}
use Rattle.ftc_pcap.specs.Grammar.{record_bytes, rewritten}
use Rattle.ftc_pcap.specs.declared.capture.Capture.{Capture}

-- a released packet's record: its own stamps and original length, and the bytes with which it left
abbrev pub released_record : Capture → Released → List ℕ
released_record capture released =
    option_map_or (λ packet. record_bytes capture.big (rewritten packet released.bytes))
    (slice_get capture.packets released.packet) []
