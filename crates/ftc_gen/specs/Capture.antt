-- The capture that is generated.
use Rattle.std.specs.Prelude.{ℕ, zero, suc, List, [], ◌∷◌, ◌++◌}
use Rattle.std.specs.Int.{w32, to_le_bytes}
use Rattle.ftc_gen.specs.Packet.{packet_of}

-- a little-endian capture of Ethernet, version 2.4, with stamps in microseconds
abbrev pub header : List ℕ
header = 0xd4 ∷ 0xc3 ∷ 0xb2 ∷ 0xa1 ∷ 2 ∷ 0 ∷ 4 ∷ 0 ∷ 0 ∷ 0 ∷ 0 ∷ 0 ∷ 0 ∷ 0 ∷ 0 ∷ 0 ∷ 0xff ∷ 0xff ∷ 0 ∷ 0 ∷ 1 ∷ 0 ∷ 0 ∷ 0
    ∷ []

-- the record of the packet at that place, which came at that second: 42 bytes, all captured
abbrev pub record_of : ℕ → ℕ → List ℕ
record_of seed place =
    to_le_bytes w32 place ++ (0 ∷ 0 ∷ 0 ∷ 0 ∷ 42 ∷ 0 ∷ 0 ∷ 0 ∷ 42 ∷ 0 ∷ 0 ∷ 0 ∷ packet_of place seed)

-- the records of the places below a count
abbrev pub records : ℕ → ℕ → List ℕ
records seed zero = []
records seed (suc place) = records seed place ++ record_of seed place

abbrev pub generated : ℕ → ℕ → List ℕ
generated count seed = header ++ records seed count
