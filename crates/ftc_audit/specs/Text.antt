-- The text of a port table.
use Rattle.std.specs.Prelude.{ℕ, ◌==◌, List, [], ◌∷◌, ◌++◌, map, length, if◌then◌else◌, codes, decimal}
use Rattle.std.specs.List.{join_with_byte, flat_map}
use Rattle.std.specs.Int.{w32, to_be_bytes}
use Rattle.ftc_audit.specs.declared.line.PortLine.{PortLine}

abbrev pub protocol_word : ℕ → List ℕ
protocol_word protocol = if protocol == 6 then codes "tcp" else codes "udp"

-- the four bytes of an address, from the highest on, with dots between them
abbrev pub address_text : ℕ → List ℕ
address_text address = join_with_byte 46 (map decimal (to_be_bytes w32 address))

abbrev pub line_words : PortLine → List (List ℕ)
line_words line =
    codes "port"
    ∷ decimal line.outside
    ∷ protocol_word line.protocol
    ∷ (address_text line.address ++ 58 ∷ decimal line.port)
    ∷ []

-- the words with one space between them, and a line feed
abbrev pub line_text : PortLine → List ℕ
line_text line = join_with_byte 32 (line_words line) ++ 10 ∷ []

-- the header, how many lines there are, and the lines
abbrev pub ports_text : List PortLine → List ℕ
ports_text lines = codes "ftc-ports 1\nports " ++ decimal (length lines) ++ 10 ∷ flat_map line_text lines
