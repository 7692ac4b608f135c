-- The text of a report: a header, four counts, a line for each packet, the lines of each store, and a line for each
-- tap.
use Rattle.std.specs.Prelude.{ℕ, Bool, true, false, List, [], ◌∷◌, ◌++◌, length, count_by, decimal, codes}
use Rattle.std.specs.List.{flat_map, enumerate_from}
use Rattle.std.specs.FinMap.{len, entries}
use Rattle.hex.specs.Hex.{encode_lower}
use Rattle.ftc_protocol.specs.declared.fate.Fate.{Fate}
use Rattle.ftc_protocol.specs.declared.fate.Fate.TheVariants.{Released, Filtered, Lost, Inside}
use Rattle.ftc_store.specs.Store.{Content}

abbrev pub is_released : Fate → Bool
is_released Released = true
is_released (Filtered server) = false
is_released (Lost event) = false
is_released Inside = false

abbrev pub is_filtered : Fate → Bool
is_filtered Released = false
is_filtered (Filtered server) = true
is_filtered (Lost event) = false
is_filtered Inside = false

abbrev pub is_lost : Fate → Bool
is_lost Released = false
is_lost (Filtered server) = false
is_lost (Lost event) = true
is_lost Inside = false

-- what is counted, and the count
abbrev pub count_line : List ℕ → ℕ → List ℕ
count_line what count = what ++ codes " " ++ decimal count ++ codes "\n"

-- how many packets there are, and how many have each fate
unfoldable pub count_lines : List Fate → List ℕ
count_lines fates =
    count_line (codes "packets") (length fates)
    ++ count_line (codes "released") (count_by is_released fates)
    ++ count_line (codes "filtered") (count_by is_filtered fates)
    ++ count_line (codes "lost") (count_by is_lost fates)

-- the header, and these counts
abbrev pub head : List Fate → List ℕ
head fates = codes "ftc-report 1\n" ++ count_lines fates

-- the line of a packet: its number, and what became of it
unfoldable pub fate_line : ℕ × Fate → List ℕ
fate_line (packet, Released) = codes "fate " ++ decimal packet ++ codes " released\n"
fate_line (packet, Filtered server) =
    codes "fate " ++ decimal packet ++ codes " filtered " ++ decimal server ++ codes "\n"
fate_line (packet, Lost event) = codes "fate " ++ decimal packet ++ codes " lost " ++ decimal event ++ codes "\n"
fate_line (packet, Inside) = codes "fate " ++ decimal packet ++ codes " inside\n"

-- a value in hex, and an empty one as a dash
abbrev pub value_text : List ℕ → List ℕ
value_text [] = codes "-"
value_text (byte ∷ bytes) = encode_lower (byte ∷ bytes)

-- the line of a key, which is never empty, with its value
unfoldable pub key_line : List ℕ × List ℕ → List ℕ
key_line (key, value) = codes "key " ++ encode_lower key ++ codes " " ++ value_text value ++ codes "\n"

-- the line of a store: its middlebox, and how many keys it has
unfoldable pub store_line : ℕ → ℕ → List ℕ
store_line server count = codes "store " ++ decimal server ++ codes " " ++ decimal count ++ codes "\n"

-- the lines of a store: its own, and one for each key by rising key
abbrev pub store_lines : ℕ × Content → List ℕ
store_lines (server, content) = store_line server (len content) ++ flat_map key_line (entries content)

-- the line of a tap
unfoldable pub tap_line : List ℕ → List ℕ
tap_line line = codes "tap " ++ line ++ codes "\n"

-- the report of the packets with these fates, the middleboxes with these contents, and the taps with these lines
abbrev pub report_text : List Fate → List Content → List (List ℕ) → List ℕ
report_text fates contents taps =
    head fates
    ++ flat_map fate_line (enumerate_from 0 fates)
    ++ flat_map store_lines (enumerate_from 0 contents)
    ++ flat_map tap_line taps

-- what is told of a run in short: the counts, and how many keys each middlebox has
abbrev pub key_count : ℕ × Content → List ℕ
key_count (server, content) = store_line server (len content)

abbrev pub summary_text : List Fate → List Content → List ℕ
summary_text fates contents =
    codes "ftc-make 1\n" ++ count_lines fates ++ flat_map key_count (enumerate_from 0 contents)
