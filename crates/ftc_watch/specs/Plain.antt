-- A plain text of beats.
use Rattle.std.specs.Prelude.{ℕ, List, [], ◌∷◌, ◌++◌, codes, decimal, map, filter}
use Rattle.std.specs.List.{join_with_byte, range_with_len}
use Rattle.ftc_base.specs.Sets.{has}
use Rattle.ftc_watch.specs.declared.tick.Tick.{Tick}
use Rattle.ftc_watch.specs.Beats.{BeatsShape}
use Rattle.ftc_watch.specs.Grammar.{header}

-- the servers of a set among so many, in rising order
abbrev pub members_of : ℕ → ℕ → List ℕ
members_of servers set = filter (has set) (range_with_len 0 servers)

-- the words of a tick's line
abbrev pub tick_words : ℕ → Tick → List (List ℕ)
tick_words servers tick = codes "tick" ∷ decimal tick.at ∷ map decimal (members_of servers tick.servers)

-- each line with one space between its words and a line feed behind it
abbrev pub ticks_text : ℕ → List Tick → List ℕ
ticks_text servers [] = []
ticks_text servers (tick ∷ ticks) = join_with_byte 32 (tick_words servers tick) ++ 10 ∷ ticks_text servers ticks

-- behind the first line a line for each tick
abbrev pub beats_text : BeatsShape → List ℕ
beats_text beats = header ++ 10 ∷ ticks_text beats.ring.servers beats.ticks
