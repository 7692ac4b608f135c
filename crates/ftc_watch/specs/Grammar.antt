-- The ticks that a beats text spells, or its first fault.
use Rattle.std.specs.Prelude.{ℕ, ◌+◌, ◌&&◌, nat_le, nat_lt, List, [], ◌∷◌, ◌++◌, length, Result, Ok, Err, codes}
use Rattle.std.specs.Str.{bytes_eq}
use Rattle.ftc_base.specs.Reading.{◌>>=◌, ◌>>◌, unless}
use Rattle.ftc_base.specs.Number.{number_of}
use Rattle.ftc_base.specs.Endpoint.{parts_of}
use Rattle.ftc_base.specs.declared.lexer.Lexical.{Lexical}
use Rattle.ftc_base.specs.declared.limits.TheConstants.{MOST_NUMBER}
use Rattle.ftc_ring.specs.Ring.{RingShape}
use Rattle.ftc_watch.specs.declared.limits.TheConstants.{MOST_BEATS}
use Rattle.ftc_watch.specs.declared.tick.Tick.{Tick}
use Rattle.ftc_watch.specs.declared.fault.BeatsCause.{BeatsCause}
use Rattle.ftc_watch.specs.declared.fault.BeatsCause.TheVariants.{Header, Word, Order, Past, Range, TooMany}
use Rattle.ftc_watch.specs.declared.fault.BeatsFault.{BeatsFault}
use Rattle.ftc_watch.specs.Members.{are_below, rises_from, set_of}
use Rattle.ftc_watch.specs.Beats.{BeatsShape}

-- the first line, without its line feed
abbrev pub header : List ℕ
header = codes "ftc-beats 1"

abbrev pub as_number : Result ℕ Lexical → Result ℕ BeatsCause
as_number (Ok value) = Ok value
as_number (Err fault) = Err Word

abbrev pub number_word : List ℕ → Result ℕ BeatsCause
number_word word = as_number (number_of word MOST_NUMBER)

-- the numbers so far with those of some words
abbrev pub numbers_from : List ℕ → List (List ℕ) → Result (List ℕ) BeatsCause
numbers_from numbers [] = Ok numbers
numbers_from numbers (word ∷ words) = number_word word >>= λ number. numbers_from (numbers ++ number ∷ []) words

-- the tick of a number of packets and of the numbers of servers, of which there are so many
abbrev pub tick_in : ℕ → ℕ → ℕ → List ℕ → Result Tick BeatsCause
tick_in servers packets last [] = Err Word
tick_in servers packets last (at ∷ numbers) =
    unless (are_below servers numbers) Range
    >> unless (nat_le at packets) Past
    >> unless (nat_le last at && rises_from 0 numbers) Order
    >> Ok (record { at = at; servers = set_of numbers })

-- the words of a line: `tick`, and numbers
abbrev pub tick_of : ℕ → ℕ → ℕ → List (List ℕ) → Result Tick BeatsCause
tick_of servers packets last [] = Err Word
tick_of servers packets last (first ∷ words) =
    unless (bytes_eq first (codes "tick")) Word >> numbers_from [] words
    >>= λ numbers. tick_in servers packets last numbers

-- the number of the last tick, or the one given where there is none
abbrev pub latest_of : ℕ → List Tick → ℕ
latest_of last [] = last
latest_of last (tick ∷ ticks) = latest_of tick.at ticks

-- one more line is not too many
abbrev pub room : List Tick → Result (Unit {0}) BeatsCause
room ticks = unless (nat_lt (length ticks) MOST_BEATS) TooMany

-- the ticks with that of one more line
abbrev pub with_line : ℕ → ℕ → List Tick → List ℕ → Result (List Tick) BeatsCause
with_line servers packets ticks line =
    room ticks >> tick_of servers packets (latest_of 0 ticks) (parts_of 32 line) >>= λ tick. Ok (ticks ++ tick ∷ [])

-- a last line that isn't empty has no line feed
abbrev pub ended : List Tick → List ℕ → Result (List Tick) BeatsCause
ended ticks [] = Ok ticks
ended ticks (byte ∷ bytes) = room ticks >> Err Word

-- a cause becomes a fault at its line
abbrev pub placed : {A : Type 0} → ℕ → Result A BeatsCause → Result A BeatsFault
placed line (Ok value) = Ok value
placed line (Err cause) = Err (record { line = line; cause = cause })

-- the ticks so far with those of what stands round the line feeds; the ticks have a line each, behind the first line
abbrev pub ticks_from : ℕ → ℕ → Result (List Tick) BeatsFault → List (List ℕ) → Result (List Tick) BeatsFault
ticks_from servers packets (Err fault) lines = Err fault
ticks_from servers packets (Ok ticks) [] = Ok ticks
ticks_from servers packets (Ok ticks) (last ∷ []) = placed (2 + length ticks) (ended ticks last)
ticks_from servers packets (Ok ticks) (line ∷ next ∷ lines) =
    ticks_from servers packets (placed (2 + length ticks) (with_line servers packets ticks line)) (next ∷ lines)

-- the first line has a line feed
abbrev pub ticks_in : ℕ → ℕ → List (List ℕ) → Result (List Tick) BeatsFault
ticks_in servers packets [] = placed 1 (Err Header)
ticks_in servers packets (first ∷ []) = placed 1 (Err Header)
ticks_in servers packets (first ∷ next ∷ lines) =
    placed 1 (unless (bytes_eq first header) Header) >> ticks_from servers packets (Ok []) (next ∷ lines)

-- the ticks that a text spells, or its first fault
abbrev pub ticks_of : ℕ → ℕ → List ℕ → Result (List Tick) BeatsFault
ticks_of servers packets text = ticks_in servers packets (parts_of 10 text)

-- the beats that a text spells, or its first fault
abbrev pub beats_of : RingShape → ℕ → List ℕ → Result BeatsShape BeatsFault
beats_of ring packets text =
    ticks_of ring.servers packets text >>= λ ticks. Ok (record { ring = ring; packets = packets; ticks = ticks })
