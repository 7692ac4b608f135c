-- What stands round the line feeds of a beats text.
use Rattle.std.proofs.Common.{◌≡◌, ℕ, ◌+◌, true, List, [], ◌∷◌, length, Result, Ok, Err, refl, sym, subst, ap, ◌∙◌}
use Rattle.std.specs.Str.{bytes_eq}
use Rattle.std.specs.Result.{IsErrAnd}
use Rattle.ftc_base.specs.Endpoint.{parts_of}
use Rattle.ftc_base.specs.Refused.{IsReading}
use Rattle.ftc_base.specs.declared.refusal.Refuse.{Refuse}
use Rattle.ftc_base.specs.declared.refusal.Refuse.TheVariants.{Bad, NoMemory}
use Rattle.ftc_base.proofs.Parts.{some_part}
use Rattle.ftc_ring.specs.Ring.{RingShape}
use Rattle.ftc_watch.specs.declared.tick.Tick.{Tick}
use Rattle.ftc_watch.specs.declared.fault.BeatsFault.{BeatsFault}
use Rattle.ftc_watch.specs.Beats.{BeatsShape}
use Rattle.ftc_watch.specs.Grammar.{header, with_line, placed, ticks_from, ticks_in, ticks_of, beats_of}

-- one more line
pub one_line : (servers packets : ℕ) (ticks : List Tick) (line behind : List ℕ)
    → ticks_from servers packets (Ok ticks) (line ∷ parts_of 10 behind) ≡ ticks_from servers packets
    (placed (2 + length ticks) (with_line servers packets ticks line)) (parts_of 10 behind)
one_line servers packets ticks line behind = let more = some_part 10 behind in rw more.2 refl

pub begun : (servers packets : ℕ) (first behind : List ℕ) → bytes_eq first header ≡ true
    → ticks_in servers packets (first ∷ parts_of 10 behind) ≡ ticks_from servers packets (Ok []) (parts_of 10 behind)
begun servers packets first behind is = let more = some_part 10 behind in rw (more.2, is) refl

pub begins : (servers packets : ℕ) (text first lines : List ℕ) (ticks : List Tick)
    → parts_of 10 text ≡ first ∷ parts_of 10 lines → bytes_eq first header ≡ true → ticks ≡ []
    → ticks_from servers packets (Ok ticks) (parts_of 10 lines) ≡ ticks_of servers packets text
begins servers packets text first lines ticks split is none =
    ap (λ (ts : List Tick). ticks_from servers packets (Ok ts) (parts_of 10 lines)) none
    ∙ sym (ap (ticks_in servers packets) split ∙ begun servers packets first lines is)

-- the line in front of what is left
here : (servers packets : ℕ) (ticks : List Tick) (rest line behind : List ℕ) (whole : Result (List Tick) BeatsFault)
    → ticks_from servers packets (Ok ticks) (parts_of 10 rest) ≡ whole → parts_of 10 rest ≡ line ∷ parts_of 10 behind
    → ticks_from servers packets (placed (2 + length ticks) (with_line servers packets ticks line))
    (parts_of 10 behind) ≡ whole
here servers packets ticks rest line behind whole told split =
    sym (one_line servers packets ticks line behind) ∙ sym (ap (ticks_from servers packets (Ok ticks)) split) ∙ told

pub goes_on : (servers packets : ℕ) (ticks next : List Tick) (rest line behind : List ℕ)
    (whole : Result (List Tick) BeatsFault) → ticks_from servers packets (Ok ticks) (parts_of 10 rest) ≡ whole
    → parts_of 10 rest ≡ line ∷ parts_of 10 behind → placed (2 + length ticks) (with_line servers packets ticks line)
    ≡ Ok next
    → ticks_from servers packets (Ok next) (parts_of 10 behind) ≡ whole
goes_on servers packets ticks next rest line behind whole told split is =
    ap (λ (r : Result (List Tick) BeatsFault). ticks_from servers packets r (parts_of 10 behind)) (sym is)
    ∙ here servers packets ticks rest line behind whole told split

stopped : (ring : RingShape) (servers packets : ℕ) (text : List ℕ) (fault : BeatsFault) → servers ≡ ring.servers
    → ticks_of servers packets text ≡ Err fault → beats_of ring packets text ≡ Err fault
stopped ring servers packets text fault same e = rw (← same, e) refl

faulty : (ring : RingShape) (servers packets : ℕ) (ticks : List Tick) (text rest line behind : List ℕ)
    (why : Refuse BeatsFault) → servers ≡ ring.servers
    → ticks_from servers packets (Ok ticks) (parts_of 10 rest) ≡ ticks_of servers packets text
    → parts_of 10 rest ≡ line ∷ parts_of 10 behind
    → IsReading {A = List Tick} (Err why) (placed (2 + length ticks) (with_line servers packets ticks line))
    → IsReading {A = BeatsShape} (Err why) (beats_of ring packets text)
faulty ring servers packets ticks text rest line behind (Bad fault) same told split is =
    stopped ring servers packets text fault same (sym (here servers packets ticks rest line behind
    (ticks_of servers packets text) told split) ∙ ap (λ (r : Result
    (List Tick) BeatsFault). ticks_from servers packets r (parts_of 10 behind)) is)
faulty ring servers packets ticks text rest line behind NoMemory same told split is = tt

handed_on : (r : Result BeatsShape (Refuse BeatsFault)) (why : Refuse BeatsFault)
    (told : Result BeatsShape BeatsFault) → IsErrAnd r (λ e. e ≡ why) → IsReading {A = BeatsShape} (Err why) told
    → IsReading r told
handed_on (Ok value) why told is bad = absurd is
handed_on (Err e) why told is bad = subst (λ x. IsReading {A = BeatsShape} (Err x) told) (sym is) bad

pub refused : (ring : RingShape) (servers packets : ℕ) (ticks : List Tick) (text rest line behind : List ℕ)
    (r : Result BeatsShape (Refuse BeatsFault)) (why : Refuse BeatsFault) → servers ≡ ring.servers
    → ticks_from servers packets (Ok ticks) (parts_of 10 rest) ≡ ticks_of servers packets text
    → parts_of 10 rest ≡ line ∷ parts_of 10 behind
    → IsErrAnd r (λ e. e ≡ why) → IsReading {A = List Tick} (Err why)
    (placed (2 + length ticks) (with_line servers packets ticks line)) → IsReading r (beats_of ring packets text)
refused ring servers packets ticks text rest line behind r why same told split is bad =
    handed_on r why (beats_of ring packets text) is
    (faulty ring servers packets ticks text rest line behind why same told split bad)

pub ended_well : (servers packets : ℕ) (ticks : List Tick) (rest : List ℕ) (whole : Result (List Tick) BeatsFault)
    → rest ≡ [] → ticks_from servers packets (Ok ticks) (parts_of 10 rest) ≡ whole → whole ≡ Ok ticks
ended_well servers packets ticks rest whole none told = sym told
    ∙ ap (λ (r : List ℕ). ticks_from servers packets (Ok ticks) (parts_of 10 r)) none
