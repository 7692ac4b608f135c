-- A text that is accepted spells beats.
use Rattle.std.proofs.Common.{◌≡◌, ℕ, ◌+◌, ◌≤◌, Bool, true, false, List, [], ◌∷◌, ◌++◌, length, Result, Ok, Err, refl}
use Rattle.std.proofs.Common.{ap, subst, arith, length-append}
use Rattle.std.specs.Prelude.{◌&&◌, nat_le, nat_lt, codes}
use Rattle.std.specs.Str.{bytes_eq}
use Rattle.std.proofs.lemmas.Bool.Decides.{nat_tests}
use Rattle.std.proofs.lemmas.Bool.{and_parts}
use Rattle.ftc_base.specs.Reading.{◌>>=◌, ◌>>◌, unless}
use Rattle.ftc_base.specs.Endpoint.{parts_of}
use Rattle.ftc_base.specs.Sets.{has}
use Rattle.ftc_base.specs.declared.limits.TheConstants.{MOST_SERVERS}
use Rattle.ftc_base.proofs.Members.{has-zero}
use Rattle.ftc_base.proofs.Results.{both_ok}
use Rattle.ftc_ring.specs.Ring.{RingShape, IsRing}
use Rattle.ftc_watch.specs.declared.limits.TheConstants.{MOST_BEATS}
use Rattle.ftc_watch.specs.declared.tick.Tick.{Tick}
use Rattle.ftc_watch.specs.declared.fault.BeatsCause.{BeatsCause}
use Rattle.ftc_watch.specs.declared.fault.BeatsCause.TheVariants.{Header, Word, Order, Past, Range, TooMany}
use Rattle.ftc_watch.specs.declared.fault.BeatsFault.{BeatsFault}
use Rattle.ftc_watch.specs.Members.{are_below, rises_from, set_of}
use Rattle.ftc_watch.specs.Beats.{BeatsShape, IsTick, AreTicks, IsBeats}
use Rattle.ftc_watch.specs.Grammar.{header, numbers_from, tick_in, tick_of, latest_of, room, with_line, ended, placed}
use Rattle.ftc_watch.specs.Grammar.{ticks_from, ticks_in, ticks_of, beats_of}
use Rattle.ftc_watch.proofs.Sets.{members_below}
use Rattle.ftc_watch.proofs.Ticks.{ticks_push}

-- a test that was passed
passed : {F : Type 0} (b : Bool) (fault : F) (v : Unit {0}) → unless b fault ≡ Ok v → b ≡ true
passed true fault v e = refl
passed false fault v e = absurd cc

both_of : {A B F : Type 0} (first : Result A F) (next : Result B F) (b : B) → (first >> next) ≡ Ok b
    → (a : A) × (first ≡ Ok a) × (next ≡ Ok b)
both_of (Ok a) next b e = (a, refl, e)
both_of (Err fault) next b e = absurd cc

none_of_zero : {A : Type 0} (member : ℕ) → has 0 member ≡ true → A
none_of_zero member is = let zero = has-zero member in absurd (cc (is, zero))

tick_in_accepts : (servers packets last : ℕ) (numbers : List ℕ) (tick : Tick) → servers ≤ MOST_SERVERS
    → tick_in servers packets last numbers ≡ Ok tick → IsTick servers packets last tick
tick_in_accepts servers packets last [] tick small e = absurd cc
tick_in_accepts servers packets last (at ∷ numbers) tick small e =
    let told : Tick = record { at = at; servers = set_of numbers } in
    let below = unless (are_below servers numbers) Range in
    let entered = unless (nat_le at packets) Past in
    let ordered = unless (nat_le last at && rises_from 0 numbers) Order in
    let one = both_of (below >> entered >> ordered) (Ok told) tick e in
    let two = both_of (below >> entered) ordered one.0 one.1 in
    let three = both_of below entered two.0 two.1 in
    let within : are_below servers numbers ≡ true = passed (are_below servers numbers) Range three.0 three.1 in
    let few : nat_le at packets ≡ true = passed (nat_le at packets) Past two.0 three.2 in
    let rising = and_parts (nat_le last at) (rises_from 0 numbers)
    (passed (nat_le last at && rises_from 0 numbers) Order one.0 two.2) in
    let same : told ≡ tick = cc one.2 in
    subst (IsTick servers packets last) same (record {
      ordered = grind (arith, nat_tests, rising.0);
      entered = grind (arith, nat_tests);
      within = λ server is. members_below servers 0 numbers server (omega arith) within (none_of_zero server) is;
    })

tick_of_accepts : (servers packets last : ℕ) (words : List (List ℕ)) (tick : Tick) → servers ≤ MOST_SERVERS
    → tick_of servers packets last words ≡ Ok tick → IsTick servers packets last tick
tick_of_accepts servers packets last [] tick small e = absurd cc
tick_of_accepts servers packets last (first ∷ words) tick small e =
    let one = both_ok (unless (bytes_eq first (codes "tick")) Word >> numbers_from [] words)
    (λ numbers. tick_in servers packets last numbers) tick e in
    tick_in_accepts servers packets last one.0 tick small one.2

line_accepts : (servers packets : ℕ) (ticks : List Tick) (line : List ℕ) (next : List Tick) → servers ≤ MOST_SERVERS
    → AreTicks servers packets 0 ticks → with_line servers packets ticks line ≡ Ok next
    → AreTicks servers packets 0 next × (length next ≤ MOST_BEATS)
line_accepts servers packets ticks line next small are e =
    let one = both_ok (room ticks >> tick_of servers packets (latest_of 0 ticks) (parts_of 32 line))
    (λ tick. Ok (ticks ++ tick ∷ [])) next e in
    let two = both_of (room ticks) (tick_of servers packets (latest_of 0 ticks) (parts_of 32 line)) one.0 one.1 in
    let few : nat_lt (length ticks) MOST_BEATS ≡ true = passed (nat_lt (length ticks) MOST_BEATS) TooMany two.0 two.1 in
    let is = tick_of_accepts servers packets (latest_of 0 ticks) (parts_of 32 line) one.0 small two.2 in
    let same : ticks ++ one.0 ∷ [] ≡ next = cc one.2 in
    let more = length-append ticks (one.0 ∷ []) in
    let size : length (ticks ++ one.0 ∷ []) ≤ MOST_BEATS = grind (arith, nat_tests) in
    subst (λ ts. AreTicks servers packets 0 ts × (length ts ≤ MOST_BEATS)) same
    (ticks_push servers packets 0 ticks one.0 are is, size)

placed_ok : {A : Type 0} (line : ℕ) (r : Result A BeatsCause) (a : A) → placed line r ≡ Ok a → r ≡ Ok a
placed_ok line (Ok value) a e = let same : value ≡ a = cc in ap Ok same
placed_ok line (Err cause) a e = absurd cc

ended_ok : (ticks : List Tick) (last : List ℕ) (all : List Tick) → ended ticks last ≡ Ok all → ticks ≡ all
ended_ok ticks [] all e = cc
ended_ok ticks (byte ∷ bytes) all e = let two = both_of {B = List Tick} (room ticks) (Err Word) all e in absurd
    (cc two.2)

from_accepts : (servers packets : ℕ) (r : Result (List Tick) BeatsFault) (lines : List (List ℕ)) (all : List Tick)
    → servers ≤ MOST_SERVERS → ((ticks : List Tick) → r ≡ Ok ticks
    → AreTicks servers packets 0 ticks × (length ticks ≤ MOST_BEATS)) → ticks_from servers packets r lines ≡ Ok all
    → AreTicks servers packets 0 all × (length all ≤ MOST_BEATS)
from_accepts servers packets (Err fault) lines all small are e = absurd cc
from_accepts servers packets (Ok ticks) [] all small are e = are all e
from_accepts servers packets (Ok ticks) (last ∷ []) all small are e =
    let same : ticks ≡ all = ended_ok ticks last all (placed_ok (2 + length ticks) (ended ticks last) all e) in
    subst (λ ts. AreTicks servers packets 0 ts × (length ts ≤ MOST_BEATS)) same (are ticks refl)
from_accepts servers packets (Ok ticks) (line ∷ next ∷ lines) all small are e =
    from_accepts servers packets (placed (2 + length ticks) (with_line servers packets ticks line))
    (next ∷ lines) all small
    (λ more told. line_accepts servers packets ticks line more small (are ticks refl).0
    (placed_ok (2 + length ticks) (with_line servers packets ticks line) more told)) e

nothing_accepted : (servers packets : ℕ) (r : Result (List Tick) BeatsFault) (ticks : List Tick) → r ≡ Ok []
    → r ≡ Ok ticks → AreTicks servers packets 0 ticks × (length ticks ≤ MOST_BEATS)
nothing_accepted servers packets r [] none e = (tt, omega arith)
nothing_accepted servers packets r (tick ∷ ticks) none e = absurd (cc (none, e))

in_accepts : (servers packets : ℕ) (parts : List (List ℕ)) (ticks : List Tick) → servers ≤ MOST_SERVERS
    → ticks_in servers packets parts ≡ Ok ticks → AreTicks servers packets 0 ticks × (length ticks ≤ MOST_BEATS)
in_accepts servers packets [] ticks small e = absurd cc
in_accepts servers packets (first ∷ []) ticks small e = absurd cc
in_accepts servers packets (first ∷ next ∷ lines) ticks small e =
    let two = both_of (placed 1 (unless (bytes_eq first header) Header))
    (ticks_from servers packets (Ok []) (next ∷ lines)) ticks e in
    from_accepts servers packets (Ok []) (next ∷ lines) ticks small
    (λ ts told. nothing_accepted servers packets (Ok []) ts refl told) two.2

pub ticks_accepts : (ring : RingShape) (packets : ℕ) (text : List ℕ) (ticks : List Tick) → IsRing ring
    → ticks_of ring.servers packets text ≡ Ok ticks → IsBeats (record { ring = ring; packets = packets; ticks = ticks })
ticks_accepts ring packets text ticks shape e =
    let are = in_accepts ring.servers packets (parts_of 10 text) ticks shape.servers e in
    record { ring = shape; few = are.1; ticks = are.0 }

pub text_accepts : (ring : RingShape) (packets : ℕ) (text : List ℕ) (beats : BeatsShape) → IsRing ring
    → beats_of ring packets text ≡ Ok beats → IsBeats beats × (beats.ring ≡ ring) × (beats.packets ≡ packets)
text_accepts ring packets text beats shape e =
    let one = both_ok (ticks_of ring.servers packets text) (λ ticks. Ok
    (record { ring = ring; packets = packets; ticks = ticks })) beats e in
    let told : BeatsShape = record { ring = ring; packets = packets; ticks = one.0 } in
    let same : told ≡ beats = cc one.2 in
    subst (λ b. IsBeats b × (b.ring ≡ ring) × (b.packets ≡ packets)) same
    (ticks_accepts ring packets text one.0 shape one.1, refl, refl)
