-- The plain text of beats reads as those beats.
use Rattle.std.proofs.Common.{◌≡◌, ℕ, zero, suc, ◌+◌, ◌≤◌, ◌<◌, Bool, true, false, List, [], ◌∷◌, ◌++◌, length, Result}
use Rattle.std.proofs.Common.{Ok, inl, refl, sym, ap, subst, ◌∙◌, arith, rules, length-append, append-nil, append_assoc}
use Rattle.std.specs.Prelude.{◌&&◌, ◌||◌, nat_le, nat_lt, codes, decimal, map, filter}
use Rattle.std.specs.List.{AllByRecursion, join_with_byte, range_with_len}
use Rattle.std.proofs.lemmas.Bool.Decides.{nat_tests}
use Rattle.ftc_base.specs.Reading.{◌>>=◌, ◌>>◌, unless}
use Rattle.ftc_base.specs.Endpoint.{parts_of}
use Rattle.ftc_base.specs.Sets.{has}
use Rattle.ftc_base.specs.declared.limits.TheConstants.{MOST_MEMBERS, MOST_SERVERS, MOST_NUMBER}
use Rattle.ftc_base.proofs.Members.{has-zero, same}
use Rattle.ftc_base.proofs.Separated.{Without, written, parts_of-part, parts_of-join, without-join}
use Rattle.ftc_base.proofs.Decimals.{number_of-decimal, without_decimal}
use Rattle.ftc_watch.specs.declared.limits.TheConstants.{MOST_BEATS}
use Rattle.ftc_watch.specs.declared.tick.Tick.{Tick}
use Rattle.ftc_watch.specs.declared.fault.BeatsCause.{BeatsCause}
use Rattle.ftc_watch.specs.declared.fault.BeatsCause.TheVariants.{TooMany}
use Rattle.ftc_watch.specs.Members.{are_below, rises_from, with_member, with_members, set_of}
use Rattle.ftc_watch.specs.Beats.{BeatsShape, IsTick, AreTicks, IsBeats}
use Rattle.ftc_watch.specs.Plain.{members_of, tick_words, ticks_text, beats_text}
use Rattle.ftc_watch.specs.Grammar.{header, number_word, numbers_from, tick_in, tick_of, latest_of, room, with_line}
use Rattle.ftc_watch.specs.Grammar.{placed, ticks_from, ticks_in, ticks_of, beats_of}
use Rattle.ftc_watch.proofs.Sets.{has-with_member}
use Rattle.ftc_watch.proofs.Reading.{one_line, begun}
use Rattle.ftc_watch.proofs.TickLines.{either_way}

-- the members of a set from one number on
abbrev from_on : ℕ → ℕ → ℕ → List ℕ
from_on set low more = filter (has set) (range_with_len low more)

member_here : (set low more : ℕ) → has set low ≡ true → from_on set low (suc more) ≡ low ∷ from_on set (low + 1) more
member_here set low more is = rw is refl

no_member_here : (set low more : ℕ) → has set low ≡ false → from_on set low (suc more) ≡ from_on set (low + 1) more
no_member_here set low more is = rw is refl

below_all : (set bound low more : ℕ) → low + more ≤ bound → are_below bound (from_on set low more) ≡ true
below_all set bound low zero within = refl
below_all set bound low (suc more) within = either_way {A = are_below bound (from_on set low (suc more)) ≡ true}
    (has set low)
    (λ is. ap (are_below bound) (member_here set low more is)
    ∙ (let here : nat_lt low bound ≡ true = grind (arith, nat_tests) in rw here
    (below_all set bound (low + 1) more (omega arith))))
    (λ no. ap (are_below bound) (no_member_here set low more no) ∙ below_all set bound (low + 1) more (omega arith))

rises_all : (set least low more : ℕ) → least ≤ low → rises_from least (from_on set low more) ≡ true
rises_all set least low zero up = refl
rises_all set least low (suc more) up = either_way {A = rises_from least (from_on set low (suc more)) ≡ true}
    (has set low)
    (λ is. ap (rises_from least) (member_here set low more is)
    ∙ (let here : nat_le least low ≡ true = grind (arith, nat_tests) in rw here
    (rises_all set (low + 1) (low + 1) more (omega arith))))
    (λ no. ap (rises_from least) (no_member_here set low more no) ∙ rises_all set least (low + 1) more (omega arith))

-- which members the set of some members has
has_again : (set made low more k : ℕ) → low + more ≤ MOST_MEMBERS
    → has (with_members made (from_on set low more)) k ≡ (has made k ||
    (nat_le low k && nat_lt k (low + more) && has set k))
has_again set made low zero k within = grind (arith, nat_tests)
has_again set made low (suc more) k within = either_way {A = has (with_members made (from_on set low (suc more))) k ≡
    (has made k || (nat_le low k && nat_lt k (low + suc more) && has set k))} (has set low)
    (λ is. ap (λ (ks : List ℕ). has (with_members made ks) k) (member_here set low more is)
    ∙ has_again set (with_member made low) (low + 1) more k (omega arith)
    ∙ (let one = has-with_member made low k (omega arith) in let own : k ≡ low
    → has set k ≡ true = (λ (e : k ≡ low). ap (has set) e ∙ is) in grind (arith, nat_tests, one, own)))
    (λ no. ap (λ (ks : List ℕ). has (with_members made ks) k) (no_member_here set low more no)
    ∙ has_again set made (low + 1) more k (omega arith)
    ∙ (let own : k ≡ low → has set k ≡ false = (λ (e : k ≡ low). ap (has set) e ∙ no) in grind (arith, nat_tests, own)))

set_again : (servers set : ℕ) → servers ≤ MOST_SERVERS → ((k : ℕ) → has set k ≡ true → k < servers)
    → set_of (members_of servers set) ≡ set
set_again servers set small within = same (set_of (members_of servers set)) set (λ k.
    has_again set 0 0 servers k (omega arith) ∙ (let none = has-zero k in
    let inside = within k in grind (arith, nat_tests, none, inside)))

-- the numbers are read again
numbers_again : (held numbers : List ℕ) → AllByRecursion (λ n. n ≤ 4294967295) numbers
    → numbers_from held (map decimal numbers) ≡ Ok (held ++ numbers)
numbers_again held [] all = ap Ok (sym (append-nil held))
numbers_again held (number ∷ numbers) all =
    let read : number_word (decimal number) ≡ Ok number = rw (number_of-decimal number MOST_NUMBER all.0 all.0) refl in
    rw read (numbers_again (held ++ number ∷ []) numbers all.1 ∙ ap Ok (append_assoc held (number ∷ []) numbers))

small_members : (set low more : ℕ) → low + more ≤ MOST_MEMBERS
    → AllByRecursion (λ n. n ≤ 4294967295) (from_on set low more)
small_members set low zero within = tt
small_members set low (suc more) within = either_way {A = AllByRecursion (λ n. n ≤ 4294967295)
    (from_on set low (suc more))} (has set low)
    (λ is. subst (AllByRecursion (λ n. n ≤ 4294967295)) (sym (member_here set low more is))
    (omega arith, small_members set (low + 1) more (omega arith)))
    (λ no. subst (AllByRecursion (λ n. n ≤ 4294967295)) (sym (no_member_here set low more no))
    (small_members set (low + 1) more (omega arith)))

without_all : (separator : ℕ) (numbers : List ℕ) → separator < 48 → AllByRecursion (λ n. n ≤ 4294967295) numbers
    → AllByRecursion (Without separator) (map decimal numbers)
without_all separator [] low all = tt
without_all separator (number ∷ numbers) low all = (
  without_decimal separator number
      (inl low) all.0,
  without_all separator numbers low all.1,
)

words_without_space : (servers : ℕ) (tick : Tick) → servers ≤ MOST_SERVERS → tick.at ≤ 4294967295
    → AllByRecursion (Without 32) (tick_words servers tick)
words_without_space servers tick small at = (
  written 32 (codes "tick") refl,
  (
    without_decimal 32 tick.at (inl (omega arith)) at,
    without_all 32 (members_of servers tick.servers) (omega arith)
        (small_members tick.servers 0 servers (omega arith)),
  ),
)

words_without_feed : (servers : ℕ) (tick : Tick) → servers ≤ MOST_SERVERS → tick.at ≤ 4294967295
    → AllByRecursion (Without 10) (tick_words servers tick)
words_without_feed servers tick small at = (
  written 10 (codes "tick") refl,
  (
    without_decimal 10 tick.at (inl (omega arith)) at,
    without_all 10 (members_of servers tick.servers) (omega arith)
        (small_members tick.servers 0 servers (omega arith)),
  ),
)

tick_again : (servers packets last : ℕ) (tick : Tick) → servers ≤ MOST_SERVERS → IsTick servers packets last tick
    → tick_in servers packets last (tick.at ∷ members_of servers tick.servers) ≡ Ok tick
tick_again servers packets last tick small is =
    let below = below_all tick.servers servers 0 servers (omega arith) in
    let entered : nat_le tick.at packets ≡ true = let e = is.entered in search rules in
    let ordered : nat_le last tick.at ≡ true = let o = is.ordered in search rules in
    let rising = rises_all tick.servers 0 0 servers (omega arith) in
    let whole = set_again servers tick.servers small is.within in
    rw (below, entered, ordered, rising, whole) refl

said_again : (servers packets last : ℕ) (tick : Tick) → servers ≤ MOST_SERVERS → tick.at ≤ 4294967295
    → IsTick servers packets last tick → tick_of servers packets last (tick_words servers tick) ≡ Ok tick
said_again servers packets last tick small at is =
    let numbers = numbers_again [] (tick.at ∷ members_of servers tick.servers)
    (at, small_members tick.servers 0 servers (omega arith)) in
    ap (λ (r : Result (List ℕ) BeatsCause). r >>= λ ns. tick_in servers packets last ns) numbers
    ∙ tick_again servers packets last tick small is

line_again : (servers packets : ℕ) (ticks : List Tick) (tick : Tick) → servers ≤ MOST_SERVERS → packets ≤ 4294967295
    → length ticks < MOST_BEATS → IsTick servers packets (latest_of 0 ticks) tick
    → with_line servers packets ticks (join_with_byte 32 (tick_words servers tick)) ≡ Ok (ticks ++ tick ∷ [])
line_again servers packets ticks tick small few fits is =
    let entered = is.entered in
    let last = latest_of 0 ticks in
    let words = parts_of-join 32 (codes "tick") (decimal tick.at ∷ map decimal (members_of servers tick.servers)) refl
    (words_without_space servers tick small (omega arith)) in
    let roomy : nat_lt (length ticks) MOST_BEATS ≡ true = search rules in
    ap (λ (ws : List (List ℕ)). room ticks >> tick_of servers packets last ws >>= λ t. Ok (ticks ++ t ∷ [])) words
    ∙ ap (λ (b : Bool). unless b TooMany >> tick_of servers packets last (tick_words servers tick) >>= λ t. Ok
    (ticks ++ t ∷ [])) roomy
    ∙ ap (λ (r : Result Tick BeatsCause). r >>= λ t. Ok (ticks ++ t ∷ []))
    (said_again servers packets last tick small (omega arith) is)

last_push : (last : ℕ) (ticks : List Tick) (tick : Tick) → latest_of last (ticks ++ tick ∷ []) ≡ tick.at
last_push last [] tick = refl
last_push last (first ∷ ticks) tick = last_push first.at ticks tick

lines_again : (servers packets : ℕ) (held ticks : List Tick) → servers ≤ MOST_SERVERS → packets ≤ 4294967295
    → length held + length ticks ≤ MOST_BEATS → AreTicks servers packets (latest_of 0 held) ticks
    → ticks_from servers packets (Ok held) (parts_of 10 (ticks_text servers ticks)) ≡ Ok (held ++ ticks)
lines_again servers packets held [] small few fits are = ap Ok (sym (append-nil held))
lines_again servers packets held (tick ∷ ticks) small few fits are =
    let entered = are.0.entered in
    let line = join_with_byte 32 (tick_words servers tick) in
    let first = parts_of-part 10 line (ticks_text servers ticks) refl
    (without-join 10 32 (tick_words servers tick) refl (words_without_feed servers tick small (omega arith))) in
    let more = length-append held (tick ∷ []) in
    ap (ticks_from servers packets (Ok held)) first
    ∙ one_line servers packets held line (ticks_text servers ticks)
    ∙ ap (λ (r : Result (List Tick) BeatsCause). ticks_from servers packets (placed (2 + length held) r)
    (parts_of 10 (ticks_text servers ticks))) (line_again servers packets held tick small few (omega arith) are.0)
    ∙ lines_again servers packets (held ++ tick ∷ []) ticks small few (omega (arith, more))
    (subst (λ (last : ℕ). AreTicks servers packets last ticks) (sym (last_push 0 held tick)) are.1)
    ∙ ap Ok (append_assoc held (tick ∷ []) ticks)

pub reads_back : (beats : BeatsShape) → IsBeats beats → beats.packets ≤ 4294967295
    → beats_of beats.ring beats.packets (beats_text beats) ≡ Ok beats
reads_back beats is few =
    let servers = beats.ring.servers in
    let small = is.ring.servers in
    let head = parts_of-part 10 header (ticks_text servers beats.ticks) refl (written 10 header refl) in
    let told : ticks_of servers beats.packets (beats_text beats) ≡ Ok beats.ticks =
    ap (ticks_in servers beats.packets) head ∙ begun servers beats.packets header (ticks_text servers beats.ticks)
    refl ∙ lines_again servers beats.packets [] beats.ticks small few (let size = is.few in omega arith) is.ticks in
    rw told refl
