-- Ticks one after another.
use Rattle.std.proofs.Common.{◌≡◌, ℕ, zero, suc, ◌+◌, List, [], ◌∷◌, ◌++◌, length, get_or, ap, arith}
use Rattle.ftc_watch.specs.declared.tick.Tick.{Tick}
use Rattle.ftc_watch.specs.Beats.{IsTick, AreTicks}
use Rattle.ftc_watch.specs.Grammar.{latest_of}

last_at : (last : ℕ) (ticks : List Tick) (i : ℕ) (tick spare : Tick) → i + 1 ≡ length ticks
    → tick ≡ get_or ticks i spare → tick.at ≡ latest_of last ticks
last_at last [] i tick spare size is = absurd (omega arith)
last_at last (first ∷ []) zero tick spare size is = ap (λ (t : Tick). t.at) is
last_at last (first ∷ []) (suc i) tick spare size is = absurd (omega arith)
last_at last (first ∷ second ∷ ticks) zero tick spare size is = absurd (omega arith)
last_at last (first ∷ second ∷ ticks) (suc i) tick spare size is = last_at first.at (second ∷ ticks) i tick spare
    (omega arith) is

pub last_is : (last : ℕ) (ticks : List Tick) (i : ℕ) (tick : Tick) → i + 1 ≡ length ticks → tick ≡ get_or ticks i tick
    → tick.at ≡ latest_of last ticks
last_is last ticks i tick size is = last_at last ticks i tick tick size is

pub ticks_push : (servers packets last : ℕ) (ticks : List Tick) (tick : Tick) → AreTicks servers packets last ticks
    → IsTick servers packets (latest_of last ticks) tick → AreTicks servers packets last (ticks ++ tick ∷ [])
ticks_push servers packets last [] tick are is = (is, tt)
ticks_push servers packets last (first ∷ ticks) tick are is =
    (are.0, ticks_push servers packets first.at ticks tick are.1 is)
