-- A step at each server, one after the other.
use Rattle.std.proofs.Common.{◌≡◌, ◌≢◌, ℕ, suc, ◌+◌, ◌-◌, ◌<◌, false, refl, sym, ap, ◌∙◌, arith}
use Rattle.std.specs.Prelude.{◌==◌}
use Rattle.std.specs.List.{range_with_len}
use Rattle.std.proofs.lemmas.Bool.Decides.{nat_tests}
use Rattle.ftc_ring.specs.Ring.{RingShape}
use Rattle.ftc_watch.specs.Watch.{Watching, judge_at, at_each}

-- the first of the servers that are left
first_left : (step : Watching → ℕ → Watching) (w : Watching) (server left : ℕ)
    → at_each step w (range_with_len server (suc left)) ≡ at_each step (step w server)
    (range_with_len (server + 1) left)
first_left step w server left = refl

pub at_next : (step : Watching → ℕ → Watching) (w : Watching) (server n : ℕ) → server < n
    → at_each step w (range_with_len server (n - server)) ≡ at_each step (step w server)
    (range_with_len (server + 1) (n - (server + 1)))
at_next step w server n within =
    let left : n - server ≡ suc (n - (server + 1)) = omega arith in
    ap (λ k. at_each step w (range_with_len server k)) left ∙ first_left step w server (n - (server + 1))

-- the step at one more server
pub next_told : (step : Watching → ℕ → Watching) (w next whole : Watching) (server n : ℕ) → server < n
    → at_each step w (range_with_len server (n - server)) ≡ whole → next ≡ step w server
    → at_each step next (range_with_len (server + 1) (n - (server + 1))) ≡ whole
next_told step w next whole server n within told is =
    ap (λ (v : Watching). at_each step v (range_with_len (server + 1) (n - (server + 1)))) is
    ∙ sym (at_next step w server n within) ∙ told

-- a server that hasn't missed as many ticks as the limit
pub unjudged : (ring : RingShape) (limit at : ℕ) (w : Watching) (server : ℕ) → w.missed server ≢ limit
    → w ≡ judge_at ring limit at w server
unjudged ring limit at w server differs = let other : (w.missed server == limit) ≡ false = grind
    (arith, nat_tests, differs) in rw other refl
