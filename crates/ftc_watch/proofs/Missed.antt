-- How many ticks a server has missed behind a tick.
use Rattle.std.proofs.Common.{◌≡◌, ℕ, zero, suc, ◌+◌, ◌≤◌, ◌<◌, Bool, false, inl, inr, refl, ap}
use Rattle.std.proofs.Common.{subst, ◌∙◌, arith}
use Rattle.std.specs.Prelude.{◌==◌, if◌then◌else◌}
use Rattle.std.specs.List.{range_with_len}
use Rattle.std.proofs.Math.Nat.{eq-or-lt_of_le}
use Rattle.std.proofs.lemmas.Bool.Decides.{nat_tests}
use Rattle.ftc_base.specs.Sets.{has}
use Rattle.ftc_ring.specs.Ring.{RingShape}
use Rattle.ftc_watch.specs.declared.tick.Tick.{Tick}
use Rattle.ftc_watch.specs.Watch.{Watching, missed_of, recover_at, at_each, servers_of, recover_all, count_all, tick_on}
use Rattle.ftc_watch.proofs.Recovered.{either_recovers}
use Rattle.ftc_watch.proofs.Sound.{same_server}
use Rattle.ftc_watch.proofs.Rows.{counts_own, judges_missed}

-- a server that was down has missed none
abbrev anew : Watching → ℕ → ℕ
anew w k = if w.live k then w.missed k else 0

-- a recovery of one server leaves the others as they are
abbrev IsSameAt : ℕ → Watching → Watching → Type 0
IsSameAt k w v = (v.live k ≡ w.live k) × (v.missed k ≡ w.missed k)

other_stays : (at : ℕ) (w : Watching) (server k : ℕ) → (k == server) ≡ false → IsSameAt k w (recover_at at w server)
other_stays at w server k other =
    either_recovers (IsSameAt k w) at w server (λ up. (refl, refl)) (λ down. rw other (refl, refl))

own_missed : (at : ℕ) (w : Watching) (server : ℕ) → (recover_at at w server).missed server ≡ anew w server
own_missed at w server =
    either_recovers (λ v. v.missed server ≡ anew w server) at w server (λ up. rw up refl)
    (λ down. rw (down, same_server server) refl)

before_missed : (at : ℕ) (w : Watching) (low more k : ℕ) → k < low
    → (at_each (recover_at at) w (range_with_len low more)).missed k ≡ w.missed k
before_missed at w low zero k below = refl
before_missed at w low (suc more) k below =
    let other : (k == low) ≡ false = grind (arith, nat_tests) in
    before_missed at (recover_at at w low) (low + 1) more k (omega arith) ∙ (other_stays at w low k other).1

recovered_missed : (at : ℕ) (w : Watching) (low more k : ℕ) → low ≤ k → k < low + more
    → (at_each (recover_at at) w (range_with_len low more)).missed k ≡ anew w k
recovered_missed at w low zero k above below = absurd (omega arith)
recovered_missed at w low (suc more) k above below = elim (eq-or-lt_of_le above) [
  | inl same ↦ subst (λ (j : ℕ). (at_each (recover_at at) (recover_at at w low)
      (range_with_len (low + 1) more)).missed j ≡ anew w j) same
      (before_missed at (recover_at at w low) (low + 1) more low (omega arith) ∙ own_missed at w low)
  | inr up ↦ (let other : (k == low) ≡ false = grind (arith, nat_tests) in
      let stays = other_stays at w low k other in
      recovered_missed at (recover_at at w low) (low + 1) more k (omega arith) (omega arith)
      ∙ ap (λ (b : Bool). if b then (recover_at at w low).missed k else 0) stays.0
      ∙ ap (λ (m : ℕ). if w.live k then m else 0) stays.1)
]

pub tick_missed : (ring : RingShape) (limit : ℕ) (w : Watching) (tick : Tick) (k : ℕ) → k < ring.servers
    → (tick_on ring limit w tick).missed k ≡ missed_of limit (has tick.servers k) (if w.live k then w.missed k else 0)
tick_missed ring limit w tick k within =
    let recovered = recover_all ring tick.at w in
    let counted = count_all ring limit tick.servers recovered in
    ap (λ (m : ℕ → ℕ). m k) (judges_missed ring limit tick.at counted (servers_of ring))
    ∙ counts_own limit tick.servers recovered 0 ring.servers k (omega arith) (omega arith)
    ∙ ap (missed_of limit (has tick.servers k)) (recovered_missed tick.at w 0 ring.servers k (omega arith)
    (omega arith))
