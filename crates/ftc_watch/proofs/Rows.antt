-- A server that is fenced has missed as many ticks in a row as the limit.
use Rattle.std.proofs.Common.{◌≡◌, ℕ, zero, suc, ◌+◌, ◌≤◌, ◌<◌, Bool, true, false, Option, Some, None, List, [], ◌∷◌}
use Rattle.std.proofs.Common.{inl, inr, refl, sym, ap, subst, ◌∙◌, arith}
use Rattle.std.specs.Prelude.{◌==◌, if◌then◌else◌}
use Rattle.std.specs.List.{range_with_len}
use Rattle.std.proofs.Math.Nat.{eq-or-lt_of_le}
use Rattle.std.proofs.lemmas.Bool.Decides.{nat_tests}
use Rattle.ftc_base.specs.Sets.{has}
use Rattle.ftc_ring.specs.Ring.{RingShape}
use Rattle.ftc_ring.specs.Live.{IsLive, IsDown, gone_of}
use Rattle.ftc_script.specs.Steps.{with_at}
use Rattle.ftc_watch.specs.declared.tick.Tick.{Tick}
use Rattle.ftc_watch.specs.Fenced.{row_after, row_from}
use Rattle.ftc_watch.specs.Watch.{Watching, at_start, missed_of, recover_at, count_at, fence_at, judge_at, at_each}
use Rattle.ftc_watch.specs.Watch.{servers_of, recover_all, count_all, judge_all, tick_on, ticks_on}
use Rattle.ftc_watch.proofs.Recovered.{either_recovers}
use Rattle.ftc_watch.proofs.Sound.{all_up, count_live, judge_others}

-- a recovery leaves no more missed than before
recover_missed : (at : ℕ) (w : Watching) (server k row : ℕ) → w.missed k ≤ row → (recover_at at w server).missed k ≤ row
recover_missed at w server k row few =
    either_recovers (λ v. v.missed k ≤ row) at w server (λ up. few)
    (λ down. elim (k == server) as (λ t. (if t then 0 else w.missed k) ≤ row) [ true ↦ omega arith | false ↦ few ])

recovers_missed : (at : ℕ) (w : Watching) (servers : List ℕ) (k row : ℕ) → w.missed k ≤ row
    → (at_each (recover_at at) w servers).missed k ≤ row
recovers_missed at w [] k row few = few
recovers_missed at w (server ∷ servers) k row few = recovers_missed at (recover_at at w server) servers k row
    (recover_missed at w server k row few)

-- each server is counted once
count_other : (limit beaten : ℕ) (w : Watching) (server k : ℕ) → (k == server) ≡ false
    → (count_at limit beaten w server).missed k ≡ w.missed k
count_other limit beaten w server k other = rw other refl

count_own : (limit beaten : ℕ) (w : Watching) (server : ℕ)
    → (count_at limit beaten w server).missed server ≡ missed_of limit (has beaten server) (w.missed server)
count_own limit beaten w server = let same : (server == server) ≡ true = grind (arith, nat_tests) in rw same refl

counts_before : (limit beaten : ℕ) (w : Watching) (low more k : ℕ) → k < low
    → (at_each (count_at limit beaten) w (range_with_len low more)).missed k ≡ w.missed k
counts_before limit beaten w low zero k below = refl
counts_before limit beaten w low (suc more) k below =
    let other : (k == low) ≡ false = grind (arith, nat_tests) in
    counts_before limit beaten (count_at limit beaten w low) (low + 1) more k (omega arith)
    ∙ count_other limit beaten w low k other

pub counts_own : (limit beaten : ℕ) (w : Watching) (low more k : ℕ) → low ≤ k → k < low + more
    → (at_each (count_at limit beaten) w (range_with_len low more)).missed k ≡ missed_of limit (has beaten k)
    (w.missed k)
counts_own limit beaten w low zero k above below = absurd (omega arith)
counts_own limit beaten w low (suc more) k above below = elim (eq-or-lt_of_le above) [
  | inl same ↦ subst (λ (j : ℕ). (at_each (count_at limit beaten) (count_at limit beaten w low)
      (range_with_len (low + 1) more)).missed j ≡ missed_of limit (has beaten j) (w.missed j)) same
      (counts_before limit beaten (count_at limit beaten w low) (low + 1) more low (omega arith)
      ∙ count_own limit beaten w low)
  | inr up ↦ (let other : (k == low) ≡ false = grind (arith, nat_tests) in
      counts_own limit beaten (count_at limit beaten w low) (low + 1) more k (omega arith) (omega arith)
      ∙ ap (missed_of limit (has beaten k)) (count_other limit beaten w low k other))
]

counted_row : (limit : ℕ) (beat : Bool) (missed row : ℕ) → missed ≤ row
    → missed_of limit beat missed ≤ (if beat then 0 else row + 1)
counted_row limit true missed row few = omega arith
counted_row limit false missed row few = omega arith

-- judging changes no count
fence_missed : (at : ℕ) (w : Watching) (server : ℕ) (gone : Option ℕ) → (fence_at at w server gone).missed ≡ w.missed
fence_missed at w server None = refl
fence_missed at w server (Some group) = refl

judge_missed : (ring : RingShape) (limit at : ℕ) (w : Watching) (server : ℕ)
    → (judge_at ring limit at w server).missed ≡ w.missed
judge_missed ring limit at w server =
    elim (w.missed server == limit) as (λ t. (if t then fence_at at w server
    (gone_of ring (with_at w.live server false)) else w).missed ≡ w.missed) [
      | true ↦ fence_missed at w server (gone_of ring (with_at w.live server false))
      | false ↦ refl
    ]

pub judges_missed : (ring : RingShape) (limit at : ℕ) (w : Watching) (servers : List ℕ)
    → (at_each (judge_at ring limit at) w servers).missed ≡ w.missed
judges_missed ring limit at w [] = refl
judges_missed ring limit at w (server ∷ servers) = judges_missed ring limit at
    (judge_at ring limit at w server) servers ∙ judge_missed ring limit at w server

-- a server that goes down has missed as many as the limit
judge_down : (ring : RingShape) (limit at : ℕ) (w : Watching) (server k : ℕ) → IsLive w.live k
    → IsDown (judge_at ring limit at w server).live k → w.missed k ≡ limit
judge_down ring limit at w server k up down =
    elim (w.missed server == limit) as (λ t. (w.missed server == limit) ≡ t
    → IsDown (if t then fence_at at w server (gone_of ring (with_at w.live server false)) else w).live k
    → w.missed k ≡ limit) [
      | true ↦ λ full gone. elim (k == server) as (λ t. (k == server) ≡ t → w.missed k ≡ limit) [
        | true ↦ λ same. (let e : k ≡ server = grind (arith, nat_tests) in
            let f : w.missed server ≡ limit = grind (arith, nat_tests) in ap w.missed e ∙ f)
        | false ↦ λ other. (let stays = judge_others ring limit at w server k other in absurd (cc (stays, up, down)))
      ] refl
      | false ↦ λ few gone. absurd (cc (up, gone))
    ] refl down

live_or_down : (b : Bool) (A : Type 0) → (b ≡ true → A) → (b ≡ false → A) → A
live_or_down true A up down = up refl
live_or_down false A up down = down refl

judges_down : (ring : RingShape) (limit at : ℕ) (w : Watching) (servers : List ℕ) (k : ℕ) → IsLive w.live k
    → IsDown (at_each (judge_at ring limit at) w servers).live k → w.missed k ≡ limit
judges_down ring limit at w [] k up down = absurd (cc (up, down))
judges_down ring limit at w (server ∷ servers) k up down =
    live_or_down ((judge_at ring limit at w server).live k) (w.missed k ≡ limit)
    (λ still. ap (λ (m : ℕ → ℕ). m k) (sym (judge_missed ring limit at w server))
    ∙ judges_down ring limit at (judge_at ring limit at w server) servers k still down)
    (λ now. judge_down ring limit at w server k up now)

-- what is known of a server behind some ticks
pub record IsInRow (limit row k : ℕ) (w : Watching) : Type 0 where
  pub few : w.missed k ≤ row
  pub full : IsDown w.live k → w.missed k ≡ limit

tick_row : (ring : RingShape) (limit row k : ℕ) (w : Watching) (tick : Tick) → k < ring.servers → w.missed k ≤ row
    → IsInRow limit (row_after k row tick) k (tick_on ring limit w tick)
tick_row ring limit row k w tick within few =
    let recovered = recover_all ring tick.at w in
    let counted = count_all ring limit tick.servers recovered in
    let judged = judge_all ring limit tick.at counted in
    let kept : judged.missed k ≡ counted.missed k = ap (λ (m : ℕ → ℕ). m k)
    (judges_missed ring limit tick.at counted (servers_of ring)) in
    let own : counted.missed k ≡ missed_of limit (has tick.servers k)
    (recovered.missed k) = counts_own limit tick.servers recovered 0 ring.servers k (omega arith) (omega arith) in
    let row_of : missed_of limit (has tick.servers k) (recovered.missed k) ≤ row_after k row tick = counted_row limit
    (has tick.servers k) (recovered.missed k) row (recovers_missed tick.at w (servers_of ring) k row few) in
    let up : IsLive counted.live k = ap (λ (l : ℕ → Bool). l k)
    (count_live limit tick.servers recovered (servers_of ring)) ∙ all_up ring tick.at w k within in
    record {
      few = subst (λ (m : ℕ). m ≤ row_after k row tick) (sym (kept ∙ own)) row_of;
      full = λ (down : IsDown judged.live k). kept ∙ judges_down ring limit tick.at counted (servers_of ring) k up down;
    }

ticks_row : (ring : RingShape) (limit row k : ℕ) (w : Watching) (ticks : List Tick) → k < ring.servers
    → IsInRow limit row k w → IsInRow limit (row_from k row ticks) k (ticks_on ring limit w ticks)
ticks_row ring limit row k w [] within is = is
ticks_row ring limit row k w (tick ∷ ticks) within is =
    ticks_row ring limit (row_after k row tick) k (tick_on ring limit w tick) ticks within
    (tick_row ring limit row k w tick within is.few)

pub down_in_row : (ring : RingShape) (limit k : ℕ) (ticks : List Tick) → k < ring.servers
    → IsDown (ticks_on ring limit at_start ticks).live k → limit ≤ row_from k 0 ticks
down_in_row ring limit k ticks within down =
    let is = ticks_row ring limit 0 k at_start ticks within (record { few = omega arith; full = λ gone. absurd cc }) in
    let few = is.few in
    let full = is.full down in
    omega arith
