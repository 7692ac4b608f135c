-- A server is fenced exactly where it has missed enough ticks and the ring can spare it.
use Rattle.std.proofs.Common.{◌≡◌, ℕ, zero, suc, ◌+◌, ◌≤◌, ◌<◌, Bool, true, false, Option, Some, None, inl, inr, refl}
use Rattle.std.proofs.Common.{sym, ap, subst, ◌∙◌, arith}
use Rattle.std.specs.Prelude.{◌==◌, ◌↔◌, nat_lt, if◌then◌else◌}
use Rattle.std.specs.List.{range_with_len}
use Rattle.std.proofs.Math.Nat.{eq-or-lt_of_le}
use Rattle.std.proofs.lemmas.Bool.Decides.{nat_tests}
use Rattle.ftc_ring.specs.Ring.{RingShape, IsRing}
use Rattle.ftc_ring.specs.Live.{IsLive, IsDown, IsAdmissible, gone_of}
use Rattle.ftc_ring.proofs.Nearest.{gone_none, more_live}
use Rattle.ftc_script.specs.Steps.{with_at}
use Rattle.ftc_watch.specs.declared.tick.Tick.{Tick}
use Rattle.ftc_watch.specs.Fenced.{earlier}
use Rattle.ftc_watch.specs.Watch.{Watching, fence_at, judge_at, at_each, recover_all, count_all, tick_on}
use Rattle.ftc_watch.proofs.Sound.{same_server, all_up, count_live, judge_others}
use Rattle.ftc_watch.proofs.Rows.{judges_missed}

-- servers below those that are judged stay as they are
pub judges_before : (ring : RingShape) (limit at : ℕ) (w : Watching) (low more k : ℕ) → k < low
    → (at_each (judge_at ring limit at) w (range_with_len low more)).live k ≡ w.live k
judges_before ring limit at w low zero k below = refl
judges_before ring limit at w low (suc more) k below =
    let other : (k == low) ≡ false = grind (arith, nat_tests) in
    judges_before ring limit at (judge_at ring limit at w low) (low + 1) more k (omega arith)
    ∙ judge_others ring limit at w low k other

fence_down : (at : ℕ) (w : Watching) (server : ℕ) (gone : Option ℕ) → IsLive w.live server
    → IsDown (fence_at at w server gone).live server → gone ≡ None
fence_down at w server None up down = refl
fence_down at w server (Some group) up down = absurd (cc (up, down))

-- what it means that the server went down
judged_down : (ring : RingShape) (limit at : ℕ) (w : Watching) (server : ℕ) → IsLive w.live server
    → IsDown (judge_at ring limit at w server).live server
    → (w.missed server ≡ limit) × (gone_of ring (with_at w.live server false) ≡ None)
judged_down ring limit at w server up down =
    elim (w.missed server == limit) as (λ t. (w.missed server == limit) ≡ t
    → IsDown (if t then fence_at at w server (gone_of ring (with_at w.live server false)) else w).live server
    → (w.missed server ≡ limit) × (gone_of ring (with_at w.live server false) ≡ None)) [
      | true ↦ λ full gone. (
        grind (arith, nat_tests),
        fence_down at w server
            (gone_of ring (with_at w.live server false)) up gone,
      )
      | false ↦ λ few gone. absurd (cc (up, gone))
    ] refl down

goes_down : (ring : RingShape) (limit at : ℕ) (w : Watching) (server : ℕ) → w.missed server ≡ limit
    → gone_of ring (with_at w.live server false) ≡ None → IsDown (judge_at ring limit at w server).live server
goes_down ring limit at w server full none =
    let test : (w.missed server == limit) ≡ true = grind (arith, nat_tests) in
    let fenced : IsDown (fence_at at w server (gone_of ring (with_at w.live server false))).live server =
    subst (λ (g : Option ℕ). IsDown (fence_at at w server g).live server) (sym none) (rw (same_server server) refl) in
    rw test fenced

-- the live servers, where the ones that are judged later count as live
pub alike_at : (live final : ℕ → Bool) (low j : ℕ) → (j < low → final j ≡ live j) → (low ≤ j → live j ≡ true)
    → with_at live low false j ≡ with_at (earlier low final) low false j
alike_at live final low j before up = elim (j == low) as (λ t. (if t then false else live j) ≡
    (if t then false else earlier low final j)) [
      | true ↦ refl
      | false ↦ elim (nat_lt j low) as (λ t. nat_lt j low ≡ t → live j ≡ (if t then final j else true)) [
        | true ↦ λ is. sym (before (grind (arith, nat_tests)))
        | false ↦ λ is. up (grind (arith, nat_tests))
      ] refl
    ]

abbrev Fits : RingShape → ℕ → Watching → ℕ → Type 0
Fits ring limit a k = IsDown a.live k ↔ ((a.missed k ≡ limit) × IsAdmissible ring (with_at (earlier k a.live) k false))

exact_here : (ring : RingShape) (limit at : ℕ) (w : Watching) (low more : ℕ) → IsRing ring
    → low + suc more ≡ ring.servers → ((j : ℕ) → low ≤ j → j < ring.servers → IsLive w.live j)
    → Fits ring limit (at_each (judge_at ring limit at) w (range_with_len low (suc more))) low
exact_here ring limit at w low more shape size up =
    let a : Watching = at_each (judge_at ring limit at) w (range_with_len low (suc more)) in
    let here : a.live low ≡ (judge_at ring limit at w low).live low = judges_before ring limit at
    (judge_at ring limit at w low) (low + 1) more low (omega arith) in
    let missed : a.missed low ≡ w.missed low = ap (λ (m : ℕ → ℕ). m low)
    (judges_missed ring limit at w (range_with_len low (suc more))) in
    let alike : (j : ℕ) → j < ring.servers → with_at w.live low false j ≡ with_at (earlier low a.live) low false j =
    λ j within. alike_at w.live a.live low j (λ below. judges_before ring limit at w low (suc more) j below)
    (λ above. up j above within) in
    let live : IsLive w.live low = up low (omega arith) (omega arith) in (
      λ (down : IsDown a.live low). (
          let is = judged_down ring limit at w low live (sym here ∙ down) in (
            missed ∙ is.0,
            more_live ring (with_at w.live low false) (with_at (earlier low a.live) low false)
                (λ j within on. sym (alike j within) ∙ on) ((gone_none ring (with_at w.live low false) shape).0 is.1),
          )
          ),
      λ (both : (a.missed low ≡ limit) × IsAdmissible ring (with_at (earlier low a.live) low false)).
          here ∙ goes_down ring limit at w low (sym missed ∙ both.0)
          ((gone_none ring (with_at w.live low false) shape).1
          (more_live ring (with_at (earlier low a.live) low false) (with_at w.live low false)
          (λ j within on. alike j within ∙ on) both.1)),
    )

exact : (ring : RingShape) (limit at : ℕ) (w : Watching) (low more k : ℕ) → IsRing ring → low + more ≡ ring.servers
    → ((j : ℕ) → low ≤ j → j < ring.servers → IsLive w.live j) → low ≤ k → k < low + more
    → Fits ring limit (at_each (judge_at ring limit at) w (range_with_len low more)) k
exact ring limit at w low zero k shape size up above below = absurd (omega arith)
exact ring limit at w low (suc more) k shape size up above below = elim (eq-or-lt_of_le above) [
  | inl same ↦ subst (λ (j : ℕ). Fits ring limit (at_each (judge_at ring limit at) w
      (range_with_len low (suc more))) j) same (exact_here ring limit at w low more shape size up)
  | inr later ↦ exact ring limit at (judge_at ring limit at w low) (low + 1) more k shape (omega arith)
      (λ j over within. (let other : (j == low) ≡ false = grind (arith, nat_tests)
      in judge_others ring limit at w low j other ∙ up j (omega arith) within)) (omega arith) (omega arith)
]

pub fenced_exactly : (ring : RingShape) (limit : ℕ) (w : Watching) (tick : Tick) (k : ℕ) → IsRing ring
    → k < ring.servers
    → IsDown (tick_on ring limit w tick).live k ↔ (((tick_on ring limit w tick).missed k ≡ limit) × IsAdmissible ring
    (with_at (earlier k (tick_on ring limit w tick).live) k false))
fenced_exactly ring limit w tick k shape within =
    let recovered = recover_all ring tick.at w in
    let counted = count_all ring limit tick.servers recovered in
    let live = count_live limit tick.servers recovered (range_with_len 0 ring.servers) in
    exact ring limit tick.at counted 0 ring.servers k shape (omega arith)
    (λ j above below. ap (λ (l : ℕ → Bool). l j) live ∙ all_up ring tick.at w j below) (omega arith) (omega arith)
