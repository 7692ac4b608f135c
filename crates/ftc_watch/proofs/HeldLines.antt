-- The held lines that a tick adds.
use Rattle.std.proofs.Common.{◌≡◌, ℕ, zero, suc, ◌+◌, ◌≤◌, ◌<◌, Bool, true, false, Option, Some, None, List, [], ◌∷◌}
use Rattle.std.proofs.Common.{◌++◌, refl, sym, ap, ◌∙◌, arith, append-nil, append_assoc}
use Rattle.std.specs.Prelude.{◌==◌, if◌then◌else◌}
use Rattle.std.specs.List.{range_with_len}
use Rattle.std.proofs.lemmas.Bool.Decides.{nat_tests}
use Rattle.ftc_ring.specs.Ring.{RingShape, IsRing}
use Rattle.ftc_ring.specs.Live.{IsLive, gone_of}
use Rattle.ftc_ring.proofs.Nearest.{gone_none, gone_found, more_live}
use Rattle.ftc_script.specs.Steps.{with_at}
use Rattle.ftc_watch.specs.declared.held.Held.{Held}
use Rattle.ftc_watch.specs.declared.tick.Tick.{Tick}
use Rattle.ftc_watch.specs.Fenced.{earlier, held_line, held_in}
use Rattle.ftc_watch.specs.Watch.{Watching, recover_at, count_at, fence_at, judge_at, at_each, servers_of, recover_all}
use Rattle.ftc_watch.specs.Watch.{count_all, tick_on}
use Rattle.ftc_watch.proofs.Recovered.{either_recovers}
use Rattle.ftc_watch.proofs.Sound.{all_up, count_live, judge_others}
use Rattle.ftc_watch.proofs.Rows.{judges_missed}
use Rattle.ftc_watch.proofs.Exact.{judges_before, alike_at}

-- the same group is gone where the same servers are live
same_gone : (ring : RingShape) (a b : ℕ → Bool) (gone : Option ℕ) → IsRing ring
    → ((j : ℕ) → j < ring.servers → a j ≡ b j) → gone_of ring a ≡ gone → gone_of ring b ≡ gone
same_gone ring a b None shape alike e =
    (gone_none ring b shape).1 (more_live ring a b (λ j within up. sym (alike j within) ∙ up)
    ((gone_none ring a shape).0 e))
same_gone ring a b (Some group) shape alike e =
    let is = (gone_found ring a group shape).0 e in
    (gone_found ring b group shape).1 (record {
      within = is.within;
      gone = record { each = λ server within member. sym (alike server within) ∙ is.gone.each server within member };
      smallest = λ other below. (let has = is.smallest other below in
          record {
            server = has.server;
            within = has.within;
            member = has.member;
            up = sym (alike has.server has.within)
                ∙ has.up;
          });
    })

fence_held : (at : ℕ) (w : Watching) (server : ℕ) (gone : Option ℕ)
    → (fence_at at w server gone).held ≡ w.held ++ held_line at server gone
fence_held at w server None = sym (append-nil w.held)
fence_held at w server (Some group) = refl

judge_held : (ring : RingShape) (limit at : ℕ) (w : Watching) (server : ℕ)
    → (judge_at ring limit at w server).held ≡ w.held ++ (if w.missed server == limit then held_line at server
    (gone_of ring (with_at w.live server false)) else [])
judge_held ring limit at w server =
    elim (w.missed server == limit) as (λ t. (if t then fence_at at w server
    (gone_of ring (with_at w.live server false)) else w).held ≡ w.held ++
    (if t then held_line at server (gone_of ring (with_at w.live server false)) else [])) [
      | true ↦ fence_held at w server (gone_of ring (with_at w.live server false))
      | false ↦ sym (append-nil w.held)
    ]

judged_held : (ring : RingShape) (limit at : ℕ) (final w : Watching) (low more : ℕ) → IsRing ring
    → low + more ≡ ring.servers → ((j : ℕ) → low ≤ j → j < ring.servers → IsLive w.live j)
    → final ≡ at_each (judge_at ring limit at) w (range_with_len low more)
    → (at_each (judge_at ring limit at) w (range_with_len low more)).held ≡ w.held ++ held_in ring limit at final
    (range_with_len low more)
judged_held ring limit at final w low zero shape size up is = sym (append-nil w.held)
judged_held ring limit at final w low (suc more) shape size up is =
    let rest = range_with_len (low + 1) more in
    let v : Watching = judge_at ring limit at w low in
    let missed : w.missed low ≡ final.missed low = sym (ap (λ (f : Watching). f.missed low) is
    ∙ ap (λ (m : ℕ → ℕ). m low) (judges_missed ring limit at w (range_with_len low (suc more)))) in
    let alike : (j : ℕ) → j < ring.servers → with_at w.live low false j ≡ with_at (earlier low final.live) low false j =
    λ j within. alike_at w.live final.live low j (λ below. ap (λ (f : Watching). f.live j) is
    ∙ judges_before ring limit at w low (suc more) j below) (λ above. up j above within) in
    let gone : gone_of ring (with_at w.live low false) ≡ gone_of ring (with_at (earlier low final.live) low false) =
    sym (same_gone ring (with_at w.live low false) (with_at (earlier low final.live) low false)
    (gone_of ring (with_at w.live low false)) shape alike refl) in
    let here = judge_held ring limit at w low
    ∙ ap (λ (g : Option ℕ). w.held ++ (if w.missed low == limit then held_line at low g else [])) gone
    ∙ ap (λ (m : ℕ). w.held ++ (if m == limit then held_line at low
    (gone_of ring (with_at (earlier low final.live) low false)) else [])) missed in
    let later = judged_held ring limit at final v (low + 1) more shape (omega arith)
    (λ j above within. (let other : (j == low) ≡ false = grind (arith, nat_tests)
    in judge_others ring limit at w low j other ∙ up j (omega arith) within)) is in
    later ∙ ap (λ (hs : List Held). hs ++ held_in ring limit at final rest) here
    ∙ append_assoc w.held (if final.missed low == limit then held_line at low
    (gone_of ring (with_at (earlier low final.live) low false)) else []) (held_in ring limit at final rest)

-- recoveries and counts add none
recover_held : (at : ℕ) (w : Watching) (server : ℕ) → (recover_at at w server).held ≡ w.held
recover_held at w server =
    either_recovers (λ v. v.held ≡ w.held) at w server (λ up. refl) (λ down. refl)

recovers_held : (at : ℕ) (w : Watching) (servers : List ℕ) → (at_each (recover_at at) w servers).held ≡ w.held
recovers_held at w [] = refl
recovers_held at w (server ∷ servers) = recovers_held at (recover_at at w server) servers ∙ recover_held at w server

counts_held : (limit beaten : ℕ) (w : Watching) (servers : List ℕ)
    → (at_each (count_at limit beaten) w servers).held ≡ w.held
counts_held limit beaten w [] = refl
counts_held limit beaten w (server ∷ servers) = counts_held limit beaten (count_at limit beaten w server) servers

pub tick_held : (ring : RingShape) (limit : ℕ) (w : Watching) (tick : Tick) → IsRing ring
    → (tick_on ring limit w tick).held ≡ w.held ++ held_in ring limit tick.at (tick_on ring limit w tick)
    (servers_of ring)
tick_held ring limit w tick shape =
    let recovered = recover_all ring tick.at w in
    let counted = count_all ring limit tick.servers recovered in
    let live = count_live limit tick.servers recovered (servers_of ring) in
    judged_held ring limit tick.at (tick_on ring limit w tick) counted 0 ring.servers shape (omega arith)
    (λ j above below. ap (λ (l : ℕ → Bool). l j) live ∙ all_up ring tick.at w j below) refl
    ∙ ap (λ (hs : List Held). hs ++ held_in ring limit tick.at (tick_on ring limit w tick) (servers_of ring))
    (counts_held limit tick.servers recovered (servers_of ring) ∙ recovers_held tick.at w (servers_of ring))
