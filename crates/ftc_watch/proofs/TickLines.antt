-- The lines that a tick adds.
use Rattle.std.proofs.Common.{◌≡◌, ℕ, zero, suc, ◌+◌, ◌≤◌, ◌<◌, Bool, true, false, Option, Some, None, List, [], ◌∷◌}
use Rattle.std.proofs.Common.{◌++◌, refl, sym, ap, ◌∙◌, arith, append-nil, append_assoc}
use Rattle.std.specs.Prelude.{◌==◌, not, map, filter, if◌then◌else◌}
use Rattle.std.specs.List.{range_with_len}
use Rattle.std.proofs.lemmas.Bool.Decides.{nat_tests}
use Rattle.ftc_ring.specs.Ring.{RingShape}
use Rattle.ftc_ring.specs.Live.{IsLive, gone_of}
use Rattle.ftc_script.specs.Steps.{with_at}
use Rattle.ftc_script.specs.declared.statement.Statement.{Statement}
use Rattle.ftc_script.specs.declared.statement.Statement.TheVariants.{Crash, Recover}
use Rattle.ftc_watch.specs.declared.tick.Tick.{Tick}
use Rattle.ftc_watch.specs.Fenced.{downs_in}
use Rattle.ftc_watch.specs.Watch.{Watching, recover_at, fence_at, judge_at, at_each, servers_of, recover_all, count_all}
use Rattle.ftc_watch.specs.Watch.{tick_on}
use Rattle.ftc_watch.proofs.Recovered.{recovered}
use Rattle.ftc_watch.proofs.Sound.{same_server, all_up, count_live, count_script, judge_others}
use Rattle.ftc_watch.proofs.Exact.{judges_before}

-- the servers of a list that are down
filter_yes : (p : ℕ → Bool) (x : ℕ) (xs : List ℕ) → p x ≡ true → filter p (x ∷ xs) ≡ x ∷ filter p xs
filter_yes p x xs e = rw e refl

filter_no : (p : ℕ → Bool) (x : ℕ) (xs : List ℕ) → p x ≡ false → filter p (x ∷ xs) ≡ filter p xs
filter_no p x xs e = rw e refl

down_here : (live : ℕ → Bool) (x : ℕ) (xs : List ℕ) → live x ≡ false → downs_in live (x ∷ xs) ≡ x ∷ downs_in live xs
down_here live x xs e = filter_yes (λ k. not (live k)) x xs (ap not e)

up_here : (live : ℕ → Bool) (x : ℕ) (xs : List ℕ) → live x ≡ true → downs_in live (x ∷ xs) ≡ downs_in live xs
up_here live x xs e = filter_no (λ k. not (live k)) x xs (ap not e)

recover_up : (at : ℕ) (w : Watching) (server : ℕ) → w.live server ≡ true → recover_at at w server ≡ w
recover_up at w server e = rw e refl

recover_down : (at : ℕ) (w : Watching) (server : ℕ) → w.live server ≡ false
    → recover_at at w server ≡ recovered at w server
recover_down at w server e = rw e refl

other_than : (live : ℕ → Bool) (server j : ℕ) → server + 1 ≤ j → with_at live server true j ≡ live j
other_than live server j above = let other : (j == server) ≡ false = grind (arith, nat_tests) in rw other refl

pub either_way : {A : Type 0} (b : Bool) → (b ≡ true → A) → (b ≡ false → A) → A
either_way true is other = is refl
either_way false is other = other refl

recovered_lines : (at : ℕ) (live : ℕ → Bool) (w : Watching) (low more : ℕ) → ((j : ℕ) → low ≤ j → w.live j ≡ live j)
    → (at_each (recover_at at) w (range_with_len low more)).script ≡ w.script ++ map (Recover at)
    (downs_in live (range_with_len low more))
recovered_lines at live w low zero alike = sym (append-nil w.script)
recovered_lines at live w low (suc more) alike =
    let rest = range_with_len (low + 1) more in
    either_way {A = (at_each (recover_at at) w (range_with_len low (suc more))).script ≡ w.script ++ map (Recover at)
    (downs_in live (range_with_len low (suc more)))} (live low)
    (λ up. ap (λ (v : Watching). (at_each (recover_at at) v rest).script)
    (recover_up at w low (alike low (omega arith) ∙ up))
    ∙ recovered_lines at live w (low + 1) more (λ j above. alike j (omega arith))
    ∙ ap (λ (ks : List ℕ). w.script ++ map (Recover at) ks) (sym (up_here live low rest up)))
    (λ down. ap (λ (v : Watching). (at_each (recover_at at) v rest).script)
    (recover_down at w low (alike low (omega arith) ∙ down))
    ∙ recovered_lines at live (record {
      live = with_at w.live low true;
      missed = with_at w.missed low 0;
      script =
          w.script ++ Recover at low ∷ [];
      held = w.held;
    }) (low + 1) more
    (λ j above. other_than w.live low j above ∙ alike j (omega arith))
    ∙ append_assoc w.script (Recover at low ∷ []) (map (Recover at) (downs_in live rest))
    ∙ ap (λ (ks : List ℕ). w.script ++ map (Recover at) ks) (sym (down_here live low rest down)))

-- a live server that is judged gets a line where it is down then
line_up : (w : Watching) (at server : ℕ) → IsLive w.live server
    → w.script ≡ w.script ++ (if w.live server then [] else Crash at server ∷ [])
line_up w at server up = rw up (sym (append-nil w.script))

fence_script : (at : ℕ) (w : Watching) (server : ℕ) (gone : Option ℕ) → IsLive w.live server
    → (fence_at at w server gone).script ≡ w.script ++ (if (fence_at at w server gone).live server then []
    else Crash at server ∷ [])
fence_script at w server None up = rw (same_server server) refl
fence_script at w server (Some group) up = line_up w at server up

judge_script : (ring : RingShape) (limit at : ℕ) (w : Watching) (server : ℕ) → IsLive w.live server
    → (judge_at ring limit at w server).script ≡ w.script ++ (if (judge_at ring limit at w server).live server then []
    else Crash at server ∷ [])
judge_script ring limit at w server up =
    elim (w.missed server == limit) as (λ t. (if t then fence_at at w server
    (gone_of ring (with_at w.live server false)) else w).script ≡ w.script ++
    (if (if t then fence_at at w server (gone_of ring (with_at w.live server false)) else w).live server then []
    else Crash at server ∷ [])) [
      | true ↦ fence_script at w server (gone_of ring (with_at w.live server false)) up
      | false ↦ line_up w at server up
    ]

judged_up : (script lines : List Statement) (at server : ℕ) (up : Bool)
    → lines ≡ script ++ (if up then [] else Crash at server ∷ []) → up ≡ true → lines ≡ script
judged_up script lines at server up is e = is ∙ rw e (append-nil script)

judged_down : (script lines : List Statement) (at server : ℕ) (up : Bool)
    → lines ≡ script ++ (if up then [] else Crash at server ∷ []) → up ≡ false → lines ≡ script ++ Crash at server ∷ []
judged_down script lines at server up is e = is ∙ rw e refl

judged_lines : (ring : RingShape) (limit at n : ℕ) (final : ℕ → Bool) (w : Watching) (low more : ℕ) → low + more ≡ n
    → ((j : ℕ) → low ≤ j → j < n → IsLive w.live j)
    → final ≡ (at_each (judge_at ring limit at) w (range_with_len low more)).live
    → (at_each (judge_at ring limit at) w (range_with_len low more)).script ≡ w.script ++ map (Crash at)
    (downs_in final (range_with_len low more))
judged_lines ring limit at n final w low zero size up is = sym (append-nil w.script)
judged_lines ring limit at n final w low (suc more) size up is =
    let rest = range_with_len (low + 1) more in
    let v : Watching = judge_at ring limit at w low in
    let here : final low ≡ v.live low = ap (λ (l : ℕ → Bool). l low) is
    ∙ judges_before ring limit at v (low + 1) more low (omega arith) in
    let told = judge_script ring limit at w low (up low (omega arith) (omega arith)) in
    let later : (at_each (judge_at ring limit at) v rest).script ≡ v.script ++ map (Crash at) (downs_in final rest) =
    judged_lines ring limit at n final v (low + 1) more (omega arith)
    (λ j above within. (let other : (j == low) ≡ false = grind (arith, nat_tests)
    in judge_others ring limit at w low j other ∙ up j (omega arith) within)) is in
    either_way {A = (at_each (judge_at ring limit at) w (range_with_len low (suc more))).script ≡ w.script ++ map
    (Crash at) (downs_in final (range_with_len low (suc more)))} (final low)
    (λ on. later ∙ ap (λ (ls : List Statement). ls ++ map (Crash at) (downs_in final rest))
    (judged_up w.script v.script at low (v.live low) told (sym here ∙ on))
    ∙ ap (λ (ks : List ℕ). w.script ++ map (Crash at) ks) (sym (up_here final low rest on)))
    (λ down. later ∙ ap (λ (ls : List Statement). ls ++ map (Crash at) (downs_in final rest))
    (judged_down w.script v.script at low (v.live low) told (sym here ∙ down))
    ∙ append_assoc w.script (Crash at low ∷ []) (map (Crash at) (downs_in final rest))
    ∙ ap (λ (ks : List ℕ). w.script ++ map (Crash at) ks) (sym (down_here final low rest down)))

pub tick_lines : (ring : RingShape) (limit : ℕ) (w : Watching) (tick : Tick)
    → (tick_on ring limit w tick).script ≡ w.script ++ map (Recover tick.at) (downs_in w.live (servers_of ring))
    ++ map (Crash tick.at) (downs_in (tick_on ring limit w tick).live (servers_of ring))
tick_lines ring limit w tick =
    let recovered = recover_all ring tick.at w in
    let counted = count_all ring limit tick.servers recovered in
    let live = count_live limit tick.servers recovered (servers_of ring) in
    judged_lines ring limit tick.at ring.servers (tick_on ring limit w tick).live counted 0 ring.servers (omega arith)
    (λ j above below. ap (λ (l : ℕ → Bool). l j) live ∙ all_up ring tick.at w j below) refl
    ∙ ap (λ (ls : List Statement). ls ++ map (Crash tick.at) (downs_in (tick_on ring limit w tick).live
    (servers_of ring))) (count_script limit tick.servers recovered (servers_of ring)
    ∙ recovered_lines tick.at w.live w 0 ring.servers (λ j above. refl))
