-- A server that beats at each tick is never fenced.
use Rattle.std.proofs.Common.{◌≡◌, ◌≢◌, ℕ, ◌≤◌, Bool, true, false, Option, Some, None, List, [], ◌∷◌, refl, sym}
use Rattle.std.proofs.Common.{ap, ◌∙◌, arith}
use Rattle.std.specs.Prelude.{◌==◌, if◌then◌else◌}
use Rattle.std.specs.List.{AllByRecursion}
use Rattle.std.proofs.lemmas.Bool.Decides.{nat_tests}
use Rattle.ftc_base.specs.Sets.{has}
use Rattle.ftc_base.proofs.EachOf.{all_push}
use Rattle.ftc_ring.specs.Ring.{RingShape}
use Rattle.ftc_ring.specs.Live.{gone_of}
use Rattle.ftc_script.specs.Steps.{with_at}
use Rattle.ftc_script.specs.declared.statement.Statement.TheVariants.{Crash, Recover}
use Rattle.ftc_watch.specs.declared.tick.Tick.{Tick}
use Rattle.ftc_watch.specs.Fenced.{IsNoCrashOf}
use Rattle.ftc_watch.specs.Watch.{Watching, at_start, missed_of, recover_at, count_at, fence_at, judge_at, at_each}
use Rattle.ftc_watch.specs.Watch.{servers_of, recover_all, count_all, tick_on, ticks_on, watch_of}
use Rattle.ftc_watch.proofs.Recovered.{either_recovers}

-- the server has missed no tick, and no line fences it
record IsClean (k : ℕ) (w : Watching) : Type 0 where
  pub none : w.missed k ≡ 0
  pub lines : AllByRecursion (IsNoCrashOf k) w.script

same_number : (a b : ℕ) → (a == b) ≡ true → a ≡ b
same_number a b e = grind (arith, nat_tests)

recover_clean : (k at : ℕ) (w : Watching) (server : ℕ) → IsClean k w → IsClean k (recover_at at w server)
recover_clean k at w server is =
    either_recovers (IsClean k) at w server (λ up. is) (λ down. record {
      none = elim (k == server) as (λ t. (if t then 0 else w.missed k) ≡ 0) [ true ↦ refl | false ↦ is.none ];
      lines = all_push (IsNoCrashOf k) w.script (Recover at server) is.lines tt;
    })

count_clean : (k limit beaten : ℕ) (w : Watching) (server : ℕ) → has beaten k ≡ true → IsClean k w
    → IsClean k (count_at limit beaten w server)
count_clean k limit beaten w server beat is = record {
  none = elim (k == server) as (λ t. (k == server) ≡ t
      → (if t then missed_of limit (has beaten server) (w.missed server) else w.missed k) ≡ 0) [
        | true ↦ λ same. ap (λ (b : Bool). missed_of limit b (w.missed server))
            (ap (has beaten) (sym (same_number k server same)) ∙ beat)
        | false ↦ λ other. is.none
      ] refl;
  lines = is.lines;
}

fence_clean : (k at : ℕ) (w : Watching) (server : ℕ) (gone : Option ℕ) → server ≢ k → IsClean k w
    → IsClean k (fence_at at w server gone)
fence_clean k at w server None other is = record {
  none = is.none;
  lines = all_push (IsNoCrashOf k) w.script
      (Crash at server) is.lines other;
}
fence_clean k at w server (Some group) other is = record { none = is.none; lines = is.lines }

judge_clean : (k : ℕ) (ring : RingShape) (limit at : ℕ) (w : Watching) (server : ℕ) → 1 ≤ limit → IsClean k w
    → IsClean k (judge_at ring limit at w server)
judge_clean k ring limit at w server some is =
    elim (w.missed server == limit) as (λ t. (w.missed server == limit) ≡ t
    → IsClean k (if t then fence_at at w server (gone_of ring (with_at w.live server false)) else w)) [
      | true ↦ λ full. fence_clean k at w server (gone_of ring (with_at w.live server false))
          (λ (same : server ≡ k). (let e : w.missed server ≡ limit = same_number (w.missed server) limit full in
          let z : w.missed server ≡ 0 = ap w.missed same ∙ is.none in omega arith)) is
      | false ↦ λ few. is
    ] refl

each_clean : (k : ℕ) (step : Watching → ℕ → Watching) → ((w : Watching) (server : ℕ) → IsClean k w
    → IsClean k (step w server)) → (w : Watching) (servers : List ℕ) → IsClean k w → IsClean k (at_each step w servers)
each_clean k step one w [] is = is
each_clean k step one w (server ∷ servers) is = each_clean k step one (step w server) servers (one w server is)

ticks_clean : (k : ℕ) (ring : RingShape) (limit : ℕ) (w : Watching) (ticks : List Tick) → 1 ≤ limit
    → AllByRecursion (λ tick. has tick.servers k ≡ true) ticks → IsClean k w → IsClean k (ticks_on ring limit w ticks)
ticks_clean k ring limit w [] some all is = is
ticks_clean k ring limit w (tick ∷ ticks) some all is =
    ticks_clean k ring limit (tick_on ring limit w tick) ticks some all.1
    (each_clean k (judge_at ring limit tick.at)
    (λ v server clean. judge_clean k ring limit tick.at v server some clean)
    (count_all ring limit tick.servers (recover_all ring tick.at w)) (servers_of ring)
    (each_clean k (count_at limit tick.servers)
    (λ v server clean. count_clean k limit tick.servers v server all.0 clean) (recover_all ring tick.at w)
    (servers_of ring)
    (each_clean k (recover_at tick.at) (recover_clean k tick.at) w (servers_of ring) is)))

pub never_fenced : (ring : RingShape) (limit packets : ℕ) (ticks : List Tick) (k : ℕ) → 1 ≤ limit
    → AllByRecursion (λ tick. has tick.servers k ≡ true) ticks
    → AllByRecursion (IsNoCrashOf k) (watch_of ring limit packets ticks).script
never_fenced ring limit packets ticks k some all =
    (each_clean k (recover_at packets) (recover_clean k packets) (ticks_on ring limit at_start ticks) (servers_of ring)
    (ticks_clean k ring limit at_start ticks some all (record { none = refl; lines = tt }))).lines
