-- How many lines come of some ticks.
use Rattle.std.proofs.Common.{◌≡◌, ℕ, ◌+◌, ◌*◌, ◌≤◌, true, false, Option, Some, None, List, [], ◌∷◌, length, sym}
use Rattle.std.proofs.Common.{ap, subst, ◌∙◌, arith, length-append}
use Rattle.std.specs.Prelude.{◌==◌, if◌then◌else◌}
use Rattle.std.proofs.lemmas.List.FromFn.{length-range_with_len}
use Rattle.ftc_base.specs.declared.limits.TheConstants.{MOST_SERVERS}
use Rattle.ftc_ring.specs.Ring.{RingShape}
use Rattle.ftc_ring.specs.Live.{gone_of}
use Rattle.ftc_script.specs.Steps.{with_at}
use Rattle.ftc_script.specs.declared.statement.Statement.TheVariants.{Crash, Recover}
use Rattle.ftc_watch.specs.declared.limits.TheConstants.{MOST_BEATS}
use Rattle.ftc_watch.specs.declared.held.Held.{Held}
use Rattle.ftc_watch.specs.declared.tick.Tick.{Tick}
use Rattle.ftc_watch.specs.Watcher.{Kept, known}
use Rattle.ftc_watch.specs.Watch.{Watching, at_start, recover_at, count_at, fence_at, judge_at, at_each, servers_of}
use Rattle.ftc_watch.specs.Watch.{recover_all, count_all, judge_all, tick_on, ticks_on, watch_of}
use Rattle.ftc_watch.proofs.Recovered.{either_recovers}

-- the greatest number of lines: each server may recover and go down or be held at each tick, and recover at the end
abbrev pub most_lines : ℕ
most_lines = 2 * MOST_SERVERS * MOST_BEATS + MOST_SERVERS

-- the lines of both kinds
abbrev lines_in : Watching → ℕ
lines_in w = length w.script + length w.held

recovered_few : (at : ℕ) (w : Watching) (server : ℕ) → lines_in (recover_at at w server) ≤ lines_in w + 1
recovered_few at w server =
    either_recovers (λ v. lines_in v ≤ lines_in w + 1) at w server (λ up. omega arith)
    (λ down. omega (arith, length-append w.script (Recover at server ∷ [])))

fenced_few : (at : ℕ) (w : Watching) (server : ℕ) (gone : Option ℕ)
    → lines_in (fence_at at w server gone) ≤ lines_in w + 1
fenced_few at w server None = omega (arith, length-append w.script (Crash at server ∷ []))
fenced_few at w server (Some group) = let held : Held = record { at = at; server = server; group = group } in omega
    (arith, length-append w.held (held ∷ []))

judged_few : (ring : RingShape) (limit at : ℕ) (w : Watching) (server : ℕ)
    → lines_in (judge_at ring limit at w server) ≤ lines_in w + 1
judged_few ring limit at w server = elim (w.missed server == limit) as
    (λ t. lines_in (if t then fence_at at w server (gone_of ring (with_at w.live server false))
    else w) ≤ lines_in w + 1) [
      | true ↦ fenced_few at w server (gone_of ring (with_at w.live server false))
      | false ↦ omega arith
    ]

each_few : (step : Watching → ℕ → Watching) → ((w : Watching) (server : ℕ)
    → lines_in (step w server) ≤ lines_in w + 1) → (w : Watching) (servers : List ℕ)
    → lines_in (at_each step w servers) ≤ lines_in w + length servers
each_few step one w [] = omega arith
each_few step one w (server ∷ servers) = let first = one w server in
    let later = each_few step one (step w server) servers in omega (arith, first, later)

counted_few : (limit beaten : ℕ) (w : Watching) (servers : List ℕ)
    → lines_in (at_each (count_at limit beaten) w servers) ≤ lines_in w
counted_few limit beaten w [] = omega arith
counted_few limit beaten w (server ∷ servers) = counted_few limit beaten (count_at limit beaten w server) servers

tick_few : (ring : RingShape) (limit : ℕ) (w : Watching) (tick : Tick)
    → lines_in (tick_on ring limit w tick) ≤ lines_in w + 2 * ring.servers
tick_few ring limit w tick =
    let recovered = recover_all ring tick.at w in
    let counted = count_all ring limit tick.servers recovered in
    let one : lines_in recovered ≤ lines_in w + length (servers_of ring) = each_few (recover_at tick.at)
    (recovered_few tick.at) w (servers_of ring) in
    let two : lines_in counted ≤ lines_in recovered = counted_few limit tick.servers recovered (servers_of ring) in
    let three : lines_in (judge_all ring limit tick.at counted) ≤ lines_in counted + length
    (servers_of ring) = each_few (judge_at ring limit tick.at) (judged_few ring limit tick.at) counted
    (servers_of ring) in
    let size = length-range_with_len 0 ring.servers in
    omega (arith, one, two, three, size)

ticks_few : (ring : RingShape) (limit : ℕ) (w : Watching) (ticks : List Tick) → ring.servers ≤ MOST_SERVERS
    → lines_in (ticks_on ring limit w ticks) ≤ lines_in w + 2 * MOST_SERVERS * length ticks
ticks_few ring limit w [] small = omega arith
ticks_few ring limit w (tick ∷ ticks) small =
    let one = tick_few ring limit w tick in
    let later = ticks_few ring limit (tick_on ring limit w tick) ticks small in
    omega (arith, one, later)

pub watch_few : (ring : RingShape) (limit packets : ℕ) (ticks : List Tick) → ring.servers ≤ MOST_SERVERS
    → length ticks ≤ MOST_BEATS
    → length (watch_of ring limit packets ticks).script + length (watch_of ring limit packets ticks).held ≤ most_lines
watch_few ring limit packets ticks small few =
    let on : Watching = ticks_on ring limit at_start ticks in
    let one : lines_in on ≤ lines_in at_start + 2 * MOST_SERVERS * length ticks =
    ticks_few ring limit at_start ticks small in
    let last : lines_in (recover_all ring packets on) ≤ lines_in on + length (servers_of ring) = each_few
    (recover_at packets) (recovered_few packets) on (servers_of ring) in
    let size = length-range_with_len 0 ring.servers in
    omega (arith, one, last, size)

-- the lines that a watch keeps in the end
pub kept_few : (ring : RingShape) (limit packets : ℕ) (ticks given : List Tick) (one two : Kept)
    → ring.servers ≤ MOST_SERVERS → length given ≤ MOST_BEATS → ticks ≡ given
    → known one ≡ ticks_on ring limit at_start ticks
    → known two ≡ recover_all ring packets (known one) → length two.script + length two.held ≤ most_lines
kept_few ring limit packets ticks given one two small few same on last =
    let whole : known two ≡ watch_of ring limit packets given = last
    ∙ ap (recover_all ring packets) (on ∙ ap (ticks_on ring limit at_start) same) in
    subst (λ (w : Watching). length w.script + length w.held ≤ most_lines) (sym whole)
    (watch_few ring limit packets given small few)
