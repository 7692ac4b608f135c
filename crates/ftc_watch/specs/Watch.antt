-- What comes of heartbeats: which servers are fenced and when, and which can't be spared.
use Rattle.std.specs.Prelude.{ℕ, ◌+◌, ◌==◌, Bool, true, false, List, [], ◌∷◌, ◌++◌, min, Option, Some, None}
use Rattle.std.specs.Prelude.{if◌then◌else◌}
use Rattle.std.specs.List.{range_with_len}
use Rattle.ftc_base.specs.Sets.{has}
use Rattle.ftc_ring.specs.Ring.{RingShape}
use Rattle.ftc_ring.specs.Live.{gone_of}
use Rattle.ftc_script.specs.Steps.{with_at, all_live}
use Rattle.ftc_script.specs.declared.statement.Statement.{Statement}
use Rattle.ftc_script.specs.declared.statement.Statement.TheVariants.{Crash, Recover}
use Rattle.ftc_watch.specs.declared.tick.Tick.{Tick}
use Rattle.ftc_watch.specs.declared.held.Held.{Held}

-- which servers are live, how many ticks each has missed, and the lines so far
pub record Watching : Type 0 where
  pub live : ℕ → Bool
  pub missed : ℕ → ℕ
  pub script : List Statement
  pub held : List Held

-- at the start all servers are up and have missed none
abbrev pub at_start : Watching
at_start = record { live = all_live; missed = λ server. 0; script = []; held = [] }

-- a down server gets its line, is up and has missed none
abbrev pub recover_at : ℕ → Watching → ℕ → Watching
recover_at at watching server =
    if watching.live server then watching else
    record {
      live = with_at watching.live server true;
      missed = with_at watching.missed server 0;
      script = watching.script ++ Recover at server ∷ [];
      held = watching.held;
    }

-- a server that beat has missed none, and another one more, up to the limit
abbrev pub missed_of : ℕ → Bool → ℕ → ℕ
missed_of limit beat missed = if beat then 0 else min (missed + 1) limit

abbrev pub count_at : ℕ → ℕ → Watching → ℕ → Watching
count_at limit beaten watching server =
    record {
      live = watching.live;
      missed = with_at watching.missed server (missed_of limit (has beaten server) (watching.missed server));
      script = watching.script;
      held = watching.held;
    }

-- a server goes down where each group keeps a live member, and is held where one doesn't
abbrev pub fence_at : ℕ → Watching → ℕ → Option ℕ → Watching
fence_at at watching server None =
    record {
      live = with_at watching.live server false;
      missed = watching.missed;
      script = watching.script ++ Crash at server ∷ [];
      held = watching.held;
    }
fence_at at watching server (Some group) =
    record {
      live = watching.live;
      missed = watching.missed;
      script = watching.script;
      held = watching.held ++ record { at = at; server = server; group = group } ∷ [];
    }

-- a server that has missed as many ticks as the limit
abbrev pub judge_at : RingShape → ℕ → ℕ → Watching → ℕ → Watching
judge_at ring limit at watching server =
    if watching.missed server == limit
    then fence_at at watching server (gone_of ring (with_at watching.live server false))
    else watching

-- a step at each of these servers, one after the other
abbrev pub at_each : (Watching → ℕ → Watching) → Watching → List ℕ → Watching
at_each step watching [] = watching
at_each step watching (server ∷ servers) = at_each step (step watching server) servers

-- all servers of a ring, in rising order
abbrev pub servers_of : RingShape → List ℕ
servers_of ring = range_with_len 0 ring.servers

abbrev pub recover_all : RingShape → ℕ → Watching → Watching
recover_all ring at watching = at_each (recover_at at) watching (servers_of ring)

abbrev pub count_all : RingShape → ℕ → ℕ → Watching → Watching
count_all ring limit beaten watching = at_each (count_at limit beaten) watching (servers_of ring)

abbrev pub judge_all : RingShape → ℕ → ℕ → Watching → Watching
judge_all ring limit at watching = at_each (judge_at ring limit at) watching (servers_of ring)

-- at a tick the down servers recover, then the beats count, then the silent servers are fenced or held
abbrev pub tick_on : RingShape → ℕ → Watching → Tick → Watching
tick_on ring limit watching tick =
    judge_all ring limit tick.at (count_all ring limit tick.servers (recover_all ring tick.at watching))

abbrev pub ticks_on : RingShape → ℕ → Watching → List Tick → Watching
ticks_on ring limit watching [] = watching
ticks_on ring limit watching (tick ∷ ticks) = ticks_on ring limit (tick_on ring limit watching tick) ticks

-- after the last tick the down servers recover, when all packets have entered
abbrev pub watch_of : RingShape → ℕ → ℕ → List Tick → Watching
watch_of ring limit packets ticks = recover_all ring packets (ticks_on ring limit at_start ticks)
