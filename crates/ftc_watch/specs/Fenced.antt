-- When a server is fenced.
use Rattle.std.specs.Prelude.{◌≢◌, ℕ, ◌+◌, ◌==◌, Bool, true, false, not, nat_lt, filter, Option, Some, None, List, []}
use Rattle.std.specs.Prelude.{◌∷◌, ◌++◌, if◌then◌else◌}
use Rattle.ftc_base.specs.Sets.{has}
use Rattle.ftc_ring.specs.Ring.{RingShape}
use Rattle.ftc_ring.specs.Live.{gone_of}
use Rattle.ftc_script.specs.Steps.{with_at}
use Rattle.ftc_script.specs.declared.statement.Statement.{Statement}
use Rattle.ftc_script.specs.declared.statement.Statement.TheVariants.{Nothing, Crash, Recover, Lose}
use Rattle.ftc_watch.specs.declared.held.Held.{Held}
use Rattle.ftc_watch.specs.declared.tick.Tick.{Tick}
use Rattle.ftc_watch.specs.Watch.{Watching}

-- the line fences another server, or none
abbrev pub IsNoCrashOf : ℕ → Statement → Type 0
IsNoCrashOf server Nothing = Unit {0}
IsNoCrashOf server (Crash at other) = other ≢ server
IsNoCrashOf server (Recover at other) = Unit {0}
IsNoCrashOf server (Lose link origin) = Unit {0}

-- at how many ticks in a row, up to the last one, a server hasn't beaten, where it hadn't at so many before
abbrev pub row_after : ℕ → ℕ → Tick → ℕ
row_after server row tick = if has tick.servers server then 0 else row + 1

abbrev pub row_from : ℕ → ℕ → List Tick → ℕ
row_from server row [] = row
row_from server row (tick ∷ ticks) = row_from server (row_after server row tick) ticks

-- which servers are live where, of those that are down, only the ones below a server are
abbrev pub earlier : ℕ → (ℕ → Bool) → ℕ → Bool
earlier server live other = if nat_lt other server then live other else true

-- the servers of a list that are down
abbrev pub downs_in : (ℕ → Bool) → List ℕ → List ℕ
downs_in live servers = filter (λ server. not (live server)) servers

-- the line of a server that is held for a group
abbrev pub held_line : ℕ → ℕ → Option ℕ → List Held
held_line at server None = []
held_line at server (Some group) = record { at = at; server = server; group = group } ∷ []

-- the lines of the servers, among these, that have missed as many ticks as the limit, and without which, where the ones
-- of smaller number that are down are down, a group has no live member
abbrev pub held_in : RingShape → ℕ → ℕ → Watching → List ℕ → List Held
held_in ring limit at watching [] = []
held_in ring limit at watching (server ∷ servers) =
    (if watching.missed server == limit
    then held_line at server (gone_of ring (with_at (earlier server watching.live) server false))
    else [])
    ++ held_in ring limit at watching servers
