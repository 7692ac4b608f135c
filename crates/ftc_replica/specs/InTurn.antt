-- Logs that are applied one after another.
use Rattle.std.specs.Prelude.{ℕ, ◌<◌, ◌≤◌, List, [], ◌∷◌}
use Rattle.ftc_base.specs.declared.limits.TheConstants.{MOST_PARTITIONS}
use Rattle.ftc_vector.specs.Vector.{number_at, raised}
use Rattle.ftc_vector.specs.Order.{IsLogReady}
use Rattle.ftc_message.specs.Logged.{Logged}
use Rattle.ftc_replica.specs.Held.{Held, applied}

-- what a replica has after these logs
abbrev pub applied_all : List Logged → Held → Held
applied_all [] held = held
applied_all (log ∷ logs) held = applied_all logs (applied log held)

-- each log is ready at the vector that those in front of it leave, and no number there is above `most`
abbrev pub AreReadyInTurn : ℕ → List ℕ → List Logged → Type 0
AreReadyInTurn most vector [] = Unit {0}
AreReadyInTurn most vector (log ∷ logs) =
    IsLogReady vector log.before log.changed
    × ((partition : ℕ) → partition < MOST_PARTITIONS → number_at vector partition ≤ most)
    × AreReadyInTurn most (raised vector log.changed) logs
