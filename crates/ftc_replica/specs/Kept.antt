-- Which kept logs a vector covers.
use Rattle.std.specs.Prelude.{ℕ, Bool, false, not, List, Option, Some, None, filter}
use Rattle.ftc_vector.specs.Vector.{need_of}
pub use Rattle.ftc_vector.specs.Order.{reaches}
unfoldable pub use Rattle.ftc_vector.specs.Order.{covers}
use Rattle.ftc_message.specs.Logged.{Logged}

-- the logs in the order of keeping, and how many more there is room for
pub record KeptLogs : Type 0 where
  pub items : List Logged
  pub spare : ℕ

-- the vector covers the log
abbrev pub covers_log : List ℕ → Logged → Bool
covers_log vector log = covers vector (need_of log.before log.changed)

-- the logs that the vector doesn't cover, in their order
abbrev pub missing : List ℕ → List Logged → List Logged
missing vector logs = filter (λ log. not (covers_log vector log)) logs

-- the log is covered by the vector by which logs were pruned, where they were
abbrev pub is_dropped : Option (List ℕ) → Logged → Bool
is_dropped None log = false
is_dropped (Some vector) log = covers_log vector log

-- the logs that aren't dropped, in their order
abbrev pub left : Option (List ℕ) → List Logged → List Logged
left pruned logs = filter (λ log. not (is_dropped pruned log)) logs
