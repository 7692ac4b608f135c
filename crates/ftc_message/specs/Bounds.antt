-- What holds of logs, needs and commits by their types.
use Rattle.std.specs.Prelude.{◌≡◌, ◌≤◌, ◌<◌, ◌^◌, ℕ, true, List, length, Option, None, IsSome, IfSome}
use Rattle.std.specs.List.{AllByRecursion}
use Rattle.ftc_base.specs.Sets.{has}
use Rattle.ftc_base.specs.declared.ask.Write.{Write}
use Rattle.ftc_base.specs.declared.limits.TheConstants.{MOST_SERVERS, MOST_KEY_BYTES, MOST_VALUE_BYTES, MOST_WRITES}
use Rattle.ftc_vector.specs.Vector.{mark_at, AreMarks, IsVector}
use Rattle.ftc_vector.specs.Commits.{vector_of}
use Rattle.ftc_message.specs.declared.need.Need.{Need}
use Rattle.ftc_message.specs.Logged.{Logged, keys_rise, logs_rise, needs_rise}

-- a key of 1 to 16 bytes, and a value of at most 16
pub record IsWrite (write : Write) : Type 0 where
  pub key_some : 1 ≤ length write.key
  pub key_few : length write.key ≤ MOST_KEY_BYTES
  pub value_few : IfSome write.value (λ value. length value ≤ MOST_VALUE_BYTES)

-- what the type Log holds
pub record IsLog (log : Logged) : Type 0 where
  pub group : log.group < MOST_SERVERS
  pub origin : log.origin < 2 ^ 32
  pub before : AreMarks log.before
  pub changed_marked : (partition : ℕ) → has log.changed partition ≡ true → IsSome (mark_at log.before partition)
  pub few_writes : length log.writes ≤ MOST_WRITES
  pub writes : AllByRecursion IsWrite log.writes
  pub keys : keys_rise None log.writes ≡ true

-- what the type Logs holds
pub record AreLogs (logs : List Logged) : Type 0 where
  pub each : AllByRecursion IsLog logs
  pub rising : logs_rise None logs ≡ true

pub record IsNeed (need : Need) : Type 0 where
  pub group : need.group < MOST_SERVERS
  pub marks : AreMarks need.marks

-- what the type Needs holds
pub record AreNeeds (needs : List Need) : Type 0 where
  pub each : AllByRecursion IsNeed needs
  pub rising : needs_rise 0 needs ≡ true

-- what the type Commits holds
pub record AreCommits (commits : List (List ℕ)) : Type 0 where
  pub size : length commits ≡ MOST_SERVERS
  pub each : (group : ℕ) → group < MOST_SERVERS → IsVector (vector_of commits group)

-- at least one partition has a number
pub record MarksSome (marks : List (Option ℕ)) : Type 0 where
  pub some : (partition : ℕ) × IsSome (mark_at marks partition)
