-- A log without its bounds, and the order in which writes, logs and needs stand.
use Rattle.std.specs.Prelude.{ℕ, ◌+◌, Bool, true, ◌&&◌, ◌||◌, ◌==◌, nat_lt, nat_le, List, [], ◌∷◌, Option, Some, None}
use Rattle.ftc_base.specs.declared.ask.Write.{Write}
pub use Rattle.ftc_base.specs.Keys.{key_follows, keys_rise}
use Rattle.ftc_message.specs.declared.need.Need.{Need}

-- what a visit left: its group, its packet, the numbers that the touched partitions had before, which of these
-- partitions it changed, and its writes
pub record Logged : Type 0 where
  pub group : ℕ
  pub origin : ℕ
  pub before : List (Option ℕ)
  pub changed : ℕ
  pub writes : List Write

-- a log of that origin and group is greater than the log before it
abbrev pub log_follows : Option (ℕ × ℕ) → ℕ → ℕ → Bool
log_follows None origin group = true
log_follows (Some last) origin group = nat_lt last.0 origin || (last.0 == origin && nat_lt last.1 group)

-- logs rise by origin and group, behind a log of that origin and group
abbrev pub logs_rise : Option (ℕ × ℕ) → List Logged → Bool
logs_rise last [] = true
logs_rise last (log ∷ logs) = log_follows last log.origin log.group && logs_rise (Some (log.origin, log.group)) logs

-- needs rise by group, from that group on
abbrev pub needs_rise : ℕ → List Need → Bool
needs_rise from [] = true
needs_rise from (need ∷ needs) = nat_le from need.group && needs_rise (need.group + 1) needs
