-- What a watch keeps, as what it knows.
use Rattle.std.specs.Prelude.{ℕ, List, slice_index}
use Rattle.ftc_ring.specs.Live.{is_live}
use Rattle.ftc_script.specs.declared.statement.Statement.{Statement}
use Rattle.ftc_watch.specs.declared.held.Held.{Held}
use Rattle.ftc_watch.specs.Watch.{Watching}

-- the set of the down servers, and how many ticks each server has missed
pub record Kept : Type 0 where
  pub down : ℕ
  pub missed : List ℕ
  pub script : List Statement
  pub held : List Held

-- the same as functions of the servers
abbrev pub known : Kept → Watching
known kept = record {
  live = is_live kept.down;
  missed = λ server. slice_index kept.missed server;
  script = kept.script;
  held = kept.held;
}
