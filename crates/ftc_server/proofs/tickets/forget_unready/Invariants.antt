-- the numbers of the messages so far that lack a log are forgotten
use Rattle.std.proofs.Common.{◌≡◌, ◌≤◌, ℕ, None, cond, take}
use Rattle.std.specs.Prelude.{nat_eq}
use Rattle.std.specs.List.{filter}
use Rattle.std.specs.Map.{lookup}
use Rattle.std.specs.HashMap.{spare as map_spare}
use Rattle.ftc_server.specs.Holding.{is_held}
use Rattle.ftc_server.specs.Replicas.{lacks_log}
use Rattle.ftc_server.proofs.tickets.forget_unready.Given as goal

abbrev pub invariant-loop-place : goal.invariant-loop-place
invariant-loop-place l = record {
  numbers : (origin : ℕ) → lookup (nat_eq origin) l.by_origin.entries
      ≡ cond (is_held origin (filter (lacks_log l.replicas) (take l.place l.list.items))) None
      (lookup (nat_eq origin) l.fn.by_origin.entries);
  room : map_spare l.fn.by_origin ≤ map_spare l.by_origin;
}
