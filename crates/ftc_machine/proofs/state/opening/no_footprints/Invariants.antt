-- there is one for each server so far
use Rattle.std.proofs.Common.{◌≡◌, length}
use Rattle.ftc_machine.proofs.state.opening.no_footprints.Given as goal

abbrev pub invariant-loop : goal.invariant-loop
invariant-loop l = record { count : length l.visits.items ≡ l.counter }
