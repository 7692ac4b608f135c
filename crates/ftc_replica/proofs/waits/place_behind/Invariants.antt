-- none so far waits for the number
use Rattle.std.proofs.Common.{◌≡◌, ◌<◌, ℕ, false, slice_index_or}
use Rattle.ftc_replica.specs.declared.waits.Ticketed.{Ticketed}
use Rattle.ftc_replica.specs.Tickets.{waits_for_number}
use Rattle.ftc_replica.proofs.waits.place_behind.Given as goal

abbrev pub invariant-loop-place : goal.invariant-loop-place
invariant-loop-place l =
    (k : ℕ) (other : Ticketed) → k < l.place → waits_for_number l.number (slice_index_or l.held.items k other) ≡ false
