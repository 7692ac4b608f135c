-- the vector has what the touched so far leave in it
use Rattle.std.proofs.Common.{◌≡◌, ℕ, take}
use Rattle.ftc_vector.specs.Vector.{number_at}
use Rattle.ftc_machine.specs.FootprintMarks.{marked_by}
use Rattle.ftc_machine.proofs.state.footprint.Footprint.mark.Given as goal

abbrev pub invariant-loop-touched : goal.invariant-loop-touched
invariant-loop-touched l =
    (partition : ℕ) → number_at l.vector partition
    ≡ marked_by (take l.touched-index l.touched-items) l.self.number (number_at l.initial.vector) partition
