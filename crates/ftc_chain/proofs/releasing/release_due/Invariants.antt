use Rattle.std.proofs.Common.{◌≤◌}
use Rattle.ftc_network.specs.Parts.{withheld_in}
use Rattle.ftc_network.specs.Slots.{AreSameHeads}
use Rattle.ftc_protocol.specs.Setting.{Setting}
use Rattle.ftc_chain.specs.Course.{IsCourse}
use Rattle.ftc_chain.proofs.Releases.{IsReleasing}
use Rattle.ftc_chain.proofs.releasing.release_due.Given as goal

abbrev pub invariant-loop-freed : goal.invariant-loop-freed
invariant-loop-freed l = (withheld_in l.course.network ≤ l.course.journal.spare)
    × (withheld_in l.course.network ≤ l.course.outlet.spare)
    × ((setting : Setting) → IsCourse setting l.fn.course → IsReleasing setting l.fn.course l.course)
    × AreSameHeads l.fn.course.network l.course.network

abbrev pub decreases-loop-freed : goal.decreases-loop-freed
decreases-loop-freed l = withheld_in l.course.network
