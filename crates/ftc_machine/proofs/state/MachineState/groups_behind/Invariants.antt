-- the set has those of the groups so far
use Rattle.std.proofs.Common.{◌≡◌, ◌&&◌, ℕ, nat_lt}
use Rattle.ftc_base.specs.Sets.{has}
use Rattle.ftc_ring.specs.Groups.{is_later_member}
use Rattle.ftc_machine.proofs.state.MachineState.groups_behind.Given as goal

abbrev pub invariant-loop-number : goal.invariant-loop-number
invariant-loop-number l = (group : ℕ) →
    has l.groups group ≡ (nat_lt group l.number && is_later_member l.self.ring group l.server)
