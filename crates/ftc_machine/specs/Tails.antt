-- What is kept of some groups alone, and what a server knows to be at the tails.
use Rattle.std.specs.Prelude.{ℕ, ◌==◌, Bool, List, if◌then◌else◌}
use Rattle.ftc_ring.specs.Groups.{group_ending_at}
use Rattle.ftc_vector.specs.Vector.{by_partition, merged}
use Rattle.ftc_vector.specs.Commits.{by_group, vector_of, all_merged}
use Rattle.ftc_machine.specs.declared.state.MachineState.{MachineState}
use Rattle.ftc_machine.specs.Represents.{frontiers_of}

-- how far a set reaches of these groups' visits alone
abbrev pub part_of : (ℕ → Bool) → List (List ℕ) → List (List ℕ)
part_of groups reach = by_group (λ group. if groups group then merged (by_partition (λ _. 0))
    (vector_of reach group) else by_partition (λ _. 0))

-- how far reaches what a server knows to be at the tails: of the group whose tail it is, at least as far as its own
-- list
abbrev pub known_at : MachineState → ℕ → List (List ℕ)
known_at machine server =
    all_merged (frontiers_of machine.known.items server)
    (part_of (λ group. group == group_ending_at machine.ring server) (frontiers_of machine.lists.items server))
