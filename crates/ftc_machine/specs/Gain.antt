-- What one set of visits has and another lacks, by how far they reach.
use Rattle.std.specs.Prelude.{ℕ, ◌≢◌, ◌<◌, List}
use Rattle.ftc_base.specs.declared.limits.TheConstants.{MOST_PARTITIONS, MOST_SERVERS}
use Rattle.ftc_vector.specs.Vector.{number_at}
use Rattle.ftc_vector.specs.Commits.{vector_of}

-- some number of the one is greater than that of the other
abbrev pub Exceeds : List ℕ → List ℕ → Type 0
Exceeds one other = (partition : ℕ) × (partition < MOST_PARTITIONS)
    × (number_at other partition < number_at one partition)

-- some other group's than that
abbrev pub HasGain : List (List ℕ) → List (List ℕ) → ℕ → Type 0
HasGain one other except = (group : ℕ) × (group < MOST_SERVERS) × (group ≢ except)
    × Exceeds (vector_of one group) (vector_of other group)
