-- What a visit does to the numbers of the partitions that it touches and changes.
use Rattle.std.specs.Prelude.{ℕ, ◌+◌, List, Option, Some, None, if◌then◌else◌}
use Rattle.ftc_base.specs.declared.ask.Answer.{Answer}
use Rattle.ftc_base.specs.declared.ask.Write.{Write}
unfoldable pub use Rattle.ftc_base.specs.Touched.{is_touched, is_changed}
use Rattle.ftc_vector.specs.Vector.{by_partition, number_at}

-- the vector has 1 more in each changed partition
abbrev pub vector_after : ℕ → List Write → List ℕ → List ℕ
vector_after partitions writes vector =
    by_partition (λ partition. if is_changed partitions writes partition then number_at vector partition + 1
    else number_at vector partition)

-- the numbers of the touched partitions
abbrev pub numbers_before : ℕ → List Answer → List ℕ → List (Option ℕ)
numbers_before partitions answers vector =
    by_partition (λ partition. if is_touched partitions answers partition then Some (number_at vector partition)
    else None)
