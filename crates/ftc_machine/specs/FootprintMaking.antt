-- The footprint that a visit's answers and writes make, and a vector that has the last changes before it.
use Rattle.std.specs.Prelude.{ℕ, ◌≡◌, ◌==◌, Bool, List, map}
use Rattle.std.specs.List.{AllByRecursion, list_any}
use Rattle.ftc_base.specs.Partition.{partition_of}
use Rattle.ftc_base.specs.declared.ask.Answer.{Answer}
use Rattle.ftc_base.specs.declared.ask.Write.{Write}
use Rattle.ftc_vector.specs.Vector.{number_at}
use Rattle.ftc_machine.specs.declared.state.footprint.Touched.{Touched}
use Rattle.ftc_machine.specs.declared.state.footprint.Footprint.{Footprint}

-- some write's key lies in that partition, of so many
abbrev pub is_written : ℕ → List Write → ℕ → Bool
is_written partitions writes partition =
    list_any (λ (write : Write). partition_of partitions write.key == partition) writes

-- what is kept of an answer
pub record IsTouched (partitions : ℕ) (writes : List Write) (vector : List ℕ) (touched : Touched) : Type 0 where
  pub changed : touched.changed ≡ is_written partitions writes touched.partition
  pub before : touched.before ≡ number_at vector touched.partition

pub record IsFootprintMade (partitions : ℕ) (answers : List Answer) (writes : List Write) (vector : List ℕ)
    (footprint : Footprint) : Type 0 where
  pub touched : map (λ (touched : Touched). touched.partition) footprint.touched.items
      ≡ map (λ (answer : Answer). partition_of partitions answer.key) answers
  pub each : AllByRecursion (IsTouched partitions writes vector) footprint.touched.items
  pub written : footprint.writes.items ≡ writes
