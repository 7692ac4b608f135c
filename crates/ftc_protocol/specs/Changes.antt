-- Which partitions a visit touches, and which it changes.
use Rattle.std.specs.Prelude.{ℕ, ◌≡◌, Bool, true, false, List, [], ◌∷◌, map, ◌==◌}
use Rattle.std.specs.List.{list_any}
use Rattle.ftc_base.specs.Partition.{partition_of}
use Rattle.ftc_base.specs.declared.ask.Answer.{Answer}
use Rattle.ftc_base.specs.declared.ask.Write.{Write}
use Rattle.ftc_serial.specs.Words.{AnyOf}
use Rattle.ftc_serial.specs.Take.{Outcome}
use Rattle.ftc_serial.specs.Entries.{Touches}

-- The partitions that a visit changes, of so many: those of the keys that it wrote.
unfoldable pub changes : ℕ → Outcome → List ℕ
changes partitions outcome = map (λ (write : Write). partition_of partitions write.key) outcome.writes

-- the visit changes that partition
abbrev pub Changes : ℕ → Outcome → ℕ → Type 0
Changes partitions outcome partition = AnyOf (λ (changed : ℕ). changed ≡ partition) (changes partitions outcome)

abbrev pub is_some_list : {Item : Type 0} → List Item → Bool
is_some_list [] = false
is_some_list (item ∷ items) = true

-- it touches something; it changes something
abbrev pub is_touching : Outcome → Bool
is_touching outcome = is_some_list outcome.answers

abbrev pub is_changing : ℕ → Outcome → Bool
is_changing partitions outcome = is_some_list (changes partitions outcome)

-- the first changes a partition that the second touches
abbrev pub Meets : ℕ → Outcome → Outcome → Type 0
Meets partitions earlier later =
    (partition : ℕ) × Changes partitions earlier partition × Touches partitions later partition

-- the same as a test
abbrev pub meets : ℕ → Outcome → Outcome → Bool
meets partitions earlier later =
    list_any (λ (changed : ℕ). list_any
    (λ (answer : Answer). changed == partition_of partitions answer.key) later.answers) (changes partitions earlier)
