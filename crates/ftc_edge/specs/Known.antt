-- What is known of the tails, number by number.
use Rattle.std.specs.Prelude.{◌≡◌, ◌≤◌, ◌<◌, ℕ, false, List, Option, Some, [], slice_index_or}
use Rattle.ftc_vector.specs.Vector.{number_at, mark_at}
use Rattle.ftc_vector.specs.Commits.{vector_of}
use Rattle.ftc_edge.specs.declared.buffer.Withheld.{Withheld}
use Rattle.ftc_edge.specs.Due.{is_due}

-- the number that the tail of a group is known to have in a partition
abbrev pub known_at : List (List ℕ) → ℕ → ℕ → ℕ
known_at commits group partition = number_at (vector_of commits group) partition

-- the marks of a group, none where the list ends before it
abbrev pub marks_of_group : List (List (Option ℕ)) → ℕ → List (Option ℕ)
marks_of_group least group = slice_index_or least group []

-- no number of the marks is reached by the vector
abbrev pub IsBelowMarks : List ℕ → List (Option ℕ) → Type 0
IsBelowMarks vector marks =
    (partition number : ℕ) → mark_at marks partition ≡ Some number → number_at vector partition < number

-- no number of any group's marks is reached
abbrev pub AreLacking : List (List ℕ) → List (List (Option ℕ)) → Type 0
AreLacking commits least = (group : ℕ) → IsBelowMarks (vector_of commits group) (marks_of_group least group)

-- no packet from one place up to another is due
abbrev pub AreNotDue : List (List ℕ) → List Withheld → ℕ → ℕ → Type 0
AreNotDue commits items begin end =
    (place : ℕ) (other : Withheld) → begin ≤ place → place < end
    → is_due commits (slice_index_or items place other) ≡ false

-- as long as no number of the marks is reached, no packet from one place up to another is due
abbrev pub AreDelayed : List (List (Option ℕ)) → List Withheld → ℕ → ℕ → Type 0
AreDelayed least items begin end =
    (commits : List (List ℕ)) → AreLacking commits least → AreNotDue commits items begin end
