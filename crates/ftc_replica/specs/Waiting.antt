-- The waits of logs for numbers.
use Rattle.std.specs.Prelude.{ℕ, Bool, ◌&&◌, ◌==◌, List, ◌++◌}
use Rattle.std.specs.List.{before_first, after_first}
use Rattle.ftc_replica.specs.declared.waits.Wait.{Wait}

-- the waits in the order of adding, and how many more there is room for
pub record WaitList : Type 0 where
  pub items : List Wait
  pub spare : ℕ

-- it waits for that number of that partition of that group
abbrev pub waits_for : ℕ → ℕ → ℕ → Wait → Bool
waits_for group partition number wait = wait.group == group && (wait.partition == partition && wait.number == number)

-- those before the first that waits for it and those after it; all where none does
abbrev pub without_first : ℕ → ℕ → ℕ → List Wait → List Wait
without_first group partition number items =
    before_first (waits_for group partition number) items ++ after_first (waits_for group partition number) items
