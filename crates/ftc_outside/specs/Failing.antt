-- What a failing desk shows: the desk below it, the numbers of the calls that are to fail, how many calls were made,
-- how many failed.
use Rattle.std.specs.Prelude.{ℕ, ◌≤◌, List, Option, Contains}
use Rattle.ftc_outside.specs.Memory.{file_of}
use Rattle.ftc_outside.specs.declared.memory.MemoryDesk.{MemoryDesk}
use Rattle.ftc_outside.specs.declared.failing.FailingDesk.{FailingDesk}

abbrev pub inner_of : FailingDesk → MemoryDesk
inner_of desk = desk.inner

abbrev pub listed_of : FailingDesk → List ℕ
listed_of desk = desk.listed.items

abbrev pub calls_of : FailingDesk → ℕ
calls_of desk = desk.calls

abbrev pub failing_faults : FailingDesk → ℕ
failing_faults desk = desk.faults

abbrev pub shown_of : FailingDesk → List ℕ → Option (List ℕ)
shown_of desk name = file_of desk.inner name

-- no listed call is left
abbrev pub IsSoundDesk : FailingDesk → Type 0
IsSoundDesk desk = (call : ℕ) → desk.calls ≤ call → Contains desk.listed.items call → ⊥
