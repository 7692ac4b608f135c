-- What a call answers that may be refused for a fault or for want of memory.
use Rattle.std.specs.Prelude.{◌≡◌, ⊤, Result, Ok, Err}
use Rattle.ftc_base.specs.declared.refusal.Refuse.{Refuse}
use Rattle.ftc_base.specs.declared.refusal.Refuse.TheVariants.{Bad, NoMemory}

-- a call answers what the grammar says, unless memory was refused
abbrev pub IsReading : {A F : Type 0} → Result A (Refuse F) → Result A F → Type 0
IsReading (Ok value) told = told ≡ Ok value
IsReading (Err (Bad fault)) told = told ≡ Err fault
IsReading (Err NoMemory) told = ⊤

-- what holds of the fault, where a call was refused for one
abbrev pub IfBad : {A F : Type 0} → Result A (Refuse F) → (F → Type 0) → Type 0
IfBad (Ok value) P = ⊤
IfBad (Err (Bad fault)) P = P fault
IfBad (Err NoMemory) P = ⊤
