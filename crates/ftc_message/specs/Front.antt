-- What a reader of the front answers.
use Rattle.std.specs.Prelude.{◌≡◌, ℕ, List, Result, Ok, Err, ⊤}
use Rattle.std.specs.Borrow.{Bor}
use Rattle.ftc_base.specs.declared.refusal.Refuse.{Refuse}
use Rattle.ftc_base.specs.declared.refusal.Refuse.TheVariants.{Bad, NoMemory}
use Rattle.ftc_message.specs.declared.fault.FieldFault.{FieldFault}

-- a call that takes no memory answers what the grammar says
abbrev pub IsField : {A : Type 0} → Result (A × Bor (List ℕ)) FieldFault → Result (A × List ℕ) FieldFault → Type 0
IsField (Ok found) told = told ≡ Ok (found.0, found.1.now)
IsField (Err fault) told = told ≡ Err fault

-- the same, unless memory was refused
abbrev pub IsFront : {A : Type 0} → Result (A × Bor (List ℕ)) (Refuse FieldFault) → Result (A × List ℕ) FieldFault →
    Type 0
IsFront (Ok found) told = told ≡ Ok (found.0, found.1.now)
IsFront (Err (Bad fault)) told = told ≡ Err fault
IsFront (Err NoMemory) told = ⊤

-- the same of bytes that are taken as they are
abbrev pub IsTaken : Result (Bor (List ℕ) × Bor (List ℕ)) FieldFault → Result (List ℕ × List ℕ) FieldFault → Type 0
IsTaken (Ok found) told = told ≡ Ok (found.0.now, found.1.now)
IsTaken (Err fault) told = told ≡ Err fault

-- a call that takes no memory answers what the grammar says, its value seen so
abbrev pub IsFieldBy : {A B : Type 0} → (A → B) → Result (A × Bor (List ℕ)) FieldFault →
    Result (B × List ℕ) FieldFault → Type 0
IsFieldBy view (Ok found) told = told ≡ Ok (view found.0, found.1.now)
IsFieldBy view (Err fault) told = told ≡ Err fault

-- the same of a value that is put into a place
abbrev pub IsPlaced : {A : Type 0} → Result (Bor (List ℕ)) FieldFault → A → Result (A × List ℕ) FieldFault → Type 0
IsPlaced (Ok rest) value told = told ≡ Ok (value, rest.now)
IsPlaced (Err fault) value told = told ≡ Err fault

-- the same of the bytes alone that are left
abbrev pub IsRest : Result (Bor (List ℕ)) FieldFault → Result (List ℕ) FieldFault → Type 0
IsRest (Ok rest) told = told ≡ Ok rest.now
IsRest (Err fault) told = told ≡ Err fault
