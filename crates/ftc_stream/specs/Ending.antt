-- How a row of calls ends.
use Rattle.std.specs.Prelude.{Result, Ok, Err}

-- at Ok all calls answered Ok, and at Err the last one was refused
abbrev pub Ended : {S A E : Type 0} → (S → S → Type 0) → (S → S → E → Type 0) → Result A E → S → S → Type 0
Ended went broke (Ok answer) old new = went old new
Ended went broke (Err fault) old new = broke old new fault
