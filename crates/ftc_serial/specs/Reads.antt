-- Which keys a visit read.
use Rattle.std.specs.Prelude.{ℕ, ◌≡◌, List}
use Rattle.ftc_base.specs.declared.ask.Answer.{Answer}
use Rattle.ftc_serial.specs.Words.{AnyOf}

-- one of the answers is of this key
abbrev pub IsRead : List Answer → List ℕ → Type 0
IsRead answers key = AnyOf (λ (answer : Answer). answer.key ≡ key) answers
