-- A rule that is asked in turn, with an answer for each key that it asks for.
use Rattle.std.specs.Prelude.{ℕ, ◌≡◌, ◌≢◌, ◌<◌, ◌++◌, true, List, [], ◌∷◌, length, None}
use Rattle.std.specs.List.{AllByRecursion}
use Rattle.ftc_base.specs.declared.limits.TheConstants.{MOST_READS}
use Rattle.ftc_base.specs.declared.ask.Answer.{Answer}
use Rattle.ftc_base.specs.declared.ask.Write.{Write}
use Rattle.ftc_base.specs.declared.ask.Ask.{Ask}
use Rattle.ftc_base.specs.declared.ask.Ask.TheVariants.{Read, Finish}
use Rattle.ftc_base.specs.Keys.{keys_rise}
use Rattle.ftc_mbox.specs.declared.rule.Rule.{Rule}
use Rattle.ftc_mbox.specs.Ask.{ask}

-- the key is what it asks for
abbrev pub Asks : List ℕ → Ask → Type 0
Asks key (Read asked change) = asked ≡ key
Asks key (Finish end) = ⊥

-- each answer's key is the one that is asked for after the earlier answers
abbrev pub AllInTurn : (List Answer → Ask) → List Answer → Type 0
AllInTurn asks [] = Unit {0}
AllInTurn asks (answer ∷ answers) = Asks answer.key (asks []) × AllInTurn (λ more. asks (answer ∷ more)) answers

abbrev pub InTurn : Rule → List ℕ → List Answer → Type 0
InTurn rule packet answers = AllInTurn (ask rule packet) answers

-- the key was asked for before the last of these answers, with leave to write there
pub record IsLent (asks : List Answer → Ask) (answers : List Answer) (key : List ℕ) : Type 0 where
  pub earlier : List Answer
  pub answer : Answer
  pub later : List Answer
  pub whole : answers ≡ earlier ++ answer ∷ later
  pub lent : asks earlier ≡ Read key true

-- what comes after answers in turn: a key that is asked for is new, and there are few answers yet; a visit that ends
-- writes by rising key, and only at keys that were asked for with leave
abbrev pub ComesNext : (List Answer → Ask) → List Answer → Ask → Type 0
ComesNext asks answers (Read key change) =
    (length answers < MOST_READS) × AllByRecursion (λ (answer : Answer). key ≢ answer.key) answers
ComesNext asks answers (Finish end) =
    (keys_rise None end.writes.items ≡ true)
    × AllByRecursion (λ (write : Write). IsLent asks answers write.key) end.writes.items
