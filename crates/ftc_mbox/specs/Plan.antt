-- How a rule ends a visit, kept beside what it was asked with.
use Rattle.std.specs.Prelude.{ℕ, List, ◌≡◌, ⊤}
use Rattle.ftc_base.specs.declared.ask.Answer.{Answer}
use Rattle.ftc_base.specs.declared.ask.Finish.{Finish}
use Rattle.ftc_base.specs.declared.ask.Ask.{Ask}
use Rattle.ftc_base.specs.declared.ask.Ask.TheVariants.{Read, Finish as Ends}
use Rattle.ftc_mbox.specs.declared.rule.Rule.{Rule}
use Rattle.ftc_mbox.specs.Ask.{ask}

pub record Planned : Type 0 where
  pub rule : Rule
  pub packet : List ℕ
  pub answers : List Answer
  pub finish : Finish

-- the rule ends the visit of this packet so, after these answers
abbrev pub IsPlan : Planned → Type 0
IsPlan plan = ask plan.rule plan.packet plan.answers ≡ Ends plan.finish

-- the plan is of these three
abbrev pub IsPlanOf : Rule → List ℕ → List Answer → Planned → Type 0
IsPlanOf rule packet answers plan = (plan.rule ≡ rule) × (plan.packet ≡ packet) × (plan.answers ≡ answers)

-- a read comes next, so that nothing can be planned yet
abbrev pub IsRead : Ask → Type 0
IsRead (Read key change) = ⊤
IsRead (Ends finish) = ⊥
