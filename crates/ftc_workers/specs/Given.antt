-- What a call leaves of a chain.
use Rattle.std.specs.Prelude.{ℕ, ◌≡◌, ◌+◌, List}
use Rattle.ftc_mbox.specs.Chain.{Chain}
use Rattle.ftc_script.specs.Script.{ScriptShape}
use Rattle.ftc_server.specs.declared.answers.CommitAnswer.{CommitAnswer}
use Rattle.ftc_server.specs.declared.answers.CommitAnswer.TheVariants as answer
use Rattle.ftc_chain.specs.ChainRun.{ChainRun}
use Rattle.ftc_workers.specs.Visits.{visits}

-- what a chain was given: its middleboxes, the packets and the script
pub record Given : Type 0 where
  pub chain : Chain
  pub packets : List (List ℕ)
  pub script : ScriptShape

abbrev pub given_of : ChainRun → Given
given_of run = record { chain = run.chain; packets = run.packets; script = run.script }

-- it has what it was given, the same packets were taken out, and its journal has so many visits more
pub record HasGone (more : ℕ) (old new : ChainRun) : Type 0 where
  pub given : given_of new ≡ given_of old
  pub packets : new.packets ≡ old.packets
  pub drained : new.drained ≡ old.drained
  pub visits_more : visits new.journal ≡ visits old.journal + more

-- how many visits a commit with this answer makes
abbrev pub made_by : CommitAnswer → ℕ
made_by answer.Done = 1
made_by (answer.Wounded by) = 0
made_by answer.Idle = 0
made_by (answer.Unfinished key) = 0
made_by answer.NoMemory = 0
