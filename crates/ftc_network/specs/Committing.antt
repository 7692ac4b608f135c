-- What the commit of what a slot runs does to one server, and the visit that it makes.
use Rattle.std.specs.Prelude.{ℕ, ◌≡◌, ◌++◌, [], ◌∷◌, ◌<◌, ◌-◌, ◌^◌, List, Option, Some, Result, Ok, Err}
use Rattle.ftc_base.specs.declared.ask.Finish.{Finish as End}
use Rattle.ftc_base.specs.declared.ask.Ask.TheVariants.{Finish}
use Rattle.ftc_journal.specs.declared.event.Event.TheVariants as event
use Rattle.ftc_protocol.specs.Drive.{IsNoneDue}
use Rattle.ftc_protocol.specs.Legal.{IsLegal}
use Rattle.ftc_protocol.specs.Next.{next}
use Rattle.ftc_protocol.specs.Run.{IsRunState}
use Rattle.ftc_protocol.specs.Setting.{Setting}
use Rattle.ftc_protocol.specs.State.{ChainState}
use Rattle.ftc_server.specs.declared.answers.CommitAnswer.{CommitAnswer}
use Rattle.ftc_server.specs.declared.answers.CommitAnswer.TheVariants.{Done}
use Rattle.ftc_server.specs.declared.server.Server.{Server}
use Rattle.ftc_server.specs.Looks.{ask_in}
use Rattle.ftc_server.specs.Steps.{HasVisited}
use Rattle.ftc_txn.specs.Head.{RunsUnwounded}
use Rattle.ftc_txn.specs.Slots.{Running}
use Rattle.ftc_visits.specs.Made.{AreMade, IsMadeBy}
use Rattle.ftc_visits.specs.declared.visit.MadeVisit.{MadeVisit}
use Rattle.ftc_network.specs.Slots.{head_of, runs_in}
use Rattle.ftc_network.specs.Stand.{IsSlot}

-- A run of few events leads to a state for which one server stands, which is up or down.
pub record IsAtRestAt (number : ℕ) (slot : Option Server) : Type 0 where
  pub setting : Setting
  pub state : ChainState
  pub run : IsRunState setting state
  pub few : state.events < 2 ^ 64 - 1
  pub stands : IsSlot setting state number slot

-- the answer to a commit of which a visit came, or else this answer
abbrev pub commit_answer : Result MadeVisit CommitAnswer → CommitAnswer
commit_answer (Ok visit) = Done
commit_answer (Err answer) = answer

-- The visit of what the slot ran is made, and it is this one.
pub record HasMade (old new : Server) (worker : ℕ) (visit : MadeVisit) : Type 0 where
  pub running : Running
  pub end : End
  pub runs : RunsUnwounded old.head worker running
  pub asked : ask_in old worker ≡ Some (Finish end)
  pub visited : HasVisited old new worker running end
  pub made : IsMadeBy new.partitions new.id running.packet running.answers new.head.vector visit

-- The visit of what the slot ran is legal in each state for which the server stood and in which no release is due. The
-- server stands for the state after it, and where visits were those of the trace, they are it with this one.
abbrev pub SlotFollowsCommit : ℕ → ℕ → Option Server → Option Server → MadeVisit → Type 0
SlotFollowsCommit worker server old new visit = (setting : Setting) (state : ChainState) (running : Running)
    (visits : List MadeVisit) → IsRunState setting state → IsNoneDue setting state → IsSlot setting state server old →
    runs_in (head_of old) worker ≡ Some running → AreMade setting state visits →
    ∥ IsLegal setting state (event.Visit server running.packet worker)
    × IsSlot setting (next setting state (event.Visit server running.packet worker)) server new
    × AreMade setting (next setting state (event.Visit server running.packet worker)) (visits ++ visit ∷ []) ∥₁
