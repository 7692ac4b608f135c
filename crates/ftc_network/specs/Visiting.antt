-- A visit that is made whole, as the only one that runs at its server.
use Rattle.std.specs.Prelude.{ℕ, ◌≡◌, ◌≢◌, ◌++◌, [], ◌∷◌, true, List, length, Option, None, Some}
use Rattle.ftc_base.specs.declared.ask.Answer.{Answer}
use Rattle.ftc_base.specs.declared.ask.Finish.{Finish as End}
use Rattle.ftc_base.specs.declared.ask.Ask.TheVariants.{Finish}
use Rattle.ftc_protocol.specs.Setting.{Setting}
use Rattle.ftc_protocol.specs.State.{ChainState}
use Rattle.ftc_refinement.specs.Contents.{IsServerAt}
use Rattle.ftc_server.specs.declared.server.Server.{Server}
use Rattle.ftc_server.specs.Looks.{ask_in}
use Rattle.ftc_server.specs.Replicas.{may_rise}
use Rattle.ftc_server.specs.Steps.{HasVisited}
use Rattle.ftc_txn.specs.Head.{RunsUnwounded}
use Rattle.ftc_txn.specs.Slots.{Running, slot_at}
use Rattle.ftc_journal.specs.declared.event.Event.TheVariants as event
use Rattle.ftc_protocol.specs.Legal.{IsLegal}
use Rattle.ftc_protocol.specs.Next.{next}
use Rattle.ftc_protocol.specs.Run.{IsRunState}
use Rattle.ftc_visits.specs.Made.{AreMade}
use Rattle.ftc_visits.specs.declared.visit.MadeVisit.{MadeVisit}
use Rattle.ftc_network.specs.declared.network.Network.{Network}
use Rattle.ftc_network.specs.Stand.{IsSlot, IsNetwork, AreIdle}

-- it stands for the states for which the other stood
abbrev pub StandsFor : Server → Server → Type 0
StandsFor old new = (setting : Setting) (state : ChainState) (number : ℕ) →
    IsServerAt setting state number old → IsServerAt setting state number new

-- A slot runs the visit of a packet, with so many answers, and no other slot runs anything. The server stands for the
-- states for which it stood before, and withholds what it did.
pub record IsUnderWay (old now : Server) (worker packet count : ℕ) : Type 0 where
  pub stands : StandsFor old now
  pub withheld : now.buffer.items ≡ old.buffer.items
  pub rise : may_rise now.head.vector ≡ true
  pub running : Running
  pub runs : RunsUnwounded now.head worker running
  pub packet_is : running.packet ≡ packet
  pub count_is : length running.answers ≡ count
  pub others : (other : ℕ) → other ≢ worker → slot_at now.head.slots other ≡ None

-- The visit was made: what the slot ran before its commit had these answers. No slot runs anything any more.
pub record VisitsWhole (old new : Server) (worker packet : ℕ) (answers : List Answer) : Type 0 where
  pub before : Server
  pub stands : StandsFor old before
  pub withheld : new.buffer.items ≡ old.buffer.items
  pub running : Running
  pub runs : RunsUnwounded before.head worker running
  pub packet_is : running.packet ≡ packet
  pub answers_are : running.answers ≡ answers
  pub end : End
  pub asked : ask_in before worker ≡ Some (Finish end)
  pub visited : HasVisited before new worker running end
  pub idle : AreIdle new

-- A server that stood for a state in which the visit is legal stands for the state after it, and where visits were
-- those of the trace, they are it with this one.
abbrev pub SlotFollowsVisit : ℕ → ℕ → ℕ → Option Server → Option Server → MadeVisit → Type 0
SlotFollowsVisit worker server packet old new visit =
    (setting : Setting) (state : ChainState) (visits : List MadeVisit) →
    IsRunState setting state → IsLegal setting state (event.Visit server packet worker) →
    IsSlot setting state server old → AreMade setting state visits →
    ∥ IsSlot setting (next setting state (event.Visit server packet worker)) server new
    × AreMade setting (next setting state (event.Visit server packet worker)) (visits ++ visit ∷ []) ∥₁

abbrev pub FollowsVisit : ℕ → ℕ → ℕ → Network → Network → Type 0
FollowsVisit worker server packet old new = (setting : Setting) (state : ChainState) → IsRunState setting state →
    IsLegal setting state (event.Visit server packet worker) → IsNetwork setting state old →
    ∥ IsNetwork setting (next setting state (event.Visit server packet worker)) new ∥₁
