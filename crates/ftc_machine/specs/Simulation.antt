-- What an event does to what the machine keeps.
use Rattle.std.specs.Prelude.{ℕ, Bool, true, false, List, [], Option, Some, None}
use Rattle.ftc_journal.specs.declared.event.Event.{Event}
use Rattle.ftc_journal.specs.declared.event.Event.TheVariants as event
use Rattle.ftc_journal.specs.declared.event.VisitName.{VisitName}
use Rattle.ftc_machine.specs.declared.state.MachineState.{MachineState}
use Rattle.ftc_machine.specs.declared.state.message.Message.{Message}
use Rattle.ftc_protocol.specs.Setting.{Setting}
use Rattle.ftc_protocol.specs.State.{ChainState}
use Rattle.ftc_protocol.specs.Next.{next}
use Rattle.ftc_machine.specs.Represents.{FollowsRun, Simulates}

-- what stood for a state after which the event may follow stands for the state after the event
abbrev pub SimulatesEvent : Setting → ChainState → Event → MachineState → MachineState → Type 0
SimulatesEvent setting state event old new =
    FollowsRun setting state event → Simulates setting state (next setting state event) old new

-- the logs of a message that may not be there
abbrev pub logs_in : Option Message → List VisitName
logs_in None = []
logs_in (Some message) = message.logs

-- the event by which a server sends a message on, by a link that loses it or not
abbrev pub sending : Bool → ℕ → ℕ → Event
sending true server origin = event.Lose server origin
sending false server origin = event.Pass server origin
