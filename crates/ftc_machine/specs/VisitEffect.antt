-- What a visit does, by what is kept.
use Rattle.std.specs.Prelude.{ℕ, ◌≡◌, ◌<◌, ◌≤◌, ◌&&◌, nat_lt, length, List, [], ◌∷◌, ◌++◌, Option, Some, None}
use Rattle.std.specs.Prelude.{slice_get, slice_index_or, if◌then◌else◌}
use Rattle.ftc_base.specs.declared.ask.Answer.{Answer}
use Rattle.ftc_base.specs.declared.limits.TheConstants.{MOST_WRITES}
use Rattle.ftc_journal.specs.declared.event.VisitName.{VisitName}
use Rattle.ftc_mbox.specs.declared.rule.Rule.{Rule}
use Rattle.ftc_serial.specs.Contents.{content_at}
use Rattle.ftc_serial.specs.Take.{Outcome, taken}
use Rattle.ftc_store.specs.Store.{Stored}
use Rattle.ftc_machine.specs.declared.state.MachineState.{MachineState}
use Rattle.ftc_machine.specs.declared.state.message.Message.{Message}
use Rattle.ftc_protocol.specs.Changes.{is_some_list}
use Rattle.ftc_protocol.specs.Next.{bytes_in}
use Rattle.ftc_machine.specs.Simulation.{logs_in}
use Rattle.ftc_machine.specs.Slots.{slot_at}

-- the bytes that a message carries, none where there is no message
abbrev pub bytes_kept : Option Message → List ℕ
bytes_kept None = []
bytes_kept (Some message) = bytes_in message.packet

-- what the rule does with the packet of that number, over the server's own store
abbrev pub outcome_kept : MachineState → Rule → ℕ → ℕ → Outcome
outcome_kept machine rule server packet =
    taken rule (bytes_kept (slot_at machine.messages packet)) (content_at machine.stores.items server)

-- the logs of its message behind a visit that was given these answers
abbrev pub logs_behind : MachineState → ℕ → ℕ → List Answer → List VisitName
logs_behind machine server packet answers =
    if is_some_list answers && nat_lt 0 machine.ring.failures
    then logs_in (slot_at machine.messages packet) ++ record { server = server; packet = packet } ∷ []
    else logs_in (slot_at machine.messages packet)

-- there is room for what a visit of that packet at that server leaves
pub record HasRoom (machine : MachineState) (server packet : ℕ) : Type 0 where
  pub visits : packet < length (slice_index_or machine.visits.items server [])
  pub fates : packet < length machine.fates
  pub writes : (stored : Stored) → slice_get machine.stores.items server ≡ Some stored → MOST_WRITES ≤ stored.spare
