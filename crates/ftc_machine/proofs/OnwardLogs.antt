-- The logs with which messages go on, as they are kept.
use Rattle.std.proofs.Common.{◌≡◌, ℕ, ◌<◌, ◌==◌, ◌&&◌, ◌||◌, Bool, true, false, not, List, Option, Some, None, refl}
use Rattle.std.proofs.Common.{sym, ◌∙◌, ap}
use Rattle.ftc_journal.specs.declared.event.Event.{Event}
use Rattle.ftc_journal.specs.declared.event.VisitName.{VisitName}
use Rattle.ftc_serial.specs.Serial.{Entry}
use Rattle.ftc_serial.specs.Trace.{names}
use Rattle.ftc_machine.specs.declared.state.MachineState.{MachineState}
use Rattle.ftc_machine.specs.declared.state.message.Message.{Message as MessageOfMachine}
use Rattle.ftc_machine.specs.Simulation.{logs_in}
use Rattle.ftc_machine.specs.Represents.{Represents, IsMessageSlot, FollowsRun, footprints_in}
use Rattle.ftc_protocol.specs.Next.{logs_of}
use Rattle.ftc_machine.specs.Frontier.{Numbers, numbers_of}
use Rattle.ftc_protocol.specs.Setting.{Setting, servers, is_tail}
use Rattle.ftc_machine.specs.Slots.{slot_at}
use Rattle.ftc_protocol.specs.State.{ChainState, Message}
use Rattle.ftc_ring.specs.Groups.{group_ending_at}
use Rattle.ftc_machine.proofs.LegalEvents.{reached_before}
use Rattle.ftc_machine.proofs.GroupTails.{ends_here}

logs_alike : (partitions : ℕ) (trace : List Entry) (numbers : Numbers) (o : Option Message)
    (slot : Option MessageOfMachine) → IsMessageSlot partitions trace numbers o slot
    → (group packet : ℕ) → names (logs_in slot) group packet ≡ logs_of o group packet
logs_alike partitions trace numbers None None is group packet = refl
logs_alike partitions trace numbers None (Some kept) is group packet = absurd is
logs_alike partitions trace numbers (Some message) None is group packet = absurd is
logs_alike partitions trace numbers (Some message) (Some kept) is group packet = is.logs group packet

-- where the first test is true, the second tests agree
same_and : (first second other : Bool) → (first ≡ true → second ≡ other) → (first && second) ≡ (first && other)
same_and true second other same = same refl
same_and false second other same = refl

module _ (c : Setting) (s : ChainState) (event : Event) (may : FollowsRun c s event) (k : MachineState)
    (is : Represents c s k) where
  -- logs are of the chain's groups
  log_below : (origin : ℕ) (o : Option Message) → s.message origin ≡ o → (group packet : ℕ) →
      logs_of o group packet ≡ true → group < servers c
  log_below origin None there group packet log = absurd (cc)
  log_below origin (Some message) there group packet log =
      ((reached_before c s event may).order.rides origin group packet message there log).0

  -- those that go on from a server
  pub logs_go_on : (server origin : ℕ) → server < servers c → (list : List VisitName)
      → ((group packet : ℕ) → names list group packet
      ≡ ((names (logs_in (slot_at k.messages origin)) group packet && not (group == group_ending_at k.ring server))
      || ((server == 0) && names k.forwarder group packet)))
      → (group packet : ℕ) → names list group packet
      ≡ ((logs_of (s.message origin) group packet && not (is_tail c group server))
      || ((server == 0) && s.forwarder group packet))
  logs_go_on server origin below list are group packet =
      are group packet
      ∙ ap (λ b. (b && not (group == group_ending_at k.ring server))
      || ((server == 0) && names k.forwarder group packet))
      (logs_alike c.partitions s.trace (numbers_of (footprints_in k.visits.items)) (s.message origin)
      (slot_at k.messages origin) (is.sets.messages origin) group packet)
      ∙ ap (λ b. b || ((server == 0) && names k.forwarder group packet))
      (same_and (logs_of (s.message origin) group packet) (not (group == group_ending_at k.ring server))
      (not (is_tail c group server))
      (λ log. ap not (sym (ends_here c s event may k is group server
      (log_below origin (s.message origin) refl group packet log) below))))
      ∙ ap (λ b. (logs_of (s.message origin) group packet && not (is_tail c group server))
      || ((server == 0) && b)) (is.forwarder group packet)
