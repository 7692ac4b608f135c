-- What is kept tells what a visit does, and which logs its message has then.
use Rattle.std.proofs.Common.{◌≡◌, ℕ, ◌==◌, ◌&&◌, ◌||◌, if◌then◌else◌, Bool, true, false, List, [], ◌∷◌, ◌++◌, Option}
use Rattle.std.proofs.Common.{Some, None, inl, inr, refl, sym, ◌∙◌, ap, eq-eqb}
use Rattle.std.specs.Prelude.{nat_lt}
use Rattle.std.proofs.lemmas.Bool.{cases_eq, ne_eqb}
use Rattle.std.proofs.Math.Bool.{and-false}
use Rattle.ftc_base.specs.declared.ask.Answer.{Answer}
use Rattle.ftc_base.proofs.Numbers.{eqb-swap}
use Rattle.ftc_base.proofs.Bools.{or_without}
use Rattle.ftc_journal.specs.declared.event.Event.TheVariants as event
use Rattle.ftc_journal.specs.declared.event.VisitName.{VisitName}
use Rattle.ftc_mbox.specs.declared.rule.Rule.{Rule}
use Rattle.ftc_ring.specs.Ring.{RingShape}
use Rattle.ftc_serial.specs.Contents.{content_at}
use Rattle.ftc_serial.specs.Serial.{Entry}
use Rattle.ftc_serial.specs.Take.{taken}
use Rattle.ftc_serial.specs.Trace.{names}
use Rattle.ftc_store.specs.Store.{Content}
use Rattle.ftc_machine.specs.declared.state.MachineState.{MachineState}
use Rattle.ftc_machine.specs.declared.state.message.Message.{Message as MessageOfMachine}
use Rattle.ftc_protocol.specs.Changes.{is_some_list}
use Rattle.ftc_machine.specs.Represents.{Represents, IsMessageSlot, FollowsRun, footprints_in}
use Rattle.ftc_protocol.specs.Next.{bytes_in, message_bytes, logs_of, outcome_at}
use Rattle.ftc_machine.specs.Frontier.{Numbers}
use Rattle.ftc_protocol.specs.Setting.{Setting, rule_at}
use Rattle.ftc_machine.specs.Slots.{slot_at}
use Rattle.ftc_protocol.specs.State.{ChainState, Message}
use Rattle.ftc_machine.specs.Simulation.{logs_in}
use Rattle.ftc_machine.specs.VisitEffect.{bytes_kept, outcome_kept, logs_behind}
use Rattle.ftc_protocol.specs.Visits.{just, union}
use Rattle.ftc_machine.proofs.AfterVisit.{below, live}
use Rattle.ftc_protocol.proofs.UndoneList.{any_name}

and_true : (b : Bool) → (b && true) ≡ b
and_true true = refl
and_true false = refl

-- one visit's name
one_name : (server packet group number : ℕ) → names (record { server = server; packet = packet } ∷ []) group number
    ≡ just server packet true group number
one_name server packet group number =
    or_without ((server == group) && (packet == number)) false refl
    ∙ (ap (λ b. b && (packet == number)) (eqb-swap server group) ∙
    (ap (λ b. (group == server)
    && b) (eqb-swap packet number) ∙ sym (and_true ((group == server) && (number == packet)))))

-- a name that joins a list, or doesn't
joined_names : (logs : List VisitName) (server packet : ℕ) (b : Bool) (group number : ℕ)
    → names (if b then logs ++ record { server = server; packet = packet } ∷ [] else logs) group number
    ≡ (names logs group number || just server packet b group number)
joined_names logs server packet true group number =
    any_name group number logs (record { server = server; packet = packet } ∷ []) ∙ ap (λ b. names logs group number
    || b) (one_name server packet group number)
joined_names logs server packet false group number =
    sym (or_without (names logs group number) (just server packet false group number)
    (and-false ((group == server) && (number == packet))))

module _ (partitions : ℕ) (trace : List Entry) (numbers : Numbers) where
  bytes_same : (o : Option Message) (slot : Option MessageOfMachine) → IsMessageSlot partitions trace numbers o slot →
      bytes_kept slot ≡ message_bytes o
  bytes_same None None is = refl
  bytes_same None (Some kept) is = absurd is
  bytes_same (Some message) None is = absurd is
  bytes_same (Some message) (Some kept) is = ap bytes_in is.packet

  pub logs_same : (o : Option Message) (slot : Option MessageOfMachine) →
      IsMessageSlot partitions trace numbers o slot → (group number : ℕ) →
      names (logs_in slot) group number ≡ logs_of o group number
  logs_same None None is group number = refl
  logs_same None (Some kept) is group number = absurd is
  logs_same (Some message) None is group number = absurd is
  logs_same (Some message) (Some kept) is group number = is.logs group number

module _ (c : Setting) (s : ChainState) (server packet worker : ℕ)
    (may : FollowsRun c s (event.Visit server packet worker)) (k : MachineState) (is : Represents c s k) where
  pub outcome_is : (rule : Rule) → rule ≡ rule_at c server →
      outcome_kept k rule server packet ≡ outcome_at c s server packet
  outcome_is rule rule_is =
      ap (λ (r : Rule). taken r (bytes_kept (slot_at k.messages packet)) (content_at k.stores.items server)) rule_is
      ∙ (ap (λ (bytes : List ℕ). taken (rule_at c server) bytes (content_at k.stores.items server))
      (bytes_same c.partitions s.trace (Rattle.ftc_machine.specs.Frontier.numbers_of (footprints_in k.visits.items))
      (s.message packet) (slot_at k.messages packet) (is.sets.messages packet))
      ∙ ap (λ (content : Content). taken (rule_at c server) (message_bytes (s.message packet)) content)
      (is.sets.stores server (below c s server packet worker may k is) (live c s server packet worker may k is)))

  pub logs_are : (answers : List Answer) (group number : ℕ)
      → names (logs_behind k server packet answers) group number
      ≡ union (logs_of (s.message packet)) (just server packet (is_some_list answers
      && nat_lt 0 c.failures)) group number
  logs_are answers group number =
      ap (λ (ring : RingShape). names (if is_some_list answers && nat_lt 0 ring.failures then
      logs_in (slot_at k.messages packet) ++ record { server = server; packet = packet } ∷ []
      else logs_in (slot_at k.messages packet)) group number) is.ring
      ∙ (joined_names (logs_in (slot_at k.messages packet)) server packet (is_some_list answers
      && nat_lt 0 c.failures) group number
      ∙ ap (λ b. b || just server packet (is_some_list answers && nat_lt 0 c.failures) group number)
      (logs_same c.partitions s.trace (Rattle.ftc_machine.specs.Frontier.numbers_of (footprints_in k.visits.items))
      (s.message packet) (slot_at k.messages packet) (is.sets.messages packet) group number))
