-- What is kept of the messages, and what a kept set has.
use Rattle.std.proofs.Common.{◌≡◌, ℕ, ◌<◌, ◌+◌, true, List, [], ◌∷◌, Option, Some, None, inl, inr, refl, sym, ap, subst}
use Rattle.std.proofs.Common.{◌∙◌, ◌↔◌}
use Rattle.std.specs.Option.{option_map_or}
use Rattle.ftc_vector.specs.Commits.{vector_of}
use Rattle.ftc_serial.specs.Serial.{Entry, Visited, Given}
use Rattle.ftc_serial.specs.Take.{Outcome}
use Rattle.ftc_machine.specs.declared.state.footprint.Footprint.{Footprint}
use Rattle.ftc_machine.specs.declared.state.MachineState.{MachineState}
use Rattle.ftc_machine.specs.declared.state.message.Message.{Message as MessageOfMachine}
use Rattle.ftc_protocol.specs.Setting.{Setting, servers}
use Rattle.ftc_protocol.specs.Visits.{Visits, In}
use Rattle.ftc_protocol.specs.Trace.{IsInTrace, IsSomeVisit, IsTouching, Has}
use Rattle.ftc_protocol.specs.State.{ChainState, Message}
use Rattle.ftc_protocol.specs.Known.{IsReady}
use Rattle.ftc_machine.specs.Slots.{slot_at}
use Rattle.ftc_machine.specs.Frontier.{Numbers, Footprints, numbers_of, AreFootprints, AreFrontiers, is_had_by}
use Rattle.ftc_machine.specs.Represents.{Represents, IsMessage, IsMessageSlot}
use Rattle.ftc_machine.specs.LegalityTests.{footprints_of, list_of, has_named, is_ready}
use Rattle.ftc_protocol.proofs.TraceLemmas.{stands_map}
use Rattle.ftc_machine.proofs.FootprintTests.{had_has}
use Rattle.ftc_machine.proofs.SlotTests.{name_of, each_name, all_names}

-- ---- messages

pub kept_of : (partitions : ℕ) (trace : List Entry) (numbers : Numbers) (o : Option Message)
    (slot : Option MessageOfMachine) (message : Message) → IsMessageSlot partitions trace numbers o slot →
    o ≡ Some message
    → (kept : MessageOfMachine) × (slot ≡ Some kept) × IsMessage partitions trace numbers message kept
kept_of partitions trace numbers None slot message is there = absurd (cc)
kept_of partitions trace numbers (Some other) None message is there = absurd is
kept_of partitions trace numbers (Some other) (Some kept) message is there =
    (kept, refl, subst (λ m. IsMessage partitions trace numbers m kept) (let same : other ≡ message = cc in same) is)

pub said_of : (partitions : ℕ) (trace : List Entry) (numbers : Numbers) (o : Option Message)
    (slot : Option MessageOfMachine) (kept : MessageOfMachine) → IsMessageSlot partitions trace numbers o slot →
    slot ≡ Some kept
    → (message : Message) × (o ≡ Some message) × IsMessage partitions trace numbers message kept
said_of partitions trace numbers o None kept is there = absurd (cc)
said_of partitions trace numbers None (Some other) kept is there = absurd is
said_of partitions trace numbers (Some message) (Some other) kept is there =
    (message, refl, subst (λ m. IsMessage partitions trace numbers message m) (let same : other ≡ kept = cc in same) is)

-- a visit of the trace has its footprint
pub footprint_there : (P : Outcome → Type 0) (partitions : ℕ) (footprints : Footprints) (trace : List Entry) →
    AreFootprints partitions footprints trace → (server packet : ℕ) → IsInTrace P trace server packet
    → (footprint : Footprint) × (footprints server packet ≡ Some footprint)
footprint_there P partitions footprints [] are server packet there = absurd there
footprint_there P partitions footprints (Given other bytes ∷ older) are server packet there =
    elim there [
      | inl here ↦ absurd here
      | inr below ↦
          footprint_there P partitions footprints older are server packet below
    ]
footprint_there P partitions footprints (Visited visited passed outcome ∷ older) are server packet there = elim there [
  | inl here ↦ (
    are.0.0,
    subst (λ p. footprints server p ≡ Some are.0.0) here.1
        (subst (λ x. footprints x passed ≡ Some are.0.0) here.0 are.0.1),
  )
  | inr below ↦ footprint_there P partitions footprints older are.1 server packet below
]

module _ (c : Setting) (s : ChainState) (k : MachineState) (h : Represents c s k) where
  abbrev pub Numbered : Numbers
  Numbered = numbers_of (footprints_of k)

  pub kept_message : (origin : ℕ) (message : Message) → s.message origin ≡ Some message →
      (kept : MessageOfMachine) × (slot_at k.messages origin ≡ Some kept)
      × IsMessage c.partitions s.trace Numbered message kept
  kept_message origin message there =
      kept_of c.partitions s.trace Numbered (s.message origin) (slot_at k.messages origin) message
      (h.sets.messages origin) there

  pub said_message : (origin : ℕ) (kept : MessageOfMachine) → slot_at k.messages origin ≡ Some kept →
      (message : Message) × (s.message origin ≡ Some message) × IsMessage c.partitions s.trace Numbered message kept
  said_message origin kept there =
      said_of c.partitions s.trace Numbered (s.message origin) (slot_at k.messages origin) kept
      (h.sets.messages origin) there

  -- a kept set has a visit of the trace where the set has it
  pub named_has : (P : Outcome → Type 0) (visits : Visits) (reach : List (List ℕ)) →
      AreFrontiers c.partitions s.trace Numbered visits reach → (server packet : ℕ) → IsInTrace P s.trace server packet
      → (has_named (footprints_of k) reach (name_of server packet) ≡ true)
      ↔ Has c.partitions s.trace visits server packet
  named_has P visits reach reaches server packet there =
      let found = footprint_there P c.partitions (footprints_of k) s.trace h.sets.footprints server packet there in
      let some : IsSomeVisit s.trace server packet =
      stands_map P (λ o. Unit {0}) (λ o x. tt) s.trace server packet there in
      let test : has_named (footprints_of k) reach (name_of server packet)
      ≡ is_had_by found.0 (vector_of reach server) =
      ap (λ (o : Option Footprint). option_map_or
      (λ (f : Footprint). is_had_by f (vector_of reach server)) o true) found.1 in
      let both = had_has c.partitions (s.events
      + 1) s.trace (footprints_of k) h.sets.rising h.sets.footprints server packet found.0 some found.1 visits
      (vector_of reach server) (reaches server) in
      (λ is. both.0 (sym test ∙ is), λ has. test ∙ both.1 has)

  -- a message is ready where its kept one is
  pub ready_tests : (server : ℕ) → server < servers c → (message : Message) (kept : MessageOfMachine) →
      IsMessage c.partitions s.trace Numbered message kept
      → ((group packet : ℕ) → In message.logs group packet → IsTouching s.trace group packet) →
      (is_ready k server kept ≡ true) ↔ IsReady c s server message
  ready_tests server below message kept is touching = (
    λ ready. λ group packet log.
        (named_has _ (s.lists server) (list_of k server) (h.sets.lists server below) group packet
        (touching group packet log)).0
        (each_name (has_named (footprints_of k) (list_of k server)) kept.logs group packet ready
        (is.logs group packet ∙ log)),
    λ ready. all_names (has_named (footprints_of k) (list_of k server)) kept.logs (λ group packet named.
        let log : In message.logs group packet = sym (is.logs group packet) ∙ named in
        (named_has _ (s.lists server) (list_of k server) (h.sets.lists server below) group packet
        (touching group packet log)).1 (ready group packet log)),
  )
