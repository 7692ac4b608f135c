-- What is kept tells which messages go with a recovery.
use Rattle.std.proofs.Common.{◌≡◌, ℕ, ◌+◌, ◌<◌, ◌==◌, ◌&&◌, not, Bool, true, List, [], ◌∷◌, Option, Some, inl, inr}
use Rattle.std.proofs.Common.{refl, sym, ◌∙◌, ap, subst, eqb-true, eq-eqb}
use Rattle.std.specs.Option.{option_map_or}
use Rattle.std.specs.List.{list_all}
use Rattle.std.proofs.lemmas.Bool.{true≢false, and_parts, and_from, or_cases, or_left, or_right}
use Rattle.std.specs.Cmp.{both_ways}
use Rattle.ftc_journal.specs.declared.event.VisitName.{VisitName}
use Rattle.ftc_ring.specs.Ring.{RingShape, next_of}
use Rattle.ftc_serial.specs.Trace.{names}
use Rattle.ftc_vector.specs.Commits.{vector_of}
use Rattle.ftc_machine.specs.declared.state.footprint.Footprint.{Footprint}
use Rattle.ftc_machine.specs.declared.state.MachineState.{MachineState}
use Rattle.ftc_machine.specs.declared.state.message.Message.{Message as MessageOfMachine}
use Rattle.ftc_machine.specs.declared.state.message.Place.{Place}
use Rattle.ftc_machine.specs.declared.state.message.Place.TheVariants as place
use Rattle.ftc_protocol.specs.Changes.{is_touching}
use Rattle.ftc_machine.specs.Represents.{Represents, IsMessage, IsPlace, footprints_in}
use Rattle.ftc_machine.specs.Frontier.{is_had_by, numbers_of}
use Rattle.ftc_protocol.specs.Recovery.{is_dropped, is_dropped_at}
use Rattle.ftc_machine.specs.RecoveryEffect.{is_dropped_from, is_dropped_kept}
use Rattle.ftc_protocol.specs.Setting.{Setting, servers}
use Rattle.ftc_protocol.specs.State.{ChainState, Message, Where, Held, Queued}
use Rattle.ftc_machine.specs.LegalityTests.{footprints_of, list_of, has_named, is_ready}
use Rattle.ftc_protocol.specs.Trace.{IsTouching, Has, has_each}
use Rattle.ftc_protocol.specs.Visits.{In}
use Rattle.ftc_machine.proofs.FootprintTests.{had_has}
use Rattle.ftc_protocol.proofs.HasEach.{each_has}
use Rattle.ftc_machine.specs.Lawful.{IsLawful}
use Rattle.ftc_machine.proofs.LawfulStates.{serial_in}
use Rattle.ftc_machine.proofs.RepresentedMessages.{footprint_there}
use Rattle.ftc_protocol.proofs.TraceLemmas.{stands_map}
use Rattle.ftc_protocol.proofs.ReadyTest.{each_had}

-- ---- tests of all names of a list

all_says : (test : VisitName → Bool) (list : List VisitName) → list_all test list ≡ true → (server packet : ℕ) →
    names list server packet ≡ true → test (record { server = server; packet = packet }) ≡ true
all_says test [] all server packet is = absurd (true≢false (sym is))
all_says test (name ∷ list) all server packet is =
    let both = and_parts (test name) (list_all test list) all in
    elim (or_cases (name.server == server && name.packet == packet) (names list server packet) is) [
      | inl here ↦
          let same = and_parts (name.server == server) (name.packet == packet) here in
          subst (λ s. test (record { server = s; packet = packet }) ≡ true) (eqb-true name.server server same.0)
          (subst (λ p. test (record { server = name.server; packet = p })
          ≡ true) (eqb-true name.packet packet same.1) both.0)
      | inr there ↦ all_says test list both.1 server packet there
    ]

all_has : (test : VisitName → Bool) (list : List VisitName) →
    ((server packet : ℕ) → names list server packet ≡ true →
    test (record { server = server; packet = packet }) ≡ true) → list_all test list ≡ true
all_has test [] each = refl
all_has test (name ∷ list) each =
    and_from (test name) (list_all test list)
    (each name.server name.packet (or_left (name.server == name.server
    && name.packet == name.packet) (names list name.server name.packet)
    (and_from (name.server == name.server) (name.packet == name.packet) (eq-eqb name.server name.server refl)
    (eq-eqb name.packet name.packet refl))))
    (all_has test list (λ server packet is. each server packet
    (or_right (name.server == server && name.packet == packet) (names list server packet) is)))

module _ (c : Setting) (s : ChainState) (lawful : IsLawful c s) (k : MachineState) (is : Represents c s k) (x : ℕ)
    (below : x < servers c) where
  -- a visit that stands in the trace is had where the test says so
  named_has : (j p : ℕ) → IsTouching s.trace j p
      → ((has_named (footprints_of k) (list_of k x) (record { server = j; packet = p }) ≡ true →
      Has c.partitions s.trace (s.lists x) j p)
      × (Has c.partitions s.trace (s.lists x) j p →
      has_named (footprints_of k) (list_of k x) (record { server = j; packet = p }) ≡ true))
  named_has j p there =
      let footprints = footprints_in k.visits.items in
      let vector = vector_of (list_of k x) j in
      let stands = stands_map (λ o. is_touching o ≡ true) (λ o. Unit {0}) (λ o _. tt) s.trace j p there in
      let found = footprint_there (λ o. Unit {0}) c.partitions footprints s.trace is.sets.footprints j p stands in
      let had = had_has c.partitions (s.events
      + 1) s.trace footprints is.sets.rising is.sets.footprints j p found.0 stands found.1 (s.lists x) vector
      (is.sets.lists x below j) in
      let same : has_named (footprints_of k) (list_of k x) (record { server = j; packet = p })
      ≡ is_had_by found.0 vector =
      ap (λ (o : Option Footprint). option_map_or (λ (f : Footprint). is_had_by f vector) o true) found.1 in (
        λ named. had.0 (sym same ∙ named),
        λ has. same ∙ had.1 has,
      )

  module _ (origin : ℕ) (message : Message) (kept : MessageOfMachine) (there : s.message origin ≡ Some message)
      (at : IsMessage c.partitions s.trace (numbers_of (footprints_in k.visits.items)) message kept) where
    touching : (j p : ℕ) → In message.logs j p → IsTouching s.trace j p
    touching j p log = lawful.sound.logs origin j p message there log

    pub ready_same : is_ready k x kept ≡ has_each c.partitions s.trace (s.lists x) message.logs
    ready_same = both_ways (is_ready k x kept) (has_each c.partitions s.trace (s.lists x) message.logs)
        (λ ready. each_has c (s.lists x) message.logs s.trace (serial_in c s lawful) (λ j p log.
        (named_has j p (touching j p log)).0
        (all_says (has_named (footprints_of k) (list_of k x)) kept.logs ready j p (at.logs j p ∙ log))))
        (λ each. all_has (has_named (footprints_of k) (list_of k x)) kept.logs (λ j p is_in.
        let log : In message.logs j p = sym (at.logs j p) ∙ is_in in
        (named_has j p (touching j p log)).1 (each_had c.partitions (s.lists x) message.logs j p log s.trace each)))

    dropped_at : (place_is : Where) (kept_place : Place) →
        IsPlace c.partitions s.trace (numbers_of (footprints_in k.visits.items)) message.known place_is kept_place
        → is_dropped_from k x kept kept_place ≡ is_dropped_at c s x message.logs place_is
    dropped_at (Held server visited by_ring) (place.Held other said by) same =
        ap (λ n. n == x && not (is_ready k x kept)) same.0 ∙ ap (λ b. (server == x) && not b) ready_same
    dropped_at (Held server visited by_ring) (place.Queued other reach) same = absurd same
    dropped_at (Queued link) (place.Held other said by) same = absurd same
    dropped_at (Queued link) (place.Queued other reach) same =
        ap (λ (ring : RingShape). next_of ring.servers other == x) is.ring ∙ ap (λ n. next_of (servers c) n == x) same.0

    pub dropped_same : is_dropped_kept k x kept ≡ is_dropped c s x message
    dropped_same = dropped_at message.place kept.place at.place
