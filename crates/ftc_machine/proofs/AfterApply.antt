-- What is kept after a server applies a log.
use Rattle.std.proofs.Common.{◌≡◌, ◌≢◌, ℕ, ◌+◌, ◌<◌, ◌==◌, ◌&&◌, ◌↔◌, Bool, true, false, List, [], length, Some}
use Rattle.std.proofs.Common.{◌⊎◌, inl, inr, refl, sym, ◌∙◌, ap, subst, slice_set, arith, eq-eqb}
use Rattle.std.proofs.lemmas.Bool.{true≢false, ne_eqb, and_from, or_cases, or_left, or_right}
use Rattle.ftc_base.specs.declared.limits.TheConstants.{MOST_SERVERS}
use Rattle.ftc_base.proofs.Bools.{or_without}
use Rattle.ftc_journal.specs.declared.event.Event.TheVariants as event
use Rattle.ftc_ring.specs.Ring.{RingShape}
use Rattle.ftc_serial.specs.Contents.{content_at}
use Rattle.ftc_serial.specs.Serial.{Entry}
use Rattle.ftc_serial.specs.Words.{with_at}
use Rattle.ftc_serial.proofs.Functions.{with_at_cases}
use Rattle.ftc_vector.specs.Vector.{number_at}
use Rattle.ftc_vector.specs.Commits.{vector_of, group_raised}
use Rattle.ftc_machine.specs.declared.state.footprint.Footprint.{Footprint}
use Rattle.ftc_machine.specs.declared.state.MachineState.{MachineState}
use Rattle.ftc_protocol.specs.Changes.{is_changing}
use Rattle.ftc_machine.specs.Represents.{Represents, FollowsRun, footprints_in, frontiers_of}
use Rattle.ftc_machine.specs.FootprintMarks.{marked_at}
use Rattle.ftc_machine.specs.Frontier.{AreFrontiers, numbers_of}
use Rattle.ftc_protocol.specs.Setting.{Setting, servers}
use Rattle.ftc_protocol.specs.State.{ChainState}
use Rattle.ftc_protocol.specs.Trace.{IsChanging, IsSomeVisit, content_of}
use Rattle.ftc_protocol.specs.Visits.{Visits, just, union}
use Rattle.ftc_protocol.specs.Orderly.{aim}
use Rattle.ftc_machine.proofs.LawfulStates.{serial_in}
use Rattle.ftc_machine.proofs.LegalEvents.{reached_before, visits_within}
use Rattle.ftc_machine.proofs.RepresentedMessages.{footprint_there}
use Rattle.ftc_machine.proofs.JoinedVisit.{apply_reach}
use Rattle.ftc_protocol.proofs.Sets.{in_one}
use Rattle.ftc_machine.proofs.RaisedRows.{raised_reaches}
use Rattle.ftc_machine.proofs.SetFrontiers.{same_reach}
use Rattle.ftc_machine.proofs.ReplacedPlaces.{row_replaced}
use Rattle.ftc_protocol.proofs.TraceLemmas.{stands_map}
use Rattle.ftc_protocol.proofs.ListStores.{stands_below}

-- the content is that of the packets
pub same_content : (trace : List Entry) (server : ℕ) (packets others : ℕ → Bool) →
    ((packet : ℕ) → packets packet ≡ others packet) → content_of trace packets server ≡ content_of trace others server
same_content trace server packets others same = let are : packets ≡ others = λ i packet. same packet i in
    ap (λ (set : ℕ → Bool). content_of trace set server) are

module _ (c : Setting) (s : ChainState) (server origin group packet : ℕ)
    (may : FollowsRun c s (event.Apply server origin group packet)) (k : MachineState) (is : Represents c s k) where
  live : s.up server ≡ true
  live = let held = may.legal.0.1 in
      subst (λ w. s.up (aim (servers c) w)
      ≡ true) held.3 ((reached_before c s
      (event.Apply server origin group packet) may).order.awake origin may.legal.0.0 held.0)

  changing : IsChanging c.partitions s.trace group packet
  changing = may.legal.0.3

  there : IsSomeVisit s.trace group packet
  there = stands_map (λ o. is_changing c.partitions o ≡ true) (λ o. Unit {0}) (λ o _. tt) s.trace group packet changing

  -- it is a visit of another middlebox, for the server has all of its own
  pub apart_from : group ≢ server
  apart_from same =
      let own = (reached_before c s (event.Apply server origin group packet) may).order.heads server packet live
      (subst (λ row. IsChanging c.partitions s.trace row packet) same changing) in
      true≢false (sym own ∙ subst (λ row. s.lists server row packet ≡ false) same may.legal.0.4)

  pub applied_footprint : (footprint : Footprint) × (footprints_in k.visits.items group packet ≡ Some footprint)
  applied_footprint = footprint_there (λ o. Unit {0}) c.partitions
      (footprints_in k.visits.items) s.trace is.sets.footprints group packet there

  joins : (other : ℕ) → (union (s.lists server) (just group packet true) group other ≡ true)
      ↔ ((s.lists server group other ≡ true) ⊎ (other ≡ packet))
  joins other = (
    λ member. elim (or_cases (s.lists server group other) (just group packet true group other) member) [
      | inl old ↦ inl old
      | inr new ↦ inr (in_one group packet true group other new).1
    ],
    λ either. elim either [
      | inl old ↦ or_left (s.lists server group other) (just group packet true group other) old
      | inr same ↦ or_right (s.lists server group other) (just group packet true group other)
          (and_from ((group == group)
          && (other == packet)) true
          (and_from (group == group) (other == packet) (eq-eqb group group refl) (eq-eqb other packet same)) refl)
    ],
  )

  pub lists_join : (footprint : Footprint) (vector : List ℕ) (place : ℕ) (after : List (List ℕ))
      (new : List (List (List ℕ))) → footprints_in k.visits.items group packet ≡ Some footprint
      → ((partition : ℕ) → number_at vector partition
      ≡ marked_at footprint (number_at (vector_of (frontiers_of k.lists.items place) group)) partition)
      → length (frontiers_of k.lists.items place) ≡ MOST_SERVERS → place ≡ server → server < servers c
      → after ≡ group_raised (frontiers_of k.lists.items place) group vector → new ≡ slice_set k.lists.items place after
      → (other : ℕ) → other < servers c
      → AreFrontiers c.partitions s.trace (numbers_of (footprints_in k.visits.items))
      (with_at s.lists server (union (s.lists server) (just group packet true)) other) (frontiers_of new other)
  lists_join footprint vector place after new footprint_is marks size at below raises is_new =
      let numbers = numbers_of (footprints_in k.visits.items) in
      row_replaced (λ other (visits : Visits) (row : List (List ℕ)). other < servers c →
      AreFrontiers c.partitions s.trace numbers visits row)
      s.lists [] k.lists.items k.lists.items new server (union (s.lists server) (just group packet true)) after
      (is_new ∙ ap (λ p. slice_set k.lists.items p after) at)
      (let long = k.each_list in let same = ap (λ (ring : RingShape). ring.servers) is.ring in
      omega arith) (λ _ _. refl)
      (λ within.
      let old : AreFrontiers c.partitions s.trace numbers (s.lists server) (frontiers_of k.lists.items place) =
      subst (λ p. AreFrontiers c.partitions s.trace numbers (s.lists server) (frontiers_of k.lists.items p))
      (sym at) (is.sets.lists server within) in
      let few : group < servers c =
      stands_below c may.supposed.ring.some (λ o. is_changing c.partitions o
      ≡ true) s.trace (serial_in c s
      (reached_before c s (event.Apply server origin group packet) may)) group packet changing in
      subst (λ (row : List (List ℕ)). AreFrontiers c.partitions s.trace numbers
      (union (s.lists server) (just group packet true)) row) (sym raises)
      (raised_reaches c.partitions s.trace numbers (visits_within c s (event.Apply server origin group packet) may k is)
      (s.lists server) (just group packet true) (frontiers_of k.lists.items place) group vector
      (let most = may.supposed.ring.servers in omega arith)
      (λ row number other. ap (λ b. (b && (number == packet)) && true) (ne_eqb row group other))
      (same_reach c.partitions s.trace numbers group (union (s.lists server) (just group packet true) group)
      (union (s.lists server) (just group packet true) group)
      (marked_at footprint (number_at (vector_of (frontiers_of k.lists.items place) group))) (number_at vector)
      (λ _. refl) (λ partition. sym (marks partition))
      (apply_reach c.partitions (s.events
      + 1) s.trace (footprints_in k.visits.items) is.sets.rising is.sets.footprints group packet footprint there
      footprint_is
      (s.lists server group) (union (s.lists server) (just group packet true) group)
      (number_at (vector_of (frontiers_of k.lists.items place) group))
      (old group) may.legal.0.4 may.legal.0.5 joins))
      old))
      is.sets.lists

  -- stores stay: the server's own row does
  pub stores_stay : (other : ℕ) → other < servers c → s.up other ≡ true
      → content_at k.stores.items other
      ≡ content_of s.trace (with_at s.lists server
      (union (s.lists server) (just group packet true)) other other) other
  stores_stay other below up =
      is.sets.stores other below up ∙ same_content s.trace other (s.lists other other)
      (with_at s.lists server (union (s.lists server) (just group packet true)) other other) (λ number.
      with_at_cases (λ (visits : Visits). s.lists other other number ≡ visits other number) s.lists server
      (union (s.lists server) (just group packet true)) other
      (λ same. subst (λ place. s.lists other other number
      ≡ union (s.lists place) (just group packet true) other number) same
      (sym (or_without (s.lists other other number) (just group packet true other number)
      (ap (λ b. (b && (number == packet)) && true) (ne_eqb other group (λ e. apart_from (sym e ∙ same)))))))
      (λ _. refl))
