-- A message that is ready at the server that holds it stays so.
use Rattle.std.proofs.Common.{◌≡◌, ◌≢◌, ◌∙◌, ◌<◌, ◌==◌, ◌&&◌, ℕ, Bool, true, false, not, cond, Option, Some, None, inl}
use Rattle.std.proofs.Common.{inr, refl, sym, ap, subst, arith, eq-eqb}
use Rattle.std.proofs.lemmas.Bool.{true≢false, and_parts, not-true, eqb-false}
use Rattle.std.proofs.lemmas.Option.{same_Some}
use Rattle.ftc_journal.specs.declared.event.Event.{Event}
use Rattle.ftc_journal.specs.declared.event.Event.TheVariants.{Apply, Carry, Crash, Enter, Lose, Pass, Propagate, Pull}
use Rattle.ftc_journal.specs.declared.event.Event.TheVariants.{Recover, Release, Take, Visit}
use Rattle.ftc_ring.specs.Ring.{next_of}
use Rattle.ftc_serial.proofs.Functions.{with_at_cases}
use Rattle.ftc_serial.specs.Trace.{names}
use Rattle.ftc_serial.specs.Words.{with_at}
use Rattle.ftc_protocol.specs.Setting.{Setting, servers, is_member}
use Rattle.ftc_protocol.specs.Visits.{Visits, In}
use Rattle.ftc_protocol.specs.Changes.{is_touching, is_changing}
use Rattle.ftc_protocol.specs.State.{ChainState, Message, Where, Held, Queued}
use Rattle.ftc_protocol.specs.Known.{IsReady}
use Rattle.ftc_protocol.specs.Legal.{IsLegal, is_sent}
use Rattle.ftc_protocol.specs.Next.{next, sent_message, taken_message, is_away, is_at, drop_if, outcome_at}
use Rattle.ftc_protocol.specs.Next.{bytes_withheld}
use Rattle.ftc_protocol.specs.Orderly.{aim}
use Rattle.ftc_protocol.specs.Recovery.{following_live, is_dropped}
use Rattle.ftc_protocol.specs.Trace.{Has, IsSomeVisit}
use Rattle.ftc_protocol.proofs.RingDistances.{apart_cases, apart_after}
use Rattle.ftc_protocol.proofs.Sets.{kept}
use Rattle.ftc_protocol.proofs.TraceLemmas.{stands_map}
use Rattle.ftc_ties.proofs.Serving.{IsSteadyState, steady_next, traced}
use Rattle.ftc_standing.proofs.SamePlaces.{none_entering, none_begun}
use Rattle.ftc_refinement.proofs.HavingStill.{has_more, has_left, has_grown, has_given, pull_has}

not_queued : (place : Where) (link server : ℕ) (visited by_ring : Bool) → place ≡ Queued link →
    place ≡ Held server visited by_ring → ⊥
not_queued place link server visited by_ring queued held = cc

-- what is left of the messages that go away by a test
kept_one : (goes : Message → Bool) (o : Option Message) (message : Message) → drop_if goes o ≡ Some message →
    (o ≡ Some message) × (goes message ≡ false)
kept_one goes None message is = absurd cc
kept_one goes (Some other) message is = elim (goes other) as
    (λ b. goes other ≡ b → cond b None (Some other) ≡ Some message →
    (Some other ≡ Some message) × (goes message ≡ false)) [
      | true ↦ λ gone none. absurd cc
      | false ↦ λ stays some. (some, subst (λ (m : Message). goes m ≡ false) (same_Some other message some) stays)
    ] refl is

module _ (c : Setting) (s : ChainState) (h : IsSteadyState c s) (server origin : ℕ) (visited by_ring : Bool)
    (message : Message) (there : s.message origin ≡ Some message) (place : message.place ≡ Held server visited by_ring)
    (after : Message) (now_visited now_by_ring : Bool) (now : after.place ≡ Held server now_visited now_by_ring) where
  -- ---- it is the same message

  same : s.message origin ≡ Some after → after ≡ message
  same is = same_Some after message (sym is ∙ there)

  others : (p : ℕ) (o : Option Message) →
      (origin ≡ p → o ≡ Some after → ⊥) → with_at s.message p o origin ≡ Some after →
      after ≡ message
  others p o never is = with_at_cases (λ (v : Option Message). v ≡ Some after → after ≡ message) s.message p o origin
      (λ own gone. absurd (never own gone)) (λ other still. same still) is

  not_new : (p : ℕ) (o : Option Message) → s.message p ≡ None → origin ≡ p → o ≡ Some after → ⊥
  not_new p o none own is = let e : s.message origin ≡ None = ap s.message own ∙ none in cc

  not_sent : (k : ℕ) (b : Bool) (o : Option Message) → cond b (sent_message c s k o) None ≡ Some after → ⊥
  not_sent k true None is = cc
  not_sent k true (Some m) is = not_queued after.place k server now_visited now_by_ring
      (ap (λ (x : Message). x.place) (sym (same_Some _ after is))) now
  not_sent k false o is = cc

  pub same_message : (e : Event) → IsLegal c s e → ((visitor worker : ℕ) → e ≢ Visit visitor origin worker) →
      (next c s e).message origin ≡ Some after → after ≡ message
  same_message (Enter p) legal unvisited is = others p _ (not_new p _ (none_entering c s h p legal)) is
  same_message (Take l p) legal unvisited is = others p (taken_message c s l (s.message p)) (λ own taken.
      let m = legal.0.0 in
      let same_one : m ≡ message = same_Some m message (sym legal.0.1 ∙ (ap s.message (sym own) ∙ there)) in
      not_queued message.place l server visited by_ring
      (sym (ap (λ (x : Message). x.place) same_one) ∙ legal.0.2) place) is
  same_message (Apply k p j q) legal unvisited is = same is
  same_message (Visit k p w) legal unvisited is =
      others p _ (λ own visits. unvisited k w (ap (λ x. Visit k x w) (sym own))) is
  same_message (Pass k p) legal unvisited is =
      others p _ (λ own sent. not_sent k (is_sent c k && not (is_away c s k false)) (s.message p) sent) is
  same_message (Lose k p) legal unvisited is =
      others p _ (λ own sent. not_sent k (is_sent c k && not (is_away c s k true)) (s.message p) sent) is
  same_message (Carry p) legal unvisited is = others p None (λ own none. cc) is
  same_message (Crash k) legal unvisited is = same
      (kept_one (λ (m : Message). is_at c k m.place) (s.message origin) after is).0
  same_message (Recover k undone) legal unvisited is =
      same (kept_one (is_dropped c s (following_live c s k)) (s.message origin) after is).0
  same_message (Pull l) legal unvisited is = same is
  same_message (Propagate p) legal unvisited is = others p _ (not_new p _ (none_begun c s h p legal)) is
  same_message (Release p) legal unvisited is = same is

  -- ---- and what the server had of its logs it still has

  module _ (group packet : ℕ) (inside : In message.logs group packet)
      (has : Has c.partitions s.trace (s.lists server) group packet) where
    is_up : s.up server ≡ true
    is_up = subst (λ (p : Where). s.up (aim (servers c) p) ≡ true) place (h.tied.order.awake origin message there)

    stands : IsSomeVisit s.trace group packet
    stands = stands_map (λ o. is_touching o ≡ true) (λ o. Unit {0}) (λ o touches. tt) s.trace group packet
        (h.tied.sound.logs origin group packet message there inside)

    -- the sender of a pull has what the receiver has
    sender_has : (l : ℕ) → IsLegal c s (Pull l) → group ≢ next_of (servers c) l → (q : ℕ) →
        In (s.lists (next_of (servers c) l)) group q → In (s.lists l) group q
    sender_has l legal other q listed =
        let n = servers c in
        let from : l < n = h.tied.order.inside l legal.0.0 in
        let below = (h.tied.order.had (next_of n l) group q listed).1 in
        elim (apart_after n l from) [
          | inr just_one ↦ absurd (h.tied.order.gaps l legal.0.2 just_one)
          | inl step ↦
              let to_receiver = apart_cases n group (next_of n l) below step.1 in
              let to_sender = apart_cases n group l below from in
              let one = step.0 in
              h.tied.sound.nested group l (next_of n l) q from legal.0.0 (omega arith) listed
        ]

    pub still_has : (e : Event) → IsLegal c s e → (next c s e).message origin ≡ Some after →
        Has c.partitions (next c s e).trace ((next c s e).lists server) group packet
    still_has (Enter p) legal is = has
    still_has (Take l p) legal is = has
    still_has (Apply k p j q) legal is =
        has_more c.partitions s.trace (s.lists server) ((next c s (Apply k p j q)).lists server) group packet
        (λ x listed. kept s.lists k j q true server group x listed) has
    still_has (Visit k p w) legal is = has_grown c.partitions s.trace
        ((next c s (Visit k p w)).lists server) group packet
        (has_more c.partitions s.trace (s.lists server) ((next c s (Visit k p w)).lists server) group packet
        (λ x listed. kept s.lists k k p (is_changing c.partitions (outcome_at c s k p)) server group x listed) has)
        k p (outcome_at c s k p) (λ own. (traced c (next c s (Visit k p w)) (steady_next c s h (Visit k p w) legal)).0
        (subst (λ x. IsSomeVisit s.trace k x) (sym own.1)
        (subst (λ x. IsSomeVisit s.trace x packet) (sym own.0) stands)))
    still_has (Pass k p) legal is = has
    still_has (Lose k p) legal is = has
    still_has (Carry p) legal is = has
    still_has (Crash k) legal is =
        with_at_cases (λ (v : Visits). Has c.partitions s.trace v group packet) s.lists k _ server
        (λ own. absurd (true≢false (sym (eq-eqb server k own)
        ∙ (sym (ap (is_at c k) now) ∙ (kept_one (λ (m : Message). is_at c k m.place)
        (s.message origin) after is).1)))) (λ other. has)
    still_has (Recover k undone) legal is =
        has_left c.partitions s.trace ((next c s (Recover k undone)).lists server) group packet
        (with_at_cases (λ (v : Visits). Has c.partitions s.trace v group packet) s.lists k _ server
        (λ own. absurd (true≢false (sym is_up ∙ (ap s.up own ∙ (h.tied.order.recoveries s.entered k legal.0.0).1))))
        (λ other. has)) (names undone)
    still_has (Pull l) legal is =
        with_at_cases (λ (v : Visits). Has c.partitions s.trace v group packet) s.lists (next_of (servers c) l) _ server
        (λ own.
        pull_has c s l (next_of (servers c) l) group packet
        (λ shared. sender_has l legal (eqb-false group (next_of (servers c) l)
        (not-true (group == next_of (servers c) l)
        (and_parts (is_member c group l && is_member c group (next_of (servers c) l))
        (not (group == next_of (servers c) l))
        shared).1)))
        (subst (λ x. Has c.partitions s.trace (s.lists x) group packet) own has)) (λ other. has)
    still_has (Propagate p) legal is = has
    still_has (Release p) legal is =
        has_given c.partitions s.trace (s.lists server) group packet has p (bytes_withheld (s.withheld p))

  pub ready_stays : (e : Event) → IsLegal c s e → ((visitor worker : ℕ) → e ≢ Visit visitor origin worker) →
      (next c s e).message origin ≡ Some after → IsReady c s server message → IsReady c (next c s e) server after
  ready_stays e legal unvisited is ready group packet inside =
      let before = subst (λ (m : Message). In m.logs group packet) (same_message e legal unvisited is) inside in
      still_has group packet before (ready group packet before) e legal is
