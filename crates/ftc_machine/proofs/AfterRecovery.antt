-- What is kept after a recovery.
use Rattle.std.proofs.Common.{◌≡◌, ◌≢◌, ℕ, ◌+◌, ◌<◌, ◌==◌, ◌&&◌, ◌||◌, if◌then◌else◌, not, Bool, true, false, List, []}
use Rattle.std.proofs.Common.{length, filter, Option, Some, inl, inr, refl, sym, ◌∙◌, ap, subst, slice_set, arith}
use Rattle.std.specs.Prelude.{fold}
use Rattle.std.specs.FinMap.{empty}
use Rattle.std.specs.Option.{option_map_or}
use Rattle.std.proofs.lemmas.Bool.{true≢false, cases_eq, false_from_ne_true}
use Rattle.ftc_base.specs.Sets.{has}
use Rattle.ftc_base.specs.declared.limits.TheConstants.{MOST_SERVERS}
use Rattle.ftc_journal.specs.declared.event.Event.TheVariants as event
use Rattle.ftc_journal.specs.declared.event.VisitName.{VisitName}
use Rattle.ftc_ring.specs.Ring.{RingShape}
use Rattle.ftc_serial.specs.Contents.{content_at}
use Rattle.ftc_serial.specs.Removal.{left_of}
use Rattle.ftc_serial.specs.Trace.{names}
use Rattle.ftc_serial.specs.Words.{with_at}
use Rattle.ftc_serial.proofs.Functions.{with_at_cases, with_at_here, with_at_elsewhere}
use Rattle.ftc_store.specs.Store.{Content}
use Rattle.ftc_protocol.specs.declared.fate.Fate.{Fate}
use Rattle.ftc_protocol.specs.declared.fate.Fate.TheVariants.{Inside, Lost}
use Rattle.ftc_machine.specs.declared.state.MachineState.{MachineState}
use Rattle.ftc_machine.specs.declared.state.message.Message.{Message as MessageOfMachine}
use Rattle.ftc_protocol.specs.Changes.{is_changing}
use Rattle.ftc_machine.specs.Represents.{Represents, IsMessage, IsMessageSlot, FollowsRun, footprints_in}
use Rattle.ftc_machine.specs.Represents.{frontiers_of, fate_in, visits_in}
use Rattle.ftc_protocol.specs.Known.{knows}
use Rattle.ftc_machine.specs.LostPackets.{drop_kept, loses_kept, fate_lost}
use Rattle.ftc_protocol.specs.Next.{next, drop_if, loses_packet, is_undone_drop}
use Rattle.ftc_machine.specs.Frontier.{AreRising, AreFootprints, AreFrontiers, numbers_of, frontier_at}
use Rattle.ftc_protocol.specs.Recovery.{previous_live, following_live, list_got, is_dropped}
use Rattle.ftc_machine.specs.RecoveryEffect.{got_vector, both_known, is_left, rewritten, is_dropped_kept}
use Rattle.ftc_protocol.specs.Setting.{Setting, servers}
use Rattle.ftc_machine.specs.Slots.{slot_at}
use Rattle.ftc_protocol.specs.State.{ChainState, Message}
use Rattle.ftc_machine.specs.LegalityTests.{footprints_of}
use Rattle.ftc_protocol.specs.Trace.{IsBefore, IsChanging, content_of}
use Rattle.ftc_protocol.specs.Visits.{Visits, In, union}
use Rattle.ftc_machine.specs.Lawful.{IsLawful}
use Rattle.ftc_machine.proofs.DroppedPlaces.{drops, loses_same}
use Rattle.ftc_machine.proofs.LegalEvents.{reached_before, reached_after, visits_within}
use Rattle.ftc_machine.proofs.TransferredLists.{got_reaches, both_reach_known}
use Rattle.ftc_machine.proofs.DroppedTests.{dropped_same}
use Rattle.ftc_protocol.proofs.TraceLemmas.{store_left}
use Rattle.ftc_machine.proofs.RebuiltStore.{visits_left, rebuilt_content}
use Rattle.ftc_machine.proofs.ReplacedPlaces.{row_replaced}
use Rattle.ftc_protocol.proofs.RingDistances.{IsLastLive, IsNextLive, last_live, next_live}
use Rattle.ftc_machine.proofs.RisingNumbers.{rising_more}
use Rattle.ftc_protocol.proofs.TraceLemmas.{visit_stood}
use Rattle.ftc_machine.proofs.TraceRemoval.{rising_left, reach_left, footprints_left}
use Rattle.ftc_machine.proofs.MovedMessages.{slot_moves}

-- the servers that are up
pub up_with : (up : ℕ → Bool) (server other down after : ℕ) → up other ≡ not (has down other) →
    has after other ≡ (not (other == server) && has down other) → with_at up server true other ≡ not (has after other)
up_with up server other down after was is =
    (elim (other == server) as (λ b. (if b then true else up other) ≡ not (not b && has down other)) [
      | true ↦
          refl
      | false ↦ was
    ]) ∙ ap not (sym is)

-- a packet is lost with a message, or with the visit that dropped it
pub lost_both : (one other : Bool) (event : ℕ) (slot : Option Fate) (fate : Fate) →
    option_map_or (λ (found : Fate). found) slot Inside ≡ (if other then Lost event else fate)
    → option_map_or (λ (found : Fate). found) (fate_lost one event slot) Inside ≡ (if one || other then Lost event
    else fate)
lost_both true other event slot fate is = refl
lost_both false other event slot fate is = is

module _ (c : Setting) (s : ChainState) (server : ℕ) (undone : List VisitName)
    (may : FollowsRun c s (event.Recover server undone)) (k : MachineState) (is : Represents c s k) where
  before : IsLawful c s
  before = reached_before c s (event.Recover server undone) may

  after : IsLawful c (next c s (event.Recover server undone))
  after = reached_after c s (event.Recover server undone) may

  pub below : server < servers c
  below = (before.order.recoveries s.entered server may.legal.0.0).0

  down : s.up server ≡ false
  down = (before.order.recoveries s.entered server may.legal.0.0).1

  both_live : IsLastLive (servers c) s.up server (previous_live c s server)
      × IsNextLive (servers c) s.up server (following_live c s server)
  both_live =
      let z = before.order.admissible.each server below in
      let other : z.server ≢ server = λ e. true≢false (sym z.up ∙ subst (λ v. s.up v ≡ false) (sym e) down) in (
        last_live (servers c) s.up server below z.server z.within z.up other,
        next_live (servers c) s.up server below z.server z.within z.up other,
      )

  changing_left : (j p : ℕ) → IsChanging c.partitions (left_of (names undone) s.trace) j p → names undone j p ≡ false
  changing_left j p changing =
      (visit_stood (names undone) (λ o. is_changing c.partitions o ≡ true) s.trace j p changing).1

  -- no list has an undone visit, and what an undone visit is before is undone
  listed_left : (x j p : ℕ) → In (s.lists x) j p → names undone j p ≡ false
  listed_left x j p member = elim (cases_eq x server) [
    | inl same ↦ absurd (true≢false
        (sym (before.order.had x j p member).0 ∙ subst (λ y. s.up y ≡ false) (sym same) down))
    | inr differs ↦ changing_left j p
        (after.order.had x j p (subst (λ (visits : Visits). In visits j p)
        (sym (with_at_elsewhere s.lists server
        (list_got c s server (previous_live c s server) (following_live c s server)) x differs)) member)).3
  ]

  closed : (row packet other : ℕ) → IsBefore c.partitions s.trace row packet other → names undone row packet ≡ true →
      names undone row other ≡ true
  closed row packet other first taken = before.undone server undone may.legal.0 row packet other taken first

  -- ---- the trace

  pub rising_after : AreRising (numbers_of (footprints_in k.visits.items)) (s.events + 1
      + 1) (left_of (names undone) s.trace)
  rising_after =
      rising_left (names undone) (numbers_of (footprints_in k.visits.items)) (s.events + 1 + 1) s.trace
      (rising_more (numbers_of (footprints_in k.visits.items)) (s.events + 1) (s.events + 1
      + 1) s.trace (omega arith) is.sets.rising)

  pub footprints_after : AreFootprints c.partitions (footprints_in k.visits.items) (left_of (names undone) s.trace)
  footprints_after = footprints_left (names undone) c.partitions
      (footprints_in k.visits.items) s.trace closed is.sets.footprints

  pub order_after : (order : List VisitName) → order ≡ filter (is_left undone) k.order →
      order ≡ visits_in (left_of (names undone) s.trace)
  order_after order order_is = order_is ∙ (ap (filter (is_left undone)) is.sets.order ∙ visits_left undone s.trace)

  -- ---- sets of visits

  reaches_left : (visits : Visits) (reach : List (List ℕ)) → ((j p : ℕ) → In visits j p → names undone j p ≡ false)
      → AreFrontiers c.partitions s.trace (numbers_of (footprints_in k.visits.items)) visits reach
      → AreFrontiers c.partitions (left_of (names undone) s.trace)
      (numbers_of (footprints_in k.visits.items)) visits reach
  reaches_left visits reach stay reaches row =
      reach_left (names undone) c.partitions s.trace (numbers_of (footprints_in k.visits.items)) row (visits row)
      (frontier_at reach row) (λ packet member. stay row packet member) (reaches row)

  pub lists_after : (previous following place : ℕ) (list : List (List ℕ)) (new : List (List (List ℕ)))
      → previous ≡ previous_live c s server → following ≡ following_live c s server → length list ≡ MOST_SERVERS
      → ((group : ℕ) → group < MOST_SERVERS →
      Rattle.ftc_vector.specs.Commits.vector_of list group ≡ got_vector k server previous following group)
      → new ≡ slice_set k.lists.items place list → place ≡ server → (other : ℕ) → other < servers c
      → AreFrontiers c.partitions (left_of (names undone) s.trace) (numbers_of (footprints_in k.visits.items))
      (with_at s.lists server (list_got c s server (previous_live c s server) (following_live c s server)) other)
      (frontiers_of new other)
  lists_after previous following place list new previous_is following_is size rows is_new at =
      let numbers = numbers_of (footprints_in k.visits.items) in
      let r = previous_live c s server in
      let t = following_live c s server in
      row_replaced (λ other (visits : Visits) (row : List (List ℕ)). other < servers c →
      AreFrontiers c.partitions (left_of (names undone) s.trace) numbers visits row)
      s.lists [] k.lists.items k.lists.items new server (list_got c s server r t) list
      (is_new ∙ ap (λ p. slice_set k.lists.items p list) at)
      (let long = k.each_list in let same = ap (λ (ring : RingShape). ring.servers) is.ring in
      let low : server < servers c = below in omega arith) (λ _ _. refl)
      (λ within. reaches_left (list_got c s server r t) list
      (λ j p member. changing_left j p
      (after.order.had server j p
      (subst (λ (visits : Visits). In visits j p)
      (sym (with_at_here s.lists server (list_got c s server r t))) member)).3)
      (got_reaches c may.supposed s before k is (visits_within c s (event.Recover server undone) may k is) server r t
      (let last = both_live.0 in last.below) (let next_one = both_live.1 in next_one.below) list size
      (λ group less. rows group less ∙
      (ap (λ p. got_vector k server p following group) previous_is ∙ ap
      (λ f. got_vector k server r f group) following_is))))
      (λ other within. reaches_left (s.lists other) (frontiers_of k.lists.items other) (listed_left other)
      (is.sets.lists other within))

  pub known_after : (previous following place : ℕ) (known : List (List ℕ)) (new : List (List (List ℕ)))
      → previous ≡ previous_live c s server → following ≡ following_live c s server →
      known ≡ both_known k previous following
      → new ≡ slice_set k.known.items place known → place ≡ server → (other : ℕ) → other < servers c
      → AreFrontiers c.partitions (left_of (names undone) s.trace) (numbers_of (footprints_in k.visits.items))
      (with_at s.known server (union (knows c s (previous_live c s server))
      (knows c s (following_live c s server))) other) (frontiers_of new other)
  known_after previous following place known new previous_is following_is known_is is_new at other within =
      let numbers = numbers_of (footprints_in k.visits.items) in
      let r = previous_live c s server in
      let t = following_live c s server in
      let both : Visits = union (knows c s r) (knows c s t) in
      row_replaced (λ row (visits : Visits) (reach : List (List ℕ)). row < servers c →
      ((j p : ℕ) → In visits j p → names undone j p ≡ false) →
      AreFrontiers c.partitions (left_of (names undone) s.trace) numbers visits reach)
      s.known [] k.known.items k.known.items new server both known
      (is_new ∙ ap (λ p. slice_set k.known.items p known) at)
      (let long = k.each_known in let same = ap (λ (ring : RingShape). ring.servers) is.ring in
      let low : server < servers c = below in omega arith) (λ _ _. refl)
      (λ _ stay. reaches_left both known stay
      (subst (λ (reach : List (List ℕ)). AreFrontiers c.partitions s.trace numbers both reach)
      (sym (known_is ∙ (ap (λ p. both_known k p following) previous_is ∙ ap (λ f. both_known k r f) following_is)))
      (both_reach_known c may.supposed s before k is (visits_within c s (event.Recover server undone) may k is) r t
      (let last = both_live.0 in last.below) (let next_one = both_live.1 in next_one.below))))
      (λ row low stay. reaches_left (s.known row) (frontiers_of k.known.items row) stay (is.sets.known row low))
      other within (λ j p member. changing_left j p ((after.fronts.known other).there j p member))

  -- ---- stores

  pub stores_after : (stores : ℕ → Content) (order : List VisitName) → order ≡ filter (is_left undone) k.order →
      stores server ≡ fold (rewritten (footprints_of k) server) empty order
      → ((other : ℕ) → other ≢ server → stores other ≡ content_at k.stores.items other) → (other : ℕ) →
      other < servers c → with_at s.up server true other ≡ true
      → stores other ≡ content_of (left_of (names undone) s.trace)
      (with_at s.lists server (list_got c s server (previous_live c s server)
      (following_live c s server)) other other) other
  stores_after stores order order_is here elsewhere other within up =
      let got : Visits = list_got c s server (previous_live c s server) (following_live c s server) in
      elim (cases_eq other server) [
        | inl same ↦ subst (λ at. stores at
            ≡ content_of (left_of (names undone) s.trace) (with_at s.lists server got at at) at) (sym same)
            (here ∙ (ap (fold (rewritten (footprints_of k) server) empty) (order_after order order_is)
            ∙ rebuilt_content c.partitions (footprints_in k.visits.items) server
            (with_at s.lists server got server server) (left_of (names undone) s.trace) footprints_after
            (λ packet changing. after.order.heads server packet (with_at_here s.up server true) changing)))
        | inr differs ↦
            elsewhere other differs
            ∙ (is.sets.stores other within (sym (with_at_elsewhere s.up server true other differs) ∙ up)
            ∙ (store_left (names undone) s.trace other (s.lists other other)
            (λ packet _ taken. false_from_ne_true (s.lists other other packet)
            (λ member. true≢false (sym taken ∙ listed_left other other packet member)))
            ∙ sym (ap (λ (visits : Visits). content_of (left_of (names undone) s.trace) (visits other) other)
            (with_at_elsewhere s.lists server got other differs))))
      ]

  -- ---- messages

  judged : (following : ℕ) → following ≡ following_live c s server →
      (origin : ℕ) (message : Message) (kept : MessageOfMachine) → s.message origin ≡ Some message
      → IsMessage c.partitions s.trace (numbers_of (footprints_in k.visits.items)) message kept →
      is_dropped_kept k following kept ≡ is_dropped c s (following_live c s server) message
  judged following following_is origin message kept there at =
      ap (λ f. is_dropped_kept k f kept) following_is ∙ dropped_same c s before k is (following_live c s server)
      (let next_one = both_live.1 in next_one.below) origin message kept there at

  pub messages_after : (following : ℕ) → following ≡ following_live c s server →
      (slots : List (Option MessageOfMachine))
      → ((origin : ℕ) → slot_at slots origin ≡ drop_kept (is_dropped_kept k following) (slot_at k.messages origin)) →
      (origin : ℕ)
      → IsMessageSlot c.partitions (left_of (names undone) s.trace) (numbers_of (footprints_in k.visits.items))
      (drop_if (is_dropped c s (following_live c s server)) (s.message origin)) (slot_at slots origin)
  messages_after following following_is slots dropped origin =
      let test = is_dropped c s (following_live c s server) in
      subst (λ (slot : Option MessageOfMachine). IsMessageSlot c.partitions (left_of (names undone) s.trace)
      (numbers_of (footprints_in k.visits.items)) (drop_if test (s.message origin)) slot) (sym (dropped origin))
      (slot_moves c.partitions s.trace (left_of (names undone) s.trace) (numbers_of (footprints_in k.visits.items))
      (numbers_of (footprints_in k.visits.items)) (drop_if test (s.message origin))
      (drop_kept (is_dropped_kept k following) (slot_at k.messages origin))
      (λ message there reach. reaches_left message.known reach
      (λ j p member. changing_left j p ((after.fronts.told origin message there).there j p member)))
      (drops c.partitions s.trace (numbers_of (footprints_in k.visits.items)) test (is_dropped_kept k following)
      (s.message origin) (slot_at k.messages origin)
      (λ message kept there _ at. judged following following_is origin message kept there at)
      (is.sets.messages origin)))

  -- ---- fates

  pub fates_after : (following : ℕ) → following ≡ following_live c s server → (number : ℕ) → number ≡ s.events →
      (mid new : List (Option Fate)) (packet : ℕ)
      → slot_at new packet ≡ fate_lost (loses_kept (is_dropped_kept k following) (slot_at k.messages packet)) number
      (slot_at mid packet)
      → fate_in mid packet ≡ (if is_undone_drop undone packet (fate_in k.fates packet) then Lost number
      else fate_in k.fates packet)
      → fate_in new packet ≡ (if loses_packet (is_dropped c s (following_live c s server)) (s.message packet)
      || is_undone_drop undone packet (s.fate packet) then Lost s.events else s.fate packet)
  fates_after following following_is number number_is mid new packet lost filtered =
      let test = is_dropped c s (following_live c s server) in
      let loses : loses_kept (is_dropped_kept k following) (slot_at k.messages packet)
      ≡ loses_packet test (s.message packet) =
      loses_same c.partitions s.trace (numbers_of (footprints_in k.visits.items)) test (is_dropped_kept k following)
      (s.message packet) (slot_at k.messages packet)
      (λ message kept there _ at. judged following following_is packet message kept there at)
      (is.sets.messages packet) in
      ap (λ (slot : Option Fate). option_map_or (λ (found : Fate). found) slot Inside) lost
      ∙ (lost_both (loses_kept (is_dropped_kept k following) (slot_at k.messages packet))
      (is_undone_drop undone packet (fate_in k.fates packet)) number (slot_at mid packet)
      (fate_in k.fates packet) filtered
      ∙ (ap (λ b. if b || is_undone_drop undone packet (fate_in k.fates packet) then Lost number
      else fate_in k.fates packet) loses
      ∙ (ap (λ (fate : Fate). if loses_packet test (s.message packet) || is_undone_drop undone packet fate then
      Lost number else fate) (is.fates packet)
      ∙ ap (λ n. if loses_packet test (s.message packet) || is_undone_drop undone packet (s.fate packet) then Lost n
      else s.fate packet) number_is)))
