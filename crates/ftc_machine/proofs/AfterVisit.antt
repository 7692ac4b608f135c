-- What is kept after a visit.
use Rattle.std.proofs.Common.{◌≡◌, ◌≢◌, ℕ, ◌+◌, ◌<◌, ◌==◌, ◌&&◌, ◌↔◌, if◌then◌else◌, Bool, true, false, not, List, []}
use Rattle.std.proofs.Common.{◌∷◌, map, length, Option, Some, None, ◌⊎◌, inl, inr, refl, sym, ◌∙◌, ap, subst, slice_set}
use Rattle.std.proofs.Common.{slice_index_or, get_or-set_same, get_or-set_other, arith, eqb-true, eq-eqb}
use Rattle.std.proofs.lemmas.Bool.{true≢false, cases_eq, ne_eqb, and_from, or_cases, or_left, or_right}
use Rattle.std.proofs.lemmas.Bool.{false_from_ne_true}
use Rattle.ftc_base.specs.Partition.{partition_of}
use Rattle.ftc_base.specs.declared.ask.Write.{Write}
use Rattle.ftc_base.specs.declared.limits.TheConstants.{MOST_SERVERS}
use Rattle.ftc_base.proofs.Bools.{or_without}
use Rattle.ftc_journal.specs.declared.event.Event.TheVariants as event
use Rattle.ftc_ring.specs.Ring.{RingShape}
use Rattle.ftc_serial.specs.Contents.{content_at}
use Rattle.ftc_serial.specs.Serial.{Entry, Visited, Given}
use Rattle.ftc_serial.specs.Take.{Outcome}
use Rattle.ftc_serial.specs.Words.{with_at}
use Rattle.ftc_serial.proofs.Functions.{with_at_cases}
use Rattle.ftc_store.specs.Store.{Content, written}
use Rattle.ftc_vector.specs.Vector.{number_at}
use Rattle.ftc_vector.specs.Commits.{vector_of, group_raised}
use Rattle.ftc_machine.specs.declared.state.footprint.Footprint.{Footprint}
use Rattle.ftc_machine.specs.declared.state.MachineState.{MachineState}
use Rattle.ftc_protocol.specs.Changes.{changes, is_changing, is_some_list}
use Rattle.ftc_machine.specs.Represents.{Represents, IsMessageSlot, FollowsRun, footprints_in, frontiers_of}
use Rattle.ftc_machine.specs.FootprintMaking.{IsFootprintMade}
use Rattle.ftc_machine.specs.FootprintMarks.{marked_at}
use Rattle.ftc_protocol.specs.Next.{outcome_at}
use Rattle.ftc_machine.specs.Frontier.{AreRising, AreFootprints, IsFootprint, AreFrontiers}
use Rattle.ftc_machine.specs.Frontier.{numbers_of, frontier_at}
use Rattle.ftc_protocol.specs.Setting.{Setting, servers}
use Rattle.ftc_machine.specs.Slots.{slot_at}
use Rattle.ftc_protocol.specs.State.{ChainState}
use Rattle.ftc_protocol.specs.Trace.{IsChanging, IsSomeVisit, content_of}
use Rattle.ftc_protocol.specs.Visits.{Visits, In, just, union}
use Rattle.ftc_protocol.specs.Orderly.{aim}
use Rattle.ftc_machine.specs.Lawful.{IsLawful}
use Rattle.ftc_machine.proofs.LegalEvents.{reached_before, reached_after, visits_within, changes_within}
use Rattle.ftc_machine.proofs.TraceGrowth.{rising_grows, footprints_grow, others_grow, head_grows}
use Rattle.ftc_protocol.proofs.Sets.{in_one}
use Rattle.ftc_machine.proofs.MadeFootprints.{footprint_of}
use Rattle.ftc_machine.proofs.RaisedRows.{raised_reaches}
use Rattle.ftc_machine.proofs.MergedFrontiers.{AreWithin}
use Rattle.ftc_machine.proofs.SetFrontiers.{same_reach, head_last}
use Rattle.ftc_machine.proofs.ReplacedPlaces.{row_replaced}
use Rattle.ftc_machine.proofs.MovedMessages.{slot_moves}
use Rattle.ftc_protocol.proofs.TraceLemmas.{stands_map}
use Rattle.ftc_protocol.proofs.ChangeLaws.{changed_touched}

pub some_length : {A : Type 0} (xs : List A) → is_some_list xs ≡ not (length xs == 0)
some_length [] = refl
some_length (x ∷ xs) = ap not (sym (ne_eqb (length (x ∷ xs)) 0 (λ e. omega arith)))

-- ---- a footprint in its place

module _ (visits : List (List (Option Footprint))) (place packet : ℕ) (row : List (Option Footprint))
    (footprint : Footprint) (row_is : row ≡ slice_index_or visits place [])
    (within : place < length visits) (room : packet < length row) where
  pub footprint_placed : footprints_in (slice_set visits place (slice_set row packet (Some footprint))) place packet
      ≡ Some footprint
  footprint_placed =
      ap (λ (found : List (Option Footprint)). slot_at found packet)
      (get_or-set_same visits place (slice_set row packet (Some footprint)) [] within)
      ∙ get_or-set_same row packet (Some footprint) None room

  pub footprints_other : (other another : ℕ) → ((other ≡ place) × (another ≡ packet) → ⊥)
      → footprints_in (slice_set visits place (slice_set row packet (Some footprint))) other another
      ≡ footprints_in visits other another
  footprints_other other another apart = elim (cases_eq other place) [
    | inl same ↦
        ap (λ (found : List (Option Footprint)). slot_at found another)
        (ap (λ p. slice_index_or
        (slice_set visits place (slice_set row packet (Some footprint))) p []) same ∙ get_or-set_same visits place
        (slice_set row packet (Some footprint)) [] within)
        ∙ (get_or-set_other row packet another (Some footprint) None (λ e. apart (same, e))
        ∙ ap (λ (found : List (Option Footprint)). slot_at found another)
        (row_is ∙ ap (λ p. slice_index_or visits p []) (sym same)))
    | inr differs ↦ ap (λ (found : List (Option Footprint)). slot_at found another)
        (get_or-set_other visits place other (slice_set row packet (Some footprint)) [] differs)
  ]

-- the new footprint, and the others as they were
pub footprint_put : (visits after : List (List (Option Footprint))) (place server packet : ℕ)
    (row put : List (Option Footprint)) (footprint : Footprint)
    → after ≡ slice_set visits place put → put ≡ slice_set row packet (Some footprint) →
    row ≡ slice_index_or visits place [] → place ≡ server → place < length visits →
    packet < length (slice_index_or visits server [])
    → (footprints_in after server packet ≡ Some footprint)
    × ((other another : ℕ) → ((other ≡ server) × (another ≡ packet) → ⊥) →
    footprints_in after other another ≡ footprints_in visits other another)
footprint_put visits after place server packet row put footprint after_is put_is row_is at within room =
    let is : after ≡ slice_set visits place (slice_set row packet (Some footprint)) =
    after_is ∙ ap (slice_set visits place) put_is in
    let wide : packet < length row =
    subst (λ (found : List (Option Footprint)). packet < length found)
    (ap (λ p. slice_index_or visits p []) (sym at) ∙ sym row_is) room in (
      subst (λ p. footprints_in after p packet ≡ Some footprint) at
          (ap (λ (rows : List (List
          (Option Footprint))). footprints_in rows place packet) is ∙ footprint_placed visits place packet row
          footprint row_is within wide),
      λ other another apart. ap (λ (rows : List (List (Option Footprint))). footprints_in rows other another) is
          ∙ footprints_other visits place packet row footprint row_is within wide other another
          (λ e. apart (e.0 ∙ at, e.1)),
    )

-- ---- the content behind a visit that wasn't in the trace

content_without : (trace : List Entry) (server packet : ℕ) (packets others : ℕ → Bool) →
    (IsSomeVisit trace server packet → ⊥) → ((other : ℕ) → other ≢ packet → packets other ≡ others other)
    → content_of trace packets server ≡ content_of trace others server
content_without [] server packet packets others fresh same = refl
content_without (Given number bytes ∷ older) server packet packets others fresh same =
    content_without older server packet packets others (λ there. fresh (inr there)) same
content_without (Visited visited passed outcome ∷ older) server packet packets others fresh same =
    let rest = content_without older server packet packets others (λ there. fresh (inr there)) same in
    elim (visited == server) as (λ b. visited == server ≡ b
    → (if b && packets passed then written outcome.writes (content_of older packets server)
    else content_of older packets server)
    ≡ (if b && others passed then written outcome.writes (content_of older others server)
    else content_of older others server)) [
      | false ↦ λ _. rest
      | true ↦ λ e.
          subst (λ b. (if packets passed then written outcome.writes (content_of older packets server)
          else content_of older packets server)
          ≡ (if b then written outcome.writes (content_of older others server) else content_of older others server))
          (same passed (λ own. fresh (inl (eqb-true visited server e, own, tt))))
          (ap (λ (content : Content). if packets passed then written outcome.writes content else content) rest)
    ] refl

pub no_writes : (writes : List Write) (f : Write → ℕ) → is_some_list (map f writes) ≡ false → writes ≡ []
no_writes [] f none_there = refl
no_writes (write ∷ writes) f none_there = absurd (true≢false none_there)

pub unchanged : (partitions : ℕ) (outcome : Outcome) → is_changing partitions outcome ≡ false → outcome.writes ≡ []
unfolding changes
unchanged partitions outcome none_there =
    no_writes outcome.writes (λ (write : Write). partition_of partitions write.key) none_there

pub content_grows : (partitions : ℕ) (trace : List Entry) (server packet : ℕ) (outcome : Outcome) (packets others : ℕ →
    Bool) → (IsSomeVisit trace server packet → ⊥)
    → ((other : ℕ) → other ≢ packet → others other ≡ packets other) →
    (is_changing partitions outcome ≡ true → others packet ≡ true)
    → content_of (Visited server packet outcome ∷ trace) others server
    ≡ written outcome.writes (content_of trace packets server)
content_grows partitions trace server packet outcome packets others fresh same own =
    let rest = content_without trace server packet others packets fresh same in
    elim ((server == server) && others packet) as (λ b. (server == server) && others packet ≡ b
    → (if b then written outcome.writes (content_of trace others server) else content_of trace others server)
    ≡ written outcome.writes (content_of trace packets server)) [
      | true ↦ λ _. ap (written outcome.writes) rest
      | false ↦ λ e. rest ∙ sym (ap (λ (writes : List Write). written writes (content_of trace packets server))
          (unchanged partitions outcome
          (false_from_ne_true (is_changing partitions outcome)
          (λ changing. true≢false (sym
          (and_from (server == server) (others packet) (eq-eqb server server refl) (own changing)) ∙ e)))))
    ] refl

module _ (c : Setting) (s : ChainState) (server packet worker : ℕ)
    (may : FollowsRun c s (event.Visit server packet worker)) (k : MachineState) (is : Represents c s k) where
  lawful : IsLawful c s
  lawful = reached_before c s (event.Visit server packet worker) may

  pub live : s.up server ≡ true
  live = subst (λ w. s.up (aim (servers c) w) ≡ true) may.legal.0.4
      (lawful.order.awake packet may.legal.0.0 may.legal.0.3)

  pub below : server < servers c
  below = lawful.order.inside server live

  pub fresh : IsSomeVisit s.trace server packet → ⊥
  fresh = let after = reached_after c s (event.Visit server packet worker) may in let fronts =
      after.fronts in fronts.visits.0

  -- a set of changing visits of the trace doesn't have it
  without : (visits : Visits) →
      ((group number : ℕ) → In visits group number → IsChanging c.partitions s.trace group number) → (row : ℕ) →
      row ≡ server → visits row packet ≡ false
  without visits listed row same = false_from_ne_true (visits row packet) (λ member.
      fresh (stands_map (λ o. is_changing c.partitions o ≡ true) (λ o. Unit {0}) (λ o _. tt) s.trace server packet
      (subst (λ r. IsChanging c.partitions s.trace r packet) same (listed row packet member))))

  pub made_here : (vector : List ℕ) (footprint : Footprint) →
      vector ≡ vector_of (frontiers_of k.lists.items server) server
      → IsFootprintMade c.partitions (outcome_at c s server packet).answers
      (outcome_at c s server packet).writes vector footprint
      → IsFootprint c.partitions s.trace (numbers_of (footprints_in k.visits.items)) server
      (outcome_at c s server packet) footprint
  made_here vector footprint vector_is made =
      footprint_of c.partitions s.trace (numbers_of (footprints_in k.visits.items)) server
      (outcome_at c s server packet) vector footprint made
      (subst (λ (v : List ℕ). (partition : ℕ) →
      Rattle.ftc_machine.specs.Frontier.IsLast c.partitions s.trace
      (numbers_of (footprints_in k.visits.items)) server partition (number_at v partition)) (sym vector_is)
      (head_last c.partitions s.trace (numbers_of (footprints_in k.visits.items)) server (s.lists server server)
      (frontier_at (frontiers_of k.lists.items server) server)
      (λ number changing. lawful.order.heads server number live changing) (is.sets.lists server below server)))
      (λ partition changing. changed_touched c.partitions _ _ _ partition changing)

  module _ (footprint : Footprint) (after : List (List (Option Footprint))) (own : footprints_in after server packet
      ≡ Some footprint)
      (others : (other another : ℕ) → ((other ≡ server) × (another ≡ packet) → ⊥) →
      footprints_in after other another ≡ footprints_in k.visits.items other another)
      (number : footprint.number ≡ s.events + 1)
      (made : IsFootprint c.partitions s.trace (numbers_of (footprints_in k.visits.items)) server
      (outcome_at c s server packet) footprint) where
    pub rises : AreRising (numbers_of (footprints_in after)) (s.events + 1
        + 1) (Visited server packet (outcome_at c s server packet) ∷ s.trace)
    rises = rising_grows c.partitions (s.events + 1) s.trace (footprints_in k.visits.items)
        (footprints_in after) is.sets.rising server packet (outcome_at c s server packet) footprint fresh own others
        (omega (arith, number)) (omega (arith, number)) (s.events + 1 + 1) (omega (arith, number))

    pub footprints_after : AreFootprints c.partitions (footprints_in after)
        (Visited server packet (outcome_at c s server packet) ∷ s.trace)
    footprints_after = footprints_grow c.partitions (s.events + 1) s.trace (footprints_in k.visits.items)
        (footprints_in after) is.sets.rising server packet (outcome_at c s server packet) footprint fresh own others
        (omega (arith, number)) (omega (arith, number)) made is.sets.footprints

    reaches_grow : (visits : Visits) (reach : List (List ℕ)) →
        ((group number : ℕ) → In visits group number → IsChanging c.partitions s.trace group number)
        → AreFrontiers c.partitions s.trace (numbers_of (footprints_in k.visits.items)) visits reach
        → AreFrontiers c.partitions (Visited server packet (outcome_at c s server packet)
        ∷ s.trace) (numbers_of (footprints_in after)) visits reach
    reaches_grow visits reach listed reaches row =
        others_grow c.partitions (s.events + 1) s.trace (footprints_in k.visits.items)
        (footprints_in after) is.sets.rising server packet (outcome_at c s server packet) footprint fresh own others
        (omega (arith, number)) (omega (arith, number)) row (visits row) (frontier_at reach row)
        (without visits listed row) (reaches row)

    pub known_grows : (other : ℕ) → other < servers c
        → AreFrontiers c.partitions (Visited server packet (outcome_at c s server packet)
        ∷ s.trace) (numbers_of (footprints_in after)) (s.known other) (frontiers_of k.known.items other)
    known_grows other within =
        reaches_grow (s.known other) (frontiers_of k.known.items other)
        (λ group number member. (lawful.fronts.known other).there group number member) (is.sets.known other within)

    -- messages carry what they carried
    pub messages_grow : (origin : ℕ) →
        IsMessageSlot c.partitions (Visited server packet (outcome_at c s server packet)
        ∷ s.trace) (numbers_of (footprints_in after)) (s.message origin) (slot_at k.messages origin)
    messages_grow origin = slot_moves c.partitions s.trace (Visited server packet (outcome_at c s server packet)
        ∷ s.trace) (numbers_of (footprints_in k.visits.items)) (numbers_of (footprints_in after)) (s.message origin)
        (slot_at k.messages origin) (λ message there reach. reaches_grow message.known reach
        (λ group number member. (lawful.fronts.told origin message there).there group number member))
        (is.sets.messages origin)

    -- the new visit, too, is one of so few that a reach tells
    within_after : AreWithin c.partitions (Visited server packet (outcome_at c s server packet) ∷ s.trace)
    within_after =
        let old = visits_within c s (event.Visit server packet worker) may k is in
        let some = k.some_partition in
        let few = k.few_partitions in
        let same = is.partitions in
        record {
          server = λ group another partition changing. elim changing [
            | inl here ↦ let most = may.supposed.ring.servers in let low : server < servers c =
                below in let at : server ≡ group = here.0 in omega arith
            | inr there ↦ old.server group another partition there
          ];
          partition = λ group another partition changing. elim changing [
            | inl here ↦ let less : partition < c.partitions =
                changes_within c.partitions (outcome_at c s server packet) partition (omega arith) here.2 in omega arith
            | inr there ↦ old.partition group another partition there
          ];
        }

    -- the server's list of its own visits has the new one, if it changes something
    joins : (another : ℕ) → (union (s.lists server)
        (just server packet (is_changing c.partitions (outcome_at c s server packet))) server another ≡ true)
        ↔ ((s.lists server server another ≡ true)
        ⊎ ((another ≡ packet) × (is_changing c.partitions (outcome_at c s server packet) ≡ true)))
    joins another =
        let changing = is_changing c.partitions (outcome_at c s server packet) in (
          λ member. elim (or_cases (s.lists server server another)
              (just server packet changing server another) member) [
                | inl old ↦ inl old
                | inr new ↦ let one = in_one server packet changing server another new in inr (one.1, one.2)
              ],
          λ either. elim either [
            | inl old ↦ or_left (s.lists server server another) (just server packet changing server another) old
            | inr new ↦ or_right (s.lists server server another) (just server packet changing server another)
                (and_from ((server == server)
                && (another == packet)) changing
                (and_from (server == server) (another == packet) (eq-eqb server server refl)
                (eq-eqb another packet new.0)) new.1)
          ],
        )

    pub lists_grow : (vector : List ℕ) (raised : List (List ℕ)) (new : List (List (List ℕ)))
        → ((partition : ℕ) → number_at vector partition
        ≡ marked_at footprint (number_at (vector_of (frontiers_of k.lists.items server) server)) partition)
        → length (frontiers_of k.lists.items server) ≡ MOST_SERVERS
        → raised ≡ group_raised (frontiers_of k.lists.items server) server vector →
        new ≡ slice_set k.lists.items server raised
        → (other : ℕ) → other < servers c
        → AreFrontiers c.partitions (Visited server packet (outcome_at c s server packet)
        ∷ s.trace) (numbers_of (footprints_in after))
        (with_at s.lists server (union (s.lists server)
        (just server packet (is_changing c.partitions (outcome_at c s server packet)))) other)
        (frontiers_of new other)
    lists_grow vector raised new marks size raises is_new =
        let outcome = outcome_at c s server packet in
        let extra : Visits = just server packet (is_changing c.partitions outcome) in
        let listed = λ (other group another : ℕ) (member : In (s.lists other) group another).
        (lawful.order.had other group another member).3 in
        row_replaced (λ other (visits : Visits) (row : List (List ℕ)). other < servers c →
        AreFrontiers c.partitions (Visited server packet outcome
        ∷ s.trace) (numbers_of (footprints_in after)) visits row)
        s.lists [] k.lists.items k.lists.items new server (union (s.lists server) extra) raised is_new
        (let long = k.each_list in let same = ap (λ (ring : RingShape). ring.servers) is.ring in
        let low : server < servers c = below in omega arith) (λ _ _. refl)
        (λ within.
        subst (λ (row : List (List ℕ)). AreFrontiers c.partitions (Visited server packet outcome
        ∷ s.trace) (numbers_of (footprints_in after)) (union (s.lists server) extra) row) (sym raises)
        (raised_reaches c.partitions (Visited server packet outcome
        ∷ s.trace) (numbers_of (footprints_in after)) within_after (s.lists server) extra
        (frontiers_of k.lists.items server) server vector
        (let most = may.supposed.ring.servers in omega arith)
        (λ row number other. ap (λ b. (b && (number == packet))
        && is_changing c.partitions outcome) (ne_eqb row server other))
        (same_reach c.partitions (Visited server packet outcome ∷ s.trace) (numbers_of (footprints_in after)) server
        (union (s.lists server) extra server) (union (s.lists server) extra server)
        (marked_at footprint (number_at (vector_of (frontiers_of k.lists.items server) server))) (number_at vector)
        (λ _. refl) (λ partition. sym (marks partition))
        (head_grows c.partitions (s.events + 1) s.trace (footprints_in k.visits.items)
        (footprints_in after) is.sets.rising server packet outcome footprint fresh own others
        (omega (arith, number)) (omega (arith, number)) made (s.lists server server)
        (union (s.lists server) extra server) (number_at (vector_of (frontiers_of k.lists.items server) server))
        (λ another changing. lawful.order.heads server another live changing) joins
        (is.sets.lists server within server)))
        (reaches_grow (s.lists server) (frontiers_of k.lists.items server) (listed server)
        (is.sets.lists server within))))
        (λ other within. reaches_grow (s.lists other) (frontiers_of k.lists.items other) (listed other)
        (is.sets.lists other within))

  pub stores_grow : (stores : ℕ → Content) →
      stores server ≡ written (outcome_at c s server packet).writes (content_at k.stores.items server)
      → ((other : ℕ) → other ≢ server → stores other ≡ content_at k.stores.items other) → (other : ℕ) →
      other < servers c → s.up other ≡ true
      → stores other ≡ content_of (Visited server packet (outcome_at c s server packet) ∷ s.trace)
      (with_at s.lists server (union (s.lists server)
      (just server packet (is_changing c.partitions (outcome_at c s server packet)))) other other) other
  stores_grow stores here elsewhere other within up =
      let outcome = outcome_at c s server packet in
      let changing = is_changing c.partitions outcome in
      let extra : Visits = just server packet changing in
      with_at_cases (λ (visits : Visits). stores other
      ≡ content_of (Visited server packet outcome ∷ s.trace) (visits other) other) s.lists server
      (union (s.lists server) extra) other
      (λ same. subst (λ at. stores at
      ≡ content_of (Visited server packet outcome ∷ s.trace) (union (s.lists server) extra at) at) (sym same)
      (here ∙ (ap (written outcome.writes) (is.sets.stores server below live)
      ∙ sym (content_grows c.partitions s.trace server packet outcome (s.lists server server)
      (union (s.lists server) extra server) fresh
      (λ another differs. or_without (s.lists server server another) (extra server another)
      (false_from_ne_true (extra server another)
      (λ member. differs (in_one server packet changing server another member).1)))
      (λ changes_some. or_right (s.lists server server packet) (extra server packet)
      (and_from ((server == server)
      && (packet == packet)) changing
      (and_from (server == server) (packet == packet) (eq-eqb server server refl)
      (eq-eqb packet packet refl)) changes_some))))))
      (λ differs. elsewhere other differs ∙ (is.sets.stores other within up
      ∙ sym (ap (λ b. if b && s.lists other other packet then
      written outcome.writes (content_of s.trace (s.lists other other) other)
      else content_of s.trace (s.lists other other) other)
      (ne_eqb server other (λ e. differs (sym e))))))
