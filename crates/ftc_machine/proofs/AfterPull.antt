-- What is kept after the receiver of a link pulled from its sender, part by part.
use Rattle.std.proofs.Common.{◌≡◌, ◌≢◌, ℕ, ◌+◌, ◌<◌, ◌≤◌, ◌==◌, ◌&&◌, ◌||◌, ◌↔◌, Bool, true, false, not, nat_lt, nat_le}
use Rattle.std.proofs.Common.{if◌then◌else◌, List, [], ◌∷◌, slice_set, inl, inr, refl, sym, ◌∙◌, ap, subst, arith}
use Rattle.std.proofs.Common.{eqb-true, eq-eqb, leb-true, le-leb, lt-ltb}
use Rattle.std.proofs.Math.Bool.{or-false, or_comm, and-false}
use Rattle.std.proofs.lemmas.Bool.{true≢false, cases_lt, eqb-false, ne_eqb, and_parts, and_from, or_cases, or_left}
use Rattle.std.proofs.lemmas.Bool.{or_right, not-true, not_from_false, false_from_ne_true}
use Rattle.std.specs.List.{list_any}
use Rattle.std.specs.Cmp.{both_ways}
use Rattle.ftc_base.specs.Sets.{has}
use Rattle.ftc_journal.specs.declared.event.Event.TheVariants as event
use Rattle.ftc_ring.specs.Ring.{RingShape, apart, next_of}
use Rattle.ftc_serial.specs.Contents.{content_at}
use Rattle.ftc_serial.specs.Serial.{Entry, Visited, Given}
use Rattle.ftc_serial.specs.Take.{Outcome}
use Rattle.ftc_serial.specs.Words.{with_at}
use Rattle.ftc_serial.proofs.Functions.{with_at_cases}
use Rattle.ftc_store.specs.Store.{Content, written}
use Rattle.ftc_vector.specs.Commits.{all_merged}
use Rattle.ftc_machine.specs.declared.state.MachineState.{MachineState}
use Rattle.ftc_protocol.specs.Changes.{changes}
use Rattle.ftc_machine.specs.Represents.{Represents, FollowsRun, footprints_in, frontiers_of}
use Rattle.ftc_machine.specs.Gain.{HasGain}
use Rattle.ftc_protocol.specs.Next.{is_news, pulled_list}
use Rattle.ftc_machine.specs.Frontier.{AreFrontiers, IsChangingIn, numbers_of, frontier_at}
use Rattle.ftc_protocol.specs.Setting.{Setting, servers, is_member, is_tail}
use Rattle.ftc_protocol.specs.State.{ChainState}
use Rattle.ftc_ring.specs.Groups.{group_ending_at, is_later_member}
use Rattle.ftc_machine.specs.Tails.{part_of}
use Rattle.ftc_protocol.specs.Trace.{IsChanging, IsInTrace, content_of}
use Rattle.ftc_protocol.specs.Visits.{In, Visits, union}
use Rattle.ftc_machine.specs.Lawful.{IsLawful}
use Rattle.ftc_machine.proofs.LegalEvents.{reached_before, visits_below, visits_within}
use Rattle.ftc_machine.proofs.GroupParts.{part_reaches}
use Rattle.ftc_machine.proofs.MergedFrontiers.{merged_reaches, reach_moves}
use Rattle.ftc_machine.proofs.ReplacedPlaces.{row_replaced}
use Rattle.ftc_protocol.proofs.RingDistances.{apart_after, apart_cases}
use Rattle.ftc_protocol.proofs.ListStores.{some_changes}
use Rattle.ftc_machine.proofs.GroupTails.{ends_here}

-- a changing visit changes some partition
pub changes_in : (partitions : ℕ) (trace : List Entry) (group packet : ℕ) → IsChanging partitions trace group packet →
    (partition : ℕ) × IsChangingIn partitions trace group packet partition
changes_in partitions [] group packet there = absurd there
changes_in partitions (Given other bytes ∷ older) group packet there = elim there [
  | inl here ↦ absurd here
  | inr below ↦ let found = changes_in partitions older group packet below in (found.0, inr found.1)
]
changes_in partitions (Visited visited passed outcome ∷ older) group packet there = elim there [
  | inl here ↦ let found = some_changes (changes partitions outcome) here.2 in (found.0, inl (here.0, here.1, found.1))
  | inr below ↦ let found = changes_in partitions older group packet below in (found.0, inr found.1)
]

-- the content of a middlebox is by its visits alone
pub content_of-same : (trace : List Entry) (one other : ℕ → Bool) (server : ℕ) →
    ((packet : ℕ) → one packet ≡ other packet) → content_of trace one server ≡ content_of trace other server
content_of-same [] one other server alike = refl
content_of-same (Given packet bytes ∷ older) one other server alike = content_of-same older one other server alike
content_of-same (Visited visited packet outcome ∷ older) one other server alike =
    let rest : content_of older one server ≡ content_of older other server =
    content_of-same older one other server alike in
    ap (λ b. if (visited == server) && b then written outcome.writes (content_of older one server)
    else content_of older one server) (alike packet)
    ∙ ap (λ (content : Content). if (visited == server) && other packet then written outcome.writes content
    else content) rest

-- both ends of a link belong to the group, and the receiver doesn't head it
abbrev pub is_shared : Setting → ℕ → ℕ → ℕ → Bool
is_shared c sender receiver group = is_member c group sender && is_member c group receiver && not (group == receiver)

module _ (c : Setting) (s : ChainState) (link : ℕ) (may : FollowsRun c s (event.Pull link)) (k : MachineState)
    (is : Represents c s k) where
  reached : IsLawful c s
  reached = reached_before c s (event.Pull link) may

  several : servers c ≢ 1
  several = reached.order.gaps link may.legal.0.2

  pub link_below : link < servers c
  link_below = reached.order.inside link may.legal.0.0

  pub next_below : next_of (servers c) link < servers c
  next_below = reached.order.inside (next_of (servers c) link) may.legal.0.1

  -- the sender is a link nearer to each head but the receiver
  nearer : (group : ℕ) → group < servers c → group ≢ next_of (servers c) link →
      apart (servers c) group (next_of (servers c) link) ≡ apart (servers c) group link + 1
  nearer group below other =
      let first : link < servers c = link_below in
      let second : next_of (servers c) link < servers c = next_below in
      let more : servers c ≢ 1 = several in
      let step = apart_after (servers c) link first in
      let one = apart_cases (servers c) group link below first in
      let two = apart_cases (servers c) group (next_of (servers c) link) below second in
      omega arith

  -- the groups behind whose heads the receiver stands
  shared_is : (group : ℕ) → group < servers c →
      (nat_lt group k.ring.servers && is_later_member k.ring group (next_of (servers c) link))
      ≡ is_shared c link (next_of (servers c) link) group
  shared_is group below =
      ap (λ (ring : RingShape). nat_lt group ring.servers && is_later_member ring group (next_of (servers c) link))
      is.ring ∙ both_ways _ _
      (λ yes_behind.
      let parts = and_parts (not (group == next_of (servers c) link))
      (nat_le (apart (servers c) group (next_of (servers c) link)) c.failures)
      (and_parts (nat_lt group (servers c)) _ yes_behind).1 in
      let other : group ≢ next_of (servers c) link = eqb-false group (next_of (servers c) link) (not-true _ parts.0) in
      let far : apart (servers c) group (next_of (servers c) link) ≡ apart (servers c) group link + 1 =
      nearer group below other in
      let within : apart (servers c) group (next_of (servers c) link) ≤ c.failures = leb-true _ _ parts.1 in
      and_from (is_member c group link && is_member c group (next_of (servers c) link))
      (not (group == next_of (servers c) link))
      (and_from (is_member c group link) (is_member c group (next_of (servers c) link))
      (le-leb _ _ (omega arith)) parts.1) parts.0)
      (λ yes_shared.
      let parts = and_parts (is_member c group link && is_member c group (next_of (servers c) link))
      (not (group == next_of (servers c) link)) yes_shared in
      and_from (nat_lt group (servers c))
      (is_later_member (record { servers = servers c; failures = c.failures }) group (next_of (servers c) link))
      (lt-ltb _ _ below)
      (and_from (not (group == next_of (servers c) link)) (is_member c group (next_of (servers c) link)) parts.1
      (and_parts (is_member c group link) (is_member c group (next_of (servers c) link)) parts.0).1))

  -- of them the sender has what the receiver has
  sender_has : (group packet : ℕ) → group < servers c → is_shared c link (next_of (servers c) link) group ≡ true →
      In (s.lists (next_of (servers c) link)) group packet → In (s.lists link) group packet
  sender_has group packet below shared there =
      let other : group ≢ next_of (servers c) link =
      eqb-false group (next_of (servers c) link)
      (not-true _ (and_parts (is_member c group link
      && is_member c group (next_of (servers c) link)) _ shared).1) in
      let far : apart (servers c) group (next_of (servers c) link) ≡ apart (servers c) group link + 1 =
      nearer group below other in
      reached.sound.nested group link (next_of (servers c) link) packet link_below may.legal.0.0 (omega arith) there

  -- what the receiver has then
  pulled_is : (group packet : ℕ) → group < servers c
      → (s.lists (next_of (servers c) link) group packet
      || (is_shared c link (next_of (servers c) link) group && s.lists link group packet))
      ≡ pulled_list c s link (next_of (servers c) link) group packet
  pulled_is group packet below =
      elim (is_shared c link (next_of (servers c) link) group) as
      (λ b. is_shared c link (next_of (servers c) link) group ≡ b
      → (s.lists (next_of (servers c) link) group packet || (b && s.lists link group packet))
      ≡ (if b then s.lists link group packet else s.lists (next_of (servers c) link) group packet)) [
        | true ↦ λ shared. both_ways _ _
            (λ either. elim (or_cases (s.lists (next_of (servers c) link) group packet)
            (s.lists link group packet) either) [
              | inl had ↦ sender_has group packet below shared had
              | inr got ↦
                  got
            ])
            (λ got. or_right (s.lists (next_of (servers c) link) group packet) (s.lists link group packet) got)
        | false ↦ λ alone. or-false (s.lists (next_of (servers c) link) group packet)
      ] refl

  module _ (groups : ℕ) (are : (group : ℕ) →
      has groups group ≡ (nat_lt group k.ring.servers && is_later_member k.ring group (next_of (servers c) link))) where
    part_is : AreFrontiers c.partitions s.trace (numbers_of (footprints_in k.visits.items))
        (λ group packet. has groups group
        && s.lists link group packet) (part_of (has groups) (frontiers_of k.lists.items link))
    part_is =
        part_reaches c.partitions s.trace (numbers_of (footprints_in k.visits.items))
        (visits_within c s (event.Pull link) may k is) (s.events + 1) is.sets.rising (has groups) (s.lists link)
        (frontiers_of k.lists.items link) (is.sets.lists link link_below)

    pub pulled_reaches : AreFrontiers c.partitions s.trace (numbers_of (footprints_in k.visits.items))
        (pulled_list c s link (next_of (servers c) link))
        (all_merged (frontiers_of k.lists.items (next_of (servers c) link))
        (part_of (has groups) (frontiers_of k.lists.items link)))
    pulled_reaches group =
        let receiver = next_of (servers c) link in
        let got : Visits = λ other packet. has groups other && s.lists link other packet in
        let row = frontier_at (all_merged (frontiers_of k.lists.items receiver)
        (part_of (has groups) (frontiers_of k.lists.items link))) group in
        reach_moves c.partitions s.trace (numbers_of (footprints_in k.visits.items)) group
        (union (s.lists receiver) got group) (pulled_list c s link receiver group) row row
        (λ packet partition changes.
        let below = visits_below c s (event.Pull link) may group packet partition changes in
        ap (λ b. s.lists receiver group packet
        || (b && s.lists link group packet)) (are group ∙ shared_is group below) ∙ pulled_is group packet below)
        (λ packet partition changes. refl) (λ partition some. refl)
        (merged_reaches c.partitions s.trace (numbers_of (footprints_in k.visits.items))
        (visits_within c s (event.Pull link) may k is) (s.lists receiver) got (frontiers_of k.lists.items receiver)
        (part_of (has groups) (frontiers_of k.lists.items link)) (is.sets.lists receiver next_below) part_is group)

    -- the lists
    pub lists_pulled : (place : ℕ) (after : List (List ℕ)) (new : List (List (List ℕ))) →
        place ≡ next_of (servers c) link
        → after ≡ all_merged (frontiers_of k.lists.items place)
        (part_of (has groups) (frontiers_of k.lists.items link)) → new ≡ slice_set k.lists.items place after
        → (server : ℕ) → server < servers c
        → AreFrontiers c.partitions s.trace (numbers_of (footprints_in k.visits.items))
        (with_at s.lists (next_of (servers c) link) (pulled_list c s link (next_of (servers c) link)) server)
        (frontiers_of new server)
    lists_pulled place after new at merges is_new =
        row_replaced (λ server (visits : Visits) (row : List (List ℕ)). server < servers c →
        AreFrontiers c.partitions s.trace (numbers_of (footprints_in k.visits.items)) visits row)
        s.lists [] k.lists.items k.lists.items new (next_of (servers c) link)
        (pulled_list c s link (next_of (servers c) link)) after
        (is_new ∙ ap (λ p. slice_set k.lists.items p after) at)
        (let long = k.each_list in let size = ap (λ (ring : RingShape). ring.servers) is.ring in
        let below : next_of (servers c) link < servers c = next_below in omega arith) (λ _ _. refl)
        (λ within.
        subst (λ (row : List (List ℕ)). AreFrontiers c.partitions s.trace (numbers_of (footprints_in k.visits.items))
        (pulled_list c s link (next_of (servers c) link)) row)
        (sym (merges ∙ ap (λ p. all_merged (frontiers_of k.lists.items p)
        (part_of (has groups) (frontiers_of k.lists.items link))) at)) pulled_reaches)
        is.sets.lists

    -- What is new to the receiver, of another group than it ends, is what its row doesn't reach.
    abbrev tells : ℕ → ℕ → Bool
    tells group packet =
        pulled_list c s link (next_of (servers c) link) group packet
        && not (s.lists (next_of (servers c) link) group packet) && not (is_tail c group (next_of (servers c) link))

    row_tells : (group packet : ℕ) → tells group packet ≡ true →
        HasGain (part_of (has groups) (frontiers_of k.lists.items link))
        (frontiers_of k.lists.items (next_of (servers c) link)) (group_ending_at k.ring (next_of (servers c) link))
    row_tells group packet told =
        let receiver = next_of (servers c) link in
        let few = visits_within c s (event.Pull link) may k is in
        let both = and_parts (pulled_list c s link receiver group packet
        && not (s.lists receiver group packet)) (not (is_tail c group receiver)) told in
        let parts = and_parts (pulled_list c s link receiver group packet)
        (not (s.lists receiver group packet)) both.0 in
        let lacks : s.lists receiver group packet ≡ false = not-true (s.lists receiver group packet) parts.1 in
        let new = new_is group packet parts.0 lacks in
        let below : group < servers c = (reached.order.had link group packet new.1).1 in
        let changing = changes_in c.partitions s.trace group packet (reached.order.had link group packet new.1).3 in
        let partition = changing.0 in
        let shared : has groups group ≡ true = are group ∙ shared_is group below ∙ new.0 in
        let reach : numbers_of (footprints_in k.visits.items) group packet ≤ frontier_at
        (part_of (has groups) (frontiers_of k.lists.items link)) group partition =
        ((part_is group).each packet partition changing.1).0
        (and_from (has groups group) (s.lists link group packet) shared new.1) in
        let short : frontier_at (frontiers_of k.lists.items receiver) group partition < numbers_of
        (footprints_in k.visits.items) group packet =
        elim (cases_lt (frontier_at (frontiers_of k.lists.items receiver) group partition)
        (numbers_of (footprints_in k.visits.items) group packet)) [
          | inl less ↦ less
          | inr most ↦ absurd (true≢false
              (sym (((is.sets.lists receiver next_below group).each packet partition changing.1).1 most) ∙ lacks))
        ] in (
          group,
          few.server group packet partition changing.1,
          (λ same. true≢false (sym
              (ends_here c s (event.Pull link) may k is group receiver below next_below ∙ eq-eqb group
              (group_ending_at k.ring receiver) same) ∙ not-true (is_tail c group receiver) both.1)),
          (partition, few.partition group packet partition changing.1, omega arith),
        )
      where
        new_is : (group packet : ℕ) → pulled_list c s link (next_of (servers c) link) group packet ≡ true →
            s.lists (next_of (servers c) link) group packet ≡ false
            → (is_shared c link (next_of (servers c) link) group ≡ true) × In (s.lists link) group packet
        new_is group packet pulled lacks =
            elim (is_shared c link (next_of (servers c) link) group) as
            (λ b. is_shared c link (next_of (servers c) link) group ≡ b
            → (if b then s.lists link group packet else s.lists (next_of (servers c) link) group packet) ≡ true →
            (is_shared c link (next_of (servers c) link) group ≡ true) × In (s.lists link) group packet) [
              | true ↦ λ shared got. (shared, got)
              | false ↦ λ alone had. absurd (true≢false (sym had ∙ lacks))
            ] refl pulled

    told_by_row : HasGain (part_of (has groups) (frontiers_of k.lists.items link))
        (frontiers_of k.lists.items (next_of (servers c) link)) (group_ending_at k.ring (next_of (servers c) link))
        → (group : ℕ) × (packet : ℕ) × (partition : ℕ) × IsChangingIn c.partitions s.trace group packet partition
        × (tells group packet ≡ true)
    told_by_row news =
        let receiver = next_of (servers c) link in
        let group = news.0 in
        let partition = news.3.0 in
        let more : frontier_at (frontiers_of k.lists.items receiver) group partition < frontier_at
        (part_of (has groups) (frontiers_of k.lists.items link)) group partition = news.3.2 in
        let last = (part_is group).last partition (omega arith) in
        let packet = last.0 in
        let number : numbers_of (footprints_in k.visits.items) group packet
        ≡ frontier_at (part_of (has groups) (frontiers_of k.lists.items link)) group partition = last.2 in
        let below = visits_below c s (event.Pull link) may group packet partition last.1 in
        let there = and_parts (has groups group) (s.lists link group packet)
        (((part_is group).each packet partition last.1).1 (omega arith)) in
        let shared : is_shared c link receiver group ≡ true = sym (are group ∙ shared_is group below) ∙ there.0 in
        let pulled : pulled_list c s link receiver group packet ≡ true =
        sym (pulled_is group packet below) ∙ or_right (s.lists receiver group packet) (is_shared c link receiver group
        && s.lists link group packet)
        (and_from (is_shared c link receiver group) (s.lists link group packet) shared there.1) in
        let lacks : s.lists receiver group packet ≡ false =
        false_from_ne_true (s.lists receiver group packet)
        (λ had. let reach = ((is.sets.lists receiver next_below group).each packet partition last.1).0 had in
        omega arith) in
        let inside : is_tail c group receiver ≡ false =
        ends_here c s (event.Pull link) may k is group receiver below next_below ∙ ne_eqb group
        (group_ending_at k.ring receiver) news.2 in (
          group,
          packet,
          partition,
          last.1,
          and_from (pulled_list c s link receiver group packet
              && not (s.lists receiver group packet)) (not (is_tail c group receiver))
              (and_from (pulled_list c s link receiver group packet) (not (s.lists receiver group packet)) pulled
              (not_from_false (s.lists receiver group packet) lacks))
              (not_from_false (is_tail c group receiver) inside),
        )

    news_found : (trace : List Entry) → list_any (is_news c s link (next_of (servers c) link)) trace ≡ true →
        (group : ℕ) × (packet : ℕ) × (tells group packet ≡ true)
    news_found [] told = absurd (true≢false (sym told))
    news_found (Given packet bytes ∷ older) told = news_found older told
    news_found (Visited group packet outcome ∷ older) told =
        elim (or_cases (is_news c s link (next_of (servers c) link) (Visited group packet outcome))
        (list_any (is_news c s link (next_of (servers c) link)) older) told) [
          | inl here ↦ (group, packet, here)
          | inr below ↦ news_found older below
        ]

    news_there : (P : Outcome → Type 0) (trace : List Entry) (group packet : ℕ) → IsInTrace P trace group packet →
        tells group packet ≡ true → list_any (is_news c s link (next_of (servers c) link)) trace ≡ true
    news_there P [] group packet there told = absurd there
    news_there P (Given other bytes ∷ older) group packet there told =
        elim there [ inl here ↦ absurd here | inr below ↦ news_there P older group packet below told ]
    news_there P (Visited visited passed outcome ∷ older) group packet there told =
        elim there [
          | inl here ↦ or_left (is_news c s link (next_of (servers c) link) (Visited visited passed outcome))
              (list_any (is_news c s link (next_of (servers c) link)) older)
              (subst (λ p. tells visited p ≡ true) (sym here.1) (subst (λ g. tells g packet ≡ true) (sym here.0) told))
          | inr below ↦ or_right (is_news c s link (next_of (servers c) link) (Visited visited passed outcome))
              (list_any (is_news c s link (next_of (servers c) link)) older)
              (news_there P older group packet below told)
        ]

    pub news_is : (news : Bool) →
        ((news ≡ true) ↔ HasGain (part_of (has groups) (frontiers_of k.lists.items link))
        (frontiers_of k.lists.items (next_of (servers c) link)) (group_ending_at k.ring (next_of (servers c) link)))
        → news ≡ list_any (is_news c s link (next_of (servers c) link)) s.trace
    news_is news are_news =
        both_ways news (list_any (is_news c s link (next_of (servers c) link)) s.trace)
        (λ yes_news. let told = told_by_row (are_news.0 yes_news) in news_there _ s.trace told.0 told.1 told.3 told.4)
        (λ told. let found = news_found s.trace told in are_news.1 (row_tells found.0 found.1 found.2))

  -- the gaps
  pub gaps_pulled : (gaps : ℕ) (news : Bool) → news ≡ list_any (is_news c s link (next_of (servers c) link)) s.trace
      → ((other : ℕ) → has gaps other
      ≡ (not (other == link) && ((other == next_of (servers c) link && news) || has k.gaps other)))
      → (other : ℕ) → other < servers c
      → has gaps other ≡ (if other == link then false
      else (if other == next_of (servers c) link then s.gap (next_of (servers c) link)
      || list_any (is_news c s link (next_of (servers c) link)) s.trace else s.gap other))
  gaps_pulled gaps news same are other below =
      are other
      ∙ ap (λ b. not (other == link) && ((other == next_of (servers c) link && news) || b)) (is.gaps other below)
      ∙ ap (λ b. not (other == link) && ((other == next_of (servers c) link && b) || s.gap other)) same
      ∙ by_tests (other == link) (other == next_of (servers c) link)
      (list_any (is_news c s link (next_of (servers c) link)) s.trace) (s.gap other)
      (s.gap (next_of (servers c) link))
      (λ e. ap s.gap (eqb-true other (next_of (servers c) link) e))
    where
      by_tests : (first second told gap own : Bool) → (second ≡ true → gap ≡ own) →
          (not first && ((second && told) || gap)) ≡ (if first then false else (if second then own || told else gap))
      by_tests true second told gap own alike = refl
      by_tests false true told gap own alike = or_comm told gap ∙ ap (λ b. b || told) (alike refl)
      by_tests false false told gap own alike = refl

  -- the receiver's own list stays
  own_same : (packet : ℕ) → s.lists (next_of (servers c) link) (next_of (servers c) link) packet
      ≡ pulled_list c s link (next_of (servers c) link) (next_of (servers c) link) packet
  own_same packet =
      let receiver = next_of (servers c) link in
      let alone : is_shared c link receiver receiver ≡ false =
      ap (λ b. is_member c receiver link && is_member c receiver receiver
      && not b) (eq-eqb receiver receiver refl) ∙ and-false (is_member c receiver link
      && is_member c receiver receiver) in
      sym (ap (λ b. if b then s.lists link receiver packet else s.lists receiver receiver packet) alone)

  -- the stores
  pub stores_pulled : (server : ℕ) → server < servers c → s.up server ≡ true
      → content_at k.stores.items server
      ≡ content_of s.trace (with_at s.lists (next_of (servers c) link)
      (pulled_list c s link (next_of (servers c) link)) server server) server
  stores_pulled server below live =
      let old = is.sets.stores server below live in
      with_at_cases (λ (visits : Visits). content_at k.stores.items server
      ≡ content_of s.trace (visits server) server) s.lists (next_of (servers c) link)
      (pulled_list c s link (next_of (servers c) link)) server
      (λ e. old ∙ content_of-same s.trace (s.lists server server)
      (pulled_list c s link (next_of (servers c) link) server) server
      (λ packet. subst (λ (x : ℕ). s.lists x x packet ≡ pulled_list c s link (next_of (servers c) link) x packet)
      (sym e) (own_same packet)))
      (λ ne. old)
