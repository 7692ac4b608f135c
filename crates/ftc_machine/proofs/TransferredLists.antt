-- How far the list reaches that a new server gets, and what it knows.
use Rattle.std.proofs.Common.{◌≡◌, ℕ, ◌+◌, ◌-◌, ◌<◌, ◌≤◌, ◌&&◌, ◌||◌, if◌then◌else◌, Bool, true, false, List, []}
use Rattle.std.proofs.Common.{length, inl, inr, refl, sym, ◌∙◌, ap, subst, arith, eqb-true, eq-eqb, leb-true, le-leb}
use Rattle.std.proofs.Common.{lt-ltb, ◌⊎◌}
use Rattle.std.specs.Prelude.{nat_lt, nat_le}
use Rattle.std.proofs.lemmas.Bool.{true≢false, cases_lt, and_parts, and_from, false_from_ne_true}
use Rattle.std.proofs.lemmas.List.{get_or_past}
use Rattle.std.proofs.lemmas.List.FromFn.{length-map-range_with_len}
use Rattle.std.proofs.Math.ListN.{length-set}
use Rattle.ftc_base.specs.declared.limits.TheConstants.{MOST_SERVERS}
use Rattle.ftc_ring.specs.Ring.{RingShape, apart}
use Rattle.ftc_ring.specs.Live.{source_between}
use Rattle.ftc_ring.proofs.Geometry.{same_start, apart_cases}
use Rattle.ftc_vector.specs.Vector.{by_partition, number_at, merged}
use Rattle.ftc_vector.specs.Commits.{vector_of, by_group, all_merged, group_raised}
use Rattle.ftc_vector.proofs.GroupLists.{length-all_merged}
use Rattle.ftc_machine.specs.declared.state.MachineState.{MachineState}
use Rattle.ftc_machine.specs.Represents.{Represents, footprints_in, frontiers_of}
use Rattle.ftc_protocol.specs.Known.{knows}
use Rattle.ftc_machine.specs.Frontier.{IsFrontier, AreFrontiers, numbers_of, frontier_at}
use Rattle.ftc_protocol.specs.Recovery.{list_got}
use Rattle.ftc_machine.specs.RecoveryEffect.{got_vector, tail_added, both_known}
use Rattle.ftc_ring.specs.Groups.{group_ending_at}
use Rattle.ftc_protocol.specs.Setting.{Setting, servers, shape, is_member, is_tail, IsSetting}
use Rattle.ftc_protocol.specs.State.{ChainState}
use Rattle.ftc_machine.specs.LegalityTests.{list_of}
use Rattle.ftc_protocol.specs.Visits.{Visits, In, no_visits, union}
use Rattle.ftc_machine.specs.Lawful.{IsLawful}
use Rattle.ftc_machine.proofs.RaisedRows.{joined_reaches}
use Rattle.ftc_machine.proofs.MergedFrontiers.{AreWithin, merged_row, merged_reaches, outside}
use Rattle.ftc_machine.proofs.SetFrontiers.{same_reach, zero_reach}

module _ (c : Setting) (setting : IsSetting c) (s : ChainState) (lawful : IsLawful c s) (k : MachineState)
    (is : Represents c s k) (few : AreWithin c.partitions s.trace) where
  group_below : (x group packet : ℕ) → In (s.lists x) group packet → group < servers c
  group_below x group packet member = (lawful.order.had x group packet member).1

  -- ---- the list

  source_below : (server r t group : ℕ) → r < servers c → t < servers c →
      source_between (servers c) r t group server < servers c
  source_below server r t group rl tl =
      elim (nat_le (apart (servers c) r server) (apart (servers c) group server)) as (λ b. (if b then r
      else t) < servers c) [ true ↦ rl | false ↦ tl ]

  got_row : (server r t : ℕ) → r < servers c → t < servers c → (group : ℕ) (b : Bool) →
      (nat_lt group (servers c) && nat_le (apart (servers c) group server) c.failures) ≡ b
      → IsFrontier c.partitions s.trace (numbers_of (footprints_in k.visits.items)) group
      (list_got c s server r t group)
      (number_at (if b then merged (by_partition (λ _. 0))
      (vector_of (list_of k (source_between (servers c) r t group server)) group) else by_partition (λ _. 0)))
  got_row server r t rl tl group true is_got =
      let numbers = numbers_of (footprints_in k.visits.items) in
      let source = source_between (servers c) r t group server in
      let member : is_member c group server ≡ true =
      (and_parts (nat_lt group (servers c)) (nat_le (apart (servers c) group server) c.failures) is_got).1 in
      same_reach c.partitions s.trace numbers group (λ packet. no_visits group packet
      || s.lists source group packet) (list_got c s server r t group)
      (number_at (merged (by_partition (λ _. 0)) (vector_of (list_of k source) group)))
      (number_at (merged (by_partition (λ _. 0)) (vector_of (list_of k source) group)))
      (λ packet. ap (λ b. b && s.lists source group packet) (sym member)) (λ partition. refl)
      (merged_row c.partitions s.trace numbers few group (no_visits group) (s.lists source group)
      (by_partition (λ _. 0)) (vector_of (list_of k source) group)
      (zero_reach c.partitions s.trace numbers group (s.events + 1) is.sets.rising (no_visits group) (λ packet. refl))
      (is.sets.lists source (source_below server r t group rl tl) group))
  got_row server r t rl tl group false is_got =
      let source = source_between (servers c) r t group server in
      zero_reach c.partitions s.trace (numbers_of (footprints_in k.visits.items)) group (s.events + 1) is.sets.rising
      (list_got c s server r t group)
      (λ packet. false_from_ne_true (is_member c group server && s.lists source group packet) (λ got.
      let both = and_parts (is_member c group server) (s.lists source group packet) got in
      true≢false (sym (and_from (nat_lt group (servers c)) (nat_le (apart (servers c) group server) c.failures)
      (lt-ltb group (servers c) (group_below source group packet both.1)) both.0) ∙ is_got)))

  pub got_reaches : (server r t : ℕ) → r < servers c → t < servers c → (list : List (List ℕ)) →
      length list ≡ MOST_SERVERS
      → ((group : ℕ) → group < MOST_SERVERS → vector_of list group ≡ got_vector k server r t group)
      → AreFrontiers c.partitions s.trace (numbers_of (footprints_in k.visits.items)) (list_got c s server r t) list
  got_reaches server r t rl tl list size rows group =
      let numbers = numbers_of (footprints_in k.visits.items) in
      elim (cases_lt group MOST_SERVERS) [
        | inl less ↦
            subst (λ (row : List ℕ). IsFrontier c.partitions s.trace numbers group (list_got c s server r t group)
            (number_at row)) (sym (rows group less))
            (subst (λ (ring : RingShape). IsFrontier c.partitions s.trace numbers group (list_got c s server r t group)
            (number_at (if nat_lt group ring.servers && nat_le (apart ring.servers group server) ring.failures
            then merged (by_partition (λ _. 0))
            (vector_of (list_of k (source_between ring.servers r t group server)) group)
            else by_partition (λ _. 0)))) (sym is.ring)
            (got_row server r t rl tl group (nat_lt group (servers c)
            && nat_le (apart (servers c) group server) c.failures) refl))
        | inr past ↦
            outside c.partitions s.trace numbers few group (list_got c s server r t group) (frontier_at list group) past
            (λ partition. ap (λ (row : List ℕ). number_at row partition) (get_or_past list group [] (omega arith)))
      ]

  -- ---- what is known

  tails : ℕ → Visits
  tails x group packet = is_tail c group x && s.lists x group packet

  tail_cases : (x : ℕ) → ((c.failures ≤ x) × (group_ending_at (shape c) x ≡ x - c.failures))
      ⊎ ((x < c.failures) × (group_ending_at (shape c) x ≡ x + servers c - c.failures))
  tail_cases x = elim (cases_lt x c.failures) [
    | inl less ↦ inr (
      less,
      ap (λ b. if b then x - c.failures
          else x + servers c - c.failures)
          (false_from_ne_true (nat_le c.failures x) (λ le. let more : c.failures ≤ x = leb-true c.failures x le in
          omega arith)),
    )
    | inr most ↦ inl (
      most,
      ap (λ b. if b then x - c.failures
          else x + servers c - c.failures) (le-leb c.failures x most),
    )
  ]

  tail_below : (x : ℕ) → x < servers c → group_ending_at (shape c) x < servers c
  tail_below x below = let small : c.failures < servers c = setting.ring.failures in omega (arith, tail_cases x)

  tail_apart : (x : ℕ) → x < servers c → apart (servers c) (group_ending_at (shape c) x) x ≡ c.failures
  tail_apart x below =
      let small : c.failures < servers c = setting.ring.failures in
      let far = apart_cases (servers c) (group_ending_at (shape c) x) x (tail_below x below) below in
      let cases = tail_cases x in
      omega arith

  tail_reaches : (x : ℕ) → x < servers c → (set : Visits) (commits : List (List ℕ)) → length commits ≡ MOST_SERVERS →
      AreFrontiers c.partitions s.trace (numbers_of (footprints_in k.visits.items)) set commits
      → AreFrontiers c.partitions s.trace (numbers_of (footprints_in k.visits.items)) (union set (tails x))
      (tail_added k x commits)
  unfolding tails
  tail_reaches x below set commits size reaches =
      let numbers = numbers_of (footprints_in k.visits.items) in
      let group = group_ending_at (shape c) x in
      let low : group < servers c = tail_below x below in
      subst (λ (ring : RingShape). AreFrontiers c.partitions s.trace numbers (union set (tails x))
      (group_raised commits (group_ending_at ring x) (vector_of (list_of k x) (group_ending_at ring x)))) (sym is.ring)
      (joined_reaches c.partitions s.trace numbers few set (tails x) commits group (vector_of (list_of k x) group)
      (let most = setting.ring.servers in omega arith)
      (λ other packet differs. false_from_ne_true (is_tail c other x && s.lists x other packet) (λ member.
      let both = and_parts (is_tail c other x) (s.lists x other packet) member in
      differs (same_start (servers c) other group x (group_below x other packet both.1) low below
      (eqb-true (apart (servers c) other x) c.failures both.0 ∙ sym (tail_apart x below)))))
      (same_reach c.partitions s.trace numbers group (s.lists x group) (tails x group)
      (frontier_at (frontiers_of k.lists.items x) group) (number_at (vector_of (list_of k x) group))
      (λ packet. ap (λ b. b && s.lists x group packet)
      (sym (eq-eqb (apart (servers c) group x) c.failures (tail_apart x below)))) (λ partition. refl)
      (is.sets.lists x below group))
      reaches)

  together : (a b d e : Bool) → (((a || b) || d) || e) ≡ ((a || d) || (b || e))
  together true b d e = refl
  together false true d e = sym (or_true d)
    where
      or_true : (d : Bool) → (d || true) ≡ true
      or_true true = refl
      or_true false = refl
  together false false d e = refl

  pub both_reach_known : (r t : ℕ) → r < servers c → t < servers c
      → AreFrontiers c.partitions s.trace (numbers_of (footprints_in k.visits.items))
      (union (knows c s r) (knows c s t)) (both_known k r t)
  unfolding tails
  both_reach_known r t rl tl group =
      let numbers = numbers_of (footprints_in k.visits.items) in
      let merged_known = all_merged (frontiers_of k.known.items r) (frontiers_of k.known.items t) in
      let known : Visits = union (s.known r) (s.known t) in
      let one = tail_reaches r rl known merged_known
      (length-all_merged (frontiers_of k.known.items r) (frontiers_of k.known.items t))
      (merged_reaches c.partitions s.trace numbers few (s.known r) (s.known t) (frontiers_of k.known.items r)
      (frontiers_of k.known.items t) (is.sets.known r rl) (is.sets.known t tl)) in
      let size : length (tail_added k r merged_known) ≡ MOST_SERVERS =
      length-set merged_known (group_ending_at k.ring r)
      (merged (vector_of merged_known (group_ending_at k.ring r))
      (vector_of (list_of k r) (group_ending_at k.ring r))) ∙ length-all_merged (frontiers_of k.known.items r)
      (frontiers_of k.known.items t) in
      let both = tail_reaches t tl (union known (tails r)) (tail_added k r merged_known) size one in
      same_reach c.partitions s.trace numbers group (union (union known (tails r)) (tails t) group)
      (union (knows c s r) (knows c s t) group) (frontier_at (both_known k r t) group)
      (frontier_at (both_known k r t) group)
      (λ packet. together (s.known r group packet) (s.known t group packet) (tails r group packet)
      (tails t group packet)) (λ partition. refl) (both group)
