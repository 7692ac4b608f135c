-- The groups' tails: which group a server ends, and how far reaches what it knows.
use Rattle.std.proofs.Common.{◌≡◌, ℕ, ◌+◌, ◌<◌, ◌==◌, ◌&&◌, Bool, true, false}
use Rattle.std.proofs.Common.{refl, sym, ap, subst}
use Rattle.ftc_journal.specs.declared.event.Event.{Event}
use Rattle.ftc_ring.specs.Ring.{RingShape}
use Rattle.ftc_machine.specs.declared.state.MachineState.{MachineState}
use Rattle.ftc_machine.specs.Represents.{Represents, FollowsRun, footprints_in, frontiers_of}
use Rattle.ftc_protocol.specs.Known.{knows}
use Rattle.ftc_machine.specs.Frontier.{AreFrontiers, numbers_of, frontier_at}
use Rattle.ftc_protocol.specs.Setting.{Setting, servers, shape, is_tail, IsSetting}
use Rattle.ftc_protocol.specs.State.{ChainState}
use Rattle.ftc_ring.specs.Groups.{group_ending_at}
use Rattle.ftc_ring.proofs.Geometry.{ends}
use Rattle.ftc_machine.specs.Tails.{known_at, part_of}
use Rattle.ftc_protocol.specs.Visits.{Visits}
use Rattle.ftc_machine.specs.Lawful.{IsLawful}
use Rattle.ftc_machine.proofs.LegalEvents.{reached_before, reached_below, reached_within}
use Rattle.ftc_machine.proofs.GroupParts.{part_reaches}
use Rattle.ftc_machine.proofs.MergedFrontiers.{merged_reaches, reach_moves}

module _ (c : Setting) (setting : IsSetting c) (s : ChainState) (r : IsLawful c s) (k : MachineState)
    (is : Represents c s k) where
  -- of a group of the chain
  pub reached_ends : (group server : ℕ) → group < servers c → server < servers c →
      is_tail c group server ≡ (group == group_ending_at k.ring server)
  reached_ends group server below within =
      subst (λ (ring : RingShape). is_tail c group server ≡ (group == group_ending_at ring server)) (sym is.ring)
      (sym (ends (shape c) group server setting.ring below within))

  -- what a server knows
  pub reached_knows : (server : ℕ) → server < servers c →
      AreFrontiers c.partitions s.trace (numbers_of (footprints_in k.visits.items)) (knows c s server)
      (known_at k server)
  reached_knows server below =
      let few = reached_within c setting s r k is in
      let numbers = numbers_of (footprints_in k.visits.items) in
      let own : Visits = λ group packet. is_tail c group server && s.lists server group packet in
      let ending = group_ending_at k.ring server in
      let list = frontiers_of k.lists.items server in
      let part = part_reaches c.partitions s.trace numbers few (s.events + 1) is.sets.rising (λ group. group == ending)
      (s.lists server) list (is.sets.lists server below) in
      merged_reaches c.partitions s.trace numbers few (s.known server) own (frontiers_of k.known.items server)
      (part_of (λ group. group == ending) list) (is.sets.known server below)
      (λ group.
      reach_moves c.partitions s.trace numbers group (λ packet. (group == ending)
      && s.lists server group packet) (own group)
      (frontier_at (part_of (λ other. other == ending) list) group)
      (frontier_at (part_of (λ other. other == ending) list) group)
      (λ packet partition changes. ap (λ test. test
      && s.lists server group packet)
      (sym (reached_ends group server (reached_below c setting s r group packet partition changes) below)))
      (λ packet partition changes. refl) (λ partition some. refl) (part group))

module _ (c : Setting) (s : ChainState) (event : Event) (may : FollowsRun c s event) (k : MachineState)
    (is : Represents c s k) where
  pub ends_here : (group server : ℕ) → group < servers c → server < servers c →
      is_tail c group server ≡ (group == group_ending_at k.ring server)
  ends_here = reached_ends c may.supposed s (reached_before c s event may) k is

  pub knows_reaches : (server : ℕ) → server < servers c →
      AreFrontiers c.partitions s.trace (numbers_of (footprints_in k.visits.items)) (knows c s server)
      (known_at k server)
  knows_reaches = reached_knows c may.supposed s (reached_before c s event may) k is
