-- What stands for the opening state.
use Rattle.std.proofs.Common.{◌≡◌, ◌<◌, ◌+◌, ◌==◌, ◌∙◌, ℕ, true, false, List, [], length, Option, Some, None, refl, sym}
use Rattle.std.proofs.Common.{ap, subst, if◌then◌else◌}
use Rattle.ftc_replica.specs.Held.{Held as Replicated, pruned_by}
use Rattle.ftc_replica.specs.Kept.{missing}
use Rattle.ftc_vector.specs.Commits.{vector_of}
use Rattle.ftc_protocol.specs.Setting.{Setting, servers}
use Rattle.ftc_protocol.specs.Visits.{no_visits}
use Rattle.ftc_protocol.specs.State.{opening}
use Rattle.ftc_protocol.specs.Known.{knows}
use Rattle.ftc_ties.specs.Servers.{AreCommits, IsReplicaAt}
use Rattle.ftc_ties.proofs.Beginning.{begins, begins_knowing}
use Rattle.ftc_standing.specs.Stand.{IsSentAs, IsHeldAs, IsWithheldAs, IsLink, HeldItem, ServerContents, IsServer}
use Rattle.ftc_standing.specs.Stand.{AreItems, AreWithheld, AreForwarded, IsReplicaSlot, IsEmptyReplica, IsEmptySlot}
use Rattle.ftc_standing.specs.Stand.{replica_of, since_of, origin_of, time_of, packet_of}
use Rattle.ftc_standing.specs.View.{held_at, queued_on, withheld_at, forwarded_at}
use Rattle.ftc_standing.proofs.Arriving.{emptied}
use Rattle.ftc_standing.proofs.Fresh.{nothing_known, nothing_size}

module _ (c : Setting) (server : ℕ) where
  replica_begins : (group : ℕ) (vector : List ℕ) (replica : Replicated) → IsEmptyReplica c replica →
      IsReplicaAt c (opening c) server group (pruned_by vector replica)
  replica_begins group vector replica is = begins c server group (pruned_by vector replica) is.keys is.content is.vector
      (ap (missing vector) is.kept)

  slot_begins : (group : ℕ) (known : List (List ℕ)) (slot : Option Replicated) → IsEmptySlot c server group slot →
      IsReplicaSlot c (opening c) server known group slot
  slot_begins group known None is = is
  slot_begins group known (Some replica) is = (is.0, is.1, replica_begins group (vector_of known group) replica is.2)

  none_withheld : (packet : ℕ) → withheld_at c (opening c) server packet ≡ None
  none_withheld packet = elim (server + 1 == servers c) as (λ b. (if b then (opening c).withheld packet else None)
      ≡ None) [
        | true ↦ refl
        | false ↦ refl
      ]

  none_forwarded : (group packet : ℕ) → false ≡ forwarded_at (opening c) server group packet
  none_forwarded group packet = elim (server == 0) as (λ b. false ≡ (if b then no_visits else no_visits) group packet) [
    | true ↦ refl
    | false ↦ refl
  ]

  pub server_begins : (contents : ServerContents) → IsEmptyReplica c contents.head →
      ((group : ℕ) → group < servers c → IsEmptySlot c server group (replica_of contents.later group)) →
      contents.known ≡ nothing_known → contents.held ≡ [] → contents.withheld ≡ [] → contents.forwarded ≡ [] →
      IsServer c (opening c) server contents
  server_begins contents head later known held withheld forwarded = record {
    replicas = record {
      own = replica_begins server (vector_of contents.known server) contents.head head;
      others = λ group below. slot_begins group contents.known (replica_of contents.later group) (later group below);
      size = ap length known ∙ nothing_size;
      known = subst (AreCommits c (opening c) (knows c (opening c) server)) (sym known) (begins_knowing c server);
    };
    held = subst (AreItems c (opening c) server) (sym held)
        (emptied since_of (λ (item : HeldItem). origin_of item.message)
        (λ origin message (item : HeldItem). IsHeldAs c
        (opening c) server origin message item.visited item.by_ring item.message)
        (held_at (opening c) server) (λ origin. refl));
    withheld = subst (AreWithheld c (opening c) server) (sym withheld)
        (emptied time_of packet_of (IsWithheldAs c (opening c)) (withheld_at c (opening c) server) none_withheld);
    forwarded = subst (AreForwarded c (opening c) server) (sym forwarded)
        (record { each = tt; names = none_forwarded });
  }

pub link_begins : (c : Setting) (link : ℕ) →
    IsLink c (opening c) link (record { from = link; messages = []; gap = false })
link_begins c link = record {
  from = refl;
  gap = refl;
  queued = emptied since_of origin_of (IsSentAs c (opening c)) (queued_on (opening c) link) (λ origin. refl);
}
