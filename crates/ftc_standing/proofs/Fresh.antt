-- What a message that begins tells, and what a server knows that took it.
use Rattle.std.proofs.Common.{◌≡◌, ◌<◌, ◌+◌, ◌==◌, ◌&&◌, ◌||◌, ◌∙◌, ℕ, Bool, true, false, List, [], ◌∷◌, length, Option}
use Rattle.std.proofs.Common.{Some, None, refl, sym, subst, zero-add, if◌then◌else◌}
use Rattle.std.proofs.lemmas.List.FromFn.{get_or-map-range_with_len, length-map-range_with_len}
use Rattle.ftc_base.specs.declared.limits.TheConstants.{MOST_SERVERS}
use Rattle.ftc_journal.specs.declared.event.Event.{Event}
use Rattle.ftc_replica.specs.Held.{Held as Replicated, pruned_by}
use Rattle.ftc_serial.specs.Serial.{Entry, Visited, Given}
use Rattle.ftc_txn.specs.Touched.{is_changed}
use Rattle.ftc_vector.specs.Vector.{by_partition}
use Rattle.ftc_vector.specs.Commits.{vector_of, all_merged, by_group}
use Rattle.ftc_vector.proofs.Partitions.{by_partition-same}
use Rattle.ftc_vector.proofs.GroupLists.{length-all_merged}
use Rattle.ftc_protocol.specs.Setting.{Setting, servers}
use Rattle.ftc_protocol.specs.Visits.{no_visits, union}
use Rattle.ftc_protocol.specs.State.{ChainState}
use Rattle.ftc_protocol.specs.Known.{knows}
use Rattle.ftc_protocol.specs.Legal.{IsLegal}
use Rattle.ftc_protocol.specs.Next.{next}
use Rattle.ftc_protocol.proofs.Fronts.{none_front}
use Rattle.ftc_ties.specs.Numbers.{count_of}
use Rattle.ftc_ties.specs.Servers.{AreCommits, IsElsewhere, IsReplicaAt}
use Rattle.ftc_ties.proofs.Informing.{commits_merged, commits_same}
use Rattle.ftc_ties.proofs.Serving.{IsSteadyState}
use Rattle.ftc_standing.specs.Stand.{AreReplicas, IsReplicaSlot, replica_of}
use Rattle.ftc_standing.proofs.Gaining.{few_servers}
use Rattle.ftc_standing.proofs.Lasting.{IsFirmState, replicas_stay}

none_counted : (partitions : ℕ) (trace : List Entry) (group partition : ℕ) →
    count_of partitions trace group (no_visits group) partition ≡ 0
none_counted partitions [] group partition = refl
none_counted partitions (Given packet bytes ∷ older) group partition = none_counted partitions older group partition
none_counted partitions (Visited server packet outcome ∷ older) group partition = elim (server == group) as (λ b.
    (if b && false && is_changed partitions outcome.writes partition
    then count_of partitions older group (no_visits group) partition + 1
    else count_of partitions older group (no_visits group) partition) ≡ 0) [
      | true ↦ none_counted partitions older group partition
      | false ↦ none_counted partitions older group partition
    ]

abbrev pub nothing_known : List (List ℕ)
nothing_known = by_group (λ _. by_partition (λ _. 0))

-- who knows nothing has numbers of 0
pub knows_nothing : (c : Setting) (s : ChainState) → AreCommits c s no_visits nothing_known
unfolding by_group
knows_nothing c s group within =
    get_or-map-range_with_len (λ _. by_partition (λ _. 0)) 0 MOST_SERVERS group group [] within (zero-add group)
    ∙ by_partition-same (λ _. 0) (count_of c.partitions s.trace group (no_visits group)) 0
    (λ partition _. sym (none_counted c.partitions s.trace group partition))

pub nothing_size : length nothing_known ≡ MOST_SERVERS
unfolding by_group
nothing_size = length-map-range_with_len (λ (_ : ℕ). by_partition {A = ℕ} (λ _. 0)) 0 MOST_SERVERS

-- other numbers of what is known, which are the same
module _ (c : Setting) (s : ChainState) (h : IsSteadyState c s) (server : ℕ) (inside : server < servers c)
    (own : Replicated) (others : List (Option Replicated)) (known more : List (List ℕ))
    (same : (group : ℕ) → group < servers c → vector_of more group ≡ vector_of known group)
    (size : length more ≡ MOST_SERVERS) (more_is : AreCommits c s (knows c s server) more) where
  slot_alike : (group : ℕ) → group < servers c → (o : Option Replicated) → IsReplicaSlot c s server known group o →
      IsReplicaSlot c s server more group o
  slot_alike group below None slot = slot
  slot_alike group below (Some r) slot = (
    slot.0,
    slot.1,
    subst (λ v. IsReplicaAt c s server group (pruned_by v r)) (sym (same group below)) slot.2,
  )

  pub replicas_alike : AreReplicas c s server own others known → AreReplicas c s server own others more
  replicas_alike are = record {
    own = subst (λ v. IsReplicaAt c s server server (pruned_by v own)) (sym (same server inside)) are.own;
    others = λ group below. slot_alike group below (replica_of others group) (are.others group below);
    size = size;
    known = more_is;
  }

-- a server that takes a message which tells nothing knows what it knew
module _ (c : Setting) (s : ChainState) (f : IsFirmState c s) (e : Event) (legal : IsLegal c s e) (server : ℕ)
    (inside : server < servers c) (out : (group : ℕ) → IsElsewhere c e server group)
    (after : IsSteadyState c (next c s e)) where
  pub replicas_told_nothing : (own : Replicated) (others : List (Option Replicated)) (known : List (List ℕ)) →
      AreReplicas c s server own others known →
      AreReplicas c (next c s e) server own others (all_merged known nothing_known)
  replicas_told_nothing own others known are =
      let now = replicas_stay c s f e legal server out own others known are in
      let told : AreCommits c (next c s e) (knows c (next c s e) server) (all_merged known nothing_known) =
      commits_same c (next c s e) after (union (knows c (next c s e) server) no_visits) (knows c (next c s e) server)
      (all_merged known nothing_known) (λ group packet. or_no (knows c (next c s e) server group packet))
      (commits_merged c (next c s e) after (knows c (next c s e) server) no_visits known nothing_known
      (after.tied.fronts.knows server) (none_front c (next c s e)) now.known (knows_nothing c (next c s e))) in
      replicas_alike c (next c s e) after server inside own others known (all_merged known nothing_known)
      (λ group below. told group (few_servers c s f.steady group below)
      ∙ sym (now.known group (few_servers c s f.steady group below)))
      (length-all_merged known nothing_known) told now
    where
      or_no : (b : Bool) → (b || false) ≡ b
      or_no true = refl
      or_no false = refl
