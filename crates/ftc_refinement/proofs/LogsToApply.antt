-- The log that an apply names, and the replica that may have it.
use Rattle.std.proofs.Common.{◌≡◌, ◌∙◌, ◌==◌, ◌&&◌, ◌||◌, ◌∷◌, ℕ, Bool, true, false, List, [], Option, Some, None, refl}
use Rattle.std.proofs.Common.{ap, cond, inl, inr}
use Rattle.std.specs.List.{find}
use Rattle.ftc_message.specs.Logged.{Logged}
use Rattle.ftc_message.specs.Ordered.{is_log_of}
use Rattle.ftc_replica.specs.Held.{Held as Replicated, pruned_by}
use Rattle.ftc_vector.specs.Commits.{vector_of}
use Rattle.ftc_protocol.specs.Setting.{Setting, is_member}
use Rattle.ftc_protocol.specs.State.{ChainState}
use Rattle.ftc_ties.specs.Messages.{names_log}
use Rattle.ftc_ties.specs.Servers.{IsReplicaAt}
use Rattle.ftc_server.specs.declared.held.HeldMessage.{HeldMessage}
use Rattle.ftc_server.specs.Looks.{may_apply_one, log_of}
use Rattle.ftc_server.specs.Replicas.{replica_at, may_apply_to}
use Rattle.ftc_standing.specs.Stand.{IsReplicaSlot}

-- a log that isn't the first is named by the others
named_behind : (group_is origin_is rest : Bool) → group_is && origin_is || rest ≡ true → origin_is && group_is ≡ false →
    rest ≡ true
named_behind true true rest named isnt = absurd cc
named_behind true false rest named isnt = named
named_behind false origin_is rest named isnt = named

pub named_log : (group packet : ℕ) (logs : List Logged) → names_log logs group packet ≡ true →
    (log : Logged) × (find (is_log_of packet group) logs ≡ Some log)
named_log group packet [] named = absurd cc
named_log group packet (first ∷ logs) named =
    elim (is_log_of packet group first) as (λ b. is_log_of packet group first ≡ b →
    (log : Logged) × (cond b (Some first) (find (is_log_of packet group) logs) ≡ Some log)) [
      | true ↦ λ is. (first, refl)
      | false ↦ λ isnt. named_log group packet logs (named_behind (first.group == group) (first.origin == packet)
          (names_log logs group packet) named isnt)
    ] refl

-- the replica of a group that a server is a later member of
pub later_replica : (setting : Setting) (state : ChainState) (server group : ℕ) (known : List (List ℕ))
    (o : Option Replicated) → IsReplicaSlot setting state server known group o → is_member setting group server ≡ true →
    (group ≡ server → ⊥) → (replica : Replicated) × (o ≡ Some replica)
    × IsReplicaAt setting state server group (pruned_by (vector_of known group) replica)
later_replica setting state server group known None (inl isnt) member other = absurd cc
later_replica setting state server group known None (inr own) member other = absurd (other own)
later_replica setting state server group known (Some replica) slot member other = (replica, refl, slot.2)

-- the replica of its group may have the log that is named
pub may_apply_by : (replicas : List (Option Replicated)) (o : Option HeldMessage) (held : HeldMessage)
    (group packet : ℕ)
    (log : Logged) (replica : Replicated) → o ≡ Some held →
    find (is_log_of packet group) held.message.logs ≡ Some log → replica_at replicas log.group ≡ Some replica →
    may_apply_to (Some replica) log ≡ true → may_apply_one replicas (log_of group packet o) ≡ true
may_apply_by replicas o held group packet log replica there named has may =
    ap (λ found. may_apply_one replicas (log_of group packet found)) there
    ∙ (ap (may_apply_one replicas) named
    ∙ (ap (λ taker. may_apply_to taker log) has ∙ may))
