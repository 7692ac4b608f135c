-- Which logs a server's replicas have.
use Rattle.std.proofs.Common.{◌≡◌, ◌∙◌, ◌<◌, ◌&&◌, ◌⊎◌, ◌∷◌, ℕ, Bool, true, false, List, [], Option, Some, None, refl}
use Rattle.std.proofs.Common.{sym, ap, subst, inl, inr}
use Rattle.std.specs.List.{list_all, AllByRecursion}
use Rattle.ftc_message.specs.Logged.{Logged}
use Rattle.ftc_replica.specs.Held.{Held as Replicated, pruned_by}
use Rattle.ftc_replica.specs.Kept.{covers_log}
use Rattle.ftc_vector.specs.Commits.{vector_of}
use Rattle.ftc_protocol.specs.Setting.{Setting, servers, is_member}
use Rattle.ftc_protocol.specs.State.{ChainState, Message, Where, Held}
use Rattle.ftc_protocol.specs.Visits.{In}
use Rattle.ftc_protocol.specs.Orderly.{IsOrderly, aim}
use Rattle.ftc_protocol.specs.Known.{ServerHas}
use Rattle.ftc_protocol.specs.Trace.{IsChanging}
use Rattle.ftc_protocol.proofs.TraceLemmas.{before_first}
use Rattle.ftc_ring.specs.Ring.{apart}
use Rattle.ftc_ties.specs.Logs.{IsLogIn}
use Rattle.std.specs.Prelude.{◌↔◌, nat_le}
use Rattle.std.proofs.lemmas.Bool.Decides.{nat_tests}
use Rattle.std.proofs.Common.{◌≤◌, arith}
use Rattle.std.proofs.lemmas.Bool.{and_parts, le-leb}
use Rattle.ftc_ties.specs.Servers.{IsReplicaAt}
use Rattle.ftc_server.specs.declared.server.Server.{Server}
use Rattle.ftc_server.specs.Looks.{replica_or_own, replica_in}
use Rattle.ftc_server.specs.Replicas.{replica_at, has_log, is_had}
use Rattle.ftc_standing.specs.Stand.{IsReplicaSlot}
use Rattle.ftc_refinement.specs.Contents.{IsServerAt}

-- the replica of a group without the kept logs that the server knows at its tail
pub replica_for : Server → ℕ → Replicated
replica_for old group = pruned_by (vector_of old.known group) (replica_in old group)

module _ (setting : Setting) (state : ChainState) (server : ℕ) (old : Server)
    (is : IsServerAt setting state server old) where
  abbrev Stands : ℕ → Option Replicated → Type 0
  Stands group o = IsReplicaAt setting state server group (pruned_by (vector_of old.known group) (replica_or_own old o))

  by_slot : (group : ℕ) (o : Option Replicated) → is_member setting group server ≡ true →
      IsReplicaSlot setting state server old.known group o → Stands group o
  by_slot group None member (inl outside) = absurd cc
  by_slot group None member (inr same) = subst (λ g. Stands g None) (sym same) is.stands.replicas.own
  by_slot group (Some replica) member slot = slot.2

  pub replica_stands : (group : ℕ) → group < servers setting → is_member setting group server ≡ true →
      IsReplicaAt setting state server group (replica_for old group)
  unfolding replica_for
  replica_stands group below member =
      by_slot group (replica_at old.others.items group) member (is.stands.replicas.others group below)

  -- a log is had where the replica of its group covers it; one of the server's own group always is
  pub had_as : (log : Logged) → log.group < servers setting → is_member setting log.group server ≡ true →
      (log.group ≡ server → covers_log (replica_for old log.group).vector log ≡ true) →
      is_had old.others.items log ≡ covers_log (replica_for old log.group).vector log
  unfolding replica_for
  had_as log below member own =
      elim (replica_at old.others.items log.group) as (λ o. IsReplicaSlot setting state server old.known log.group o →
      (log.group ≡ server → covers_log (replica_or_own old o).vector log ≡ true) →
      has_log o log ≡ covers_log (replica_or_own old o).vector log) [
        | None ↦ λ slot covered. sym (covered (its_own log.group member slot))
        | Some replica ↦ λ slot covered. refl
      ] (is.stands.replicas.others log.group below) own
    where
      its_own : (group : ℕ) → is_member setting group server ≡ true →
          (is_member setting group server ≡ false) ⊎ (group ≡ server) → group ≡ server
      its_own group member (inl outside) = absurd cc
      its_own group member (inr same) = same

-- ---- a log of a held message

abbrev pub VectorsSay : Setting → ChainState → ℕ → Type 0
VectorsSay setting state server = (log : Logged) (held : Replicated) → IsLogIn setting.partitions state.trace log →
    IsReplicaAt setting state server log.group held →
    (covers_log held.vector log ≡ true) ↔ ServerHas setting state server log.group log.origin

module _ (setting : Setting) (state : ChainState) (server origin : ℕ) (visited by_ring : Bool) (message : Message)
    (old : Server)
    (order : IsOrderly setting state) (is : IsServerAt setting state server old)
    (there : state.message origin ≡ Some message) (place : message.place ≡ Held server visited by_ring) where
  pub is_up : state.up server ≡ true
  is_up = subst (λ (p : Where). state.up (aim (servers setting) p) ≡ true) place (order.awake origin message there)

  pub rides_below : (group packet : ℕ) → In message.logs group packet → group < servers setting
  rides_below group packet rides = (order.rides origin group packet message there rides).0

  pub rides_member : (group packet : ℕ) → In message.logs group packet → is_member setting group server ≡ true
  rides_member group packet rides = le-leb (apart (servers setting) group server) setting.failures
      (subst (λ (p : Where). apart (servers setting) group (aim (servers setting) p) ≤ setting.failures) place
      (order.rides origin group packet message there rides).1)

  pub rides_stands : (group packet : ℕ) → In message.logs group packet →
      IsReplicaAt setting state server group (replica_for old group)
  rides_stands group packet rides =
      replica_stands setting state server old is group (rides_below group packet rides)
      (rides_member group packet rides)

  own_has : (group packet : ℕ) → group ≡ server → IsChanging setting.partitions state.trace group packet →
      In (state.lists server) group packet
  own_has group packet own changing = subst (λ s. In (state.lists s) group packet) own
      (order.heads group packet (subst (λ s. state.up s ≡ true) (sym own) is_up) changing)

  pub had_alike : VectorsSay setting state server → (log : Logged) → IsLogIn setting.partitions state.trace log →
      In message.logs log.group log.origin →
      is_had old.others.items log ≡ covers_log (replica_for old log.group).vector log
  had_alike say log of_log rides =
      had_as setting state server old is log (rides_below log.group log.origin rides)
      (rides_member log.group log.origin rides)
      (λ own. (say log (replica_for old log.group) of_log (rides_stands log.group log.origin rides)).1
      (record {
        changing = own_has log.group log.origin own;
        other = λ still earlier before. own_has log.group earlier own
            (before_first setting.partitions state.trace log.group earlier log.origin before);
      }))

-- ---- all logs of a message

pub all_covered : (had : Logged → Bool) (covers : Logged → Bool) (logs : List Logged) →
    AllByRecursion (λ log. had log ≡ covers log) logs → list_all had logs ≡ true →
    AllByRecursion (λ log. covers log ≡ true) logs
all_covered had covers [] same all = tt
all_covered had covers (log ∷ logs) same all =
    let parts = and_parts (had log) (list_all had logs) all in
    (sym same.0 ∙ parts.0, all_covered had covers logs same.1 parts.1)

pub all_had : (had : Logged → Bool) (covers : Logged → Bool) (logs : List Logged) →
    AllByRecursion (λ log. had log ≡ covers log) logs → AllByRecursion (λ log. covers log ≡ true) logs →
    list_all had logs ≡ true
all_had had covers [] same all = refl
all_had had covers (log ∷ logs) same all =
    ap (λ b. b && list_all had logs) (same.0 ∙ all.0) ∙ all_had had covers logs same.1 all.1
