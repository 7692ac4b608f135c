-- What the receiver of a link that is pulled lacks of a group that both ends share.
use Rattle.std.proofs.Common.{◌≡◌, ◌<◌, ◌==◌, ◌&&◌, ◌∙◌, ℕ, true, false, not, List, length, Option, Some, None, refl}
use Rattle.std.proofs.Common.{sym, ap, subst, arith, if◌then◌else◌}
use Rattle.std.proofs.lemmas.Bool.{and_parts, and_from}
use Rattle.std.specs.Prelude.{is_some}
use Rattle.ftc_base.specs.declared.limits.TheConstants.{MOST_SERVERS}
use Rattle.ftc_journal.specs.declared.event.Event.TheVariants.{Pull}
use Rattle.ftc_message.specs.Logged.{Logged}
use Rattle.ftc_replica.specs.Held.{Held, pruned_by}
use Rattle.ftc_replica.specs.InTurn.{applied_all, AreReadyInTurn}
use Rattle.ftc_replica.specs.Kept.{covers_log, missing}
use Rattle.ftc_ring.specs.Ring.{RingShape, next_of}
use Rattle.ftc_serial.specs.Serial.{Entry}
use Rattle.ftc_vector.specs.Vector.{need_of, number_at}
use Rattle.ftc_vector.specs.Order.{IsBelow}
use Rattle.ftc_vector.specs.Commits.{vector_of}
use Rattle.ftc_vector.proofs.Needs.{covered_above}
use Rattle.ftc_vector.proofs.OrderTests.{covered}
use Rattle.ftc_vector.proofs.Partitions.{get_or-by_partition}
use Rattle.ftc_replica.proofs.Left.{covers_above}
use Rattle.ftc_protocol.specs.Setting.{Setting, servers, shape, is_member}
use Rattle.ftc_protocol.specs.State.{ChainState}
use Rattle.ftc_protocol.specs.Known.{knows}
use Rattle.ftc_protocol.specs.Legal.{IsLegal}
use Rattle.ftc_ties.specs.Keeping.{AreInTurn, with_all}
use Rattle.ftc_ties.specs.Numbers.{Packets, count_of, vector_in}
use Rattle.ftc_ties.specs.Servers.{IsReplicaAt, is_shared}
use Rattle.ftc_ties.proofs.Committing.{below}
use Rattle.ftc_ties.proofs.Counting.{count_mono}
use Rattle.ftc_ties.proofs.InTurn.{pull_ready}
use Rattle.ftc_ties.proofs.Keeping.{pulls}
use Rattle.ftc_ties.proofs.Serving.{IsSteadyState, traced, list_closed, known_had}
use Rattle.ftc_server.specs.declared.server.Server.{Server}
use Rattle.ftc_server.specs.Looks.{replica_in, replica_or_own}
use Rattle.ftc_server.specs.Replicas.{replica_at}
use Rattle.ftc_server.specs.Standing.{is_later_member}
use Rattle.ftc_standing.specs.Stand.{IsReplicaSlot, replica_kept}
use Rattle.ftc_standing.proofs.Gaining.{few_servers, missing_twice}
use Rattle.ftc_standing.proofs.Reviving.{kept_at}
use Rattle.ftc_refinement.specs.Contents.{IsServerAt, contents_of}
use Rattle.ftc_refinement.specs.Pulled.{pulled}
use Rattle.ftc_network.specs.Pulling.{lacking}

-- ---- a vector that covers more

vector_below : (partitions group : ℕ) (trace : List Entry) (one other : Packets) →
    ((packet : ℕ) → one packet ≡ true → other packet ≡ true) →
    IsBelow (vector_in partitions trace group one) (vector_in partitions trace group other)
vector_below partitions group trace one other inside = record {
  each = λ i within.
      let first : number_at (vector_in partitions trace group one) i ≡ count_of partitions trace group one i =
      get_or-by_partition (count_of partitions trace group one) i 0 within in
      let second : number_at (vector_in partitions trace group other) i ≡ count_of partitions trace group other i =
      get_or-by_partition (count_of partitions trace group other) i 0 within in
      let less = count_mono partitions group i trace one other (λ q _ there. inside q there) in
      omega arith;
}

-- ---- the replica that a server has

own_if_none : (server : Server) (o : Option Held) → is_some o ≡ false →
    replica_or_own server o ≡ replica_or_own server None
own_if_none server None none = refl
own_if_none server (Some replica) none = absurd cc

its_replica : (server : Server) (o : Option Held) → is_some o ≡ true → o ≡ Some (replica_or_own server o)
its_replica server None some = absurd cc
its_replica server (Some replica) some = refl

-- a server has a replica of the groups that it is a later member of
pub has_later : (setting : Setting) (state : ChainState) (number : ℕ) (server : Server) →
    IsServerAt setting state number server → (group : ℕ) → group < servers setting →
    is_some (replica_at server.others.items group) ≡ (not (group == number) && is_member setting group number)
has_later setting state number server is group inside =
    server.members group (subst (λ (ring : RingShape). group < ring.servers) (sym is.ring) inside)
    ∙ (ap (λ (ring : RingShape). is_later_member ring group server.id) is.ring
    ∙ ap (λ n. is_later_member (shape setting) group n) is.number_is)

-- what it keeps of a group that it is a member of
pub kept_is : (setting : Setting) (state : ChainState) (number : ℕ) (server : Server) →
    IsServerAt setting state number server → (group : ℕ) → group < servers setting →
    is_member setting group number ≡ true →
    replica_kept number (contents_of server) group ≡ Some (replica_in server group)
kept_is setting state number server is group inside member =
    elim (group == number) as (λ b. (group == number) ≡ b →
    (if b then Some (replica_or_own server None) else replica_at server.others.items group)
    ≡ Some (replica_in server group)) [
      | true ↦ λ own. ap (λ (r : Held). Some r) (sym (own_if_none server (replica_at server.others.items group)
          (has_later setting state number server is group inside
          ∙ ap (λ b. not b && is_member setting group number) own)))
      | false ↦ λ other. its_replica server (replica_at server.others.items group)
          (has_later setting state number server is group inside
          ∙ and_from (not (group == number)) (is_member setting group number) (ap not other) member)
    ] refl

module _ (c : Setting) (s : ChainState) (h : IsSteadyState c s) (link : ℕ) (legal : IsLegal c s (Pull link))
    (sender old : Server) (sends : IsServerAt c s link sender) (is : IsServerAt c s (next_of (servers c) link) old)
    (group : ℕ) (inside : group < servers c) (shared : is_shared c group link (next_of (servers c) link) ≡ true) where
  abbrev receiver : ℕ
  receiver = next_of (servers c) link

  abbrev mine : Held
  mine = replica_in old group

  abbrev theirs : Held
  theirs = replica_in sender group

  members : (is_member c group link && is_member c group receiver ≡ true) × (not (group == receiver) ≡ true)
  members = and_parts (is_member c group link && is_member c group receiver) (not (group == receiver)) shared

  both : (is_member c group link ≡ true) × (is_member c group receiver ≡ true)
  both = and_parts (is_member c group link) (is_member c group receiver) members.0

  pub mine_is : replica_at old.others.items group ≡ Some mine
  mine_is = its_replica old (replica_at old.others.items group)
      (has_later c s receiver old is group inside
      ∙ and_from (not (group == receiver)) (is_member c group receiver) members.1 both.1)

  pub theirs_is : replica_kept link (contents_of sender) group ≡ Some theirs
  theirs_is = kept_is c s link sender sends group inside both.0

  few : group < MOST_SERVERS
  few = few_servers c s h group inside

  mine_at : IsReplicaAt c s receiver group (pruned_by (vector_of old.known group) mine)
  mine_at = (subst (IsReplicaSlot c s receiver old.known group) mine_is (is.stands.replicas.others group inside)).2

  theirs_at : IsReplicaAt c s link group (pruned_by (vector_of sender.known group) theirs)
  theirs_at = kept_at c s link (contents_of sender) sends.stands group inside theirs theirs_is

  -- what the sender knows, the receiver has
  known_below : IsBelow (vector_of sender.known group) mine.vector
  known_below = subst (λ v. IsBelow v mine.vector) (sym (sends.stands.replicas.known group few))
      (subst (IsBelow (vector_in c.partitions s.trace group (knows c s link group))) (sym mine_at.vector)
      (vector_below c.partitions group s.trace (knows c s link group) (s.lists receiver group)
      (λ q known. known_had c s h link receiver group q legal.0.1 both.1 known)))

  same_lacking : missing mine.vector (missing (vector_of sender.known group) theirs.kept) ≡ lacking sender old group
  same_lacking = missing_twice (vector_of sender.known group) mine.vector
      (covers_above (vector_of sender.known group) mine.vector known_below) theirs.kept

  pub has_more : (q : ℕ) → s.lists receiver group q ≡ true → s.lists link group q ≡ true
  has_more q there = below c s h link group legal shared (pruned_by (vector_of old.known group) mine)
      (pruned_by (vector_of sender.known group) theirs) mine_at theirs_at q there

  pub ready : AreReadyInTurn (length s.trace) mine.vector (lacking sender old group)
  ready = subst (AreReadyInTurn (length s.trace) mine.vector) same_lacking
      (pull_ready c s h link group legal shared (pruned_by (vector_of old.known group) mine)
      (pruned_by (vector_of sender.known group) theirs) mine_at theirs_at)

  abbrev Leads : List Logged → Type 0
  Leads logs = AreInTurn c.partitions s.trace group (s.lists receiver group) logs
      × ((applied_all logs mine).vector ≡ vector_in c.partitions s.trace group (s.lists link group))
      × ((q : ℕ) → with_all (s.lists receiver group) logs q ≡ s.lists link group q)

  leads : Leads (lacking sender old group)
  leads = subst Leads same_lacking
      (let all = pulls c.partitions h.some h.few group s.trace (traced c s h)
      (missing (vector_of sender.known group) theirs.kept) (knows c s link group) (s.lists receiver group)
      (s.lists link group)
      mine (list_closed c s h receiver group)
      (λ q known. known_had c s h link receiver group q legal.0.1 both.1 known) has_more theirs_at.turn theirs_at.all
      mine_at.content mine_at.vector in (all.0, all.2, all.3))

  pub reach : (pulled mine theirs).vector ≡ theirs.vector
  reach = leads.1 ∙ sym theirs_at.vector

  pub turn : AreInTurn c.partitions s.trace group (s.lists receiver group) (lacking sender old group)
  turn = leads.0

  pub all : (q : ℕ) → with_all (s.lists receiver group) (lacking sender old group) q ≡ s.lists link group q
  all = leads.2
