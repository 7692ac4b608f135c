-- What a live member has of a group is what the list says that it has of the group's visits.
use Rattle.std.proofs.Common.{◌≡◌, ◌<◌, ◌∙◌, ℕ, true, false, List, Option, Some, None, inl, inr, refl, sym, ap, subst}
use Rattle.std.proofs.Math.Logic.{∥∥₁_elim}
use Rattle.std.proofs.lemmas.Bool.{leb-true, le-leb}
use Rattle.ftc_store.specs.Store.{Stored}
use Rattle.ftc_network.specs.declared.network.Network.{Network}
use Rattle.ftc_network.specs.Parts.{server_in}
use Rattle.ftc_network.specs.Stand.{IsSlot, IsUp, IsNetwork}
use Rattle.ftc_protocol.specs.Setting.{Setting, servers, is_member}
use Rattle.ftc_protocol.specs.State.{ChainState}
use Rattle.ftc_replica.specs.Held.{Held, pruned_by}
use Rattle.ftc_ring.specs.Ring.{RingShape, IsMember}
use Rattle.ftc_server.specs.declared.server.Server.{Server}
use Rattle.ftc_server.specs.Looks.{replica_in, replica_or_own}
use Rattle.ftc_server.specs.Replicas.{replica_at}
use Rattle.ftc_standing.specs.Stand.{IsReplicaSlot}
use Rattle.ftc_ties.specs.Servers.{IsReplicaAt}
use Rattle.ftc_vector.specs.Commits.{vector_of}
use Rattle.ftc_chain.specs.declared.course.Course.{Course}
use Rattle.ftc_chain.specs.declared.given.Given.{Given}
use Rattle.ftc_chain.specs.ChainRun.{ChainRun, setting_in, chain_state}
use Rattle.ftc_chain.specs.Course.{IsCourseResting, state_by}
use Rattle.ftc_chain.specs.Doing.{setting_by}
use Rattle.ftc_chain.specs.Members.{IsLiveMember, IsMemberIn, IsStoreAt, IsVectorAt}
use Rattle.ftc_chain.proofs.AtRest.{none_is}
use Rattle.ftc_chain.proofs.Made.{run_of}

-- what a server has of a group that it belongs to: of its own one, or a replica
slot_has : (setting : Setting) (state : ChainState) (server group : ℕ) (known : List (List ℕ)) (member : Server) →
    is_member setting group server ≡ true →
    IsReplicaAt setting state server server (pruned_by (vector_of known server) (replica_or_own member None)) →
    (slot : Option Held) → IsReplicaSlot setting state server known group slot →
    IsReplicaAt setting state server group (pruned_by (vector_of known group) (replica_or_own member slot))
slot_has setting state server group known member belongs own None (inl outside) =
    absurd (let clash : false ≡ true = sym outside ∙ belongs in cc)
slot_has setting state server group known member belongs own None (inr same) =
    subst (λ g. IsReplicaAt setting state server g (pruned_by (vector_of known g) (replica_or_own member None)))
    (sym same) own
slot_has setting state server group known member belongs own (Some replica) there = there.2

module _ (setting : Setting) (state : ChainState) (network : Network) (stands : IsNetwork setting state network)
    (server group : ℕ) where
  size : network.ring.servers ≡ servers setting
  size = ap (λ (ring : RingShape). ring.servers) stands.ring

  inside : (number : ℕ) → number < network.ring.servers → number < servers setting
  inside number within = subst (λ (count : ℕ). number < count) size within

  belongs_to : IsMember network.ring group server → is_member setting group server ≡ true
  belongs_to belongs = le-leb _ _ (subst (λ (ring : RingShape). IsMember ring group server) stands.ring belongs)

  module _ (member : Server) (is : IsMemberIn network server group member) where
    is_up : IsUp setting state server member
    is_up = subst (IsSlot setting state server) is.there (stands.servers_are server (inside server is.server_within))

    live : IsLiveMember setting state server group
    live = record {
      server_within = inside server is.server_within;
      group_within = inside group is.group_within;
      up = is_up.up;
      member = belongs_to is.belongs;
    }

    has : IsReplicaAt setting state server group
        (pruned_by (vector_of member.known group) (replica_in member group))
    has = slot_has setting state server group member.known member live.member is_up.at.stands.replicas.own
        (replica_at member.others.items group) (is_up.at.stands.replicas.others group live.group_within)

    pub store_at : (store : Stored) → store.content ≡ (replica_in member group).content →
        store.partitions ≡ (replica_in member group).partitions → IsStoreAt setting state server group store
    store_at store content partitions =
        record { live = live; partitions = partitions ∙ has.keys; content = content ∙ has.content }

    pub vector_at : (vector : List ℕ) → vector ≡ (replica_in member group).vector →
        IsVectorAt setting state server group vector
    vector_at vector same = record { live = live; numbers = same ∙ has.vector }

  -- a live member is one of the network
  member_in : IsLiveMember setting state server group →
      ((member : Server) → IsMemberIn network server group member → ⊥) → ⊥
  member_in is none =
      elim (server_in network.servers.items server) as (λ (slot : Option Server).
      server_in network.servers.items server ≡ slot → ⊥) [
        | None ↦ λ down. let clash : true ≡ false = sym is.up
            ∙ subst (IsSlot setting state server) down (stands.servers_are server is.server_within) in cc
        | Some member ↦ λ there. none member (record {
          server_within = subst (λ (count : ℕ). server < count) (sym size) is.server_within;
          group_within = subst (λ (count : ℕ). group < count) (sym size) is.group_within;
          there = there;
          belongs = subst (λ (ring : RingShape). IsMember ring group server) (sym stands.ring)
              (leb-true _ _ is.member);
        })
      ] refl

-- where no member of the network is found, a contract sees no live one
pub none_live : (given : Given) (course : Course) (run : ChainRun) → run_of given course ≡ run →
    ∥ IsCourseResting (setting_by given) course ∥₁ → (server group : ℕ) →
    ((member : Server) → IsMemberIn course.network server group member → ⊥) →
    IsLiveMember (setting_in run) (chain_state run) server group → ⊥
none_live given course run same rests server group none live =
    let setting = setting_by given in
    ∥∥₁_elim rests none_is (λ resting.
    member_in setting (state_by setting course.journal.items) course.network resting.course_is.stands server group
    (subst (λ (r : ChainRun). IsLiveMember (setting_in r) (chain_state r) server group) (sym same) live) none)
