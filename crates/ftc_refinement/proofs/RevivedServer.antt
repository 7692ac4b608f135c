-- A server that begins anew.
use Rattle.std.proofs.Common.{◌≡◌, ◌≢◌, ◌∙◌, ◌<◌, ◌≤◌, ◌==◌, ◌&&◌, ◌⊎◌, ℕ, Bool, true, false, not, List, Option, Some}
use Rattle.std.proofs.Common.{None, length, refl, sym, ap, cond, inl, inr, arith}
use Rattle.std.specs.Prelude.{nat_le}
use Rattle.std.specs.List.{find}
use Rattle.std.proofs.lemmas.Bool.{eq-eqb, eqb-true}
use Rattle.std.proofs.lemmas.Bool.Decides.{nat_tests}
use Rattle.ftc_base.proofs.EachOf.{all-weaker}
use Rattle.ftc_replica.specs.Held.{Held}
use Rattle.ftc_ring.specs.Ring.{IsRing, apart}
use Rattle.ftc_vector.specs.Commits.{group_raised}
use Rattle.ftc_protocol.specs.Setting.{Setting, servers, shape, is_member, is_tail}
use Rattle.ftc_protocol.specs.State.{ChainState}
use Rattle.ftc_server.specs.declared.recovering.GroupReplica.{GroupReplica}
use Rattle.ftc_server.specs.declared.server.Server.{Server}
use Rattle.ftc_server.specs.Replicas.{replica_at}
use Rattle.ftc_server.specs.Standing.{group_ending_at, with_own}
use Rattle.ftc_server.specs.Steps.{with_installed, known_with, empty_at, empty_held}
use Rattle.ftc_standing.specs.Stand.{got_by, replica_of}
use Rattle.ftc_refinement.specs.Contents.{contents_of}
use Rattle.ftc_refinement.specs.Got.{IsGot, AreGot}
use Rattle.ftc_refinement.specs.Pulled.{is_of_group}
use Rattle.ftc_refinement.proofs.Messages.{found_is}
use Rattle.ftc_refinement.proofs.PulledReplicas.{in_place, installed_at, known_by, none_known}
use Rattle.ftc_refinement.proofs.Ring.{EndsAsSaid}

-- the group whose tail a server is exists
pub ending_inside : (servers failures server : ℕ) → failures < servers → server < servers →
    group_ending_at (record { servers = servers; failures = failures }) server < servers
ending_inside servers failures server few inside = grind (arith, nat_tests, few, inside)

is_last_member : (n failures : ℕ) → (n == failures) ≡ true → nat_le n failures ≡ true
is_last_member n failures is = grind (arith, nat_tests, is)

pub found_nothing : (o : Option GroupReplica) → ((new : GroupReplica) → o ≡ Some new → ⊥) → o ≡ None
found_nothing None none = refl
found_nothing (Some new) none = absurd (none new refl)

module _ (setting : Setting) (state : ChainState) (server : ℕ) (previous following : Server) (own : Held)
    (news : List GroupReplica) (got : AreGot setting state server previous following own news) where
  abbrev Got : ℕ → Option Held
  Got group = got_by setting state server (contents_of previous) (contents_of following) group

  facts : (group : ℕ) (new : GroupReplica) → find (is_of_group group) news ≡ Some new →
      IsGot setting state server previous following new × (new.group ≡ group)
  facts group new found =
      let its = found_is (IsGot setting state server previous following) (is_of_group group) news new got.each found in
      (its.0, eqb-true new.group group its.1)

  -- ---- the replicas

  module _ (first : List (Option Held))
      (empty : (group : ℕ) → group < servers setting →
      replica_at first group ≡ empty_at (shape setting) server setting.partitions group)
      (size : servers setting ≤ length first) where
    at : (group : ℕ) → replica_at (with_installed news first) group
        ≡ in_place (find (is_of_group group) news) (replica_at first group)
    at group = installed_at news first group
        (all-weaker (IsGot setting state server previous following) (λ (new : GroupReplica). new.group < length first)
        (λ new its. let inside = its.inside in omega (arith, inside, size)) news got.each)

    left_empty : (group : ℕ) → group < servers setting →
        ((new : GroupReplica) → find (is_of_group group) news ≡ Some new → ⊥) →
        (not (group == server) && is_member setting group server) ≡ false →
        replica_at (with_installed news first) group ≡ None
    left_empty group below none isnt =
        at group
        ∙ (ap (λ o. in_place o (replica_at first group)) (found_nothing (find (is_of_group group) news) none)
        ∙ (empty group below ∙ ap (λ b. cond b (Some (empty_held setting.partitions)) None) isnt))

    pub part_by : (group : ℕ) → group < servers setting → (same member : Bool) → (group == server) ≡ same →
        is_member setting group server ≡ member →
        ((replica_of (with_installed news first) group ≡ None)
        × ((is_member setting group server ≡ false) ⊎ (group ≡ server)))
        ⊎ ((replica : Held) × (replica_of (with_installed news first) group ≡ Some replica) × (Got group ≡ Some replica)
        × (is_member setting group server ≡ true) × (group ≡ server → ⊥))
    part_by group below true member same belongs =
        let is = eqb-true group server same in
        inl (
          left_empty group below
              (λ new found. let its = facts group new found in its.0.later (its.1 ∙ is))
              (ap (λ b. not b && is_member setting group server) same),
          inr is,
        )
    part_by group below false false same belongs =
        inl (
          left_empty group below
              (λ new found. let its = facts group new found in
              let yes = ap (λ g. is_member setting g server) (sym its.1) ∙ its.0.member in absurd cc)
              (ap (λ b. not b && is_member setting group server) same ∙ belongs),
          inl belongs,
        )
    part_by group below false true same belongs =
        let differs : group ≢ server = λ is. let equal = eq-eqb group server is in absurd cc in
        let one = got.all group below belongs differs in
        let its = facts group one.0 one.1 in
        inr (
          one.0.replica,
          at group ∙ ap (λ o. in_place o (replica_at first group)) one.1,
          ap Got (sym its.1) ∙ its.0.replica,
          belongs,
          differs,
        )

  -- ---- what is known

  pub record IsTail (known raised : List (List ℕ)) : Type 0 where
    pub tail : ℕ
    pub tail_inside : tail < servers setting
    pub tail_is : is_tail setting tail server ≡ true
    pub replica : Held
    pub replica_got : Got tail ≡ Some replica
    pub knows : raised ≡ group_raised known tail replica.vector

  pub tail_known : EndsAsSaid → IsRing (shape setting) → server < servers setting → (known : List (List ℕ)) →
      IsTail known (known_with (shape setting) server news (with_own (shape setting) server server own.vector known))
  tail_known ends ring inside known =
      elim (server == group_ending_at (shape setting) server) as (λ b.
      (server == group_ending_at (shape setting) server) ≡ b →
      IsTail known (known_with (shape setting) server news (with_own (shape setting) server server own.vector known))) [
        | true ↦ λ alone.
            let is = eqb-true server (group_ending_at (shape setting) server) alone in
            record {
              tail = server;
              tail_inside = inside;
              tail_is = sym (ends (shape setting) server server ring inside inside) ∙ alone;
              replica = own;
              replica_got = got.head;
              knows = none_known (shape setting) server (with_own (shape setting) server server own.vector known) news
                  (all-weaker (IsGot setting state server previous following)
                  (λ (new : GroupReplica). group_ending_at (shape setting) server ≢ new.group)
                  (λ new its same. its.later (sym same ∙ sym is)) news got.each)
                  ∙ ap (λ b. cond b (group_raised known server own.vector) known) alone;
            }
        | false ↦ λ apart_so.
            let tail = group_ending_at (shape setting) server in
            let below = ending_inside (servers setting) setting.failures server ring.failures inside in
            let is_its = sym (ends (shape setting) tail server ring below inside) ∙ eq-eqb tail tail refl in
            let differs : tail ≢ server = λ same. let equal = eq-eqb server tail (sym same) in absurd cc in
            let one = got.all tail below
            (is_last_member (apart (servers setting) tail server) setting.failures is_its) differs in
            let its = facts tail one.0 one.1 in
            record {
              tail = tail;
              tail_inside = below;
              tail_is = is_its;
              replica = one.0.replica;
              replica_got = ap Got (sym its.1) ∙ its.0.replica;
              knows = known_by (shape setting) server
                  (with_own (shape setting) server server own.vector known) news one.0
                  got.once one.1
                  ∙ ap (λ b. group_raised (cond b
                  (group_raised known server own.vector) known) tail one.0.replica.vector) apart_so;
            }
      ] refl
