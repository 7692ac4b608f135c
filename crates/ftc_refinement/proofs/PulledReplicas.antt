-- Replicas that are put in place.
use Rattle.std.proofs.Common.{◌≡◌, ◌≢◌, ◌∙◌, ◌<◌, ◌==◌, ◌∷◌, ℕ, Bool, true, false, List, [], Option, Some, None, length}
use Rattle.std.proofs.Common.{refl, sym, ap, subst, cond, slice_set, inl, inr}
use Rattle.std.specs.List.{find, AllByRecursion}
use Rattle.std.proofs.lemmas.Bool.{eq-eqb, eqb-true, cases_eq}
use Rattle.std.proofs.lemmas.List.{length-set, get_or-set_same, get_or-set_other}
use Rattle.ftc_replica.specs.Held.{Held}
use Rattle.ftc_ring.specs.Ring.{RingShape}
use Rattle.ftc_serial.specs.Words.{EachLater}
use Rattle.ftc_vector.specs.Commits.{group_raised}
use Rattle.ftc_server.specs.declared.recovering.GroupReplica.{GroupReplica}
use Rattle.ftc_server.specs.Replicas.{replica_at}
use Rattle.ftc_server.specs.Standing.{group_ending_at, with_own}
use Rattle.ftc_server.specs.Steps.{with_installed, known_with}
use Rattle.ftc_refinement.specs.Pulled.{is_of_group}

-- the new replica of a group, or else the old one
abbrev pub in_place : Option GroupReplica → Option Held → Option Held
in_place None old = old
in_place (Some new) old = Some new.replica

pub length_installed : (news : List GroupReplica) (others : List (Option Held)) →
    length (with_installed news others) ≡ length others
length_installed [] others = refl
length_installed (new ∷ news) others =
    length-set (with_installed news others) new.group (Some new.replica) ∙ length_installed news others

pub differs_so : (one other : ℕ) → (one ≡ other → ⊥) → (one == other) ≡ false
differs_so one other differs = by_test (one == other) refl
  where
    by_test : (b : Bool) → (one == other) ≡ b → b ≡ false
    by_test true is = absurd (differs (eqb-true one other is))
    by_test false isnt = refl

pub installed_at : (news : List GroupReplica) (others : List (Option Held)) (group : ℕ) →
    AllByRecursion (λ (new : GroupReplica). new.group < length others) news →
    replica_at (with_installed news others) group ≡ in_place (find (is_of_group group) news) (replica_at others group)
installed_at [] others group inside = refl
installed_at (new ∷ news) others group inside =
    let rest = with_installed news others in
    elim (cases_eq group new.group) [
      | inl same ↦ subst (λ g. replica_at (slice_set rest new.group (Some new.replica)) g
          ≡ in_place (find (is_of_group g) (new ∷ news)) (replica_at others g)) (sym same)
          (get_or-set_same rest new.group (Some new.replica) None
          (subst (λ n. new.group < n) (sym (length_installed news others)) inside.0)
          ∙ ap (λ b. in_place (cond b (Some new) (find (is_of_group new.group) news)) (replica_at others new.group))
          (sym (eq-eqb new.group new.group refl)))
      | inr differs ↦ get_or-set_other rest new.group group (Some new.replica) None differs
          ∙ (installed_at news others group inside.1
          ∙ ap (λ b. in_place (cond b (Some new) (find (is_of_group group) news)) (replica_at others group))
          (sym (differs_so new.group group (λ e. differs (sym e)))))
    ]

-- ---- what is known with them

module _ (ring : RingShape) (id : ℕ) (known : List (List ℕ)) where
  own_by : (group : ℕ) (vector : List ℕ) (before : List (List ℕ)) (b : Bool) → (group == group_ending_at ring id) ≡ b →
      with_own ring id group vector before ≡ cond b (group_raised before group vector) before
  own_by group vector before b is = ap (λ t. cond t (group_raised before group vector) before) is

  pub none_known : (news : List GroupReplica) →
      AllByRecursion (λ (new : GroupReplica). group_ending_at ring id ≢ new.group) news →
      known_with ring id news known ≡ known
  none_known [] apart = refl
  none_known (new ∷ news) apart =
      own_by new.group new.replica.vector (known_with ring id news known) false
      (differs_so new.group (group_ending_at ring id) (λ e. apart.0 (sym e)))
      ∙ none_known news apart.1

  pub known_by : (news : List GroupReplica) (new : GroupReplica) →
      EachLater (λ (one other : GroupReplica). one.group ≢ other.group) news →
      find (is_of_group (group_ending_at ring id)) news ≡ Some new →
      known_with ring id news known ≡ group_raised known (group_ending_at ring id) new.replica.vector
  known_by [] new once found = absurd cc
  known_by (first ∷ news) new once found =
      elim (first.group == group_ending_at ring id) as (λ b. (first.group == group_ending_at ring id) ≡ b →
      cond b (Some first) (find (is_of_group (group_ending_at ring id)) news) ≡ Some new →
      known_with ring id (first ∷ news) known ≡ group_raised known (group_ending_at ring id) new.replica.vector) [
        | true ↦ λ is same.
            let one : first ≡ new = cc in
            let named = eqb-true first.group (group_ending_at ring id) is in
            own_by first.group first.replica.vector (known_with ring id news known) true is
            ∙ (ap (λ k. group_raised k first.group first.replica.vector)
            (none_known news (subst (λ g. AllByRecursion
            (λ (other : GroupReplica). g ≢ other.group) news) named once.0))
            ∙ (ap (λ g. group_raised known g first.replica.vector) named
            ∙ ap (λ (r : GroupReplica). group_raised known (group_ending_at ring id) r.replica.vector) one))
        | false ↦ λ isnt later.
            own_by first.group first.replica.vector (known_with ring id news known) false isnt
            ∙ known_by news new once.1 later
      ] refl found
