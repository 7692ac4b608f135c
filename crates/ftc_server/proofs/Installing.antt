-- Replicas that are put in place of others, and logs that are applied to them.
use Rattle.std.proofs.Common.{◌≡◌, ◌∙◌, ◌<◌, ℕ, zero, suc, Bool, true, false, List, [], ◌∷◌, ◌++◌, Option, Some, None}
use Rattle.std.proofs.Common.{refl, sym, ap, subst, cond, arith}
use Rattle.std.specs.Prelude.{slice_set, nat_lt, is_some, option_map}
use Rattle.std.specs.List.{list_all}
use Rattle.std.proofs.lemmas.Bool.Decides.{nat_tests}
use Rattle.std.proofs.lemmas.Bool.{and_parts}
use Rattle.ftc_message.specs.Logged.{Logged}
use Rattle.ftc_replica.specs.Held.{Held, applied}
use Rattle.ftc_ring.specs.Ring.{RingShape}
use Rattle.ftc_server.specs.declared.recovering.GroupReplica.{GroupReplica}
use Rattle.ftc_server.specs.declared.server.Server.{Server}
use Rattle.ftc_server.specs.Looks.{is_later_of}
use Rattle.ftc_server.specs.Replicas.{replica_at, may_apply_to, with_applied, AreOfSame}
use Rattle.ftc_server.specs.Standing.{is_later_member}
use Rattle.ftc_server.specs.Steps.{with_installed, known_with, is_of_later, empty_held, empty_at}
use Rattle.ftc_server.proofs.Finding.{and_both}

abbrev Replicas : Type 0
Replicas = List (Option Held)

pub installed_last : (news : List GroupReplica) (new : GroupReplica) (others : Replicas)
    → with_installed (news ++ new ∷ []) others ≡ with_installed news (slice_set others new.group (Some new.replica))
installed_last [] new others = refl
installed_last (first ∷ news) new others =
    ap (λ (rest : Replicas). slice_set rest first.group (Some first.replica)) (installed_last news new others)

pub known_last : (ring : RingShape) (id : ℕ) (news : List GroupReplica) (new : GroupReplica) (known : List (List ℕ))
    → known_with ring id (news ++ new ∷ []) known ≡ known_with ring id news (known_with ring id (new ∷ []) known)
known_last ring id [] new known = refl
known_last ring id (first ∷ news) new known =
    ap (λ (rest : List (List ℕ)). known_with ring id (first ∷ []) rest) (known_last ring id news new known)

pub same_through : (old mid new : Replicas) → AreOfSame old mid → AreOfSame mid new → AreOfSame old new
same_through old mid new one two = record {
  size = two.size ∙ one.size;
  each = λ group. two.each group ∙ one.each group;
}

pub later_stays : (old new : Replicas) (news : List GroupReplica) → AreOfSame old new →
    list_all (is_later_of old) news ≡ true
    → list_all (is_later_of new) news ≡ true
later_stays old new [] same all = refl
later_stays old new (first ∷ news) same all =
    let parts = and_parts (is_later_of old first) (list_all (is_later_of old) news) all in
    and_both (is_later_of new first) (list_all (is_later_of new) news) (same.each first.group ∙ parts.0)
    (later_stays old new news same parts.1)

pub all_but_last : (test : GroupReplica → Bool) (news : List GroupReplica) (new : GroupReplica)
    → list_all test (news ++ new ∷ []) ≡ true → (list_all test news ≡ true) × (test new ≡ true)
all_but_last test [] new all = (refl, (and_parts (test new) true all).0)
all_but_last test (first ∷ news) new all =
    let parts = and_parts (test first) (list_all test (news ++ new ∷ [])) all in
    let rest = all_but_last test news new parts.1 in
    (and_both (test first) (list_all test news) parts.0 rest.0, rest.1)

pub later_here : (server : Server) (ring : RingShape) (id : ℕ) (news : List GroupReplica) → server.ring ≡ ring →
    server.id ≡ id
    → list_all (is_of_later ring id) news ≡ true → list_all (is_later_of server.others.items) news ≡ true
later_here server ring id [] rings ids all = refl
later_here server ring id (new ∷ news) rings ids all =
    let parts = and_parts (is_of_later ring id new) (list_all (is_of_later ring id) news) all in
    let halves = and_parts (nat_lt new.group ring.servers) (is_later_member ring new.group id) parts.0 in
    let below : nat_lt new.group ring.servers ≡ true = halves.0 in
    let here : new.group < ring.servers = grind (arith, nat_tests, below) in
    let within : new.group < server.ring.servers = subst (λ (r : RingShape). new.group < r.servers) (sym rings) here in
    let member : is_later_member server.ring new.group server.id ≡ true =
    ap (λ (r : RingShape). is_later_member r new.group server.id) rings
    ∙ ap (λ (i : ℕ). is_later_member ring new.group i) ids ∙ halves.1 in
    and_both (is_later_of server.others.items new) (list_all (is_later_of server.others.items) news)
    (server.members new.group within ∙ member) (later_here server ring id news rings ids parts.1)

pub empty_member : (ring : RingShape) (id partitions group : ℕ) →
    is_some (empty_at ring id partitions group) ≡ is_later_member ring group id
empty_member ring id partitions group =
    elim (is_later_member ring group id) as (λ t. is_some (cond t (Some (empty_held partitions)) None) ≡ t) [
      | true ↦ refl
      | false ↦ refl
    ]

set_there : (replicas : Replicas) (place : ℕ) (was : Held) (now : Option Held) → replica_at replicas place ≡ Some was
    → replica_at (slice_set replicas place now) place ≡ now
set_there [] place was now there = absurd cc
set_there (slot ∷ replicas) zero was now there = refl
set_there (slot ∷ replicas) (suc place) was now there = set_there replicas place was now there

pub applied_at : (replicas : Replicas) (group : ℕ) (log : Logged) (was : Held) → log.group ≡ group
    → replica_at replicas group ≡ Some was → replica_at (with_applied replicas log) group ≡ Some (applied log was)
applied_at replicas group log was same there =
    let here : replica_at replicas log.group ≡ Some was = ap (replica_at replicas) same ∙ there in
    ap (replica_at (with_applied replicas log)) (sym same)
    ∙ set_there replicas log.group was (option_map (applied log) (replica_at replicas log.group)) here
    ∙ ap (option_map (applied log)) here

pub ready_replica : (slot : Option Held) (log : Logged) → may_apply_to slot log ≡ true →
    (was : Held) × (slot ≡ Some was)
ready_replica None log ready = absurd cc
ready_replica (Some was) log ready = (was, refl)
