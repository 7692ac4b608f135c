-- Which visits are undone by themselves.
use Rattle.std.proofs.Common.{◌≡◌, ◌≢◌, ℕ, ◌<◌, ◌≤◌, ◌==◌, ◌&&◌, ◌||◌, ◌↔◌, true, false, not, cond, List, length}
use Rattle.std.proofs.Common.{Option, Some, None, inl, inr, refl, sym, subst, ◌∙◌, arith, eqb-true, le-leb, lt-ltb}
use Rattle.std.proofs.Common.{ltb-true}
use Rattle.std.specs.Prelude.{nat_le, nat_lt}
use Rattle.std.specs.List.{list_all}
use Rattle.std.proofs.lemmas.Bool.{true≢false, or_cases, or_left, or_right, and_parts, and_from, cases_lt, eqb-false}
use Rattle.std.proofs.lemmas.Bool.{false_from_ne_true, not-true, not_from_false, le-leb}
use Rattle.ftc_base.specs.declared.limits.TheConstants.{MOST_PARTITIONS}
use Rattle.ftc_message.specs.Logged.{Logged}
use Rattle.ftc_replica.specs.Held.{Held as Replicated, pruned_by}
use Rattle.ftc_replica.specs.Kept.{covers_log}
use Rattle.ftc_ring.specs.Ring.{apart}
use Rattle.ftc_ring.specs.Live.{IsBetween}
use Rattle.ftc_vector.specs.Order.{IsCovered, covers}
use Rattle.ftc_vector.specs.Commits.{vector_of}
use Rattle.ftc_vector.specs.Vector.{need_of}
use Rattle.ftc_protocol.specs.Setting.{Setting, servers, is_member}
use Rattle.ftc_protocol.specs.State.{ChainState}
use Rattle.ftc_protocol.specs.Known.{ServerHas}
use Rattle.ftc_protocol.specs.Trace.{IsTouching}
use Rattle.ftc_protocol.proofs.RingDistances.{apart_cases}
use Rattle.ftc_ties.specs.Logs.{IsLogIn}
use Rattle.ftc_ties.specs.Numbers.{IsTrace}
use Rattle.ftc_ties.specs.Servers.{IsReplicaAt}
use Rattle.ftc_server.specs.declared.server.Server.{Server}
use Rattle.ftc_server.specs.Looks.{replica_or_own, replica_in}
use Rattle.ftc_server.specs.Replicas.{replica_at}
use Rattle.ftc_standing.specs.Stand.{IsReplicaSlot}
use Rattle.ftc_refinement.specs.Contents.{IsServerAt}
use Rattle.ftc_visits.specs.declared.visit.MadeVisit.{MadeVisit}
use Rattle.ftc_visits.specs.Made.{IsMadeIn}
use Rattle.ftc_visits.specs.Undoing.{is_between, is_reached, is_undone_alone}
use Rattle.ftc_visits.proofs.Needs.{covered_reached, reached_covered, some_touching, touching_some}

-- ---- between two servers

-- by order instead of by distance
between_says : (n previous following server : ℕ) → previous < n → following < n → server < n →
    is_between previous following server ≡ true → IsBetween n previous following server
between_says n previous following server before after inside is =
    let here = apart_cases n previous server before inside in
    let there = apart_cases n previous following before after in
    elim (previous == following) as (λ b. previous == following ≡ b → cond b (not (server == previous))
    (cond (nat_lt previous following) (nat_lt previous server && nat_lt server following)
    (nat_lt previous server || nat_lt server following)) ≡ true → IsBetween n previous following server) [
      | true ↦ λ same other.
          let differs : server ≢ previous = eqb-false server previous (not-true (server == previous) other) in
          record {
            behind = omega arith;
            ahead = subst (λ b. apart n previous server < cond b n (apart n previous following)) (sym same)
                (omega arith);
          }
      | false ↦ λ differ. elim (nat_lt previous following) as (λ b. nat_lt previous following ≡ b →
          cond b (nat_lt previous server && nat_lt server following)
          (nat_lt previous server || nat_lt server following) ≡ true →
          IsBetween n previous following server) [
            | true ↦ λ rises both.
                let up : previous < following = ltb-true previous following rises in
                let parts = and_parts (nat_lt previous server) (nat_lt server following) both in
                let low : previous < server = ltb-true previous server parts.0 in
                let high : server < following = ltb-true server following parts.1 in
                record {
                  behind = omega arith;
                  ahead = subst (λ b. apart n previous server < cond b n (apart n previous following)) (sym differ)
                      (omega arith);
                }
            | false ↦ λ falls either.
                let other : previous ≢ following = eqb-false previous following differ in
                let down : following ≤ previous = elim (cases_lt previous following) [
                  | inl less ↦ absurd (true≢false (sym (lt-ltb previous following less) ∙ falls))
                  | inr more ↦ more
                ] in
                let close : (0 < apart n previous server) × (apart n previous server < apart n previous following) =
                elim (or_cases (nat_lt previous server) (nat_lt server following) either) [
                  | inl behind ↦ let low : previous < server = ltb-true previous server behind in
                      (omega arith, omega arith)
                  | inr ahead ↦ let high : server < following = ltb-true server following ahead in
                      (omega arith, omega arith)
                ] in
                record {
                  behind = close.0;
                  ahead = subst (λ b. apart n previous server < cond b n (apart n previous following))
                      (sym differ) close.1;
                }
          ] refl
    ] refl is

says_between : (n previous following server : ℕ) → previous < n → following < n → server < n →
    IsBetween n previous following server → is_between previous following server ≡ true
says_between n previous following server before after inside is =
    let here = apart_cases n previous server before inside in
    let there = apart_cases n previous following before after in
    let behind : 0 < apart n previous server = is.behind in
    elim (previous == following) as (λ b. previous == following ≡ b →
    apart n previous server < cond b n (apart n previous following) → cond b (not (server == previous))
    (cond (nat_lt previous following) (nat_lt previous server && nat_lt server following)
    (nat_lt previous server || nat_lt server following)) ≡ true) [
      | true ↦ λ same ahead. not_from_false (server == previous) (false_from_ne_true (server == previous) (λ own.
          let e : server ≡ previous = eqb-true server previous own in absurd (omega arith)))
      | false ↦ λ differ ahead. elim (nat_lt previous following) as (λ b. nat_lt previous following ≡ b →
          cond b (nat_lt previous server && nat_lt server following)
          (nat_lt previous server || nat_lt server following) ≡ true) [
            | true ↦ λ rises. let up : previous < following = ltb-true previous following rises in
                and_from (nat_lt previous server) (nat_lt server following) (lt-ltb previous server (omega arith))
                (lt-ltb server following (omega arith))
            | false ↦ λ falls. elim (cases_lt previous server) [
              | inl low ↦ or_left (nat_lt previous server) (nat_lt server following) (lt-ltb previous server low)
              | inr high ↦
                  let down : following ≤ previous = elim (cases_lt previous following) [
                    | inl less ↦ absurd (true≢false (sym (lt-ltb previous following less) ∙ falls))
                    | inr more ↦ more
                  ] in
                  or_right (nat_lt previous server) (nat_lt server following) (lt-ltb server following (omega arith))
            ]
          ] refl
    ] refl is.ahead

-- ---- what a server has

abbrev pub VectorsSay : Setting → ChainState → ℕ → Type 0
VectorsSay setting state server = (log : Logged) (held : Replicated) → IsLogIn setting.partitions state.trace log →
    IsReplicaAt setting state server log.group held →
    (covers_log held.vector log ≡ true) ↔ ServerHas setting state server log.group log.origin

abbrev pub CoversSay : Type 0
CoversSay = (vector : List ℕ) (need : List (Option ℕ)) → (covers vector need ≡ true) ↔ IsCovered vector need

module _ (setting : Setting) (state : ChainState) (server : ℕ) (old : Server)
    (is : IsServerAt setting state server old) where
  abbrev replica_for : ℕ → Option Replicated → Replicated
  replica_for group slot = pruned_by (vector_of old.known group) (replica_or_own old slot)

  by_slot : (group : ℕ) (slot : Option Replicated) → is_member setting group server ≡ true →
      IsReplicaSlot setting state server old.known group slot →
      IsReplicaAt setting state server group (replica_for group slot)
  by_slot group None member (inl outside) = absurd cc
  by_slot group None member (inr same) =
      subst (λ g. IsReplicaAt setting state server g (replica_for g None)) (sym same) is.stands.replicas.own
  by_slot group (Some replica) member slot = slot.2

  module _ (say : VectorsSay setting state server) (covers_say : CoversSay) (visit : MadeVisit)
      (made : IsMadeIn setting.partitions state.trace visit) (below : visit.server < servers setting)
      (member : is_member setting visit.server server ≡ true) where
    at_group : IsReplicaAt setting state server visit.server
        (replica_for visit.server (replica_at old.others.items visit.server))
    at_group = by_slot visit.server (replica_at old.others.items visit.server) member
        (is.stands.replicas.others visit.server below)

    has : (covers_log (replica_in old visit.server).vector made.need.log ≡ true) ↔ ServerHas setting state server
        made.need.log.group made.need.log.origin
    has = say made.need.log (replica_for visit.server (replica_at old.others.items visit.server)) made.need.log_of
        (subst (λ g. IsReplicaAt setting state server g
        (replica_for visit.server (replica_at old.others.items visit.server))) (sym made.need.group_is) at_group)

    pub reached_has : list_all (is_reached (replica_in old visit.server).vector) visit.needed.items ≡ true →
        ServerHas setting state server visit.server visit.packet
    reached_has reached = subst (λ p. ServerHas setting state server visit.server p) made.need.origin_is
        (subst (λ g. ServerHas setting state server g made.need.log.origin) made.need.group_is
        (has.0 ((covers_say (replica_in old visit.server).vector (need_of made.need.log.before made.need.log.changed)).1
        (subst (λ (m : List (Option ℕ)). IsCovered (replica_in old visit.server).vector m) made.need.marks_are
        (reached_covered (replica_in old visit.server).vector made.marks visit.needed.items made.needed reached)))))

    pub has_reached : ServerHas setting state server visit.server visit.packet →
        list_all (is_reached (replica_in old visit.server).vector) visit.needed.items ≡ true
    has_reached had = covered_reached (replica_in old visit.server).vector made.marks visit.needed.items made.needed
        (subst (λ (m : List (Option ℕ)). IsCovered (replica_in old visit.server).vector m) (sym made.need.marks_are)
        ((covers_say (replica_in old visit.server).vector (need_of made.need.log.before made.need.log.changed)).0
        (has.1 (subst (λ p. ServerHas setting state server made.need.log.group p) (sym made.need.origin_is)
        (subst (λ g. ServerHas setting state server g visit.packet) (sym made.need.group_is) had)))))

-- ---- undone by itself

-- it touches something, its head lies between, and the live server after lacks it
pub record IsUndoneAlone (setting : Setting) (state : ChainState) (previous following group packet : ℕ) : Type 0 where
  pub touching : IsTouching state.trace group packet
  pub between : IsBetween (servers setting) previous following group
  pub lacked : ServerHas setting state following group packet → ⊥

module _ (setting : Setting) (state : ChainState) (trace : IsTrace setting.partitions state.trace)
    (some : 0 < setting.partitions)
    (few : setting.partitions ≤ MOST_PARTITIONS) (previous following : ℕ) (old : Server)
    (is : IsServerAt setting state following old)
    (say : VectorsSay setting state following) (covers_say : CoversSay) (before : previous < servers setting)
    (after : following < servers setting)
    (visit : MadeVisit) (made : IsMadeIn setting.partitions state.trace visit) (below : visit.server < servers setting)
    (member : IsBetween (servers setting) previous following visit.server →
    is_member setting visit.server following ≡ true) where
  pub alone_says : is_undone_alone previous old visit ≡ true →
      IsUndoneAlone setting state previous following visit.server visit.packet
  alone_says alone =
      let all = and_parts (not (length visit.needed.items == 0) && is_between previous old.id visit.server)
      (not (list_all (is_reached (replica_in old visit.server).vector) visit.needed.items)) alone in
      let first = and_parts (not (length visit.needed.items == 0)) (is_between previous old.id visit.server) all.0 in
      let lies = between_says (servers setting) previous following visit.server before after below
      (subst (λ f. is_between previous f visit.server ≡ true) is.number_is first.1) in
      record {
        touching = some_touching setting.partitions some few state.trace trace visit made
            (not-true (length visit.needed.items == 0) first.0);
        between = lies;
        lacked = λ had. true≢false (sym
            (has_reached setting state following old is say covers_say visit made below (member lies) had)
            ∙ not-true (list_all (is_reached (replica_in old visit.server).vector) visit.needed.items) all.1);
      }

  pub says_alone : IsUndoneAlone setting state previous following visit.server visit.packet →
      is_undone_alone previous old visit ≡ true
  says_alone alone =
      and_from (not (length visit.needed.items == 0) && is_between previous old.id visit.server)
      (not (list_all (is_reached (replica_in old visit.server).vector) visit.needed.items))
      (and_from (not (length visit.needed.items == 0)) (is_between previous old.id visit.server)
      (not_from_false (length visit.needed.items == 0)
      (touching_some setting.partitions some few state.trace trace visit made alone.touching))
      (subst (λ f. is_between previous f visit.server ≡ true) (sym is.number_is)
      (says_between (servers setting) previous following visit.server before after below alone.between)))
      (not_from_false (list_all (is_reached (replica_in old visit.server).vector) visit.needed.items)
      (false_from_ne_true (list_all (is_reached (replica_in old visit.server).vector) visit.needed.items)
      (λ reached. alone.lacked (reached_has setting state following old is say covers_say visit made below
      (member alone.between) reached))))
