-- A new server in the place of one that is down.
use Rattle.std.proofs.Common.{◌≡◌, ◌<◌, ◌+◌, ◌-◌, ◌==◌, ◌∙◌, ℕ, Bool, true, false, List, [], length, Option, Some, None}
use Rattle.std.proofs.Common.{inl, inr, refl, sym, ap, subst, arith, nat_le, if◌then◌else◌, eqb-true, eq-eqb, le-leb}
use Rattle.std.proofs.lemmas.Bool.{true≢false, cases_eq, ne_eqb}
use Rattle.std.proofs.lemmas.List.{length-set}
use Rattle.std.proofs.lemmas.Option.{same_Some}
use Rattle.ftc_base.specs.declared.limits.TheConstants.{MOST_SERVERS}
use Rattle.ftc_journal.specs.declared.event.Event.{Event}
use Rattle.ftc_journal.specs.declared.event.Event.TheVariants.{Recover}
use Rattle.ftc_journal.specs.declared.event.VisitName.{VisitName}
use Rattle.ftc_message.specs.Logged.{Logged}
use Rattle.ftc_replica.specs.Held.{Held as Replicated, pruned_by}
use Rattle.ftc_replica.specs.Kept.{covers_log}
use Rattle.ftc_ring.specs.Ring.{apart}
use Rattle.ftc_ring.specs.Live.{source_between}
use Rattle.ftc_vector.specs.Vector.{merged, need_of}
use Rattle.ftc_vector.specs.Commits.{vector_of, all_merged, group_raised}
use Rattle.ftc_vector.specs.Order.{IsBelow}
use Rattle.ftc_vector.proofs.Bounds.{above_first, above_second}
use Rattle.ftc_vector.proofs.GroupLists.{vector_of-all_merged, vector_of-raised, vector_of-other, length-all_merged}
use Rattle.ftc_vector.proofs.Needs.{covered_above}
use Rattle.ftc_vector.proofs.OrderTests.{covered}
use Rattle.ftc_protocol.specs.Setting.{Setting, servers, is_member, is_tail}
use Rattle.ftc_protocol.specs.Visits.{no_visits}
use Rattle.ftc_protocol.specs.State.{Message, ChainState}
use Rattle.ftc_protocol.specs.Known.{knows}
use Rattle.ftc_protocol.specs.Legal.{IsLegal}
use Rattle.ftc_protocol.specs.Next.{next, drop_if}
use Rattle.ftc_protocol.specs.Orderly.{aim}
use Rattle.ftc_protocol.specs.Recovery.{previous_live, following_live, is_dropped}
use Rattle.ftc_protocol.proofs.RingDistances.{apart_cases}
use Rattle.ftc_ties.specs.Numbers.{vector_in}
use Rattle.ftc_ties.specs.Servers.{IsReplicaAt, AreCommits}
use Rattle.ftc_ties.proofs.Committing.{recover_leaves}
use Rattle.ftc_ties.proofs.Learning.{recover_learns}
use Rattle.ftc_ties.proofs.Serving.{IsSteadyState}
use Rattle.ftc_standing.specs.Stand.{IsReplicaSlot, AreReplicas, IsHeldAs, HeldItem, AreItems, AreWithheld}
use Rattle.ftc_standing.specs.Stand.{AreForwarded, IsWithheldAs, ServerContents, IsServer, IsRevived, replica_kept}
use Rattle.ftc_standing.specs.Stand.{got_by, replica_of, since_of, origin_of, time_of, packet_of}
use Rattle.ftc_standing.specs.View.{is_held_by, where_it, held_at, withheld_at}
use Rattle.ftc_standing.proofs.Arriving.{emptied, is_none}
use Rattle.ftc_standing.proofs.Gaining.{few_servers, missing_twice}
use Rattle.ftc_standing.proofs.SamePlaces.{holder_is}

module _ (c : Setting) (s : ChainState) (h : IsSteadyState c s) (k : ℕ) (undone : List VisitName)
    (legal : IsLegal c s (Recover k undone)) where
  abbrev recovering : Event
  recovering = Recover k undone

  abbrev before : ℕ
  before = previous_live c s k

  abbrev behind : ℕ
  behind = following_live c s k

  is_inside : k < servers c
  is_inside = (h.tied.order.recoveries s.entered k legal.0.0).0

  is_down : s.up k ≡ false
  is_down = (h.tied.order.recoveries s.entered k legal.0.0).1

  -- it holds nothing, and nothing is withheld or forwarded there
  none_held : (o : Option Message) → ((m : Message) → o ≡ Some m → s.up (aim (servers c) m.place) ≡ true) →
      where_it (is_held_by k) (drop_if (is_dropped c s behind) o) ≡ None
  none_held None awake = refl
  none_held (Some m) awake = elim (is_dropped c s behind m) as (λ b.
      where_it (is_held_by k) (if b then None else Some m) ≡ None) [
        | true ↦ refl
        | false ↦ elim (is_held_by k m.place) as (λ b. is_held_by k m.place ≡ b → (if b then Some m else None) ≡ None) [
          | true ↦ λ held. absurd (true≢false (sym (awake m refl)
              ∙ (ap (λ place. s.up (aim (servers c) place)) (holder_is k m.place held).2 ∙ is_down)))
          | false ↦ λ _. refl
        ] refl
      ]

  pub held_none : AreItems c (next c s recovering) k []
  held_none = emptied since_of (λ (item : HeldItem). origin_of item.message)
      (λ origin message (item : HeldItem). IsHeldAs c
      (next c s recovering) k origin message item.visited item.by_ring item.message)
      (held_at (next c s recovering) k)
      (λ origin. none_held (s.message origin) (λ m there. h.tied.order.awake origin m there))

  pub withheld_none : AreWithheld c (next c s recovering) k []
  withheld_none = emptied time_of packet_of (IsWithheldAs c (next c s recovering))
      (withheld_at c (next c s recovering) k)
      (λ packet. elim (k + 1 == servers c) as (λ b. k + 1 == servers c ≡ b →
      (if b then s.withheld packet else None) ≡ None) [
        | true ↦ λ e. is_none (s.withheld packet) (λ withheld there.
            let last : k + 1 ≡ servers c = eqb-true (k + 1) (servers c) e in
            let same : servers c - 1 ≡ k = omega arith in
            true≢false (sym (h.tied.order.buffered packet withheld there).0 ∙ (ap s.up same ∙ is_down)))
        | false ↦ λ e. refl
      ] refl)

  pub forwarded_none : AreForwarded c (next c s recovering) k []
  forwarded_none = record {
    each = tt;
    names = λ group packet. elim (k == 0) as (λ b. k == 0 ≡ b →
        false ≡ (if b then s.forwarder else no_visits) group packet) [
          | true ↦ λ e. none (s.forwarder group packet) (λ there.
              true≢false (sym (h.tied.order.forwarded group packet there).0 ∙
              (ap s.up (sym (eqb-true k 0 e)) ∙ is_down)))
          | false ↦ λ e. refl
        ] refl;
  }
    where
      none : (b : Bool) → (b ≡ true → ⊥) → false ≡ b
      none true never = absurd (never refl)
      none false never = refl

  -- ---- its replicas, and what it knows

  module _ (first second : List (List ℕ)) (first_is : AreCommits c s (knows c s before) first)
      (second_is : AreCommits c s (knows c s behind) second) (tail : ℕ) (tail_inside : tail < servers c)
      (tail_is : is_tail c tail k ≡ true) (tail_vector : List ℕ)
      (tail_vector_is : tail_vector
      ≡ vector_in c.partitions (next c s recovering).trace tail ((next c s recovering).lists k tail)) where
    abbrev pub told : List (List ℕ)
    told = group_raised (all_merged first second) tail tail_vector

    told_is : AreCommits c (next c s recovering) (knows c (next c s recovering) k) told
    told_is = subst (λ v. AreCommits c (next c s recovering) (knows c (next c s recovering) k)
        (group_raised (all_merged first second) tail v)) (sym tail_vector_is)
        (recover_learns c s h k undone legal tail tail_inside tail_is first second first_is second_is)

    abbrev source_known : ℕ → List (List ℕ)
    source_known group = if nat_le (apart (servers c) before k) (apart (servers c) group k) then first else second

    above : (group : ℕ) → group < servers c → (log : Logged) →
        covers_log (vector_of (source_known group) group) log ≡ true → covers_log (vector_of told group) log ≡ true
    above group below log covers =
        raised_covers (merged_covers (nat_le (apart (servers c) before k) (apart (servers c) group k)) covers)
      where
        few : group < MOST_SERVERS
        few = few_servers c s h group below

        by_cover : (one other : List ℕ) → IsBelow one other → covers_log one log ≡ true →
            covers_log other log ≡ true
        by_cover one other less has = (covered other (need_of log.before log.changed)).1
            (covered_above one other (need_of log.before log.changed) less
            ((covered one (need_of log.before log.changed)).0 has))

        merged_covers : (b : Bool) → covers_log (vector_of (if b then first else second) group) log ≡ true →
            covers_log (vector_of (all_merged first second) group) log ≡ true
        merged_covers true has = subst (λ v. covers_log v log
            ≡ true) (sym (vector_of-all_merged first second group few))
            (by_cover (vector_of first group) (merged (vector_of first group) (vector_of second group))
            (above_first (vector_of first group) (vector_of second group)) has)
        merged_covers false has = subst (λ v. covers_log v log
            ≡ true) (sym (vector_of-all_merged first second group few))
            (by_cover (vector_of second group) (merged (vector_of first group) (vector_of second group))
            (above_second (vector_of first group) (vector_of second group)) has)

        raised_covers : covers_log (vector_of (all_merged first second) group) log ≡ true →
            covers_log (vector_of told group) log ≡ true
        raised_covers has = elim (cases_eq group tail) [
          | inl same ↦ subst (λ g. covers_log (vector_of (all_merged first second) g) log ≡ true →
              covers_log (vector_of told g) log ≡ true) (sym same)
              (λ at. subst (λ v. covers_log v log ≡ true)
              (sym (vector_of-raised (all_merged first second) tail tail_vector within))
              (by_cover (vector_of (all_merged first second) tail)
              (merged (vector_of (all_merged first second) tail) tail_vector)
              (above_first (vector_of (all_merged first second) tail) tail_vector) at)) has
          | inr differs ↦ subst (λ v. covers_log v log ≡ true)
              (sym (vector_of-other (all_merged first second) tail group tail_vector differs)) has
        ]
          where
            within : tail < length (all_merged first second)
            within =
                let size = length-all_merged first second in
                let most = few_servers c s h tail tail_inside in
                omega arith

    -- the replica of a group that it gets from its source
    pub replica_got : (group : ℕ) → group < servers c → is_member c group k ≡ true → (replica : Replicated) →
        IsReplicaAt c s (source_between (servers c) before behind group k) group
        (pruned_by (vector_of (source_known group) group) replica) →
        IsReplicaAt c (next c s recovering) k group (pruned_by (vector_of told group) replica)
    replica_got group below member replica is =
        subst (λ (kept : List Logged). IsReplicaAt c (next c s recovering) k group (record replica { kept = kept }))
        (missing_twice (vector_of (source_known group) group) (vector_of told group) (above group below) replica.kept)
        (subst (λ v. IsReplicaAt c (next c s recovering) k group
        (pruned_by v (pruned_by (vector_of (source_known group) group) replica)))
        (sym (told_is group (few_servers c s h group below)))
        (recover_leaves c s h k undone legal group member
        (pruned_by (vector_of (source_known group) group) replica) is))

    pub replicas_got : (head : Replicated) (later : List (Option Replicated)) →
        IsReplicaAt c (next c s recovering) k k (pruned_by (vector_of told k) head) →
        ((group : ℕ) → group < servers c →
        IsReplicaSlot c (next c s recovering) k told group (replica_of later group)) →
        AreReplicas c (next c s recovering) k head later told
    replicas_got head later own others = record {
      own = own;
      others = others;
      size = length-set (all_merged first second) tail (merged (vector_of (all_merged first second) tail) tail_vector)
          ∙ length-all_merged first second;
      known = told_is;
    }

-- a server heads its own group
own_group : (c : Setting) (k : ℕ) → k < servers c → is_member c k k ≡ true
own_group c k inside = le-leb (apart (servers c) k k) c.failures
    (let own = apart_cases (servers c) k k inside inside in omega arith)

-- what a server keeps of a group is its replica
pub kept_at : (c : Setting) (s : ChainState) (server : ℕ) (contents : ServerContents) → IsServer c s server contents →
    (group : ℕ) → group < servers c → (replica : Replicated) → replica_kept server contents group ≡ Some replica →
    IsReplicaAt c s server group (pruned_by (vector_of contents.known group) replica)
kept_at c s server contents is group below replica there = elim (cases_eq group server) [
  | inl same ↦
      let own : contents.head ≡ replica = same_Some contents.head replica
      (sym (ap (λ (b : Bool). if b then Some contents.head
      else replica_of contents.later group) (eq-eqb group server same)) ∙ there) in
      subst (λ g. IsReplicaAt c s server g (pruned_by (vector_of contents.known g) replica)) (sym same)
      (subst (λ (r : Replicated). IsReplicaAt c s server server (pruned_by (vector_of contents.known server) r)) own
      is.replicas.own)
  | inr differs ↦ (subst (IsReplicaSlot c s server contents.known group)
      (sym (ap (λ (b : Bool). if b then Some contents.head
      else replica_of contents.later group) (ne_eqb group server differs))
      ∙ there) (is.replicas.others group below)).2
]

module _ (c : Setting) (s : ChainState) (h : IsSteadyState c s) (k : ℕ) (undone : List VisitName)
    (legal : IsLegal c s (Recover k undone)) (first second new : ServerContents)
    (first_is : IsServer c s (previous_live c s k) first) (second_is : IsServer c s (following_live c s k) second)
    (revived : IsRevived c s k first second new) where
  -- the source of a group has its replica
  got_at : (group : ℕ) → group < servers c → (replica : Replicated) →
      got_by c s k first second group ≡ Some replica →
      IsReplicaAt c s (source_between (servers c) (previous_live c s k) (following_live c s k) group k) group
      (pruned_by (vector_of (if nat_le (apart (servers c) (previous_live c s k) k) (apart (servers c) group k)
      then first.known else second.known) group) replica)
  got_at group below replica = either (nat_le (apart (servers c) (previous_live c s k) k) (apart (servers c) group k))
    where
      either : (b : Bool) → (if b then replica_kept (previous_live c s k) first group
          else replica_kept (following_live c s k) second group) ≡ Some replica →
          IsReplicaAt c s (if b then previous_live c s k else following_live c s k) group
          (pruned_by (vector_of (if b then first.known else second.known) group) replica)
      either true there = kept_at c s (previous_live c s k) first first_is group below replica there
      either false there = kept_at c s (following_live c s k) second second_is group below replica there

  tail_member : is_member c revived.tail k ≡ true
  tail_member = le-leb (apart (servers c) revived.tail k) c.failures
      (let at : apart (servers c) revived.tail k
      ≡ c.failures = eqb-true (apart (servers c) revived.tail k) c.failures revived.tail_is in
      omega arith)

  vector_is : revived.tail_replica.vector
      ≡ vector_in c.partitions (next c s (Recover k undone)).trace revived.tail
      ((next c s (Recover k undone)).lists k revived.tail)
  vector_is = (recover_leaves c s h k undone legal revived.tail tail_member _
      (got_at revived.tail revived.tail_inside revived.tail_replica revived.tail_got)).vector

  got_now : (group : ℕ) → group < servers c → is_member c group k ≡ true → (replica : Replicated) →
      got_by c s k first second group ≡ Some replica → IsReplicaAt c (next c s (Recover k undone)) k group
      (pruned_by (vector_of (told c s h k undone legal first.known second.known first_is.replicas.known
      second_is.replicas.known revived.tail revived.tail_inside revived.tail_is revived.tail_replica.vector vector_is)
      group) replica)
  got_now group below member replica there = replica_got c s h k undone legal first.known second.known
      first_is.replicas.known second_is.replicas.known revived.tail revived.tail_inside revived.tail_is
      revived.tail_replica.vector vector_is group below member replica (got_at group below replica there)

  slot_now : (group : ℕ) → group < servers c → IsReplicaSlot c (next c s (Recover k undone)) k
      (group_raised (all_merged first.known second.known) revived.tail revived.tail_replica.vector) group
      (replica_of new.later group)
  slot_now group below = elim (revived.later group below) [
    | inl none ↦ subst (IsReplicaSlot c (next c s (Recover k undone)) k
        (group_raised (all_merged first.known second.known) revived.tail revived.tail_replica.vector) group)
        (sym none.0) none.1
    | inr some ↦ subst (IsReplicaSlot c (next c s (Recover k undone)) k
        (group_raised (all_merged first.known second.known) revived.tail revived.tail_replica.vector) group)
        (sym some.1) (some.3, some.4, got_now group below some.3 some.0 some.2)
  ]

  pub server_revived : IsServer c (next c s (Recover k undone)) k new
  server_revived = record {
    replicas = subst (AreReplicas c (next c s (Recover k undone)) k new.head new.later) (sym revived.known)
        (replicas_got c s h k undone legal first.known second.known first_is.replicas.known second_is.replicas.known
        revived.tail revived.tail_inside revived.tail_is revived.tail_replica.vector vector_is new.head new.later
        (got_now k (is_inside c s h k undone legal)
        (own_group c k (is_inside c s h k undone legal)) new.head revived.head)
        slot_now);
    held = subst (AreItems c (next c s (Recover k undone)) k) (sym revived.held) (held_none c s h k undone legal);
    withheld = subst (AreWithheld c (next c s (Recover k undone)) k) (sym revived.withheld)
        (withheld_none c s h k undone legal);
    forwarded = subst (AreForwarded c (next c s (Recover k undone)) k) (sym revived.forwarded)
        (forwarded_none c s h k undone legal);
  }
