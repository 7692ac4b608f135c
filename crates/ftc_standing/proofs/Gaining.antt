-- What a server's replicas and what it knows become by an event in which it has a part.
use Rattle.std.proofs.Common.{◌≡◌, ◌≢◌, ◌<◌, ◌++◌, ◌∙◌, ℕ, Bool, true, false, not, List, [], ◌∷◌, length, Option, Some}
use Rattle.std.proofs.Common.{None, slice_set, inl, inr, refl, sym, ap, subst, arith, if◌then◌else◌, get_or-set_same}
use Rattle.std.proofs.Common.{get_or-set_other}
use Rattle.std.proofs.lemmas.Bool.{cases_eq, cases_lt, true≢false, false_from_ne_true}
use Rattle.std.proofs.lemmas.List.{get_or_past, length-set}
use Rattle.std.proofs.lemmas.List.FromFn.{length-map-range_with_len}
use Rattle.std.proofs.lemmas.Option.{none-some}
use Rattle.ftc_base.specs.declared.limits.TheConstants.{MOST_SERVERS}
use Rattle.ftc_journal.specs.declared.event.Event.{Event}
use Rattle.ftc_journal.specs.declared.event.Event.TheVariants.{Apply, Take}
use Rattle.ftc_message.specs.Logged.{Logged}
use Rattle.ftc_replica.specs.Held.{Held as Replicated, applied, pruned_by}
use Rattle.ftc_replica.specs.Kept.{covers_log, missing}
use Rattle.ftc_ring.specs.Ring.{next_of}
use Rattle.ftc_vector.specs.Vector.{merged, need_of}
use Rattle.ftc_vector.specs.Commits.{vector_of, all_merged, group_raised, by_group}
use Rattle.ftc_vector.proofs.Bounds.{above_first}
use Rattle.ftc_vector.proofs.GroupLists.{vector_of-all_merged, vector_of-raised, vector_of-other, length-all_merged}
use Rattle.ftc_vector.proofs.Needs.{covered_above}
use Rattle.ftc_vector.proofs.OrderTests.{covered}
use Rattle.ftc_protocol.specs.Setting.{Setting, servers, is_member, is_tail}
use Rattle.ftc_protocol.specs.State.{ChainState, Message, Queued}
use Rattle.ftc_protocol.specs.Known.{knows}
use Rattle.ftc_protocol.specs.Legal.{IsLegal}
use Rattle.ftc_protocol.specs.Next.{next}
use Rattle.ftc_protocol.specs.Orderly.{aim}
use Rattle.ftc_ties.specs.Logs.{IsLogIn}
use Rattle.ftc_ties.specs.Numbers.{vector_in}
use Rattle.ftc_ties.specs.Servers.{IsReplicaAt, AreCommits}
use Rattle.ftc_ties.proofs.Asking.{need_known}
use Rattle.ftc_ties.proofs.Informing.{take_learns}
use Rattle.ftc_ties.proofs.Learning.{apply_tells_none, apply_learns}
use Rattle.ftc_ties.proofs.Replicating.{vector_same}
use Rattle.ftc_ties.proofs.Serving.{IsSteadyState, take_prunes, apply_leaves, apply_at_tail, others_stay, steady_next}
use Rattle.ftc_ties.proofs.Serving.{tail_knows}
use Rattle.ftc_standing.specs.Stand.{IsReplicaSlot, AreReplicas, replica_of}

-- ---- kept logs may be dropped in two steps

pub missing_twice : (old new : List ℕ) →
    ((log : Logged) → covers_log old log ≡ true → covers_log new log ≡ true) → (logs : List Logged) →
    missing new (missing old logs) ≡ missing new logs
missing_twice old new more [] = refl
missing_twice old new more (log ∷ logs) = elim (covers_log old log) as (λ b. covers_log old log ≡ b →
    missing new (if not b then log ∷ missing old logs else missing old logs) ≡ missing new (log ∷ logs)) [
      | true ↦ λ e. missing_twice old new more logs
          ∙ sym (ap (λ (b : Bool). if not b then log ∷ missing new logs else missing new logs) (more log e))
      | false ↦ λ e. ap (λ (rest : List Logged). if not (covers_log new log) then log ∷ rest else rest)
          (missing_twice old new more logs)
    ] refl

pub missing_last : (vector : List ℕ) (log : Logged) → covers_log vector log ≡ false → (logs : List Logged) →
    missing vector (logs ++ log ∷ []) ≡ missing vector logs ++ log ∷ []
missing_last vector log lacks [] = ap (λ (b : Bool). if not b then log ∷ [] else []) lacks
missing_last vector log lacks (first ∷ logs) = elim (covers_log vector first) as (λ b.
    (if not b then first ∷ missing vector (logs ++ log ∷ []) else missing vector (logs ++ log ∷ []))
    ≡ (if not b then first ∷ missing vector logs else missing vector logs) ++ log ∷ []) [
      | true ↦ missing_last vector log lacks logs
      | false ↦ ap (λ (rest : List Logged). first ∷ rest) (missing_last vector log lacks logs)
    ]

-- a replica in a list of them that got another
pub slots_set : (P : ℕ → Option Replicated →
    Type 0) (others : List (Option Replicated)) (group : ℕ) (new : Option Replicated) →
    group < length others → P group new → ((other : ℕ) → other ≢ group → P other (replica_of others other)) →
    (other : ℕ) → P other (replica_of (slice_set others group new) other)
slots_set P others group new long here elsewhere other = elim (cases_eq other group) [
  | inl same ↦ subst (λ g. P g (replica_of (slice_set others group new) g)) (sym same)
      (subst (P group) (sym (get_or-set_same others group new None long)) here)
  | inr differs ↦ subst (P other) (sym (get_or-set_other others group other new None differs)) (elsewhere other differs)
]

pub is_within : (others : List (Option Replicated)) (group : ℕ) (replica : Replicated) →
    replica_of others group ≡ Some replica → group < length others
is_within others group replica there = elim (cases_lt group (length others)) [
  | inl less ↦ less
  | inr past ↦ absurd (none-some replica (sym (get_or_past others group None past) ∙ there))
]

module _ (c : Setting) (s : ChainState) (h : IsSteadyState c s) where
  pub few_servers : (group : ℕ) → group < servers c → group < MOST_SERVERS
  few_servers group below = let most = h.run.right.ring.servers in omega arith

  -- ---- a message is taken

  module _ (link origin : ℕ) (legal : IsLegal c s (Take link origin)) (message : Message)
      (there : s.message origin ≡ Some message) (queued : message.place ≡ Queued link) where
    abbrev receiver : ℕ
    receiver = next_of (servers c) link

    pub receiver_up : s.up receiver ≡ true
    receiver_up = subst (λ place. s.up (aim (servers c) place) ≡ true) queued (h.tied.order.awake origin message there)

    -- what is known stays known
    module _ (known told : List (List ℕ)) where
      more : (group : ℕ) → group < servers c → (log : Logged) → covers_log (vector_of known group) log ≡ true →
          covers_log (vector_of (all_merged known told) group) log ≡ true
      more group below log covers = subst (λ v. covers_log v log ≡ true)
          (sym (vector_of-all_merged known told group (few_servers group below)))
          ((covered (merged (vector_of known group) (vector_of told group)) (need_of log.before log.changed)).1
          (covered_above (vector_of known group) (merged (vector_of known group) (vector_of told group))
          (need_of log.before log.changed) (above_first (vector_of known group) (vector_of told group))
          ((covered (vector_of known group) (need_of log.before log.changed)).0 covers)))

      module _ (known_is : AreCommits c s (knows c s receiver) known)
          (told_is : AreCommits c s message.known told) where
        known_after : AreCommits c (next c s (Take link origin)) (knows c (next c s (Take link origin)) receiver)
            (all_merged known told)
        known_after = take_learns c s h link origin legal message there known told known_is told_is

        replica_after : (group : ℕ) → group < servers c → is_member c group receiver ≡ true → (held : Replicated) →
            IsReplicaAt c s receiver group (pruned_by (vector_of known group) held) →
            IsReplicaAt c (next c s (Take link origin)) receiver group
            (pruned_by (vector_of (all_merged known told) group) held)
        replica_after group below member held is =
            subst (λ (kept : List Logged). IsReplicaAt c (next c s (Take link origin)) receiver group
            (record held { kept = kept }))
            (missing_twice (vector_of known group) (vector_of (all_merged known told) group)
            (more group below) held.kept)
            (subst (λ v. IsReplicaAt c (next c s (Take link origin)) receiver group
            (pruned_by v (pruned_by (vector_of known group) held)))
            (sym (known_after group (few_servers group below)))
            (take_prunes c s h link origin legal group (pruned_by (vector_of known group) held) receiver_up member is))

        slot_after : (group : ℕ) → group < servers c → (slot : Option Replicated) →
            IsReplicaSlot c s receiver known group slot →
            IsReplicaSlot c (next c s (Take link origin)) receiver (all_merged known told) group slot
        slot_after group below None are = are
        slot_after group below (Some replica) are = (are.0, are.1, replica_after group below are.0 replica are.2)

    pub replicas_told : (own : Replicated) (others : List (Option Replicated)) (known told : List (List ℕ)) →
        is_member c receiver receiver ≡ true → AreCommits c s message.known told →
        AreReplicas c s receiver own others known →
        AreReplicas c (next c s (Take link origin)) receiver own others (all_merged known told)
    replicas_told own others known told member told_is are = record {
      own = replica_after known told are.known told_is receiver
          (h.tied.order.inside receiver receiver_up) member own are.own;
      others = λ group below. slot_after known told are.known told_is group below (replica_of others group)
          (are.others group below);
      size = length-all_merged known told;
      known = known_after known told are.known told_is;
    }

  -- ---- a log is applied

  module _ (server origin group packet : ℕ) (legal : IsLegal c s (Apply server origin group packet))
      (up : s.up server ≡ true) (below : group < servers c) (log : Logged) (log_of : IsLogIn c.partitions s.trace log)
      (group_is : log.group ≡ group) (origin_is : log.origin ≡ packet)
      (own : Replicated) (others : List (Option Replicated)) (known : List (List ℕ)) (replica : Replicated)
      (there : replica_of others group ≡ Some replica) (are : AreReplicas c s server own others known) where
    abbrev applying : Event
    applying = Apply server origin group packet

    slot : IsReplicaSlot c s server known group (Some replica)
    slot = subst (IsReplicaSlot c s server known group) there (are.others group below)

    -- what the list lacks isn't known
    uncovered : covers_log (vector_of known group) log ≡ false
    uncovered = false_from_ne_true (covers_log (vector_of known group) log) (λ covers.
        let told = (need_known c s h server group packet known are.known (few_servers group below)
        (need_of log.before log.changed)
        (record { log = log; log_of = log_of; group_is = group_is; origin_is = origin_is; marks_are = refl })).0
        ((covered (vector_of known group) (need_of log.before log.changed)).0 covers) in
        let has = told.changing legal.0.3 in
        true≢false (sym ((h.tied.sound.known server group packet has).had server
        (h.tied.order.inside server up) up slot.0)
        ∙ legal.0.4))

    after_pruned : pruned_by (vector_of known group) (applied log replica)
        ≡ applied log (pruned_by (vector_of known group) replica)
    after_pruned = ap (λ (kept : List Logged). record (applied log replica) { kept = kept })
        (missing_last (vector_of known group) log uncovered replica.kept)

    other_stays : (more : List (List ℕ)) (other : ℕ) → other ≢ group → vector_of more other ≡ vector_of known other →
        (o : Option Replicated) → IsReplicaSlot c s server known other o →
        IsReplicaSlot c (next c s applying) server more other o
    other_stays more other differs same None slot_is = slot_is
    other_stays more other differs same (Some r) slot_is = (
      slot_is.0,
      slot_is.1,
      subst (λ v. IsReplicaAt c (next c s applying) server other (pruned_by v r)) (sym same)
          (others_stay c s h server other (pruned_by (vector_of known other) r) slot_is.2 applying legal
          (λ both. differs both.1)),
    )

    own_stays : (more : List (List ℕ)) → vector_of more server ≡ vector_of known server →
        IsReplicaAt c (next c s applying) server server (pruned_by (vector_of more server) own)
    own_stays more same = subst (λ v. IsReplicaAt c (next c s applying) server server (pruned_by v own)) (sym same)
        (others_stay c s h server server (pruned_by (vector_of known server) own) are.own applying legal
        (λ both. slot.1 (sym both.1)))

    -- at a server that isn't the group's tail
    before_tail : is_tail c group server ≡ false →
        AreReplicas c (next c s applying) server own (slice_set others group (Some (applied log replica))) known
    before_tail isnt = record {
      own = own_stays known refl;
      others = λ other less. slots_set (λ g o. g < servers c → IsReplicaSlot c (next c s applying) server known g o)
          others group (Some (applied log replica)) (is_within others group replica there)
          (λ _. (
            slot.0,
            slot.1,
            subst (λ (r : Replicated). IsReplicaAt c (next c s applying) server group r) (sym after_pruned)
                (apply_leaves c s h server origin group packet legal
                (pruned_by (vector_of known group) replica) log log_of
                group_is origin_is up slot.0 slot.2 isnt),
          ))
          (λ other differs less. other_stays known other differs refl (replica_of others other) (are.others other less))
          other less;
      size = are.size;
      known = apply_tells_none c s h server origin group packet legal isnt known are.known;
    }

    -- at the group's tail, which knows all that it has
    abbrev raised : List (List ℕ)
    raised = group_raised known group (applied log replica).vector

    module _ (tail : is_tail c group server ≡ true) where
      at_tail : IsReplicaAt c (next c s applying) server group
          (pruned_by (applied log replica).vector (applied log (pruned_by (vector_of known group) replica)))
      at_tail = apply_at_tail c s h server origin group packet legal
          (pruned_by (vector_of known group) replica) log log_of
          group_is origin_is up slot.0 slot.2 tail

      vector_is : (applied log replica).vector
          ≡ vector_in c.partitions s.trace group ((next c s applying).lists server group)
      vector_is = at_tail.vector

      known_is : AreCommits c (next c s applying) (knows c (next c s applying) server) raised
      known_is = subst (λ v. AreCommits c (next c s applying) (knows c (next c s applying) server)
          (group_raised known group v))
          (sym vector_is) (apply_learns c s h server origin group packet legal up below slot.0 tail known are.size
          are.known)

      within : group < length known
      within = let few = few_servers group below in let size = are.size in omega arith

      raised_covers : (other : Logged) → covers_log (vector_of known group) other ≡ true →
          covers_log (vector_of raised group) other ≡ true
      raised_covers other covers = subst (λ v. covers_log v other ≡ true)
          (sym (vector_of-raised known group (applied log replica).vector within))
          ((covered (merged (vector_of known group) (applied log replica).vector)
          (need_of other.before other.changed)).1
          (covered_above (vector_of known group) (merged (vector_of known group) (applied log replica).vector)
          (need_of other.before other.changed) (above_first (vector_of known group) (applied log replica).vector)
          ((covered (vector_of known group) (need_of other.before other.changed)).0 covers)))

      -- the tail knows its own list, so its vector is what it knows
      own_vector : vector_of raised group ≡ (applied log replica).vector
      own_vector = known_is group (few_servers group below)
          ∙ (vector_same_in ∙ sym vector_is)
        where
          vector_same_in : vector_in c.partitions s.trace group (knows c (next c s applying) server group)
              ≡ vector_in c.partitions s.trace group ((next c s applying).lists server group)
          vector_same_in = vector_same c.partitions group s.trace (knows c (next c s applying) server group)
              ((next c s applying).lists server group) (λ q.
              tail_knows c (next c s applying) (steady_next c s h applying legal) server group q up slot.0 tail)

      here : IsReplicaAt c (next c s applying) server group (pruned_by (vector_of raised group) (applied log replica))
      here = subst (λ (kept : List Logged). IsReplicaAt c (next c s applying) server group
          (record (applied log replica) { kept = kept }))
          (ap (λ v. missing v (missing (vector_of known group) replica.kept ++ log ∷ [])) (sym own_vector)
          ∙ (ap (missing (vector_of raised group))
          (sym (missing_last (vector_of known group) log uncovered replica.kept))
          ∙ missing_twice (vector_of known group) (vector_of raised group) raised_covers (replica.kept ++ log ∷ [])))
          at_tail

      at_the_tail : AreReplicas c (next c s applying) server own (slice_set others group (Some (applied log replica)))
          raised
      at_the_tail = record {
        own = own_stays raised
            (vector_of-other known group server (applied log replica).vector (λ e. slot.1 (sym e)));
        others = λ other less. slots_set (λ g o. g < servers c → IsReplicaSlot c (next c s applying) server raised g o)
            others group (Some (applied log replica)) (is_within others group replica there)
            (λ _. (slot.0, slot.1, here))
            (λ other differs less. other_stays raised other differs
            (vector_of-other known group other (applied log replica).vector differs) (replica_of others other)
            (are.others other less))
            other less;
        size = length-set known group (merged (vector_of known group) (applied log replica).vector) ∙ are.size;
        known = known_is;
      }

    pub replicas_applied : AreReplicas c (next c s applying) server own
        (slice_set others group (Some (applied log replica))) (if is_tail c group server then raised else known)
    replicas_applied = elim (is_tail c group server) as (λ tail. is_tail c group server ≡ tail →
        AreReplicas c (next c s applying) server own (slice_set others group (Some (applied log replica)))
        (if tail then raised else known)) [
          | true ↦ at_the_tail
          | false ↦ before_tail
        ] refl
