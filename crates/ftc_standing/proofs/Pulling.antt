-- What the receiver of a pull has then, and what it knows.
use Rattle.std.proofs.Common.{◌≡◌, ◌≢◌, ◌<◌, ◌==◌, ◌&&◌, ◌++◌, ◌∙◌, ℕ, Bool, true, false, not, List, [], ◌∷◌, length}
use Rattle.std.proofs.Common.{Option, Some, None, inl, inr, refl, sym, ap, subst, arith, if◌then◌else◌, eq-eqb}
use Rattle.std.proofs.Common.{eqb-true}
use Rattle.std.proofs.lemmas.Bool.{cases_eq, cases_Bool, true≢false, and_parts}
use Rattle.std.proofs.lemmas.List.{length-set, append_assoc, append-nil}
use Rattle.std.proofs.lemmas.Option.{same_Some}
use Rattle.ftc_base.specs.declared.limits.TheConstants.{MOST_SERVERS}
use Rattle.ftc_journal.specs.declared.event.Event.{Event}
use Rattle.ftc_journal.specs.declared.event.Event.TheVariants.{Pull}
use Rattle.ftc_message.specs.Logged.{Logged}
use Rattle.ftc_replica.specs.Held.{Held as Replicated, applied, pruned_by}
use Rattle.ftc_replica.specs.InTurn.{applied_all}
use Rattle.ftc_replica.specs.Kept.{covers_log, missing}
use Rattle.ftc_ring.specs.Ring.{apart, next_of}
use Rattle.ftc_serial.proofs.Functions.{with_at_cases}
use Rattle.ftc_vector.specs.Vector.{merged, need_of, number_at}
use Rattle.ftc_vector.specs.Order.{IsBelow}
use Rattle.ftc_vector.specs.Commits.{vector_of, group_raised}
use Rattle.ftc_vector.proofs.Bounds.{above_first}
use Rattle.ftc_vector.proofs.GroupLists.{vector_of-raised, vector_of-other}
use Rattle.ftc_vector.proofs.Needs.{covered_above}
use Rattle.ftc_vector.proofs.OrderTests.{covered}
use Rattle.ftc_vector.proofs.Partitions.{get_or-by_partition}
use Rattle.ftc_replica.proofs.Left.{covers_above}
use Rattle.ftc_protocol.specs.Setting.{Setting, servers, is_member, is_tail}
use Rattle.ftc_protocol.specs.Visits.{Visits}
use Rattle.ftc_protocol.proofs.RingDistances.{apart_cases, apart_after}
use Rattle.ftc_protocol.specs.State.{ChainState}
use Rattle.ftc_protocol.specs.Known.{knows}
use Rattle.ftc_protocol.specs.Legal.{IsLegal}
use Rattle.ftc_protocol.specs.Next.{next, pulled_list}
use Rattle.ftc_ties.specs.Numbers.{Packets, count_of, vector_in}
use Rattle.ftc_ties.specs.Servers.{IsReplicaAt, AreCommits, is_shared}
use Rattle.ftc_ties.proofs.Committing.{pull_leaves, pull_at_tail}
use Rattle.ftc_ties.proofs.Counting.{count_mono}
use Rattle.ftc_ties.proofs.Learning.{tail_grows, only_tail}
use Rattle.ftc_ties.proofs.Replicating.{vector_same}
use Rattle.ftc_ties.proofs.Serving.{IsSteadyState, others_stay, steady_next, tail_knows, known_had}
use Rattle.ftc_standing.specs.Stand.{IsReplicaSlot, AreReplicas, ServerContents, IsServer, IsPulled, replica_kept}
use Rattle.ftc_standing.specs.Stand.{replica_of}
use Rattle.ftc_standing.proofs.Gaining.{few_servers, missing_twice}
use Rattle.ftc_standing.proofs.Reviving.{kept_at}
use Rattle.ftc_standing.proofs.Visiting.{missing_both}

-- logs that are applied are kept behind the others
applied_kept : (logs : List Logged) (held : Replicated) (kept : List Logged) →
    applied_all logs (record held { kept = kept }) ≡ record (applied_all logs held) { kept = kept ++ logs }
applied_kept [] held kept = ap (λ (list : List Logged). record held { kept = list }) (sym (append-nil kept))
applied_kept (log ∷ logs) held kept = applied_kept logs (applied log held) (kept ++ log ∷ [])
    ∙ ap (λ (list : List Logged). record (applied_all logs (applied log held)) { kept = list })
    (append_assoc kept (log ∷ []) logs)

-- what a greater vector lacks, a smaller one lacks
missing_after : (less more : List ℕ) →
    ((log : Logged) → covers_log less log ≡ true → covers_log more log ≡ true) → (logs : List Logged) →
    missing less (missing more logs) ≡ missing more logs
missing_after less more up [] = refl
missing_after less more up (log ∷ logs) = elim (covers_log more log) as (λ b. covers_log more log ≡ b →
    missing less (if not b then log ∷ missing more logs else missing more logs)
    ≡ (if not b then log ∷ missing more logs else missing more logs)) [
      | true ↦ λ e. missing_after less more up logs
      | false ↦ λ e. elim (cases_Bool (covers_log less log)) [
        | inl has ↦ absurd (true≢false (sym (up log has) ∙ e))
        | inr hasnt ↦ ap (λ (b : Bool). if not b then log ∷ missing less (missing more logs)
            else missing less (missing more logs)) hasnt
            ∙ ap (λ (rest : List Logged). log ∷ rest) (missing_after less more up logs)
      ]
    ] refl

module _ (c : Setting) (s : ChainState) (h : IsSteadyState c s) where
  -- a set that another has has smaller numbers
  vector_below : (group : ℕ) (one other : Packets) → ((q : ℕ) → one q ≡ true → other q ≡ true) →
      IsBelow (vector_in c.partitions s.trace group one) (vector_in c.partitions s.trace group other)
  vector_below group one other inside = record {
    each = λ i within.
        let first : number_at (vector_in c.partitions s.trace group one) i ≡ count_of c.partitions s.trace group one i =
        get_or-by_partition (count_of c.partitions s.trace group one) i 0 within in
        let second : number_at (vector_in c.partitions s.trace group other) i
        ≡ count_of c.partitions s.trace group other i =
        get_or-by_partition (count_of c.partitions s.trace group other) i 0 within in
        let less = count_mono c.partitions group i s.trace one other (λ q _ there. inside q there) in
        omega arith;
  }

and_last : (a b : Bool) → b ≡ true → (a && not b) ≡ false
and_last true b is = ap not is
and_last false b is = refl

-- in a group that both ends share the sender has what the receiver has
sender_has : (c : Setting) (s : ChainState) (h : IsSteadyState c s) (link : ℕ) (legal : IsLegal c s (Pull link))
    (group q : ℕ) → is_shared c group link (next_of (servers c) link) ≡ true →
    s.lists (next_of (servers c) link) group q ≡ true → s.lists link group q ≡ true
sender_has c s h link legal group q shared inside =
    let n = servers c in
    let here : link < n = h.tied.order.inside link legal.0.0 in
    let jb = (h.tied.order.had (next_of n link) group q inside).1 in
    let other : group ≢ next_of n link = λ e. true≢false (sym (and_parts (is_member c group link
    && is_member c group (next_of n link)) (not (group == next_of n link)) shared).1
    ∙ ap not (eq-eqb group (next_of n link) e)) in
    elim (apart_after n link here) [
      | inr just_one ↦ absurd (h.tied.order.gaps link legal.0.2 just_one)
      | inl step ↦
          let to_receiver = apart_cases n group (next_of n link) jb step.1 in
          let to_sender = apart_cases n group link jb here in
          let one = step.0 in
          h.tied.sound.nested group link (next_of n link) q here legal.0.0 (omega arith) inside
    ]

module _ (c : Setting) (s : ChainState) (h : IsSteadyState c s) (link : ℕ) (legal : IsLegal c s (Pull link))
    (contents from : ServerContents) (is : IsServer c s (next_of (servers c) link) contents)
    (sender_is : IsServer c s link from) where
  abbrev pulling : Event
  pulling = Pull link

  abbrev receiver : ℕ
  receiver = next_of (servers c) link

  -- in a group that both ends share
  module _ (group : ℕ) (inside : group < servers c) (shared : is_shared c group link receiver ≡ true)
      (mine theirs : Replicated) (mine_is : replica_of contents.later group ≡ Some mine)
      (theirs_is : replica_kept link from group ≡ Some theirs) where
    few : group < MOST_SERVERS
    few = few_servers c s h group inside

    mine_at : IsReplicaSlot c s receiver contents.known group (Some mine)
    mine_at = subst (IsReplicaSlot c s receiver contents.known group) mine_is (is.replicas.others group inside)

    theirs_at : IsReplicaAt c s link group (pruned_by (vector_of from.known group) theirs)
    theirs_at = kept_at c s link from sender_is group inside theirs theirs_is

    -- what either end knows, the receiver has
    theirs_below : IsBelow (vector_of from.known group) mine.vector
    theirs_below = subst (λ v. IsBelow v mine.vector) (sym (sender_is.replicas.known group few))
        (subst (IsBelow (vector_in c.partitions s.trace group (knows c s link group))) (sym mine_at.2.vector)
        (vector_below c s h group (knows c s link group) (s.lists receiver group)
        (λ q known. known_had c s h link receiver group q legal.0.1 mine_at.0 known)))

    mine_below : IsBelow (vector_of contents.known group) mine.vector
    mine_below = subst (λ v. IsBelow v mine.vector) (sym (is.replicas.known group few))
        (subst (IsBelow (vector_in c.partitions s.trace group (knows c s receiver group))) (sym mine_at.2.vector)
        (vector_below c s h group (knows c s receiver group) (s.lists receiver group)
        (λ q known. known_had c s h receiver receiver group q legal.0.1 mine_at.0 known)))

    abbrev lacking : List Logged
    lacking = missing mine.vector theirs.kept

    abbrev pulled : Replicated
    pulled = applied_all lacking mine

    same_lacking : missing mine.vector (missing (vector_of from.known group) theirs.kept) ≡ lacking
    same_lacking = missing_twice (vector_of from.known group) mine.vector
        (covers_above (vector_of from.known group) mine.vector theirs_below) theirs.kept

    same_pruned : applied_all (missing mine.vector (missing (vector_of from.known group) theirs.kept))
        (pruned_by (vector_of contents.known group) mine)
        ≡ record pulled { kept = missing (vector_of contents.known group) mine.kept ++ lacking }
    same_pruned = ap (λ logs. applied_all logs (pruned_by (vector_of contents.known group) mine)) same_lacking
        ∙ applied_kept lacking mine (missing (vector_of contents.known group) mine.kept)

    kept_is : pulled.kept ≡ mine.kept ++ lacking
    kept_is = ap (λ (r : Replicated). r.kept) (applied_kept lacking mine mine.kept)

    -- what is kept behind is pruned as well as what was
    pruned_is : missing (vector_of contents.known group) pulled.kept
        ≡ missing (vector_of contents.known group) mine.kept ++ lacking
    pruned_is = ap (missing (vector_of contents.known group)) kept_is
        ∙ (missing_both (vector_of contents.known group) mine.kept lacking
        ∙ ap (λ rest. missing (vector_of contents.known group) mine.kept ++ rest)
        (missing_after (vector_of contents.known group) mine.vector
        (covers_above (vector_of contents.known group) mine.vector mine_below) theirs.kept))

    pub pulled_at : is_tail c group receiver ≡ false →
        IsReplicaAt c (next c s pulling) receiver group (pruned_by (vector_of contents.known group) pulled)
    pulled_at isnt = subst (IsReplicaAt c (next c s pulling) receiver group)
        (same_pruned ∙ ap (λ (kept : List Logged). record pulled { kept = kept }) (sym pruned_is))
        (pull_leaves c s h link group legal shared (pruned_by (vector_of contents.known group) mine)
        (pruned_by (vector_of from.known group) theirs) mine_at.2 theirs_at isnt)

    -- at the group's tail
    module _ (tail : is_tail c group receiver ≡ true) where
      abbrev raised : List (List ℕ)
      raised = group_raised contents.known group pulled.vector

      at_tail : IsReplicaAt c (next c s pulling) receiver group (pruned_by
          (applied_all (missing mine.vector (missing (vector_of from.known group) theirs.kept))
          (pruned_by (vector_of contents.known group) mine)).vector
          (applied_all (missing mine.vector (missing (vector_of from.known group) theirs.kept))
          (pruned_by (vector_of contents.known group) mine)))
      at_tail = pull_at_tail c s h link group legal shared (pruned_by (vector_of contents.known group) mine)
          (pruned_by (vector_of from.known group) theirs) mine_at.2 theirs_at tail

      at_tail_so : IsReplicaAt c (next c s pulling) receiver group
          (record pulled {
            kept = missing pulled.vector (missing (vector_of contents.known group) mine.kept
                ++ lacking);
          })
      at_tail_so = subst (λ (r : Replicated). IsReplicaAt c (next c s pulling) receiver group (pruned_by r.vector r))
          same_pruned at_tail

      pub vector_now : pulled.vector ≡ vector_in c.partitions s.trace group ((next c s pulling).lists receiver group)
      vector_now = at_tail_so.vector

      grows : (g q : ℕ) → s.lists receiver g q ≡ true → (next c s pulling).lists receiver g q ≡ true
      grows g q there = with_at_cases (λ (v : Visits). v g q ≡ true) s.lists receiver
          (pulled_list c s link receiver) receiver
          (λ _. either (is_shared c g link receiver) refl) (λ ne. there)
        where
          either : (b : Bool) → is_shared c g link receiver ≡ b →
              (if b then s.lists link g q else s.lists receiver g q) ≡ true
          either true is_so = sender_has c s h link legal g q is_so there
          either false is_so = there

      known_now : AreCommits c (next c s pulling) (knows c (next c s pulling) receiver) raised
      known_now = subst (λ v. AreCommits c (next c s pulling) (knows c (next c s pulling) receiver)
          (group_raised contents.known group v)) (sym vector_now)
          (tail_grows c s h pulling legal receiver group inside mine_at.0 tail legal.0.1
          (λ g q. refl) grows contents.known
          is.replicas.size is.replicas.known)

      within : group < length contents.known
      within = let size = is.replicas.size in let most = few in omega arith

      raised_covers : (log : Logged) → covers_log (vector_of contents.known group) log ≡ true →
          covers_log (vector_of raised group) log ≡ true
      raised_covers log has = subst (λ v. covers_log v log ≡ true)
          (sym (vector_of-raised contents.known group pulled.vector within))
          (covers_above (vector_of contents.known group) (merged (vector_of contents.known group) pulled.vector)
          (above_first (vector_of contents.known group) pulled.vector) log has)

      own_vector : vector_of raised group ≡ pulled.vector
      own_vector = known_now group few
          ∙ (vector_same c.partitions group s.trace (knows c (next c s pulling) receiver group)
          ((next c s pulling).lists receiver group)
          (λ q. tail_knows c (next c s pulling)
          (steady_next c s h pulling legal) receiver group q legal.0.1 mine_at.0 tail)
          ∙ sym vector_now)

      pub pulled_at_tail : IsReplicaAt c (next c s pulling) receiver group (pruned_by (vector_of raised group) pulled)
      pulled_at_tail = subst (λ (kept : List Logged). IsReplicaAt c (next c s pulling) receiver group
          (record pulled { kept = kept }))
          (ap (λ v. missing v (missing (vector_of contents.known group) mine.kept ++ lacking)) (sym own_vector)
          ∙ (ap (missing (vector_of raised group)) (sym pruned_is)
          ∙ missing_twice (vector_of contents.known group)
          (vector_of raised group) raised_covers pulled.kept)) at_tail_so

  -- a group that they don't share, or what nothing came of
  stays_at : (group : ℕ) (more : List (List ℕ)) → vector_of more group ≡ vector_of contents.known group →
      is_shared c group link receiver ≡ false → (o : Option Replicated) →
      IsReplicaSlot c s receiver contents.known group o → IsReplicaSlot c (next c s pulling) receiver more group o
  stays_at group more same isnt None slot = slot
  stays_at group more same isnt (Some r) slot = (
    slot.0,
    slot.1,
    subst (λ v. IsReplicaAt c (next c s pulling) receiver group (pruned_by v r)) (sym same)
        (others_stay c s h receiver group (pruned_by (vector_of contents.known group) r) slot.2 pulling legal
        (λ both. true≢false (sym both.1 ∙ isnt))),
  )

  own_apart : is_shared c receiver link receiver ≡ false
  own_apart = and_last (is_member c receiver link && is_member c receiver receiver) (receiver == receiver)
      (eq-eqb receiver receiver refl)

  module _ (later : List (Option Replicated)) (tail : ℕ) (tail_inside : tail < servers c)
      (tail_is : is_tail c tail receiver ≡ true) (tail_shared : is_shared c tail link receiver ≡ true)
      (pulls : IsPulled c link contents from later) (mine theirs : Replicated)
      (mine_is : replica_of contents.later tail ≡ Some mine) (theirs_is : replica_kept link from tail
      ≡ Some theirs) where
    abbrev pub known_after : List (List ℕ)
    known_after = group_raised contents.known tail (applied_all (missing mine.vector theirs.kept) mine).vector

    slot_after : (group : ℕ) → group < servers c → (b : Bool) → is_shared c group link receiver ≡ b →
        IsReplicaSlot c (next c s pulling) receiver known_after group (replica_of later group)
    slot_after group inside false isnt = subst (IsReplicaSlot c (next c s pulling) receiver known_after group)
        (sym (pulls.others group inside isnt))
        (stays_at group known_after
        (vector_of-other contents.known tail group (applied_all (missing mine.vector theirs.kept) mine).vector
        (λ e. true≢false (sym (subst (λ g. is_shared c g link receiver ≡ true) (sym e) tail_shared) ∙ isnt))) isnt
        (replica_of contents.later group) (is.replicas.others group inside))
    slot_after group inside true so =
        let got = pulls.shared group inside so in
        let slot = mine_at group inside so got.0 got.1 got.2 got.3 in
        subst (IsReplicaSlot c (next c s pulling) receiver known_after group) (sym got.4) (
          slot.0,
          slot.1,
          elim (cases_eq group tail) [
            | inl same ↦
                let mine_same : got.0 ≡ mine =
                same_Some got.0 mine (sym got.2 ∙ (ap (replica_of contents.later) same ∙ mine_is)) in
                let theirs_same : got.1 ≡ theirs =
                same_Some got.1 theirs (sym got.3 ∙ (ap (replica_kept link from) same ∙ theirs_is)) in
                subst (λ g. IsReplicaAt c (next c s pulling) receiver g (pruned_by (vector_of known_after g)
                (applied_all (missing got.0.vector got.1.kept) got.0))) (sym same)
                (subst (λ (r : Replicated). IsReplicaAt c (next c s pulling) receiver tail
                (pruned_by (vector_of known_after tail)
                (applied_all (missing r.vector got.1.kept) r))) (sym mine_same)
                (subst (λ (r : Replicated). IsReplicaAt c (next c s pulling) receiver tail
                (pruned_by (vector_of known_after tail)
                (applied_all (missing mine.vector r.kept) mine))) (sym theirs_same)
                (pulled_at_tail tail tail_inside tail_shared mine theirs mine_is theirs_is tail_is)))
            | inr differs ↦
                let isnt_tail : is_tail c group receiver ≡ false = not_tail group inside differs in
                subst (λ v. IsReplicaAt c (next c s pulling) receiver group
                (pruned_by v (applied_all (missing got.0.vector got.1.kept) got.0)))
                (sym (vector_of-other contents.known tail group
                (applied_all (missing mine.vector theirs.kept) mine).vector differs))
                (pulled_at group inside so got.0 got.1 got.2 got.3 isnt_tail)
          ],
        )
      where
        not_tail : (group : ℕ) → group < servers c → group ≢ tail → is_tail c group receiver ≡ false
        not_tail group inside differs = elim (cases_Bool (is_tail c group receiver)) [
          | inl yes_it ↦ absurd (differs (only_tail c group tail receiver inside tail_inside
              (h.tied.order.inside receiver legal.0.1) yes_it tail_is))
          | inr isnt ↦ isnt
        ]

    pub replicas_pulled : AreReplicas c (next c s pulling) receiver contents.head later known_after
    replicas_pulled = record {
      own = subst (λ v. IsReplicaAt c (next c s pulling) receiver receiver (pruned_by v contents.head))
          (sym (vector_of-other contents.known tail receiver (applied_all (missing mine.vector theirs.kept) mine).vector
          (λ e. true≢false (sym (subst (λ g. is_shared c g link receiver ≡ true) (sym e) tail_shared) ∙ own_apart))))
          (others_stay c s h receiver receiver
          (pruned_by (vector_of contents.known receiver) contents.head) is.replicas.own
          pulling legal (λ both. true≢false (sym both.1 ∙ own_apart)));
      others = λ group inside. slot_after group inside (is_shared c group link receiver) refl;
      size = length-set contents.known tail
          (merged (vector_of contents.known tail) (applied_all (missing mine.vector theirs.kept) mine).vector)
          ∙ is.replicas.size;
      known = known_now tail tail_inside tail_shared mine theirs mine_is theirs_is tail_is;
    }
