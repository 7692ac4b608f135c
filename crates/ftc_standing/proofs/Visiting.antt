-- What a server's replicas, what it knows and the visited message become by a visit there.
use Rattle.std.proofs.Common.{◌≡◌, ◌≢◌, ◌<◌, ◌==◌, ◌||◌, ◌&&◌, ◌++◌, ◌∙◌, ℕ, Bool, true, false, not, nat_lt, zero, suc}
use Rattle.std.proofs.Common.{List, [], ◌∷◌, length, Option, Some, None, inl, inr, refl, sym, ap, subst, arith}
use Rattle.std.proofs.Common.{if◌then◌else◌, eq-eqb, eqb-true, lt-ltb}
use Rattle.std.specs.Option.{is_some}
use Rattle.std.proofs.lemmas.Bool.{cases_eq, ne_eqb, true≢false, or_left, false_from_ne_true}
use Rattle.std.proofs.lemmas.List.{length-set}
use Rattle.std.proofs.lemmas.Option.{same_Some}
use Rattle.std.proofs.Math.Bool.{or_comm, and-false}
use Rattle.ftc_base.specs.declared.limits.TheConstants.{MOST_SERVERS}
use Rattle.ftc_base.proofs.Numbers.{eqb-swap}
use Rattle.ftc_base.proofs.Bools.{or_without}
use Rattle.ftc_journal.specs.declared.event.Event.{Event}
use Rattle.ftc_journal.specs.declared.event.Event.TheVariants.{Visit}
use Rattle.ftc_message.specs.Logged.{Logged}
use Rattle.ftc_message.specs.declared.need.Need.{Need}
use Rattle.ftc_message.specs.declared.message.Message.{Message as SentMessage}
use Rattle.ftc_message.specs.Ordered.{with_item, is_earlier, is_lower}
use Rattle.ftc_message.proofs.InOrder.{all-with_item}
use Rattle.ftc_replica.specs.Held.{Held as Replicated, pruned_by}
use Rattle.ftc_replica.specs.Kept.{covers_log, missing}
use Rattle.ftc_serial.specs.Take.{Outcome}
use Rattle.ftc_serial.proofs.Functions.{with_at_cases}
use Rattle.ftc_txn.specs.Logs.{IsLogOf}
use Rattle.ftc_vector.specs.Vector.{merged, need_of}
use Rattle.ftc_vector.specs.Commits.{vector_of, group_raised}
use Rattle.ftc_vector.proofs.Bounds.{above_first}
use Rattle.ftc_vector.proofs.GroupLists.{vector_of-raised, vector_of-other}
use Rattle.ftc_vector.proofs.Needs.{covered_above}
use Rattle.ftc_vector.proofs.OrderTests.{covered}
use Rattle.ftc_protocol.specs.Changes.{is_changing, is_touching}
use Rattle.ftc_protocol.specs.Setting.{Setting, servers, is_member, is_tail}
use Rattle.ftc_protocol.specs.Visits.{Visits, union, just}
use Rattle.ftc_protocol.specs.State.{ChainState, Message}
use Rattle.ftc_protocol.specs.Known.{knows}
use Rattle.ftc_protocol.specs.Legal.{IsLegal}
use Rattle.ftc_protocol.specs.Next.{next, outcome_at, visited_message, visited_at}
use Rattle.ftc_protocol.specs.Orderly.{aim}
use Rattle.ftc_protocol.proofs.Sets.{kept}
use Rattle.ftc_protocol.proofs.TraceLemmas.{stands_map}
use Rattle.ftc_ties.specs.Logs.{IsLogIn}
use Rattle.ftc_ties.specs.Messages.{AreLogsOf, AreNeedsOf, names_log, needs_of}
use Rattle.ftc_ties.specs.Replica.{committed}
use Rattle.ftc_ties.specs.Servers.{IsReplicaAt, AreCommits, IsNeedIn}
use Rattle.ftc_ties.proofs.Asking.{need_known}
use Rattle.ftc_ties.proofs.Carrying.{logs_stay}
use Rattle.ftc_ties.proofs.Committing.{visit_leaves, visit_at_tail, visit_stays}
use Rattle.ftc_ties.proofs.Informing.{commits_stay, knows_stay}
use Rattle.ftc_ties.proofs.Lasting.{commit_logs}
use Rattle.ftc_ties.proofs.Learning.{visit_tells_none, tail_grows}
use Rattle.ftc_ties.proofs.Replicating.{vector_same}
use Rattle.ftc_ties.proofs.Serving.{IsSteadyState, others_stay, steady_next, tail_knows}
use Rattle.ftc_message.specs.Added.{logs_with, needs_with, need_of_log}
use Rattle.ftc_standing.specs.Stand.{IsReplicaSlot, AreReplicas, IsSentAs, replica_of}
use Rattle.ftc_standing.proofs.Gaining.{missing_twice, missing_last, few_servers}
use Rattle.ftc_standing.proofs.Lasting.{IsFirmState, tied_after, needing_after, touching_some, changing_some}
use Rattle.ftc_standing.proofs.Lasting.{needs_stay}
use Rattle.ftc_standing.proofs.Leaving.{any_with_item}

pub missing_both : (vector : List ℕ) (logs others : List Logged) →
    missing vector (logs ++ others) ≡ missing vector logs ++ missing vector others
missing_both vector [] others = refl
missing_both vector (log ∷ logs) others = elim (covers_log vector log) as (λ b.
    (if not b then log ∷ missing vector (logs ++ others) else missing vector (logs ++ others))
    ≡ (if not b then log ∷ missing vector logs else missing vector logs) ++ missing vector others) [
      | true ↦ missing_both vector logs others
      | false ↦ ap (λ (rest : List Logged). log ∷ rest) (missing_both vector logs others)
    ]

and_yes : (a b : Bool) → b ≡ true → (a && b) ≡ a
and_yes true b is = is
and_yes false b is = refl

module _ (c : Setting) (s : ChainState) (h : IsSteadyState c s) (k p w : ℕ) (legal : IsLegal c s (Visit k p w))
    (up : s.up k ≡ true) (member : is_member c k k ≡ true) (own : Replicated) (others : List (Option Replicated))
    (known : List (List ℕ)) (are : AreReplicas c s k own others known) where
  abbrev visiting : Event
  visiting = Visit k p w

  abbrev outcome : Outcome
  outcome = outcome_at c s k p

  inside : k < servers c
  inside = h.tied.order.inside k up

  other_stays : (more : List (List ℕ)) (group : ℕ) → (group ≢ k → vector_of more group ≡ vector_of known group) →
      (o : Option Replicated) → IsReplicaSlot c s k known group o → IsReplicaSlot c (next c s visiting) k more group o
  other_stays more group same None slot = slot
  other_stays more group same (Some r) slot = (
    slot.0,
    slot.1,
    subst (λ v. IsReplicaAt c (next c s visiting) k group (pruned_by v r)) (sym (same (λ e. slot.1 e)))
        (others_stay c s h k group (pruned_by (vector_of known group) r) slot.2 visiting legal (λ both. slot.1 both.1)),
  )

  -- one that changes nothing
  pub replicas_unchanged : is_changing c.partitions outcome ≡ false →
      AreReplicas c (next c s visiting) k own others known
  replicas_unchanged unchanging = record {
    own = visit_stays c s h k p w legal (pruned_by (vector_of known k) own) up member are.own unchanging;
    others = λ group below. other_stays known group (λ _. refl) (replica_of others group) (are.others group below);
    size = are.size;
    known = knows_stay c s h visiting legal k known (λ g q. ap (λ (b : Bool). s.known k g q
        || (is_tail c g k && b)) (same g q))
        are.known;
  }
    where
      same : (g q : ℕ) → (next c s visiting).lists k g q ≡ s.lists k g q
      same g q = with_at_cases (λ (v : Visits). v g q ≡ s.lists k g q) s.lists k _ k
          (λ _. or_without (s.lists k g q) (just k p (is_changing c.partitions outcome) g q)
          (ap (λ (b : Bool). (g == k) && (q == p) && b) unchanging ∙ and_false ((g == k) && (q == p)))) (λ ne. refl)
        where
          and_false : (b : Bool) → (b && false) ≡ false
          and_false true = refl
          and_false false = refl

  module _ (changes : is_changing c.partitions outcome ≡ true) (log : Logged)
      (made : IsLogOf k c.partitions own.vector p outcome.answers outcome.writes log) where
    abbrev after : Replicated
    after = committed c.partitions outcome log own

    log_now : IsLogIn c.partitions (next c s visiting).trace log
    log_now = commit_logs c s h k p w legal up (pruned_by (vector_of known k) own) are.own log made

    abbrev raised : List (List ℕ)
    raised = group_raised known k after.vector

    -- at a head that isn't its group's tail
    module _ (isnt : is_tail c k k ≡ false) where
      known_after : AreCommits c (next c s visiting) (knows c (next c s visiting) k) known
      known_after = visit_tells_none c s h k p w legal isnt known are.known

      -- the new visit isn't known to be at its tail
      uncovered : covers_log (vector_of known k) log ≡ false
      uncovered = false_from_ne_true (covers_log (vector_of known k) log) (λ covers.
          let new = steady_next c s h visiting legal in
          let told = (need_known c (next c s visiting) new k k p known known_after (few_servers c s h k inside)
          (need_of log.before log.changed) (record {
            log = log;
            log_of = log_now;
            group_is = made.group;
            origin_is = made.origin;
            marks_are = refl;
          })).0 ((covered (vector_of known k) (need_of log.before log.changed)).0 covers) in
          let knows_it : (s.known k k p || (is_tail c k k && (next c s visiting).lists k k p)) ≡ true =
          told.changing (inl (refl, refl, changes)) in
          let before : s.known k k p ≡ true =
          sym (or_without (s.known k k p) (is_tail c k k && (next c s visiting).lists k k p)
          (ap (λ (b : Bool). b && (next c s visiting).lists k k p) isnt)) ∙ knows_it in
          let stood = (h.tied.fronts.known k).there k p before in
          new.tied.trace.0 (stands_map (λ o. is_changing c.partitions o ≡ true) (λ o. Unit {0})
          (λ o u. tt) s.trace k p stood))

      committed_before_tail : AreReplicas c (next c s visiting) k after others known
      committed_before_tail = record {
        own = subst (λ (kept : List Logged). IsReplicaAt c (next c s visiting) k k (record after { kept = kept }))
            (sym (missing_last (vector_of known k) log uncovered own.kept))
            (visit_leaves c s h k p w legal
            (pruned_by (vector_of known k) own) up member are.own changes log made isnt);
        others = λ group below. other_stays known group (λ _. refl) (replica_of others group) (are.others group below);
        size = are.size;
        known = known_after;
      }

    -- where the head is the only member of its group
    module _ (tail : is_tail c k k ≡ true) where
      at_tail : IsReplicaAt c (next c s visiting) k k
          (pruned_by after.vector (committed c.partitions outcome log (pruned_by (vector_of known k) own)))
      at_tail = visit_at_tail c s h k p w legal
          (pruned_by (vector_of known k) own) up member are.own changes log made tail

      known_raised : AreCommits c (next c s visiting) (knows c (next c s visiting) k) raised
      known_raised = subst (λ v. AreCommits c (next c s visiting) (knows c (next c s visiting) k)
          (group_raised known k v))
          (sym at_tail.vector)
          (tail_grows c s h visiting legal k k inside member tail up (λ g q. refl)
          (λ g q there. kept s.lists k k p (is_changing c.partitions outcome) k g q there) known are.size are.known)

      within : k < length known
      within = let few = few_servers c s h k inside in let size = are.size in omega arith

      more : (other : Logged) → covers_log (vector_of known k) other ≡ true →
          covers_log (vector_of raised k) other ≡ true
      more other covers = subst (λ v. covers_log v other ≡ true) (sym (vector_of-raised known k after.vector within))
          ((covered (merged (vector_of known k) after.vector) (need_of other.before other.changed)).1
          (covered_above (vector_of known k) (merged (vector_of known k) after.vector)
          (need_of other.before other.changed)
          (above_first (vector_of known k) after.vector)
          ((covered (vector_of known k) (need_of other.before other.changed)).0 covers)))

      own_vector : vector_of raised k ≡ after.vector
      own_vector = known_raised k (few_servers c s h k inside)
          ∙ (vector_same c.partitions k (next c s visiting).trace (knows c (next c s visiting) k k)
          ((next c s visiting).lists k k)
          (λ q. tail_knows c (next c s visiting) (steady_next c s h visiting legal) k k q up member tail)
          ∙ sym at_tail.vector)

      committed_alone : AreReplicas c (next c s visiting) k after others raised
      committed_alone = record {
        own = subst (λ (kept : List Logged). IsReplicaAt c (next c s visiting) k k (record after { kept = kept }))
            (ap (λ v. missing v (missing (vector_of known k) own.kept ++ log ∷ [])) (sym own_vector)
            ∙ (missing_both (vector_of raised k) (missing (vector_of known k) own.kept) (log ∷ [])
            ∙ (ap (λ front. front ++ missing (vector_of raised k) (log ∷ []))
            (missing_twice (vector_of known k) (vector_of raised k) more own.kept)
            ∙ sym (missing_both (vector_of raised k) own.kept (log ∷ []))))) at_tail;
        others = λ group below. other_stays raised group
            (λ differs. vector_of-other known k group after.vector differs) (replica_of others group)
            (are.others group below);
        size = length-set known k (merged (vector_of known k) after.vector) ∙ are.size;
        known = known_raised;
      }

    pub replicas_committed : AreReplicas c (next c s visiting) k after others
        (if is_tail c k k then raised else known)
    replicas_committed = elim (is_tail c k k) as (λ tail. is_tail c k k ≡ tail →
        AreReplicas c (next c s visiting) k after others (if tail then raised else known)) [
          | true ↦ committed_alone
          | false ↦ committed_before_tail
        ] refl

-- ---- the message

module _ (c : Setting) (s : ChainState) (f : IsFirmState c s) (k p w : ℕ) (legal : IsLegal c s (Visit k p w))
    (message : Message) (there : s.message p ≡ Some message) (before after : SentMessage)
    (stands : IsSentAs c s p message before) where
  abbrev visiting_it : Event
  visiting_it = Visit k p w

  abbrev its_outcome : Outcome
  its_outcome = outcome_at c s k p

  -- what the message becomes
  abbrev pub visited_one : Message
  visited_one = record {
    place = visited_at message.place;
    since = message.since;
    packet = its_outcome.packet;
    logs = union message.logs (just k p (is_touching its_outcome && nat_lt 0 c.failures));
    needs = λ group. is_some its_outcome.packet
        && (message.needs group || ((group == k) && is_touching its_outcome));
    known = message.known;
  }

  visited_here : (next c s visiting_it).message p ≡ Some visited_one
  visited_here = with_at_cases (λ v. v ≡ Some visited_one) s.message p
      (visited_message c k p its_outcome (s.message p)) p
      (λ _. ap (visited_message c k p its_outcome) there) (λ ne. absurd (ne refl))

  module _ (log : Option Logged) (touched : is_some log ≡ is_touching its_outcome)
      (logged : (one : Logged) → log ≡ Some one →
      IsLogIn c.partitions (next c s visiting_it).trace one × (one.group ≡ k) × (one.origin ≡ p)) where
    logs_before : AreLogsOf c (next c s visiting_it) message.logs before.logs
    logs_before = logs_stay c s f.steady visiting_it legal message.logs before.logs
        (λ group packet carried. touching_some (next c s visiting_it).trace group packet
        ((tied_after c s f visiting_it legal).sound.logs p group packet visited_one visited_here
        (or_left (message.logs group packet)
        (just k p (is_touching its_outcome && nat_lt 0 c.failures) group packet) carried)))
        stands.logs

    is_own : (one : Logged) → log ≡ Some one → (group packet : ℕ) →
        (one.group == group && one.origin == packet) ≡ ((group == k) && (packet == p))
    is_own one is group packet =
        let own = logged one is in
        ap (λ x. x == group && one.origin == packet) own.1
        ∙ (ap (λ x. k == group && x == packet) own.2
        ∙ (ap (λ x. x && p == packet) (eqb-swap k group) ∙ ap (λ x. group == k && x) (eqb-swap p packet)))

    pub logs_visited : AreLogsOf c (next c s visiting_it) visited_one.logs (logs_with c.failures log before.logs)
    logs_visited = by_log log refl
      where
        untouched : (b : Bool) → b ≡ false → (group packet : ℕ) →
            message.logs group packet ≡ union message.logs (just k p b) group packet
        untouched b is group packet = sym (or_without (message.logs group packet) (just k p b group packet)
            (ap (λ x. (group == k) && (packet == p) && x) is ∙ and-false ((group == k) && (packet == p))))

        unchanged : (b : Bool) → b ≡ false →
            AreLogsOf c (next c s visiting_it) (union message.logs (just k p b)) before.logs
        unchanged b is = record {
          each = logs_before.each;
          names = λ group packet. logs_before.names group packet ∙ untouched b is group packet;
        }

        sent_off : (n : ℕ) → n == 0 ≡ true → nat_lt 0 n ≡ false
        sent_off zero is = refl
        sent_off (suc n) is = let e : suc n ≡ 0 = eqb-true (suc n) 0 is in absurd (omega arith)

        sent_on : (n : ℕ) → n == 0 ≡ false → nat_lt 0 n ≡ true
        sent_on zero is = absurd (true≢false (sym (eq-eqb zero 0 refl) ∙ is))
        sent_on (suc n) is = lt-ltb 0 (suc n) (omega arith)

        by_log : (o : Option Logged) → log ≡ o → AreLogsOf c (next c s visiting_it)
            (union message.logs (just k p (is_touching its_outcome && nat_lt 0 c.failures)))
            (logs_with c.failures o before.logs)
        by_log None is = unchanged (is_touching its_outcome && nat_lt 0 c.failures)
            (ap (λ x. x && nat_lt 0 c.failures) (sym touched ∙ ap (λ o. is_some o) is))
        by_log (Some one) is = elim (c.failures == 0) as (λ b. c.failures == 0 ≡ b → AreLogsOf c (next c s visiting_it)
            (union message.logs (just k p (is_touching its_outcome && nat_lt 0 c.failures)))
            (if b then before.logs else with_item is_earlier one before.logs)) [
              | true ↦ λ none. unchanged (is_touching its_outcome && nat_lt 0 c.failures)
                  (ap (λ x. is_touching its_outcome && x) (sent_off c.failures none)
                  ∙ and-false (is_touching its_outcome))
              | false ↦ λ some. record {
                each = all-with_item (IsLogIn c.partitions (next c s visiting_it).trace) is_earlier one before.logs
                    (logged one is).0 logs_before.each;
                names = λ group packet.
                    any_with_item (λ (log : Logged). log.group == group
                    && log.origin == packet) is_earlier one before.logs
                    ∙ (ap (λ x. x || names_log before.logs group packet) (is_own one is group packet)
                    ∙ (ap (λ x. ((group == k) && (packet == p)) || x) (logs_before.names group packet)
                    ∙ (or_comm ((group == k) && (packet == p)) (message.logs group packet)
                    ∙ ap (λ x. message.logs group packet || x) (sym (and_yes ((group == k) && (packet == p))
                    (is_touching its_outcome && nat_lt 0 c.failures)
                    (ap (λ x. x && nat_lt 0 c.failures)
                    (sym touched ∙ ap (λ o. is_some o) is) ∙ sent_on c.failures some))))));
              }
            ] refl

    needs_before : (packet : List ℕ) → its_outcome.packet ≡ Some packet →
        AreNeedsOf c (next c s visiting_it) p message.needs before.needs
    needs_before packet forwarded = needs_stay c s f visiting_it legal p message.needs before.needs
        (λ group needed. touching_some (next c s visiting_it).trace group p
        ((needing_after c s f visiting_it legal).carried p group visited_one visited_here
        (ap (λ (o : Option (List ℕ)). is_some o
        && (message.needs group || ((group == k) && is_touching its_outcome))) forwarded
        ∙ or_left (message.needs group) ((group == k) && is_touching its_outcome) needed)).0) stands.needs

    pub needs_visited : AreNeedsOf c (next c s visiting_it) p visited_one.needs
        (if is_some its_outcome.packet then needs_with log before.needs else [])
    needs_visited = by_packet its_outcome.packet refl
      where
        by_log : (packet : List ℕ) → its_outcome.packet ≡ Some packet → (o : Option Logged) → log ≡ o →
            AreNeedsOf c (next c s visiting_it) p
            (λ group. message.needs group || ((group == k) && is_touching its_outcome)) (needs_with o before.needs)
        by_log packet forwarded None is = record {
          each = (needs_before packet forwarded).each;
          names = λ group. (needs_before packet forwarded).names group
              ∙ sym (or_without (message.needs group) ((group == k) && is_touching its_outcome)
              (ap (λ x. (group == k) && x) (sym touched ∙ ap (λ o. is_some o) is) ∙ and-false (group == k)));
        }
        by_log packet forwarded (Some one) is =
            let own = logged one is in
            record {
              each = all-with_item (λ (need : Need). need.group < MOST_SERVERS
                  × IsNeedIn c.partitions (next c s visiting_it).trace need.group p need.marks) is_lower
                  (need_of_log one) before.needs (
                    small own.1,
                    record {
                      log = one;
                      log_of = own.0;
                      group_is = refl;
                      origin_is = own.2;
                      marks_are = refl;
                    },
                  )
                  (needs_before packet forwarded).each;
              names = λ group. any_with_item (λ (need : Need). need.group == group) is_lower (need_of_log one)
                  before.needs
                  ∙ (ap (λ x. x || needs_of before.needs group) (ap (λ x. x == group) own.1 ∙ eqb-swap k group)
                  ∙ (ap (λ x. (group == k) || x) ((needs_before packet forwarded).names group)
                  ∙ (or_comm (group == k) (message.needs group)
                  ∙ ap (λ x. message.needs group || x)
                  (sym (and_yes (group == k) (is_touching its_outcome) (sym touched ∙ ap (λ o. is_some o) is))))));
            }
          where
            small : one.group ≡ k → one.group < MOST_SERVERS
            small is_k =
                let up = f.steady.tied.order.awake p message there in
                let held = ap (aim (servers c)) legal.0.4 in
                let few = few_servers c s f.steady k (f.steady.tied.order.inside k
                (subst (λ x. s.up x ≡ true) (ap (λ m. aim (servers c) m.place)
                (same_Some message legal.0.0 (sym there ∙ legal.0.3)) ∙ held) up)) in
                omega arith

        by_packet : (o : Option (List ℕ)) → its_outcome.packet ≡ o → AreNeedsOf c (next c s visiting_it) p
            (λ group. is_some o && (message.needs group || ((group == k) && is_touching its_outcome)))
            (if is_some o then needs_with log before.needs else [])
        by_packet None is = record { each = tt; names = λ group. refl }
        by_packet (Some packet) is = by_log packet is log refl

    pub visited_stands : after.origin ≡ p → after.packet ≡ its_outcome.packet →
        after.logs ≡ logs_with c.failures log before.logs →
        after.needs ≡ (if is_some its_outcome.packet then needs_with log before.needs else []) →
        after.commits ≡ before.commits → IsSentAs c (next c s visiting_it) p visited_one after
    visited_stands origin packet logs needs commits = record {
      origin_is = origin;
      packet = packet;
      logs = subst (AreLogsOf c (next c s visiting_it) visited_one.logs) (sym logs) logs_visited;
      needs = subst (AreNeedsOf c (next c s visiting_it) p visited_one.needs) (sym needs) needs_visited;
      size = ap length commits ∙ stands.size;
      commits = subst (AreCommits c (next c s visiting_it) message.known) (sym commits)
          (commits_stay c s f.steady visiting_it legal message.known before.commits
          (f.steady.tied.fronts.told p message there)
          (λ group packet told. changing_some c s f visiting_it legal group packet
          (((tied_after c s f visiting_it legal).fronts.told p visited_one visited_here).there group packet told))
          stands.commits);
    }
