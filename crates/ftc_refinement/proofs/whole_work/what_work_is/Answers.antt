use Rattle.std.proofs.Common.{◌≡◌, ◌∙◌, ◌<◌, ◌⊎◌, ℕ, true, List, Option, Some, None, refl, sym, ap, subst}
use Rattle.ftc_base.specs.declared.limits.TheConstants.{FINISHING_SLOT}
use Rattle.ftc_journal.specs.declared.job.Job.TheVariants as job
use Rattle.ftc_message.specs.Logged.{Logged}
use Rattle.ftc_replica.specs.Held.{Held as Replicated}
use Rattle.ftc_protocol.specs.State.{ChainState, Held}
use Rattle.ftc_protocol.specs.Jobs.{IsLegalJob, IsWork}
use Rattle.ftc_server.specs.declared.held.HeldMessage.{HeldMessage}
use Rattle.ftc_server.specs.declared.work.Work.TheVariants.{Carry}
use Rattle.ftc_server.specs.Holding.{found}
use Rattle.ftc_server.specs.Work.{is_waiting, last_work, next_log, work_behind, work_for, work_for_found}
use Rattle.ftc_server.proofs.Working.{held_with, last_of}
use Rattle.ftc_refinement.specs.Contents.{IsServerAt}
use Rattle.ftc_refinement.proofs.LegalLogs.{IsNotPassed, held_not_passed}
use Rattle.ftc_refinement.proofs.LowestLog.{IsLower, IsNoLater, not_both}
use Rattle.ftc_refinement.proofs.Works.{held_in, is_to_carry, last_comes, next_applied}
use Rattle.ftc_refinement.proofs.whole_work.what_work_is.Goals as goal

-- the log that is applied next is none above another that may be
lowest : (next : Option Logged) (log : Logged) (group packet other another : ℕ) → next ≡ Some log →
    log.group ≡ group → log.origin ≡ packet → IsNotPassed next other another →
    ((another < packet) ⊎ ((another ≡ packet) × (other < group))) → ⊥
lowest next log group packet other another is group_is origin_is one before =
    let Before : ℕ → ℕ → ℕ → ℕ → Type 0 = λ a b d e. (a < b) ⊎ ((a ≡ b) × (d < e)) in
    let lower : IsLower one.log log =
    subst (λ a. Before a log.origin one.log.group log.group) (sym one.origin_is)
    (subst (λ b. Before another b one.log.group log.group) (sym origin_is)
    (subst (λ d. Before another packet d log.group) (sym one.group_is)
    (subst (λ e. Before another packet other e) (sym group_is) before))) in
    not_both log one.log (subst (IsNoLater one.log) is one.no_later) lower

-- where there is no work, no log comes next
none_next_of : (replicas : List (Option Replicated)) (held : HeldMessage) (next : Option Logged) →
    work_behind replicas held next ≡ None → next ≡ None
none_next_of replicas held None is = refl
none_next_of replicas held (Some log) is = absurd cc

pub returns-clause-apply : goal.returns-clause-apply
returns-clause-apply c setting state server origin group packet held old run none is at rising works =
    let others = old.others.items in
    let next = next_applied others held (next_log others None held.message.logs) group packet
    (sym (ap (work_for_found others) at) ∙ works) in (
      refl,
      refl,
      (
        c.what_work_says.ensures.apply setting state server origin group packet held old run is at rising works,
        λ other. none,
      ),
      λ other another legal before.
          lowest (next_log others None held.message.logs) next.0 group packet other another next.1 next.2 next.3
          (held_not_passed setting state server origin other another held old
          (c.order_of_a_state.ensures setting state run)
          (c.every_state_tied.ensures setting state run).trace
          (λ log replica of_log. c.what_vectors_say.ensures.had setting state server log replica run of_log)
          (λ log replica of_log. c.what_vectors_say.ensures.ready setting state server log replica run of_log)
          c.order_tests.ensures.ready is at rising legal.0)
          before,
    )

pub returns-clause-visit : goal.returns-clause-visit
returns-clause-visit c setting state server origin old run none is works =
    c.work.ensures.visit setting state server origin (
      (c.what_work_says.ensures.visit setting state server origin FINISHING_SLOT old run is).0 works,
      λ other. none,
    )

pub returns-clause-pass : goal.returns-clause-pass
returns-clause-pass c setting state server origin old run none is works kept =
    let may = (c.what_work_says.ensures.send setting state server origin old run is).0 works in
    c.work.ensures.pass setting state server origin ((may.0, may.1, kept), λ other. none)

pub returns-clause-lose : goal.returns-clause-lose
returns-clause-lose c setting state server origin old run none is works sent loses =
    let may = (c.what_work_says.ensures.send setting state server origin old run is).0 works in
    c.work.ensures.lose setting state server origin ((may.0, may.1, sent, loses), λ other. none)

-- what is to be carried is held by server 0
pub returns-clause-ring : goal.returns-clause-ring
returns-clause-ring c setting state server origin old run is works =
    let with = held_with old.others.items (found origin old.held.items) Carry works in
    let in_state = held_in setting state server origin with.held old.held.items with.there is.stands.held in
    let carries = is_to_carry (is_waiting with.held) with.held.by_ring
    (last_of old.others.items with.held Carry (λ group packet same. absurd cc) with.works).1 in
    let order = c.order_of_a_state.ensures setting state run in
    order.by_ring origin server with.held.visited in_state.message in_state.there
    (in_state.stands.place ∙ ap (λ b. Held server with.held.visited b) carries)

pub returns-clause-carry : goal.returns-clause-carry
returns-clause-carry c setting state server origin old run none is works =
    let first = returns-clause-ring c setting state server origin old run is works in
    let may = c.what_work_says.ensures.carry setting state origin old run
    (subst (λ s. IsServerAt setting state s old) first is) works in
    let is_work = subst (λ (s : ChainState). IsLegalJob setting s (job.Carry origin) →
    IsWork setting s 0 origin (job.Carry origin)) run.reaches
    (c.work.ensures.carry setting run.right run.journal run.run origin) in
    subst (λ s. IsWork setting state s origin (job.Carry origin)) (sym first) (is_work (may, λ other. none))

-- a held message that has all its logs has some work
ready_works : (o : Option HeldMessage) (replicas : List (Option Replicated)) (held : HeldMessage) → o ≡ Some held →
    work_for_found replicas o ≡ None → work_for replicas held ≡ Some (last_work held) → ⊥
ready_works o replicas held at none works =
    let same = sym (ap (work_for_found replicas) at) ∙ none in absurd cc

pub returns-clause-none : goal.returns-clause-none
returns-clause-none c setting state server origin held old run none is at rising idle =
    let others = old.others.items in
    let sends = c.what_work_says.ensures.send setting state server origin old run is in
    record {
      apply = λ group packet legal.
          let one = held_not_passed setting state server origin group packet held old
          (c.order_of_a_state.ensures setting state run) (c.every_state_tied.ensures setting state run).trace
          (λ log replica of_log. c.what_vectors_say.ensures.had setting state server log replica run of_log)
          (λ log replica of_log. c.what_vectors_say.ensures.ready setting state server log replica run of_log)
          c.order_tests.ensures.ready is at rising legal.0 in
          subst (IsNoLater one.log) (none_next_of others held (next_log others None held.message.logs)
          (sym (ap (work_for_found others) at) ∙ idle)) one.no_later;
      visit = λ legal.
          let works = (c.what_work_says.ensures.visit setting state server origin FINISHING_SLOT old run is).1 legal.0
          in
          absurd cc;
      pass = λ legal. let works = sends.1 (legal.0.0, legal.0.1) in absurd cc;
      lose = λ legal. let works = sends.1 (legal.0.0, legal.0.1) in absurd cc;
      carry = λ first legal.
          let may = legal.0 in
          let place = may.3 ∙ ap (λ s. Held s may.2 true) (sym first) in
          let ready = (c.what_is_ready.ensures setting state server origin may.2 true may.0 held old run is may.1 place
          at).1
          (subst (λ s. Rattle.ftc_protocol.specs.Known.IsReady setting state s may.0) (sym first) may.4) in
          ready_works (found origin old.held.items) others held at idle (last_comes others held ready);
    }
