-- What a contract sees of the heads of a chain.
use Rattle.std.proofs.Common.{◌≡◌, ◌∙◌, ℕ, List, map, Option, length, sym, ap, subst}
use Rattle.std.proofs.Math.Logic.{∥∥₁_elim}
use Rattle.std.specs.Coded.{Coded-set, coded_ℕ}
use Rattle.std.specs.Prelude.{take}
use Rattle.ftc_journal.specs.declared.event.Event.{Event}
use Rattle.ftc_journal.specs.declared.job.Job.{Job}
use Rattle.ftc_journal.specs.declared.job.Job.TheVariants as job
use Rattle.ftc_protocol.specs.Moment.{released_in}
use Rattle.ftc_txn.specs.Head.{HeadState}
use Rattle.ftc_network.specs.declared.network.Network.{Network}
use Rattle.ftc_network.specs.Slots.{head_of, head_at, runs_in, AreSameHeads, AreOtherHeads, IsIdleHead}
use Rattle.ftc_chain.specs.declared.course.Course.{Course}
use Rattle.ftc_chain.specs.declared.given.Given.{Given}
use Rattle.ftc_chain.specs.ChainRun.{ChainRun}
use Rattle.ftc_chain.specs.Course.{IsCourseResting, state_by}
use Rattle.ftc_chain.specs.Doing.{setting_by, HeadsDone}
use Rattle.ftc_chain.specs.Slots.{head_in, IsIdle, IsButHeads, HeadsStay, OthersStay, HeadsAfter}
use Rattle.ftc_chain.proofs.HeadsKept.{head_as, same_list, same_size, SlotsRunNoMore}
use Rattle.ftc_chain.proofs.Made.{run_of}

-- a head that is seen is that of the network
pub head_seen : (given : Given) (course : Course) (run : ChainRun) → run_of given course ≡ run → (server : ℕ) →
    head_in run server ≡ head_at course.network server
head_seen given course run same server =
    ap (λ (r : ChainRun). head_in r server) (sym same) ∙ head_as course.network.servers.items server

module _ (given : Given) (old new : Course) (run : ChainRun) (same : run_of given old ≡ run) where
  -- a head that is as it was
  pub one_stays : (server : ℕ) → head_at new.network server ≡ head_at old.network server →
      head_in (run_of given new) server ≡ head_in run server
  one_stays server stays =
      head_as new.network.servers.items server ∙ (stays ∙ sym (head_seen given old run same server))

  pub heads_stay : AreSameHeads old.network new.network → HeadsStay run (run_of given new)
  heads_stay stay server = one_stays server (stay server)

  pub others_stay : (server : ℕ) → AreOtherHeads server old.network new.network →
      OthersStay server run (run_of given new)
  others_stay server stay other differs = one_stays other (stay other differs)

  -- a slot that is idle stays so
  pub idle_stays : (worker : ℕ) → SlotsRunNoMore old.network new.network → IsIdle run worker →
      IsIdle (run_of given new) worker
  idle_stays worker fewer idle server =
      ap (λ (head : Option HeadState). runs_in head worker) (head_as new.network.servers.items server)
      ∙ fewer server worker
      (ap (λ (head : Option HeadState). runs_in head worker) (sym (head_seen given old run same server)) ∙ idle server)

  -- nothing but heads differs
  pub but_heads : new.journal.items ≡ old.journal.items → new.outlet.drained ≡ old.outlet.drained →
      IsButHeads run (run_of given new)
  but_heads journal drained =
      let heads : List (Option HeadState) = map head_of new.network.servers.items in
      let seen = λ (events : List Event) (count : ℕ). record (run_of given new) {
        journal = events;
        drained = take count (released_in (state_by (setting_by given) events).trace);
      } in
      ap (λ (events : List Event). seen events new.outlet.drained) journal
      ∙ (ap (seen old.journal.items) drained ∙ ap (λ (r : ChainRun). record r { heads = heads }) same)

  -- nothing differs
  pub as_it_was : new.journal.items ≡ old.journal.items → new.outlet.drained ≡ old.outlet.drained →
      ∥ IsCourseResting (setting_by given) old ∥₁ → ∥ IsCourseResting (setting_by given) new ∥₁ →
      AreSameHeads old.network new.network → run_of given new ≡ run
  as_it_was journal drained rested rests stay =
      let size : length new.network.servers.items ≡ length old.network.servers.items =
      ∥∥₁_elim rested (Coded-set coded_ℕ _ _) (λ before. ∥∥₁_elim rests (Coded-set coded_ℕ _ _) (λ after.
      same_size (setting_by given) _ _ old.network new.network before.course_is.stands after.course_is.stands)) in
      but_heads journal drained
      ∙ (ap (λ (heads : List (Option HeadState)). record run { heads = heads })
      (same_list old.network.servers.items new.network.servers.items size stay)
      ∙ ap (λ (heads : List (Option HeadState)). record run { heads = heads })
      (ap (λ (r : ChainRun). r.heads) same))

-- ---- after a job other than a visit

module _ (given : Given) (old room : Course) (mid : Network) (new : Course) (run : ChainRun)
    (same : run_of given old ≡ run) (roomed : room.network ≡ old.network) (stay : AreSameHeads mid new.network) where
  mid_stays : (server : ℕ) → head_at mid server ≡ head_at room.network server →
      head_in (run_of given new) server ≡ head_in run server
  mid_stays server stays = one_stays given old new run same server
      (stay server ∙ (stays ∙ ap (λ (n : Network). head_at n server) roomed))

  mid_others : (server : ℕ) → AreOtherHeads server room.network mid → OthersStay server run (run_of given new)
  mid_others server stays other differs = mid_stays other (stays other differs)

  mid_head : (server : ℕ) → head_in (run_of given new) server ≡ head_at mid server
  mid_head server = head_as new.network.servers.items server ∙ stay server

  pub heads_after : (done : Job) → HeadsDone done room.network mid → HeadsAfter done run (run_of given new)
  heads_after (job.Crash server) (down, others) = (mid_head server ∙ down, mid_others server others)
  heads_after (job.Recover server) (idle, others) =
      (subst IsIdleHead (sym (mid_head server)) idle, mid_others server others)
  heads_after other stays = λ server. mid_stays server (stays server)

  -- after a visit made whole
  pub visited_here : (server : ℕ) → IsIdleHead (head_at mid server) → IsIdleHead (head_in (run_of given new) server)
  visited_here server idle = subst IsIdleHead (sym (mid_head server)) idle

  pub visited_others : (server : ℕ) → AreOtherHeads server room.network mid → OthersStay server run (run_of given new)
  visited_others = mid_others
