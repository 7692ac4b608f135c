-- A commit that makes a visit.
use Rattle.std.proofs.Common.{◌≡◌, ◌≢◌, ◌∙◌, ◌++◌, [], ◌∷◌, ◌<◌, ◌-◌, ◌^◌, ◌↔◌, ℕ, List, length, false, Option, Some}
use Rattle.std.proofs.Common.{None, Result, Ok, Err, OnOk, refl, sym, ap, subst}
use Rattle.std.specs.Prelude.{is_err}
use Rattle.std.proofs.Math.Logic.{∥∥₁_map, ∥∥₁_elim, ∥∥₁_prop}
use Rattle.ftc_base.specs.declared.ask.Ask.TheVariants.{Finish}
use Rattle.ftc_journal.specs.declared.event.Event.{Event}
use Rattle.ftc_journal.specs.declared.event.Event.TheVariants as event
use Rattle.ftc_journal.specs.EventList.{EventList}
use Rattle.ftc_journal.specs.declared.job.Job.TheVariants as job
use Rattle.ftc_protocol.specs.Drive.{IsNoneDue, AreReleases}
use Rattle.ftc_protocol.specs.Jobs.{IsLegalJob}
use Rattle.ftc_protocol.specs.Legal.{IsLegal}
use Rattle.ftc_protocol.specs.Next.{next}
use Rattle.ftc_protocol.specs.Run.{state_after}
use Rattle.ftc_protocol.specs.Setting.{Setting, servers}
use Rattle.ftc_protocol.specs.State.{ChainState}
use Rattle.ftc_server.specs.declared.answers.CommitAnswer.{CommitAnswer}
use Rattle.ftc_server.specs.declared.answers.CommitAnswer.TheVariants as commit
use Rattle.ftc_server.specs.declared.server.Server.{Server}
use Rattle.ftc_txn.specs.Head.{HeadState}
use Rattle.ftc_txn.specs.Slots.{Running, packet_of}
use Rattle.ftc_network.specs.declared.network.Network.{Network}
use Rattle.ftc_network.specs.Parts.{server_in}
use Rattle.ftc_network.specs.Slots.{head_of, head_at, runs_in, AreSameHeads, IsNetworkAtRest, SlotEndsVisit}
use Rattle.ftc_network.specs.Slots.{FollowsCommit}
use Rattle.ftc_network.specs.Events.{StandsStill}
use Rattle.ftc_network.specs.Stand.{IsNetwork}
use Rattle.ftc_chain.specs.declared.course.Course.{Course}
use Rattle.ftc_chain.specs.declared.given.Given.{Given}
use Rattle.ftc_chain.specs.ChainRun.{ChainRun}
use Rattle.ftc_chain.specs.Course.{IsCourse, IsCourseResting, RunsOnce, HasReleased, HasCourseRoomed, HasMade, state_by}
use Rattle.ftc_chain.specs.Doing.{setting_by, HasDone}
use Rattle.ftc_chain.specs.Slots.{HasCommittedAt, CommitsAt}
use Rattle.ftc_chain.proofs.AtRest.{events_are}
use Rattle.ftc_chain.proofs.HeadsKept.{head_as, once_as, once_kept, others_no_more}
use Rattle.ftc_chain.proofs.Made.{run_of, roomed_rests, stepped}
use Rattle.ftc_chain.proofs.Releases.{is_run_state}
use Rattle.ftc_chain.proofs.SlotCalls.{live_of, after_end, Asks, asked_as, inside_of, other_heads, ends_no_more}
use Rattle.ftc_chain.proofs.SlotCalls.{undone_at}

-- a network between two calls is at rest
pub at_rest_there : (setting : Setting) (course : Course) (network : Network) → network ≡ course.network →
    length course.journal.items < 2 ^ 64 - 1 → IsCourseResting setting course → IsNetworkAtRest network
at_rest_there setting course network same few is = record {
  setting = setting;
  state = state_by setting course.journal.items;
  run = is_run_state setting course is.course_is;
  none_due = is.none_due;
  few = subst (λ (n : ℕ). n < 2 ^ 64 - 1) (sym (events_are setting course.journal.items)) few;
  stands = subst (IsNetwork setting (state_by setting course.journal.items)) (sym same) is.course_is.stands;
}

-- the packet that a slot runs
pub packet_runs : (slot : Option Running) (running : Running) (packet : ℕ) → slot ≡ Some running →
    Some packet ≡ packet_of slot → running.packet ≡ packet
packet_runs slot running packet is named =
    let both : Some packet ≡ Some running.packet = named ∙ ap packet_of is in cc

module _ (given : Given) (old : Course) (network mid : Network) (worker server packet : ℕ)
    (same : network ≡ old.network) (running : Running) (runs : runs_in (head_at network server) worker ≡ Some running)
    (named : running.packet ≡ packet) (follows : FollowsCommit worker server network mid)
    (slots : (setting : Setting) (state : ChainState) →
    IsLegalJob setting state (job.Visit server packet) ↔ IsLegal setting state (event.Visit server packet worker)) where
  pub visit_done : HasDone (setting_by given) worker (job.Visit server packet)
      (event.Visit server packet worker) network mid
  visit_done state run legal stands = (
    refl,
    ∥∥₁_map (follows (setting_by given) state running run (legal.1 refl) stands runs) (λ both.
        subst (λ (p : ℕ). IsNetwork (setting_by given)
        (next (setting_by given) state (event.Visit server p worker)) mid)
        named both.1),
  )

  pub visit_legal : IsCourseResting (setting_by given) old →
      ∥ IsLegalJob (setting_by given) (state_by (setting_by given) old.journal.items) (job.Visit server packet) ∥₁
  visit_legal is =
      let setting : Setting = setting_by given in
      let state : ChainState = state_by setting old.journal.items in
      ∥∥₁_map (follows setting state running (is_run_state setting old is.course_is) is.none_due
      (subst (IsNetwork setting state) (sym same) is.course_is.stands) runs) (λ both.
      (slots setting state).0
      (subst (λ (p : ℕ). IsLegal setting state (event.Visit server p worker)) named both.0))

-- the visit is made, and the heads are as the commit left them
pub done_at : (given : Given) (old : Course) (mid : Network) (new : Course) (worker server packet : ℕ)
    (rests : IsCourseResting (setting_by given) old) → server < servers (setting_by given) →
    ((other : ℕ) → other ≢ server → server_in mid.servers.items other ≡ server_in old.network.servers.items other) →
    AreSameHeads mid new.network → Asks →
    SlotEndsVisit (server_in old.network.servers.items server) (server_in mid.servers.items server) worker commit.Done →
    runs_in (head_at old.network server) worker ≢ None →
    Some packet ≡ packet_of (runs_in (head_at old.network server) worker) →
    HasMade worker (job.Visit server packet) (run_of given old) (run_of given new) →
    HasCommittedAt (run_of given old) (run_of given new) worker
done_at given old mid new worker server packet rests inside others stay asks ends runs named made =
    let live_is = live_of (server_in old.network.servers.items server) worker runs in
    let then = after_end live_is.live (server_in mid.servers.items server) worker commit.Done
    (subst (λ (slot : Option Server). SlotEndsVisit slot (server_in mid.servers.items server) worker commit.Done)
    live_is.is ends) in
    let done = then.fact in
    let running : Running = done.0 in
    let end = done.1 in
    let head_was = head_as old.network.servers.items server ∙ ap head_of live_is.is in
    let runs_is : runs_in (head_at old.network server) worker ≡ Some running =
    ap (λ (slot : Option Server). runs_in (head_of slot) worker) live_is.is ∙ done.2.slot in
    record {
      server = server;
      running = running;
      before = live_is.live.head;
      after = then.live.head;
      at = record {
        head = head_was;
        runs = ap (λ (head : Option HeadState). runs_in head worker) head_was ∙ done.2.slot;
        now = head_as new.network.servers.items server ∙ (stay server ∙ ap head_of then.is);
        others = λ other differs. head_as new.network.servers.items other
            ∙ (stay other ∙ (ap head_of (others other differs) ∙ sym (head_as old.network.servers.items other)));
      };
      unwounded = done.2.unwounded;
      end = end;
      asks = asked_as given old worker server rests inside asks live_is running (Finish end) done.2.slot done.3;
      log = done.4.log;
      head_commits = done.4.head;
      made = subst (λ (p : ℕ). HasMade worker (job.Visit server p) (run_of given old) (run_of given new))
          (sym (packet_runs (runs_in (head_at old.network server) worker) running packet runs_is named)) made;
    }

-- ---- a commit that makes no visit

module _ (given : Given) (old room : Course) (mid : Network) (run : ChainRun) (worker server : ℕ)
    (answer : CommitAnswer)
    (same : run_of given old ≡ run) (rests : ∥ IsCourseResting (setting_by given) old ∥₁)
    (roomed : HasCourseRoomed old room)
    (ends : SlotEndsVisit (server_in room.network.servers.items server)
    (server_in mid.servers.items server) worker answer)
    (others : (other : ℕ) → other ≢ server →
    server_in mid.servers.items other ≡ server_in room.network.servers.items other) where
  abbrev new : Course
  new = record { journal = room.journal; network = mid; outlet = room.outlet }

  pub undone_rests : StandsStill room.network mid → ∥ IsCourseResting (setting_by given) new ∥₁
  undone_rests stands = roomed_rests given mid roomed stands rests

  pub once_ended : RunsOnce old.network → RunsOnce mid
  once_ended once = once_kept room.network mid
      (others_no_more server room.network mid (other_heads room.network mid server others)
      (ends_no_more (server_in room.network.servers.items server)
      (server_in mid.servers.items server) worker answer ends))
      (once_as old.network room.network roomed.network once)

  pub undone : answer ≢ commit.Done → StandsStill room.network mid → server < old.network.ring.servers →
      runs_in (head_at old.network server) worker ≢ None → Asks → ∥ CommitsAt run (run_of given new) worker answer ∥₁
  undone not stands below runs asks =
      subst (λ (r : ChainRun). ∥ CommitsAt r (run_of given new) worker answer ∥₁) same
      (∥∥₁_map rests (λ is. undone_at given old new worker server is (inside_of given old server is below) runs
      (subst (λ (n : Network). (other : ℕ) → other ≢ server →
      server_in mid.servers.items other ≡ server_in n.servers.items other) roomed.network others)
      roomed.journal roomed.drained (undone_rests stands) asks answer not
      (subst (λ (n : Network). SlotEndsVisit (server_in n.servers.items server)
      (server_in mid.servers.items server) worker
      answer) roomed.network ends)))

-- ---- a commit that makes one

module _ (given : Given) (old room : Course) (mid : Network) (events : EventList) (new : Course)
    (worker server packet : ℕ) (rests : ∥ IsCourseResting (setting_by given) old ∥₁)
    (roomed : HasCourseRoomed old room)
    (grown : events.items ≡ room.journal.items ++ event.Visit server packet worker ∷ [])
    (runs : runs_in (head_at old.network server) worker ≢ None)
    (named : Some packet ≡ packet_of (runs_in (head_at old.network server) worker))
    (released : (setting : Setting) →
    IsCourse setting (record { journal = events; network = mid; outlet = room.outlet }) →
    HasReleased setting (record { journal = events; network = mid; outlet = room.outlet }) new) where
  -- the visit stands in the journal, and the releases that are due behind it
  pub visit_made : FollowsCommit worker server room.network mid →
      ((setting : Setting) (state : ChainState) →
      IsLegalJob setting state (job.Visit server packet) ↔ IsLegal setting state (event.Visit server packet worker)) →
      ((setting : Setting) (state : ChainState) (events : List Event) → AreReleases setting state events →
      IsNoneDue setting (state_after setting state events)) →
      ∥ IsCourseResting (setting_by given) new
      × HasMade worker (job.Visit server packet) (run_of given old) (run_of given new) ∥₁
  visit_made follows slots ends =
      let live_is = live_of (server_in old.network.servers.items server) worker runs in
      let runs_old : runs_in (head_at old.network server) worker ≡ Some live_is.running =
      ap (λ (slot : Option Server). runs_in (head_of slot) worker) live_is.is ∙ live_is.runs in
      let runs_room = ap (λ (network : Network). runs_in (head_at network server) worker) roomed.network ∙ runs_old in
      let packet_is = packet_runs (runs_in (head_at old.network server) worker) live_is.running packet runs_old named in
      ∥∥₁_elim rests ∥∥₁_prop (λ is. stepped given worker (job.Visit server packet) old room
      (record { journal = events; network = mid; outlet = room.outlet }) new (event.Visit server packet worker)
      (run_of given old) refl ∣ is ∣₁
      (visit_legal given old room.network mid worker server packet roomed.network live_is.running runs_room packet_is
      follows slots is)
      (λ setting state. (slots setting state).1) roomed refl grown
      (visit_done given old room.network mid worker server packet roomed.network live_is.running runs_room packet_is
      follows slots)
      released ends)
