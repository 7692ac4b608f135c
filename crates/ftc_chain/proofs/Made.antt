-- A chain after one job more.
use Rattle.std.proofs.Common.{◌≡◌, ◌∙◌, ◌++◌, [], ◌∷◌, ℕ, List, map, Option, take, false, refl, arith, sym, ap, subst}
use Rattle.std.proofs.Common.{append_assoc}
use Rattle.std.proofs.Math.Logic.{∥∥₁_elim, ∥∥₁_map, ∥∥₁_map₂, ∥∥₁_prop}
use Rattle.ftc_base.specs.declared.released.Released.{Released}
use Rattle.ftc_journal.specs.declared.event.Event.{Event}
use Rattle.ftc_journal.specs.declared.job.Job.{Job}
use Rattle.ftc_journal.specs.declared.job.Job.TheVariants.{Enter}
use Rattle.ftc_chain.specs.ChainRun.{ChainRun, setting_in, chain_state}
use Rattle.ftc_network.specs.declared.network.Network.{Network}
use Rattle.ftc_network.specs.Events.{StandsStill}
use Rattle.ftc_network.specs.Slots.{head_of}
use Rattle.ftc_network.specs.Stand.{IsNetwork}
use Rattle.ftc_txn.specs.Head.{HeadState}
use Rattle.ftc_protocol.specs.Drive.{IsNoneDue, AreReleases}
use Rattle.ftc_protocol.specs.Jobs.{event_of, IsLegalJob}
use Rattle.ftc_protocol.specs.Legal.{IsLegal, is_release}
use Rattle.ftc_protocol.specs.Moment.{released_in}
use Rattle.ftc_protocol.specs.Next.{next}
use Rattle.ftc_protocol.specs.Run.{IsRun, state_after}
use Rattle.ftc_protocol.specs.Setting.{Setting}
use Rattle.ftc_protocol.specs.State.{ChainState, opening}
use Rattle.ftc_serial.specs.Packets.{bytes_of_packets}
use Rattle.ftc_protocol.proofs.UniqueDrive.{no_release}
use Rattle.ftc_chain.specs.declared.course.Course.{Course}
use Rattle.ftc_chain.specs.declared.given.Given.{Given}
use Rattle.ftc_chain.specs.Course.{IsCourse, IsCourseResting, HasReleased, HasCourseRoomed, HasMade, state_by}
use Rattle.ftc_chain.specs.Doing.{HasDone, setting_by}
use Rattle.ftc_chain.specs.Outlet.{Outgoing, IsOutlet}
use Rattle.ftc_chain.proofs.Outlets.{few_drained, released_kept, same_front, still_out}
use Rattle.ftc_chain.proofs.Releases.{one_event, state_and, is_run_state}

-- what a contract sees of a chain with these parts
abbrev pub run_of : Given → Course → ChainRun
run_of given course = record {
  chain = given.spec.now;
  packets = bytes_of_packets given.packets.now;
  script = given.script.now;
  journal = course.journal.items;
  drained = take course.outlet.drained (released_in (state_by (setting_by given) course.journal.items).trace);
  heads = map head_of course.network.servers.items;
}

-- what it sees of one with another journal, other records that were taken out and other heads
abbrev with_events : Given → List Event → List Released → List (Option HeadState) → ChainRun
with_events given journal drained heads = record {
  chain = given.spec.now;
  packets = bytes_of_packets given.packets.now;
  script = given.script.now;
  journal = journal;
  drained = drained;
  heads = heads;
}

-- the state after a list of events and another
state_both : (setting : Setting) (state : ChainState) (one other : List Event) →
    state_after setting state (one ++ other) ≡ state_after setting (state_after setting state one) other
state_both setting state [] other = refl
state_both setting state (event ∷ one) other = state_both setting (next setting state event) one other

-- what came of the job's event in between, and the releases after it
pub record IsBetween (given : Given) (slot : ℕ) (job : Job) (old mid : Course) : Type 0 where
  pub legal : IsLegal (setting_by given) (state_by (setting_by given) old.journal.items)
      (event_of (setting_by given) (state_by (setting_by given) old.journal.items) slot job)
  pub grown : mid.journal.items
      ≡ old.journal.items ++ event_of (setting_by given) (state_by (setting_by given) old.journal.items) slot job ∷ []
  pub stands : IsNetwork (setting_by given) (next (setting_by given) (state_by (setting_by given) old.journal.items)
      (event_of (setting_by given) (state_by (setting_by given) old.journal.items) slot job)) mid.network
  pub waiting : mid.outlet.waiting ≡ old.outlet.waiting
  pub drained : mid.outlet.drained ≡ old.outlet.drained

module _ (given : Given) (slot : ℕ) (job : Job) (old mid new : Course) (is : IsCourseResting (setting_by given) old)
    (between : IsBetween given slot job old mid)
    (released : IsCourse (setting_by given) mid → HasReleased (setting_by given) mid new) where
  mid_is : IsCourse (setting_by given) mid
  mid_is =
      let setting : Setting = setting_by given in
      let state : ChainState = state_by setting old.journal.items in
      let event : Event = event_of setting state slot job in
      one_event setting old mid event is.course_is between.legal between.grown between.stands
      (subst (λ (records : List Released). IsOutlet records mid.outlet)
      (sym (released_kept setting state event (no_release setting state slot job)))
      (still_out (released_in state.trace) old.outlet mid.outlet between.waiting between.drained is.course_is.outlet))

  pub rests : ((state : ChainState) (events : List Event) → AreReleases (setting_by given) state events →
      IsNoneDue (setting_by given) (state_after (setting_by given) state events)) →
      IsCourseResting (setting_by given) new
  rests ends =
      let done = released mid_is in
      record {
        course_is = done.course_is;
        none_due = subst (IsNoneDue (setting_by given))
            (sym (ap (state_by (setting_by given)) done.grown
            ∙ state_both (setting_by given) (opening (setting_by given)) mid.journal.items done.releases))
            (ends (state_by (setting_by given) mid.journal.items) done.releases done.due);
      }

  pub has_made : HasMade slot job (run_of given old) (run_of given new)
  has_made =
      let done = released mid_is in
      let setting : Setting = setting_by given in
      let state : ChainState = state_by setting old.journal.items in
      let event : Event = event_of setting state slot job in
      record {
        releases = done.releases;
        due = subst (λ (s : ChainState). AreReleases setting s done.releases)
            (ap (state_by setting) between.grown ∙ state_and setting
            (opening setting) old.journal.items event) done.due;
        grown =
            let journal : new.journal.items ≡ old.journal.items ++ event ∷ done.releases =
            done.grown ∙ (ap (λ (journal : List Event). journal ++ done.releases) between.grown
            ∙ append_assoc old.journal.items (event ∷ []) done.releases) in
            let heads : List (Option HeadState) = map head_of new.network.servers.items in
            ap (λ (events : List Event). with_events given events
            (take new.outlet.drained (released_in (state_by setting events).trace)) heads) journal
            ∙ ap (λ (out : List Released). with_events given (old.journal.items ++ event ∷ done.releases) out heads)
            (ap (λ (count : ℕ). take count
            (released_in (state_by setting (old.journal.items ++ event ∷ done.releases)).trace))
            (done.drained ∙ between.drained)
            ∙ same_front setting old.journal.items (event ∷ done.releases) old.outlet.drained
            (let few = few_drained (released_in state.trace) old.outlet is.course_is.outlet in omega (arith, few)));
      }

-- what holds of the state of a chain at rest holds of the one that a contract sees
pub seen_at_rest : (Fact : Setting → ChainState → Type 0) (given : Given) (course : Course) (run : ChainRun) →
    run_of given course ≡ run → ∥ IsCourseResting (setting_by given) course ∥₁ →
    (IsCourseResting (setting_by given) course →
    Fact (setting_by given) (state_by (setting_by given) course.journal.items)) →
    ∥ Fact (setting_in run) (chain_state run) ∥₁
seen_at_rest Fact given course run same rests fact =
    subst (λ (r : ChainRun). ∥ Fact (setting_in r) (chain_state r) ∥₁) same (∥∥₁_map rests fact)

-- a chain before a job: it rests, and the job is legal
pub before : (given : Given) (course : Course) (job : Job) (run : ChainRun) → run_of given course ≡ run →
    ∥ IsCourseResting (setting_by given) course ∥₁ → ∥ IsLegalJob (setting_in run) (chain_state run) job ∥₁ →
    ∥ IsCourseResting (setting_by given) course
    × IsLegalJob (setting_by given) (state_by (setting_by given) course.journal.items) job ∥₁
before given course job run same resting legal =
    ∥∥₁_map₂ resting
    (subst (λ (r : ChainRun). ∥ IsLegalJob (setting_in r) (chain_state r) job ∥₁) (sym same) legal)
    (λ is may. (is, may))

-- what a network did for a job stands between
pub did_between : (given : Given) (slot : ℕ) (job : Job) (old room mid : Course) (event : Event) →
    IsCourseResting (setting_by given) old →
    IsLegalJob (setting_by given) (state_by (setting_by given) old.journal.items) job →
    IsLegal (setting_by given) (state_by (setting_by given) old.journal.items)
    (event_of (setting_by given) (state_by (setting_by given) old.journal.items) slot job) →
    HasCourseRoomed old room → mid.outlet ≡ room.outlet → mid.journal.items ≡ room.journal.items ++ event ∷ [] →
    HasDone (setting_by given) slot job event room.network mid.network → ∥ IsBetween given slot job old mid ∥₁
did_between given slot job old room mid event is may legal roomed same_outlet grown done =
    let setting : Setting = setting_by given in
    let state : ChainState = state_by setting old.journal.items in
    let did = done state (is_run_state setting old is.course_is) may
    (subst (IsNetwork setting state) (sym roomed.network) is.course_is.stands) in
    ∥∥₁_map did.1 (λ stands. record {
      legal = legal;
      grown = grown ∙ (ap (λ (journal : List Event). journal ++ event ∷ []) roomed.journal
          ∙ ap (λ (e : Event). old.journal.items ++ e ∷ []) did.0);
      stands = subst (λ (e : Event). IsNetwork setting (next setting state e) mid.network) did.0 stands;
      waiting = ap (λ (outlet : Outgoing). outlet.waiting) same_outlet ∙ roomed.waiting;
      drained = ap (λ (outlet : Outgoing). outlet.drained) same_outlet ∙ roomed.drained;
    })

-- a chain after a job, in whatever slot, and the releases that are due
pub stepped : (given : Given) (slot : ℕ) (job : Job) (old room mid new : Course) (event : Event) (run : ChainRun) →
    run_of given old ≡ run → ∥ IsCourseResting (setting_by given) old ∥₁ →
    ∥ IsLegalJob (setting_in run) (chain_state run) job ∥₁ →
    ((setting : Setting) (state : ChainState) → IsLegalJob setting state job →
    IsLegal setting state (event_of setting state slot job)) →
    HasCourseRoomed old room → mid.outlet ≡ room.outlet → mid.journal.items ≡ room.journal.items ++ event ∷ [] →
    HasDone (setting_by given) slot job event room.network mid.network →
    ((setting : Setting) → IsCourse setting mid → HasReleased setting mid new) →
    ((setting : Setting) (state : ChainState) (events : List Event) → AreReleases setting state events →
    IsNoneDue setting (state_after setting state events)) →
    ∥ IsCourseResting (setting_by given) new × HasMade slot job run (run_of given new) ∥₁
stepped given slot job old room mid new event run same resting legal in_slot roomed same_outlet grown done released
    ends =
    ∥∥₁_elim (before given old job run same resting legal) ∥∥₁_prop (λ both.
    ∥∥₁_map (did_between given slot job old room mid event both.0 both.1
    (in_slot (setting_by given) (state_by (setting_by given) old.journal.items) both.1) roomed same_outlet grown done)
    (λ between. (
      rests given slot job old mid new both.0 between (released (setting_by given)) (ends (setting_by given)),
      subst (λ (r : ChainRun). HasMade slot job r (run_of given new)) same
          (has_made given slot job old mid new both.0 between (released (setting_by given))),
    )))

-- a chain that is as it was, but for the room in its journal
pub still_rests : (setting : Setting) (old new : Course) → new.journal.items ≡ old.journal.items →
    new.outlet.waiting ≡ old.outlet.waiting → new.outlet.drained ≡ old.outlet.drained →
    ((state : ChainState) → IsNetwork setting state old.network → IsNetwork setting state new.network) →
    IsCourseResting setting old → IsCourseResting setting new
still_rests setting old new same waiting drained stands is = record {
  course_is = record {
    right = is.course_is.right;
    run = subst (IsRun setting) (sym same) is.course_is.run;
    stands = subst (λ (journal : List Event). IsNetwork setting (state_by setting journal) new.network) (sym same)
        (stands (state_by setting old.journal.items) is.course_is.stands);
    outlet = subst (λ (journal : List Event). IsOutlet (released_in (state_by setting journal).trace) new.outlet)
        (sym same)
        (still_out (released_in (state_by setting old.journal.items).trace) old.outlet new.outlet waiting drained
        is.course_is.outlet);
  };
  none_due = subst (λ (journal : List Event). IsNoneDue setting (state_by setting journal)) (sym same) is.none_due;
}

-- the same where room was made in its journal, and its network then stands for what it stood for
pub roomed_rests : (given : Given) {old room : Course} (mid : Network) → HasCourseRoomed old room →
    StandsStill room.network mid → ∥ IsCourseResting (setting_by given) old ∥₁ →
    ∥ IsCourseResting (setting_by given) (record { journal = room.journal; network = mid; outlet = room.outlet }) ∥₁
roomed_rests given {old = old} {room = room} mid roomed stands rests =
    ∥∥₁_map rests (still_rests (setting_by given) old
    (record { journal = room.journal; network = mid; outlet = room.outlet }) roomed.journal roomed.waiting
    roomed.drained
    (λ state is. stands (setting_by given) state (subst (IsNetwork (setting_by given) state) (sym roomed.network) is)))

-- no room was made
pub unroomed : (course : Course) → HasCourseRoomed course course
unroomed course = record { journal = refl; network = refl; waiting = refl; drained = refl }
