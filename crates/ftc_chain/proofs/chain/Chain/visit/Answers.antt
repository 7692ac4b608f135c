use Rattle.std.proofs.Common.{◌∙◌, refl, sym, ap, subst}
use Rattle.std.proofs.Math.Logic.{∥∥₁_map}
use Rattle.ftc_journal.specs.declared.event.Event.TheVariants as event
use Rattle.ftc_journal.specs.declared.job.Job.TheVariants.{Visit}
use Rattle.ftc_network.specs.declared.network.Network.{Network}
use Rattle.ftc_network.specs.Slots.{head_at}
use Rattle.ftc_chain.specs.Course.{HasMade, IsCourseResting}
use Rattle.ftc_chain.specs.Doing.{MayDo, setting_by}
use Rattle.ftc_chain.proofs.AtRest.{may_do}
use Rattle.ftc_chain.proofs.HeadsKept.{SlotsRunNoMore, once_as, once_kept, same_no_more, then_no_more, visited_no_more}
use Rattle.ftc_chain.proofs.HeadsSeen.{others_stay, idle_stays, visited_others}
use Rattle.ftc_chain.proofs.Made.{before, run_of, stepped, roomed_rests}
use Rattle.ftc_chain.proofs.chain.Chain.visit.Goals.{After-release_due}
use Rattle.ftc_chain.proofs.chain.Chain.visit.Goals as goal

pub invariant_of-self : goal.invariant_of-self
invariant_of-self c =
    let course = c.self.inside.course in
    let room = c.make_room.new.self in (
      c.self.invariant.0,
      roomed_rests c.self.inside.given room.network c.make_room.ensures.same (λ setting state is. is)
          c.self.invariant.1,
      once_as course.network room.network c.make_room.ensures.same.network c.self.invariant.2,
    )

pub visit-requires : goal.visit-requires
visit-requires c =
    let given = c.self.inside.given in
    let course = c.self.inside.course in
    ∥∥₁_map (before given course
    (Visit c.args.server c.args.packet) c.args.self.now c.self.view_is c.self.invariant.1 c.requires) (λ both.
    subst (MayDo (setting_by given) (Visit c.args.server c.args.packet)) (sym c.make_room.ensures.same.network)
    (may_do (setting_by given) course
    (Visit c.args.server c.args.packet) c.in_ok-make_room.ensures.few both.0.course_is both.1))

pub invariant_of-self-in_err-visit : goal.invariant_of-self-in_err-visit
invariant_of-self-in_err-visit c =
    let course = c.self.inside.course in
    let room = c.make_room.new.self in
    let mid = c.visit.new.network in (
      c.self.invariant.0,
      roomed_rests c.self.inside.given mid c.make_room.ensures.same c.in_err-visit.ensures.err c.self.invariant.1,
      once_kept course.network mid
          (visited_no_more c.args.server course.network room.network mid c.make_room.ensures.same.network
          c.visit.ensures.others c.visit.ensures.fewer) c.self.invariant.2,
    )

-- the visit was made
made : (c : After-release_due) → ∥ IsCourseResting (setting_by c.self.inside.given) c.release_due.new.course
    × HasMade c.args.worker (Visit c.args.server c.args.packet) c.args.self.now
    (run_of c.self.inside.given c.release_due.new.course) ∥₁
made c =
    let given = c.self.inside.given in
    stepped given c.args.worker (Visit c.args.server c.args.packet) c.self.inside.course c.make_room.new.self
    (record {
      journal = c.push.new.self;
      network = c.visit.new.network;
      outlet = c.make_room.new.self.outlet;
    }) c.release_due.new.course
    (event.Visit c.args.server c.args.packet c.args.worker)
    c.args.self.now c.self.view_is c.self.invariant.1 c.requires
    (λ setting state legal. (c.jobs_of_events.ensures.slots setting state c.args.worker
    (Visit c.args.server c.args.packet)).1 legal)
    c.make_room.ensures.same refl c.in_ok-push.ensures.ok
    (λ state run legal stands. (refl, c.in_ok-visit.ensures.ok state run legal stands))
    c.release_due.ensures.released c.releases.ensures.end

-- and then releases, after which no slot runs more either
fewer_then : (c : After-release_due) → SlotsRunNoMore c.self.inside.course.network c.release_due.new.course.network
fewer_then c =
    then_no_more c.self.inside.course.network c.visit.new.network c.release_due.new.course.network
    (visited_no_more c.args.server c.self.inside.course.network c.make_room.new.self.network c.visit.new.network
    c.make_room.ensures.same.network c.visit.ensures.others c.visit.ensures.fewer)
    (same_no_more c.visit.new.network c.release_due.new.course.network c.release_due.ensures.heads)

pub invariant_of-self-2 : goal.invariant_of-self-2
invariant_of-self-2 c = (
  c.self.invariant.0,
  ∥∥₁_map (made c) (λ both. both.0),
  once_kept c.self.inside.course.network c.release_due.new.course.network (fewer_then c) c.self.invariant.2,
)

pub returns-clause-ok : goal.returns-clause-ok
returns-clause-ok c = ∥∥₁_map (made c) (λ both. both.1)

pub returns-in_err-visit-clause-others : goal.returns-in_err-visit-clause-others
returns-in_err-visit-clause-others c =
    others_stay c.self.inside.given c.self.inside.course
    (record {
      journal = c.make_room.new.self.journal;
      network = c.visit.new.network;
      outlet = c.make_room.new.self.outlet;
    })
    c.args.self.now c.self.view_is c.args.server (λ other differs. c.visit.ensures.others other differs
    ∙ ap (λ (network : Network). head_at network other) c.make_room.ensures.same.network)

pub returns-in_err-visit-clause-idle : goal.returns-in_err-visit-clause-idle
returns-in_err-visit-clause-idle c other idle =
    idle_stays c.self.inside.given c.self.inside.course
    (record {
      journal = c.make_room.new.self.journal;
      network = c.visit.new.network;
      outlet = c.make_room.new.self.outlet;
    })
    c.args.self.now c.self.view_is other
    (visited_no_more c.args.server c.self.inside.course.network c.make_room.new.self.network c.visit.new.network
    c.make_room.ensures.same.network c.visit.ensures.others c.visit.ensures.fewer) idle

pub returns-clause-others : goal.returns-clause-others
returns-clause-others c =
    visited_others c.self.inside.given c.self.inside.course c.make_room.new.self c.visit.new.network
    c.release_due.new.course c.args.self.now c.self.view_is c.make_room.ensures.same.network c.release_due.ensures.heads
    c.args.server c.visit.ensures.others

pub returns-clause-idle : goal.returns-clause-idle
returns-clause-idle c other idle =
    idle_stays c.self.inside.given c.self.inside.course c.release_due.new.course c.args.self.now c.self.view_is other
    (fewer_then c) idle
