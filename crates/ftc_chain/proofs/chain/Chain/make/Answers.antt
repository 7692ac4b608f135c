use Rattle.std.proofs.Common.{◌∙◌, refl, sym, ap, subst}
use Rattle.std.proofs.Math.Logic.{∥∥₁_map}
use Rattle.ftc_base.specs.declared.limits.TheConstants.{FINISHING_SLOT}
use Rattle.ftc_base.proofs.Results.{on_any_err}
use Rattle.ftc_network.specs.declared.network.Network.{Network}
use Rattle.ftc_network.specs.Slots.{head_at}
use Rattle.ftc_chain.specs.declared.course.Course.{Course}
use Rattle.ftc_chain.specs.Course.{HasMade, IsCourseResting}
use Rattle.ftc_chain.specs.Doing.{MayDo, setting_by}
use Rattle.ftc_chain.proofs.AtRest.{may_do}
use Rattle.ftc_chain.proofs.HeadsKept.{once_as, once_kept, once_after, same_no_more}
use Rattle.ftc_chain.proofs.HeadsSeen.{heads_after, as_it_was}
use Rattle.ftc_chain.proofs.Made.{before, run_of, stepped, roomed_rests}
use Rattle.ftc_chain.proofs.chain.Chain.make.Goals.{After-release_due}
use Rattle.ftc_chain.proofs.chain.Chain.make.Goals as goal

pub invariant_of-self : goal.invariant_of-self
invariant_of-self c =
    let course = c.self.inside.course in
    let room = c.make_room.new.self in (
      c.self.invariant.0,
      roomed_rests c.self.inside.given room.network c.make_room.ensures.same (λ setting state is. is)
          c.self.invariant.1,
      once_as course.network room.network c.make_room.ensures.same.network c.self.invariant.2,
    )

pub happen-requires-clause-may : goal.happen-requires-clause-may
happen-requires-clause-may c =
    let given = c.self.inside.given in
    let course = c.self.inside.course in
    ∥∥₁_map (before given course c.args.job.now c.args.self.now c.self.view_is c.self.invariant.1 c.requires.legal)
    (λ both.
    subst (MayDo (setting_by given) c.args.job.now) (sym c.make_room.ensures.same.network)
    (may_do (setting_by given) course c.args.job.now c.in_ok-make_room.ensures.few both.0.course_is both.1))

pub invariant_of-self-in_err-event : goal.invariant_of-self-in_err-event
invariant_of-self-in_err-event c =
    let course = c.self.inside.course in
    let room = c.make_room.new.self in
    let mid = c.happen.new.network in (
      c.self.invariant.0,
      roomed_rests c.self.inside.given mid c.make_room.ensures.same c.in_err-event.ensures.err c.self.invariant.1,
      once_kept room.network mid (same_no_more room.network mid c.in_err-event.ensures.same)
          (once_as course.network room.network c.make_room.ensures.same.network c.self.invariant.2),
    )

-- the job was made
made : (c : After-release_due) → ∥ IsCourseResting (setting_by c.self.inside.given) c.release_due.new.course
    × HasMade FINISHING_SLOT c.args.job.now c.args.self.now (run_of c.self.inside.given c.release_due.new.course) ∥₁
made c =
    let given = c.self.inside.given in
    stepped given FINISHING_SLOT c.args.job.now c.self.inside.course c.make_room.new.self
    (record {
      journal = c.push.new.self;
      network = c.happen.new.network;
      outlet = c.make_room.new.self.outlet;
    }) c.release_due.new.course c.in_ok-event.event
    c.args.self.now c.self.view_is c.self.invariant.1 c.requires.legal (λ setting state legal. legal)
    c.make_room.ensures.same refl c.in_ok-push.ensures.ok c.in_ok-event.ensures.ok c.release_due.ensures.released
    c.releases.ensures.end

pub invariant_of-self-2 : goal.invariant_of-self-2
invariant_of-self-2 c = (
  c.self.invariant.0,
  ∥∥₁_map (made c) (λ both. both.0),
  once_after c.args.job.now c.self.inside.course.network c.make_room.new.self.network c.happen.new.network
      c.release_due.new.course.network c.make_room.ensures.same.network c.in_ok-event.ensures.heads
      c.release_due.ensures.heads
      c.self.invariant.2,
)

pub returns-clause-ok : goal.returns-clause-ok
returns-clause-ok c = ∥∥₁_map (made c) (λ both. both.1)

pub returns-clause-heads : goal.returns-clause-heads
returns-clause-heads c =
    heads_after c.self.inside.given c.self.inside.course c.make_room.new.self c.happen.new.network
    c.release_due.new.course
    c.args.self.now c.self.view_is c.make_room.ensures.same.network c.release_due.ensures.heads c.args.job.now
    c.in_ok-event.ensures.heads

pub returns-in_err-event-clause-err : goal.returns-in_err-event-clause-err
returns-in_err-event-clause-err c =
    let given = c.self.inside.given in
    let course = c.self.inside.course in
    let room = c.make_room.new.self in
    let mid = c.happen.new.network in
    let new : Course = record { journal = room.journal; network = mid; outlet = room.outlet } in
    let roomed = c.make_room.ensures.same in
    on_any_err c.from_residual-in_err-event.result _
    (as_it_was given course new c.args.self.now c.self.view_is roomed.journal roomed.drained c.self.invariant.1
    (roomed_rests given mid roomed c.in_err-event.ensures.err c.self.invariant.1)
    (λ server. c.in_err-event.ensures.same server
    ∙ ap (λ (network : Network). head_at network server) roomed.network))
