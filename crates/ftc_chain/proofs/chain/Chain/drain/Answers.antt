use Rattle.std.proofs.Common.{◌≡◌, ◌++◌, ◌∷◌, [], arith, subst}
use Rattle.std.specs.Prelude.{IfSome}
use Rattle.ftc_chain.specs.declared.course.Course.{Course}
use Rattle.ftc_chain.specs.ChainRun.{ChainRun, released_by}
use Rattle.ftc_chain.specs.Course.{state_by}
use Rattle.ftc_chain.specs.Doing.{setting_by}
use Rattle.ftc_protocol.specs.Moment.{released_in}
use Rattle.ftc_chain.proofs.Drained.{room_out, rests_out, taken_out, drained_more, drained_all, both_some, few_with}
use Rattle.ftc_chain.proofs.ReleasedOnce.{fewer_than_packets}
use Rattle.ftc_chain.proofs.Made.{run_of}
use Rattle.ftc_chain.proofs.chain.Chain.drain.Goals as goal

pub take-requires : goal.take-requires
take-requires c =
    let few = room_out c.self.inside.given c.self.inside.course c.self.invariant.1 in
    omega (arith, few, c.len.ensures)

pub invariant_of-self : goal.invariant_of-self
invariant_of-self c =
    let given = c.self.inside.given in
    let course = c.self.inside.course in (
      c.self.invariant.0,
      rests_out given course c.self.invariant.1 c.take.new.self
          (taken_out (released_in (state_by
          (setting_by given) course.journal.items).trace) course.outlet c.take.new.self
          c.take.result c.take.ensures.some c.take.ensures.count c.take.ensures.same c.take.ensures.uncounted),
      c.self.invariant.2,
    )

pub returns-clause-some : goal.returns-clause-some
returns-clause-some c =
    let given = c.self.inside.given in
    let course = c.self.inside.course in
    let new : Course = record { journal = course.journal; network = course.network; outlet = c.take.new.self } in
    subst (λ (run : ChainRun). IfSome c.take.result
    (λ one. run_of given new ≡ record run { drained = run.drained ++ one ∷ [] })) c.self.view_is
    (both_some _ _ _ c.take.result (drained_more given course c.self.invariant.1 c.take.new.self) c.take.ensures.some
    c.take.ensures.count)

pub returns-clause-all : goal.returns-clause-all
returns-clause-all c none =
    subst (λ (run : ChainRun). run.drained ≡ released_by run) c.self.view_is
    (drained_all c.self.inside.given c.self.inside.course c.self.invariant.1 (c.take.ensures.none none))

pub returns-clause-few : goal.returns-clause-few
returns-clause-few c =
    let given = c.self.inside.given in
    let course = c.self.inside.course in
    few_with given course c.self.invariant.1 c.take.new.self
    (fewer_than_packets given course c.fates.ensures.says c.order_of_a_state.ensures c.runs.ensures.opens
    c.runs.ensures.next)
    (taken_out (released_in (state_by (setting_by given) course.journal.items).trace) course.outlet c.take.new.self
    c.take.result c.take.ensures.some c.take.ensures.count c.take.ensures.same c.take.ensures.uncounted)
