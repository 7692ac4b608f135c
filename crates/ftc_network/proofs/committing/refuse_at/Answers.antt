use Rattle.std.proofs.Common.{Option, Some, refl, sym, subst}
use Rattle.ftc_server.specs.declared.answers.CommitAnswer.TheVariants.{Idle}
use Rattle.ftc_server.specs.declared.server.Server.{Server}
use Rattle.ftc_network.specs.Slots.{SlotEndsVisit}
use Rattle.ftc_network.proofs.CommittedSlots.{undone_still}
use Rattle.ftc_network.proofs.committing.refuse_at.Goals as goal

pub returns-in-Some-clause-ends : goal.returns-in-Some-clause-ends
returns-in-Some-clause-ends c =
    subst (λ (o : Option Server). SlotEndsVisit o (Some c.refuse_there.new.live) c.args.worker c.refuse_there.result)
    (sym c.in-Some.is) c.refuse_there.ensures.ends

pub returns-in-None-clause-ends : goal.returns-in-None-clause-ends
returns-in-None-clause-ends c =
    subst (λ (o : Option Server). SlotEndsVisit o o c.args.worker Idle) (sym c.in-None.is) (refl, refl)

pub returns-in-Some-clause-stands : goal.returns-in-Some-clause-stands
returns-in-Some-clause-stands c =
    let old = c.in-Some.live in
    let new = c.refuse_there.new.live in
    let answer = c.refuse_there.result in
    undone_still c.args.slot.now old new c.args.worker answer c.in-Some.is
    (λ setting state number at done apart. c.what_stays.ensures.undone setting state number c.args.worker answer old new
    at done apart) c.refuse_there.ensures.undone c.refuse_there.ensures.ends
