use Rattle.std.proofs.Common.{rules, ◌∙◌, refl, List, ap}
use Rattle.std.specs.Prelude.{fold}
use Rattle.std.specs.FinMap.{empty}
use Rattle.ftc_journal.specs.declared.event.VisitName.{VisitName}
use Rattle.ftc_machine.specs.RecoveryEffect.{rewritten}
use Rattle.ftc_machine.specs.LegalityTests.{footprints_of}
use Rattle.ftc_machine.proofs.SameParts.{stands_first}
use Rattle.ftc_machine.proofs.state.MachineState.recover.Goals as goal

pub returns-clause-ok : goal.returns-clause-ok
returns-clause-ok c setting s now may is =
    let k = c.args.self.now in
    stands_first k _ setting s
    (c.take_over.ensures setting s now c.in_ok-order.ensures
    (c.in_ok-store.ensures ∙ ap
    (λ (order : List VisitName). fold
    (rewritten (footprints_of k) c.args.server) empty order) c.as_slice.ensures) may)
    (record {
      others = search rules;
      stores = λ server. refl;
      visits = λ server packet. refl;
      messages = λ origin. refl;
      buffer = λ packet. refl;
      fates = c.in_ok-make_room.ensures.same;
    }) is
