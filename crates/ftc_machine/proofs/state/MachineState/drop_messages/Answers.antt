use Rattle.std.proofs.Common.{◌+◌, ◌∙◌, List, Option, sym, ap, subst, arith}
use Rattle.ftc_protocol.specs.declared.fate.Fate.{Fate}
use Rattle.ftc_machine.specs.declared.state.message.Message.{Message}
use Rattle.ftc_machine.specs.RecoveryEffect.{is_dropped_kept}
use Rattle.ftc_machine.specs.Slots.{has_such}
use Rattle.ftc_machine.proofs.PlaceSweep.{AreSwept, sweep_keeps, sweep_drops}
use Rattle.ftc_machine.proofs.state.MachineState.drop_messages.Goals as goal
use Rattle.ftc_machine.proofs.state.MachineState.drop_messages.Goals.{then-is_any_dropped, else-is_any_dropped}

pub loop-place-preserved : goal.loop-place-preserved
loop-place-preserved c =
    let test = is_dropped_kept c.args.self.now c.args.following in
    let place = c.loop-place.place in
    let judged = ap (has_such test) (sym c.get.ensures) ∙ sym c.is_any_dropped.ensures in
    elim c.if-is_any_dropped.branch [
      | then-is_any_dropped w ↦
          subst (λ (messages : List (Option Message)). AreSwept test c.args.event (place
          + 1) c.args.messages.now messages c.args.fates.now c.if-is_any_dropped.fates) (sym w.messages-is)
          (subst (λ (fates : List (Option Fate)). AreSwept test c.args.event (place
          + 1) c.args.messages.now w.lose.new.messages c.args.fates.now fates) (sym w.fates-is)
          (sweep_drops test c.args.event c.args.messages.now c.args.fates.now place c.loop-place.messages
          w.lose.new.messages c.loop-place.fates w.lose.new.fates c.loop-place.invariant
          (judged ∙ w.if-is_any_dropped.true) (omega arith)
          (omega (arith, c.requires.wide)) w.lose.ensures.messages w.lose.ensures.fates))
      | else-is_any_dropped w ↦
          subst (λ (messages : List (Option Message)). AreSwept test c.args.event (place
          + 1) c.args.messages.now messages c.args.fates.now c.if-is_any_dropped.fates) (sym w.messages-is)
          (subst (λ (fates : List (Option Fate)). AreSwept test c.args.event (place
          + 1) c.args.messages.now c.loop-place.messages c.args.fates.now fates) (sym w.fates-is)
          (sweep_keeps test c.args.event c.args.messages.now c.args.fates.now place c.loop-place.messages
          c.loop-place.fates c.loop-place.invariant
          (judged ∙ w.if-is_any_dropped.false)))
    ]
