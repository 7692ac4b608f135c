use Rattle.std.proofs.Common.{◌∙◌, length, List, Option, Some, sym, ap}
use Rattle.std.proofs.Math.ListN.{length-set}
use Rattle.ftc_protocol.specs.declared.fate.Fate.{Fate}
use Rattle.ftc_protocol.specs.declared.fate.Fate.TheVariants.{Lost}
use Rattle.ftc_machine.specs.Represents.{fate_in}
use Rattle.ftc_machine.specs.LostPackets.{was_filtered}
use Rattle.ftc_machine.specs.Slots.{has_such}
use Rattle.ftc_machine.proofs.FilteredLosses.{filter_keeps, filter_drops}
use Rattle.ftc_machine.proofs.effects.losses.lose_filtered.Goals as goal
use Rattle.ftc_machine.proofs.effects.losses.lose_filtered.Goals.{then-was_filtered, else-was_filtered}

pub loop-name-preserved : goal.loop-name-preserved
loop-name-preserved c =
    let undone = c.args.undone.now in
    let i = c.loop-name.name-index in
    let name = c.name-item.result in
    let old = c.args.fates.now in
    let judged = ap (has_such (was_filtered name.server)) (sym c.get.ensures) ∙ sym c.was_filtered.ensures in
    elim c.if-was_filtered.branch [
      | then-was_filtered w ↦ record {
        size = ap (λ (slots : List (Option Fate)). length slots) (w.fates-is ∙ w.put.ensures) ∙
            (length-set c.loop-name.fates name.packet (Some (Lost c.args.event)) ∙ c.loop-name.invariant.size);
        lost = λ packet. ap (λ (slots : List (Option Fate)). fate_in slots packet) w.fates-is
            ∙ filter_drops undone i name c.loop-name-test.true
            (sym c.name-item.is) c.args.event old c.loop-name.fates c.loop-name.invariant.lost
            (judged ∙ w.if-was_filtered.true) w.put.new.self w.put.ensures packet;
      }
      | else-was_filtered w ↦ record {
        size = ap (λ (slots : List (Option Fate)). length slots) w.fates-is ∙ c.loop-name.invariant.size;
        lost = λ packet. ap (λ (slots : List (Option Fate)). fate_in slots packet) w.fates-is
            ∙ filter_keeps undone i name c.loop-name-test.true
            (sym c.name-item.is) c.args.event old c.loop-name.fates c.loop-name.invariant.lost
            (judged ∙ w.if-was_filtered.false) packet;
      }
    ]
