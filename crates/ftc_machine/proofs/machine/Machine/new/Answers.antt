use Rattle.std.proofs.Common.{sym, subst, ◌∙◌, List}
use Rattle.ftc_journal.specs.declared.event.Event.{Event}
use Rattle.ftc_protocol.specs.Setting.{Setting, setting_of}
use Rattle.ftc_protocol.specs.State.{opening}
use Rattle.ftc_protocol.specs.Run.{IsRun, state_after}
use Rattle.ftc_machine.specs.Represents.{Represents}
use Rattle.ftc_serial.specs.Packets.{bytes_of_packets}
use Rattle.ftc_machine.proofs.RunInputs.{bytes_count}
use Rattle.ftc_machine.proofs.machine.Machine.new.Goals as goal

pub invariant_of-result : goal.invariant_of-result
invariant_of-result c =
    let setting : Setting = setting_of c.args.spec.now (bytes_of_packets c.args.packets.now) c.args.script.now in
    ∣ record {
      right = c.accepted.ensures.setting c.args.spec.now
          (bytes_of_packets c.args.packets.now) c.args.script.now c.rules.ensures.bounds c.ring.ensures.accepted
          c.requires.ring (c.requires.packets ∙ sym (bytes_count c.args.packets.now));
      run = subst (λ (events : List Event). IsRun setting events) (sym c.new-2.ensures) tt;
      laws = c.states_are_lawful.ensures setting;
      kept_for = subst (λ (events : List Event). Represents setting
          (state_after setting (opening setting) events) c.in_ok-kept.kept) (sym c.new-2.ensures)
          (c.in_ok-kept.ensures setting (sym (c.ring.ensures.same ∙ c.requires.ring)) (sym c.partitions.ensures.same));
    } ∣₁
