use Rattle.std.proofs.Common.{◌≡◌, ◌∙◌, sym, subst, map}
use Rattle.std.specs.List.{range_with_len}
use Rattle.std.proofs.lemmas.Result.{IfOk-weaker}
use Rattle.ftc_serial.specs.Packets.{bytes_of_packets}
use Rattle.ftc_protocol.specs.Fates.{fates_in}
use Rattle.ftc_machine.specs.Represents.{fate_in}
use Rattle.ftc_protocol.specs.Setting.{Setting, setting_of}
use Rattle.ftc_machine.specs.RunSoFar.{RunSoFar, setting_in, machine_state}
use Rattle.ftc_machine.proofs.RunInputs.{bytes_count}
use Rattle.ftc_machine.proofs.RunsOnward.{fates_are}
use Rattle.ftc_machine.proofs.machine.Machine.fates.Goals as goal

pub returns : goal.returns
returns c =
    let m = c.self.inside in
    let setting : Setting = setting_of m.spec.now (bytes_of_packets m.packets.now) m.script.now in
    IfOk-weaker c.fates.result (λ fates. fates ≡ map (fate_in m.kept.fates) (range_with_len 0 c.len.result))
    (λ fates. fates ≡ fates_in (setting_in c.args.self.now) (machine_state c.args.self.now))
    (λ fates is.
    subst (λ (p : RunSoFar). fates ≡ fates_in (setting_in p) (machine_state p)) c.self.view_is
    (is ∙ fates_are setting m.journal.items m.kept c.len.result
    (bytes_count m.packets.now ∙ sym c.len.ensures.same) c.self.invariant))
    c.fates.ensures
