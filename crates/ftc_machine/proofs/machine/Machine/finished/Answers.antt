use Rattle.std.proofs.Common.{sym, subst, ◌∙◌}
use Rattle.ftc_serial.specs.Packets.{bytes_of_packets}
use Rattle.ftc_protocol.specs.Setting.{Setting, setting_of}
use Rattle.ftc_machine.specs.RunSoFar.{RunSoFar, setting_in, machine_state}
use Rattle.ftc_protocol.specs.Run.{IsFinished}
use Rattle.ftc_machine.proofs.RunsOnward.{over, not_over}
use Rattle.ftc_machine.proofs.RunInputs.{inputs_of}
use Rattle.ftc_machine.proofs.machine.Machine.finished.Goals as goal

pub returns-clause-finished : goal.returns-clause-finished
returns-clause-finished c is =
    let m = c.self.inside in
    let setting : Setting = setting_of m.spec.now (bytes_of_packets m.packets.now) m.script.now in
    subst (λ (p : RunSoFar). ∥ IsFinished (setting_in p) (machine_state p) ∥₁) c.self.view_is
    (over setting m.journal.items m.kept m.script.now c.len.result
    (inputs_of m.spec.now m.packets.now m.script.now c.len.result (sym c.len.ensures.same))
    (sym c.is_done.ensures ∙ is) c.self.invariant)

pub returns-clause-unfinished : goal.returns-clause-unfinished
returns-clause-unfinished c isnt finished =
    let m = c.self.inside in
    let setting : Setting = setting_of m.spec.now (bytes_of_packets m.packets.now) m.script.now in
    not_over setting m.journal.items m.kept m.script.now c.len.result
    (inputs_of m.spec.now m.packets.now m.script.now c.len.result (sym c.len.ensures.same)) c.finished_run.ensures
    (sym c.is_done.ensures ∙ isnt) c.self.invariant
    (subst (λ (p : RunSoFar). IsFinished (setting_in p) (machine_state p)) (sym c.self.view_is) finished)
