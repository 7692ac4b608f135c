use Rattle.std.proofs.Common.{List, refl, sym, ap, ◌∙◌}
use Rattle.ftc_serial.specs.Packets.{bytes_of_packets}
use Rattle.ftc_journal.specs.declared.event.Event.TheVariants as event
use Rattle.ftc_journal.specs.declared.event.VisitName.{VisitName}
use Rattle.ftc_protocol.specs.Setting.{Setting, setting_of}
use Rattle.ftc_machine.proofs.EventEffects.{acts, acts_ok}
use Rattle.ftc_machine.proofs.RunInputs.{packet_bytes, rule_is}
use Rattle.ftc_machine.proofs.state.MachineState.apply.Goals as goal

pub returns-in_ok-bytes-in-Enter-clause-ok : goal.returns-in_ok-bytes-in-Enter-clause-ok
returns-in_ok-bytes-in-Enter-clause-ok c =
    let setting : Setting = setting_of c.args.spec.now (bytes_of_packets c.args.packets.now) c.args.script.now in
    acts_ok c.enter.result c.in-Enter.is
    (λ acting state. acting setting state
    (c.in_ok-bytes-in-Enter.ensures ∙ packet_bytes setting c.args.packets.now c.in-Enter.packet c.at.result.now refl
    c.at.ensures.same))
    c.enter.ensures.ok

pub returns-in-Take-clause-ok : goal.returns-in-Take-clause-ok
returns-in-Take-clause-ok c = acts_ok c.take.result c.in-Take.is (λ acting. acting _) c.take.ensures.ok

pub returns-in-Apply-clause-ok : goal.returns-in-Apply-clause-ok
returns-in-Apply-clause-ok c = acts c.in-Apply.is (λ state now. c.apply_log.ensures _ state c.in-Apply.origin)

pub returns-in-Visit-clause-ok : goal.returns-in-Visit-clause-ok
returns-in-Visit-clause-ok c =
    let setting : Setting = setting_of c.args.spec.now (bytes_of_packets c.args.packets.now) c.args.script.now in
    acts_ok c.visit.result c.in-Visit.is
    (λ acting state. acting setting state c.in-Visit.worker
    (rule_is setting c.rules.result.now c.from.result c.in-Visit.server c.at-rule.result.now (sym c.rules.ensures.same)
    (c.from.ensures ∙ c.number.ensures.same) c.at-rule.ensures))
    c.visit.ensures.ok

pub returns-in-Pass-clause-ok : goal.returns-in-Pass-clause-ok
returns-in-Pass-clause-ok c = acts_ok c.send.result c.in-Pass.is (λ acting. acting _) c.send.ensures.ok

pub returns-in-Lose-clause-ok : goal.returns-in-Lose-clause-ok
returns-in-Lose-clause-ok c = acts_ok c.send-in-Lose.result c.in-Lose.is (λ acting. acting _) c.send-in-Lose.ensures.ok

pub returns-in-Carry-clause-ok : goal.returns-in-Carry-clause-ok
returns-in-Carry-clause-ok c =
    acts_ok c.carry.result c.in-Carry.is (λ acting state now. acting _ state) c.carry.ensures.ok

pub returns-in-Crash-clause-ok : goal.returns-in-Crash-clause-ok
returns-in-Crash-clause-ok c = acts_ok c.crash.result c.in-Crash.is (λ acting. acting _) c.crash.ensures.ok

pub returns-in-Recover-clause-ok : goal.returns-in-Recover-clause-ok
returns-in-Recover-clause-ok c =
    acts_ok c.recover.result (c.in-Recover.is
    ∙ ap (λ (undone : List VisitName). event.Recover c.in-Recover.server undone) (sym c.as_slice.ensures))
    (λ acting. acting _) c.recover.ensures.ok

pub returns-in-Pull-clause-ok : goal.returns-in-Pull-clause-ok
returns-in-Pull-clause-ok c = acts_ok c.pull.result c.in-Pull.is (λ acting state now. acting _ state) c.pull.ensures.ok

pub returns-in-Propagate-clause-ok : goal.returns-in-Propagate-clause-ok
returns-in-Propagate-clause-ok c =
    acts_ok c.propagate.result c.in-Propagate.is (λ acting. acting _) c.propagate.ensures.ok

pub returns-in-Release-clause-ok : goal.returns-in-Release-clause-ok
returns-in-Release-clause-ok c =
    acts_ok c.release.result c.in-Release.is (λ acting state now. acting _ state) c.release.ensures.ok
