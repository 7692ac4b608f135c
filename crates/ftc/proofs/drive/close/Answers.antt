use Rattle.std.proofs.Common.{◌≡◌, ◌∙◌, ap, sym, subst, ℕ, List, Some}
use Rattle.std.specs.List.{AllByRecursion}
use Rattle.std.specs.Prelude.{IsSome}
use Rattle.ftc_journal.specs.declared.event.Event.{Event}
use Rattle.ftc_journal.specs.declared.form.Version.TheVariants as version
use Rattle.ftc_journal.specs.Spelling.{IsEvent}
use Rattle.ftc_machine.proofs.RunInputs.{bytes_count}
use Rattle.ftc_chain.specs.ChainRun.{ChainRun}
use Rattle.ftc_protocol.specs.Run.{IsRun}
use Rattle.ftc_protocol.specs.Setting.{Setting, IsSetting, setting_of}
use Rattle.ftc_report.proofs.Ended.{has_end}
use Rattle.ftc_serial.specs.Held.{serial_state}
use Rattle.ftc_serial.specs.Packets.{bytes_of_packets}
use Rattle.ftc_serial.specs.Serial.{serial_opening, serial_run}
use Rattle.ftc_serial.specs.Trace.{trace_of}
use Rattle.ftc_serial.specs.declared.step.Step.{Step}
use Rattle.ftc.proofs.DriveLemmas.{finished_run}
use Rattle.ftc.proofs.drive.close.Goals as goal

pub chain_after-requires : goal.chain_after-requires
chain_after-requires c =
    let texts = c.args.texts.now in
    let packets : List (List ℕ) = bytes_of_packets texts.capture.packets in
    let setting : Setting = setting_of texts.spec packets texts.script in
    let run : ChainRun = c.args.chain in
    let right : IsSetting setting =
    c.accepted.ensures.setting texts.spec packets texts.script c.rules.ensures.bounds c.ring.ensures.accepted
    c.requires.ring (c.requires.packets ∙ sym (bytes_count texts.capture.packets)) in
    let steps : c.in_ok-trace.trace ≡ trace_of run.journal =
    c.in_ok-trace.ensures ∙ ap trace_of c.journal-journal.ensures.same in
    subst (λ (taken : List Step). IsSome (serial_run texts.spec.rules (serial_opening packets) taken)) (sym steps)
    (has_end setting run.journal c.serial_of_a_run.ensures ∣ right ∣₁
    (subst (λ (of : Setting). ∥ IsRun of run.journal ∥₁) c.requires.setting c.journal-journal.ensures.run))

pub returns-clause-finished : goal.returns-clause-finished
returns-clause-finished c =
    let texts = c.args.texts.now in
    let packets : List (List ℕ) = bytes_of_packets texts.capture.packets in
    let setting : Setting = setting_of texts.spec packets texts.script in
    let run : ChainRun = c.args.chain in
    let right : IsSetting setting =
    c.accepted.ensures.setting texts.spec packets texts.script c.rules.ensures.bounds c.ring.ensures.accepted
    c.requires.ring (c.requires.packets ∙ sym (bytes_count texts.capture.packets)) in
    let steps : c.in_ok-trace.trace ≡ trace_of run.journal =
    c.in_ok-trace.ensures ∙ ap trace_of c.journal-journal.ensures.same in
    finished_run setting run (serial_state c.in_ok-serial.serial) c.requires.setting right c.journal-journal.ensures.run
    c.requires.finished
    (subst (λ (taken : List Step). serial_run texts.spec.rules (serial_opening packets) taken
    ≡ Some (serial_state c.in_ok-serial.serial)) steps
    c.in_ok-serial.ensures.state)
    (subst (λ (events : List Event). AllByRecursion
    (IsEvent version.Second) events) c.journal-journal.ensures.same c.numbers_fit.ensures)
