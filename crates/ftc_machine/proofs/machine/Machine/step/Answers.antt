use Rattle.std.proofs.Common.{◌≡◌, ◌++◌, ◌∷◌, [], List, length, refl, sym, ap, subst, ◌∙◌}
use Rattle.ftc_serial.specs.Packets.{bytes_of_packets}
use Rattle.ftc_journal.specs.declared.event.Event.{Event}
use Rattle.ftc_protocol.specs.Setting.{Setting, setting_of}
use Rattle.ftc_protocol.specs.Legal.{IsLegal}
use Rattle.ftc_machine.specs.RunSoFar.{RunSoFar, IsRunSoFar, setting_in, machine_state}
use Rattle.ftc_machine.proofs.RunInputs.{inputs_of}
use Rattle.ftc_machine.proofs.RunsOnward.{still, servers_of, illegal, legal, goes_on}
use Rattle.ftc_machine.proofs.machine.Machine.step.Goals as goal

pub returns-then-not-legal-clause-illegal : goal.returns-then-not-legal-clause-illegal
returns-then-not-legal-clause-illegal c is_legal =
    let m = c.self.inside in
    let setting : Setting = setting_of m.spec.now (bytes_of_packets m.packets.now) m.script.now in
    illegal setting m.journal.items m.kept m.script.now (length m.packets.now)
    (inputs_of m.spec.now m.packets.now m.script.now (length m.packets.now) refl)
    c.args.event.now c.in_ok-legal.legal c.in_ok-legal.ensures.legal c.if-not-legal.true c.self.invariant
    (subst (λ (p : RunSoFar). IsLegal (setting_in p) (machine_state p) c.args.event.now) (sym c.self.view_is) is_legal)

pub apply-requires-clause-rules : goal.apply-requires-clause-rules
apply-requires-clause-rules c =
    let m = c.self.inside in
    let setting : Setting = setting_of m.spec.now (bytes_of_packets m.packets.now) m.script.now in
    servers_of setting m.journal.items m.kept c.self.invariant

pub invariant_of-self-in_err-apply : goal.invariant_of-self-in_err-apply
invariant_of-self-in_err-apply c =
    let m = c.self.inside in
    let setting : Setting = setting_of m.spec.now (bytes_of_packets m.packets.now) m.script.now in
    subst (λ (events : List Event). ∥ IsRunSoFar setting events c.apply.new.self ∥₁) (sym c.reserve.ensures.items)
    (still setting m.journal.items m.kept c.apply.new.self c.in_err-apply.ensures.err c.self.invariant)

pub invariant_of-self-2 : goal.invariant_of-self-2
invariant_of-self-2 c =
    let m = c.self.inside in
    let setting : Setting = setting_of m.spec.now (bytes_of_packets m.packets.now) m.script.now in
    let grown : c.push.new.self.items ≡ m.journal.items ++ c.args.event.now ∷ [] =
    c.in_ok-push.ensures.ok ∙
    (ap (λ (events : List Event). events ++ c.in_ok-copy.copy ∷ []) c.reserve.ensures.items ∙ ap
    (λ (event : Event). m.journal.items ++ event ∷ []) c.in_ok-copy.ensures) in
    subst (λ (events : List Event). ∥ IsRunSoFar setting events c.apply.new.self ∥₁) (sym grown)
    (goes_on setting m.journal.items m.kept m.script.now (length m.packets.now)
    (inputs_of m.spec.now m.packets.now m.script.now (length m.packets.now) refl)
    c.args.event.now c.in_ok-legal.legal c.in_ok-legal.ensures.legal c.apply.new.self c.len-now.result
    c.if-not-legal.false c.len-now.ensures c.in_ok-apply.ensures.ok c.self.invariant)

pub returns-clause-legal : goal.returns-clause-legal
returns-clause-legal c =
    let m = c.self.inside in
    let setting : Setting = setting_of m.spec.now (bytes_of_packets m.packets.now) m.script.now in
    subst (λ (p : RunSoFar). ∥ IsLegal (setting_in p) (machine_state p) c.args.event.now ∥₁) c.self.view_is
    (legal setting m.journal.items m.kept m.script.now (length m.packets.now)
    (inputs_of m.spec.now m.packets.now m.script.now (length m.packets.now) refl)
    c.args.event.now c.in_ok-legal.legal c.in_ok-legal.ensures.legal c.if-not-legal.false c.self.invariant)
