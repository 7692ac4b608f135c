use Rattle.std.proofs.Common.{◌≡◌, ◌∙◌, ◌↔◌, true, false, length, sym, ap, subst}
use Rattle.std.proofs.lemmas.Bool.{true≢false}
use Rattle.std.proofs.lemmas.Result.{IfOk-weaker}
use Rattle.ftc_protocol.specs.Legal.{is_release}
use Rattle.ftc_protocol.specs.Recovery.{undone_visits}
use Rattle.ftc_machine.specs.DueTests.{is_any_due}
use Rattle.ftc_machine.specs.Legality.{may_happen}
use Rattle.ftc_machine.proofs.LegalityMeaning.{not_due, not_allowed, allowed, listed}
use Rattle.ftc_machine.proofs.state.MachineState.is_legal.Goals as goal
use Rattle.ftc_machine.proofs.state.MachineState.is_legal.Goals.{After-may_happen}
use Rattle.ftc_machine.proofs.state.MachineState.is_legal.Goals.{else-not-is_release-via-then-not-is_release+else-is_some_due}
use Rattle.ftc_machine.proofs.state.MachineState.is_legal.Goals.{else-not-is_release-via-else-not-is_release}

pub returns-then-is_some_due-clause-legal : goal.returns-then-is_some_due-clause-legal
returns-then-is_some_due-clause-legal c setting state stands given =
    not_due setting state c.args.self.now stands c.args.script.now (length c.args.packets.now) given c.args.event.now
    (sym c.is_some_due.ensures ∙ c.if-is_some_due.true) (sym c.is_release.ensures ∙ c.if-not-is_release.true)

module _ (c : After-may_happen) where
  -- no release is due where another event is tested
  none_due : is_release c.args.event.now ≡ false → is_any_due c.args.self.now ≡ false
  none_due isnt = elim c.else-not-is_release.branch [
    | else-not-is_release-via-then-not-is_release+else-is_some_due w ↦
        sym w.is_some_due.ensures ∙ w.if-is_some_due.false
    | else-not-is_release-via-else-not-is_release w ↦
        absurd (true≢false (sym w.if-not-is_release.false ∙ (c.is_release.ensures ∙ isnt)))
  ]

  -- the test, by the length of the packets
  happens : may_happen c.args.self.now c.args.script.now (length c.args.packets.now) c.args.event.now
      ≡ c.may_happen.result
  happens = sym (c.may_happen.ensures
      ∙ ap (λ count. may_happen c.args.self.now c.args.script.now count c.args.event.now) c.len.ensures.same)

pub returns-then-not-may_happen-clause-legal : goal.returns-then-not-may_happen-clause-legal
returns-then-not-may_happen-clause-legal c setting state stands given =
    not_allowed setting state c.args.self.now stands c.args.script.now
    (length c.args.packets.now) given c.args.event.now
    (happens (goal.at.returns-then-not-may_happen-clause-legal c).After-may_happen ∙ c.if-not-may_happen.true)

pub returns-in-Recover-clause-legal : goal.returns-in-Recover-clause-legal
returns-in-Recover-clause-legal c =
    let tested = (goal.at.returns-in-Recover-clause-legal c).After-may_happen in
    IfOk-weaker c.are_undone.result _ _
    (λ same right setting state stands given.
    listed setting state c.args.self.now stands c.args.script.now (length c.args.packets.now) given c.args.event.now
    c.in-Recover.server c.in-Recover.undone same c.in-Recover.is (none_due tested)
    (happens tested ∙ c.if-not-may_happen.false)
    (subst (λ visits. (same ≡ true) ↔ (visits ≡ undone_visits setting state c.in-Recover.server)) c.as_slice.ensures
    (right setting state stands)))
    c.are_undone.ensures

pub returns-in_default-clause-legal : goal.returns-in_default-clause-legal
returns-in_default-clause-legal c setting state stands given =
    let tested = (goal.at.returns-in_default-clause-legal c).After-may_happen in
    allowed setting state c.args.self.now stands c.args.script.now (length c.args.packets.now) given c.args.event.now
    (λ server undone. c.in_default.not-Recover server undone) (none_due tested)
    (happens tested ∙ c.if-not-may_happen.false)
