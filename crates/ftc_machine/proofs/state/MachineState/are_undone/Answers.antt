use Rattle.std.proofs.Common.{◌≡◌, ◌∙◌, sym}
use Rattle.std.proofs.lemmas.Slice.Eq.{slice_eq-Decides}
use Rattle.ftc_protocol.specs.Recovery.{undone_visits}
use Rattle.ftc_machine.proofs.RepresentedRuns.{of_run}
use Rattle.ftc_machine.proofs.SameNames.{same_name}
use Rattle.ftc_machine.proofs.state.MachineState.are_undone.Goals as goal

pub returns : goal.returns
returns c setting state stands =
    let says = slice_eq-Decides same_name _ _ _ c.eq.ensures in
    let same : c.as_slice.result.now ≡ undone_visits setting state c.args.server =
    c.as_slice.ensures ∙ c.in_ok-undone.ensures setting state (of_run stands) stands.kept in (
      λ is. sym (says.0 is) ∙ same,
      λ is. says.1 (same ∙ sym is),
    )
