use Rattle.std.proofs.Common.{◌≡◌, Ok, sym, ◌∙◌}
use Rattle.ftc_script.specs.Steps.{last_of}
use Rattle.ftc_script.specs.Grammar.{in_turn}
use Rattle.ftc_script.proofs.Acceptance.{crash_added}
use Rattle.ftc_script.proofs.adding.crash_step.Goals as goal

pub returns-clause-bounds : goal.returns-clause-bounds
returns-clause-bounds c =
    let turn : in_turn c.args.ring.now c.args.packets (last_of 0 c.args.draft.now.steps) c.args.at c.args.number
    ≡ Ok c.in_ok-server.server = rw (← c.last.ensures) (sym c.in_turn.ensures ∙ c.in_ok-server.was) in
    crash_added c.args.ring.now c.args.packets c.args.draft.now c.args.at c.args.number c.in_ok-server.server c.requires
    turn c.in_ok-may_crash.ensures.crash
