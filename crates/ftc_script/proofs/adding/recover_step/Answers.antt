use Rattle.std.proofs.Common.{◌≡◌, Ok, sym, ◌∙◌}
use Rattle.ftc_script.specs.Steps.{last_of}
use Rattle.ftc_script.specs.Grammar.{in_turn, live_in, may_recover}
use Rattle.ftc_script.proofs.Acceptance.{recover_added}
use Rattle.ftc_script.proofs.adding.recover_step.Goals as goal

pub returns-clause-bounds : goal.returns-clause-bounds
returns-clause-bounds c =
    let turn : in_turn c.args.ring.now c.args.packets (last_of 0 c.args.draft.now.steps) c.args.at c.args.number
    ≡ Ok c.in_ok-server.server = rw (← c.last.ensures) (sym c.in_turn.ensures ∙ c.in_ok-server.was) in
    let back : may_recover (live_in c.args.draft.now) c.in_ok-server.server ≡ Ok c.in_ok-may_recover.field-0 =
    sym c.may_recover.ensures ∙ c.in_ok-may_recover.was in
    recover_added c.args.ring.now c.args.packets c.args.draft.now c.args.at c.args.number c.in_ok-server.server
    c.in_ok-may_recover.field-0 c.requires turn back
