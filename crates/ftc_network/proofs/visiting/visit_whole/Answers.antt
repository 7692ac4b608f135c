use Rattle.std.proofs.Common.{◌≡◌, ◌∙◌, ℕ, None, Some, sym}
use Rattle.std.proofs.lemmas.Result.{IfOk-weaker}
use Rattle.ftc_server.specs.declared.server.Server.{Server}
use Rattle.ftc_network.specs.Visiting.{IsUnderWay, VisitsWhole}
use Rattle.ftc_network.proofs.HeldRuns.{unasked_idle}
use Rattle.ftc_network.proofs.visiting.visit_whole.Goals as goal

pub returns-in-Some-Finish-clause-ok : goal.returns-in-Some-Finish-clause-ok
returns-in-Some-Finish-clause-ok c =
    let old = c.loop.server in
    let new = c.end.new.server in
    IfOk-weaker c.end.result
    (λ answers. (first : Server) (packet count : ℕ) → IsUnderWay first old c.args.worker packet count →
    VisitsWhole first new c.args.worker packet answers.items)
    (λ answers. VisitsWhole c.args.server.now new c.args.worker c.args.packet answers.items)
    (λ answers whole. whole c.args.server.now c.args.packet c.loop.counter c.loop.invariant) c.end.ensures.ok

pub unreachable-requires : goal.unreachable-requires
unreachable-requires c =
    let idle = unasked_idle c.loop.server c.args.worker (sym c.asked-asked.ensures ∙ c.in-None.is) in
    let runs : None ≡ Some c.loop.invariant.running = sym idle ∙ c.loop.invariant.runs.slot in
    absurd cc
