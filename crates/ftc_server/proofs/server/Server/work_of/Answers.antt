use Rattle.std.proofs.Common.{◌∙◌, List, Option, ap, sym}
use Rattle.ftc_replica.specs.Held.{Held}
use Rattle.ftc_server.specs.Work.{work_for}
use Rattle.ftc_server.proofs.NextLog.{work_allowed}
use Rattle.ftc_server.proofs.server.Server.work_of.Goals as goal

pub returns-clause-allowed : goal.returns-clause-allowed
returns-clause-allowed c group packet is =
    let server = c.args.self.now in
    let held = c.in_ok-held.held.now in
    work_allowed server c.args.origin group packet held (sym c.in_ok-held.ensures) c.len.ensures.bounds.rising
    (ap (λ (others : List (Option Held)). work_for others held)
    (sym c.as_slice.ensures.value) ∙ sym c.work_for.ensures ∙ is)
