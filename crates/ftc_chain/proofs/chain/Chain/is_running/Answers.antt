use Rattle.std.proofs.Common.{◌∙◌, Option, sym, ap}
use Rattle.std.proofs.Math.Logic.{∥∥₁_elim}
use Rattle.std.specs.Coded.{Coded-set, coded_bool}
use Rattle.ftc_txn.specs.Head.{HeadState}
use Rattle.ftc_network.specs.Slots.{is_running_in}
use Rattle.ftc_chain.specs.Doing.{setting_by}
use Rattle.ftc_chain.proofs.HeadsSeen.{head_seen}
use Rattle.ftc_chain.proofs.chain.Chain.is_running.Goals as goal

pub returns : goal.returns
returns c =
    let given = c.self.inside.given in
    let course = c.self.inside.course in
    ∥∥₁_elim c.self.invariant.1 (Coded-set coded_bool _ _) (λ resting.
    c.is_running.ensures (setting_by given) _ resting.course_is.stands
    ∙ sym (ap (λ (head : Option HeadState). is_running_in head c.args.packet)
    (head_seen given course c.args.self.now c.self.view_is c.args.server)))
