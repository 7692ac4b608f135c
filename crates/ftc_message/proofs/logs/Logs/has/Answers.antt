use Rattle.ftc_message.specs.Ordered.{is_log_of}
use Rattle.ftc_message.proofs.InOrder.{none_found}
use Rattle.ftc_message.proofs.logs.Logs.has.Goals as goal

pub returns-clause-none : goal.returns-clause-none
returns-clause-none c =
    none_found c.find.result
    (is_log_of c.args.origin c.args.group) c.args.self.now c.is_some.result c.find.ensures c.is_some.ensures
