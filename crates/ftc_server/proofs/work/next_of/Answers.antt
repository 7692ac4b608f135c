use Rattle.std.proofs.Common.{◌∙◌, None, ap}
use Rattle.ftc_server.specs.Work.{next_log}
use Rattle.ftc_server.proofs.HadBefore.{rest_next}
use Rattle.ftc_server.proofs.work.next_of.Goals as goal

pub returns : goal.returns
returns c =
    let replicas = c.args.replicas.now in
    c.next_log.ensures ∙ ap (next_log replicas None) c.logs_behind.ensures
    ∙ rest_next replicas None c.args.had c.args.held.now.message.logs c.requires
