use Rattle.std.proofs.Common.{◌∙◌, ap}
use Rattle.std.specs.List.{list_all}
use Rattle.ftc_server.specs.Replicas.{is_had}
use Rattle.ftc_server.proofs.HadBefore.{rest_all}
use Rattle.ftc_server.proofs.work.is_ready.Goals as goal

pub returns : goal.returns
returns c =
    let replicas = c.args.replicas.now in
    c.are_had.ensures ∙ ap (list_all (is_had replicas)) c.logs_behind.ensures
    ∙ rest_all (is_had replicas) c.args.had c.args.held.now.message.logs c.requires
