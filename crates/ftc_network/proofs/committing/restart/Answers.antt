use Rattle.ftc_network.proofs.Restarts.{told_so}
use Rattle.ftc_network.proofs.committing.restart.Goals as goal

pub unreachable-requires : goal.unreachable-requires
unreachable-requires c =
    let told = told_so c.args.live.now c.read.new.self c.args.worker c.unwrap-key.result c.read.result c.requires
    c.read.ensures in
    c.in_default.not-Wounded told.0 told.1
