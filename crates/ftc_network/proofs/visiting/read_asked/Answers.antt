use Rattle.ftc_network.proofs.ReadAlone.{read_alone}
use Rattle.ftc_network.proofs.visiting.read_asked.Goals as goal

pub returns : goal.returns
returns c first packet count is =
    read_alone first c.args.server.now c.read_asked.new.self c.args.worker packet count c.args.key.now c.args.change is
    c.store.ensures.valid c.requires
    (λ answer reads setting state number at.
    c.what_stays.ensures.read setting state number c.args.worker c.args.key.now answer c.args.server.now
    c.read_asked.new.self at reads)
    c.read_asked.result c.read_asked.ensures
