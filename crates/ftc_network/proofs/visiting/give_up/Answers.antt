use Rattle.ftc_network.proofs.IdleSlots.{all_idle}
use Rattle.ftc_network.proofs.visiting.give_up.Goals as goal

pub returns-clause-stands : goal.returns-clause-stands
returns-clause-stands c setting state number is =
    c.what_stays.ensures.left setting state number c.args.worker c.args.server.now c.quit.new.self is c.quit.ensures

pub returns-clause-idle : goal.returns-clause-idle
returns-clause-idle c idle =
    all_idle c.args.server.now.head.slots c.quit.new.self.head.slots c.args.worker c.quit.ensures.head.slots idle
