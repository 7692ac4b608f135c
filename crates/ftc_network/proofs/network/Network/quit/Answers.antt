use Rattle.ftc_network.specs.Slots.{SlotQuits}
use Rattle.ftc_network.proofs.SlotThere.{is_within, is_at, both_there, others_there, still_there}
use Rattle.ftc_network.proofs.network.Network.quit.Goals as goal

pub index_mut-requires : goal.index_mut-requires
index_mut-requires c = is_within c.args.self.now c.requires c.place_of.ensures

pub returns-clause-quits : goal.returns-clause-quits
returns-clause-quits c =
    let at = is_at c.args.self.now c.requires c.place_of.ensures c.index_mut.ensures.value in
    both_there at c.quit_at.new.slot (λ old new. SlotQuits old new c.args.worker) c.quit_at.ensures.quits

pub returns-clause-others : goal.returns-clause-others
returns-clause-others c =
    others_there c.args.self.now.servers.items c.place_of.result c.args.server c.quit_at.new.slot c.place_of.ensures

pub returns-clause-stands : goal.returns-clause-stands
returns-clause-stands c =
    let at = is_at c.args.self.now c.requires c.place_of.ensures c.index_mut.ensures.value in
    still_there at c.quit_at.new.slot (c.quit_at.ensures.stands c.args.server)
