use Rattle.ftc_network.specs.Slots.{SlotEndsVisit}
use Rattle.ftc_network.proofs.CommittedSlots.{ends_withheld}
use Rattle.ftc_network.proofs.SlotThere.{is_within, is_at, both_there, others_there, still_there, withheld_there}
use Rattle.ftc_network.proofs.network.Network.refuse.Goals as goal

pub index_mut-requires : goal.index_mut-requires
index_mut-requires c = is_within c.args.self.now c.requires c.place_of.ensures

pub returns-clause-ends : goal.returns-clause-ends
returns-clause-ends c =
    let at = is_at c.args.self.now c.requires c.place_of.ensures c.index_mut.ensures.value in
    both_there at c.refuse_at.new.slot (λ old new. SlotEndsVisit old new c.args.worker c.refuse_at.result)
    c.refuse_at.ensures.ends

pub returns-clause-others : goal.returns-clause-others
returns-clause-others c =
    others_there c.args.self.now.servers.items c.place_of.result c.args.server c.refuse_at.new.slot c.place_of.ensures

pub returns-clause-withheld : goal.returns-clause-withheld
returns-clause-withheld c =
    let new = c.refuse_at.new.slot in
    withheld_there (is_at c.args.self.now c.requires c.place_of.ensures c.index_mut.ensures.value) new
    (ends_withheld c.index_mut.result.now new c.args.worker c.refuse_at.result c.refuse_at.ensures.ends)

pub returns-clause-stands : goal.returns-clause-stands
returns-clause-stands c =
    let at = is_at c.args.self.now c.requires c.place_of.ensures c.index_mut.ensures.value in
    still_there at c.refuse_at.new.slot (c.refuse_at.ensures.stands c.args.server)
