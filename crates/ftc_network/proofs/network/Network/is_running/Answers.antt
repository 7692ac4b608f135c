use Rattle.std.proofs.Common.{◌∙◌, Option, sym, ap, subst}
use Rattle.ftc_server.specs.declared.server.Server.{Server}
use Rattle.ftc_network.specs.Slots.{head_of, is_running_in}
use Rattle.ftc_network.specs.Stand.{IsSlot, IsUp}
use Rattle.ftc_network.proofs.SlotThere.{is_within, is_at, stands_there}
use Rattle.ftc_network.proofs.network.Network.is_running.Goals as goal

pub index-requires : goal.index-requires
index-requires c = is_within c.args.self.now c.requires c.place_of.ensures

pub returns-in-Some : goal.returns-in-Some
returns-in-Some c setting state is =
    let at = is_at c.args.self.now c.requires c.place_of.ensures c.index.ensures in
    let up : IsUp setting state c.args.server c.in-Some.live =
    subst (IsSlot setting state c.args.server) c.in-Some.is (stands_there at setting state is) in
    c.runs.ensures up.ready.within
    ∙ ap (λ (o : Option Server). is_running_in (head_of o) c.args.packet) (sym c.in-Some.is ∙ at.slot_is)

pub returns-in-None : goal.returns-in-None
returns-in-None c setting state is =
    let slot = (is_at c.args.self.now c.requires c.place_of.ensures c.index.ensures).slot_is in
    ap (λ (o : Option Server). is_running_in (head_of o) c.args.packet) (sym c.in-None.is ∙ slot)
