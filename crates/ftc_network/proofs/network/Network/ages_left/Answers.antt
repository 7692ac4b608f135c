use Rattle.std.proofs.Common.{◌∙◌, Option, sym, ap}
use Rattle.ftc_server.specs.declared.server.Server.{Server}
use Rattle.ftc_network.specs.Slots.{head_of, ages_left_in}
use Rattle.ftc_network.proofs.SlotThere.{is_within, is_at}
use Rattle.ftc_network.proofs.network.Network.ages_left.Goals as goal

pub index-requires : goal.index-requires
index-requires c = is_within c.args.self.now c.requires c.place_of.ensures

pub returns-in-Some : goal.returns-in-Some
returns-in-Some c =
    let slot = (is_at c.args.self.now c.requires c.place_of.ensures c.index.ensures).slot_is in
    c.ages_left.ensures
    ∙ ap (λ (o : Option Server). ages_left_in 18446744073709551615 (head_of o)) (sym c.in-Some.is ∙ slot)

pub returns-in-None : goal.returns-in-None
returns-in-None c =
    let slot = (is_at c.args.self.now c.requires c.place_of.ensures c.index.ensures).slot_is in
    ap (λ (o : Option Server). ages_left_in 18446744073709551615 (head_of o)) (sym c.in-None.is ∙ slot)
