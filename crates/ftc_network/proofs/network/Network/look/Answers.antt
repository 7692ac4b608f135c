use Rattle.std.proofs.Common.{◌≡◌, ◌∙◌, Option, sym, ap, subst}
use Rattle.std.specs.Prelude.{IfOk}
use Rattle.ftc_server.specs.declared.server.Server.{Server}
use Rattle.ftc_network.specs.Slots.{bytes_run_at}
use Rattle.ftc_network.proofs.SlotThere.{is_within, is_at}
use Rattle.ftc_network.proofs.network.Network.look.Goals as goal

pub index-requires : goal.index-requires
index-requires c = is_within c.args.self.now c.requires c.place_of.ensures

pub returns-in-Some : goal.returns-in-Some
returns-in-Some c =
    let slot = (is_at c.args.self.now c.requires c.place_of.ensures c.index.ensures).slot_is in
    subst (λ (o : Option Server). IfOk c.look_at.result (λ bytes. bytes ≡ bytes_run_at o c.args.worker))
    (sym c.in-Some.is ∙ slot) c.look_at.ensures

pub returns-in-None : goal.returns-in-None
returns-in-None c =
    let slot = (is_at c.args.self.now c.requires c.place_of.ensures c.index.ensures).slot_is in
    ap (λ (o : Option Server). bytes_run_at o c.args.worker) (sym c.in-None.is ∙ slot)
