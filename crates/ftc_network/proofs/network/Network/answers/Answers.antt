use Rattle.std.proofs.Common.{◌≡◌, ◌∙◌, ◌↔◌, Option, None, refl, sym, ap, subst}
use Rattle.std.specs.Prelude.{IfSome, IsNone}
use Rattle.ftc_server.specs.declared.server.Server.{Server}
use Rattle.ftc_network.specs.Slots.{head_of, head_at, runs_in}
use Rattle.ftc_network.proofs.SlotThere.{is_within, is_at}
use Rattle.ftc_network.proofs.network.Network.answers.Goals as goal

pub index-requires : goal.index-requires
index-requires c = is_within c.args.self.now c.requires c.place_of.ensures

pub returns-in-Some-clause-none : goal.returns-in-Some-clause-none
returns-in-Some-clause-none c =
    let slot = (is_at c.args.self.now c.requires c.place_of.ensures c.index.ensures).slot_is in
    subst (λ (o : Option Server). IsNone c.answers.result ↔ (runs_in (head_of o) c.args.worker ≡ None))
    (sym c.in-Some.is ∙ slot) c.answers.ensures.none

pub returns-in-Some-clause-some : goal.returns-in-Some-clause-some
returns-in-Some-clause-some c =
    let slot = (is_at c.args.self.now c.requires c.place_of.ensures c.index.ensures).slot_is in
    subst (λ (o : Option Server). IfSome c.answers.result (λ answers. IfSome (runs_in (head_of o) c.args.worker)
    (λ running. answers.now.items ≡ running.answers))) (sym c.in-Some.is ∙ slot) c.answers.ensures.some

pub returns-in-None-clause-none : goal.returns-in-None-clause-none
returns-in-None-clause-none c =
    let slot = (is_at c.args.self.now c.requires c.place_of.ensures c.index.ensures).slot_is in
    let idle : runs_in (head_at c.args.self.now c.args.server) c.args.worker ≡ None =
    ap (λ (o : Option Server). runs_in (head_of o) c.args.worker) (sym slot ∙ c.in-None.is) in
    ((λ none. idle), (λ none. refl))
