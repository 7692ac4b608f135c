use Rattle.std.proofs.Common.{◌≡◌, ◌∙◌, true, false, Option, None, sym, ap, subst}
use Rattle.std.proofs.Math.Logic.{∥∥₁_map}
use Rattle.std.specs.Prelude.{IfSome, option_map}
use Rattle.ftc_server.specs.declared.server.Server.{Server}
use Rattle.ftc_server.specs.Slots.{is_running}
use Rattle.ftc_txn.specs.Head.{ages_left, next_age}
use Rattle.ftc_txn.specs.Steps.{begins}
use Rattle.ftc_network.specs.Slots.{head_of, runs_in}
use Rattle.ftc_network.proofs.Allowed.{begins_inside}
use Rattle.ftc_network.proofs.SlotThere.{is_within, is_at, stands_there, is_there, others_there, still_there}
use Rattle.ftc_network.proofs.network.Network.begin.Goals as goal

pub index_mut-requires : goal.index_mut-requires
index_mut-requires c =
    is_within c.args.self.now (begins_inside c.where_events_are.ensures.visit c.requires.legal) c.place_of.ensures

pub begin_at-requires-clause-legal : goal.begin_at-requires-clause-legal
begin_at-requires-clause-legal c =
    let at = is_at c.args.self.now (begins_inside c.where_events_are.ensures.visit c.requires.legal) c.place_of.ensures
    c.index_mut.ensures.value in
    ∥∥₁_map c.requires.legal (λ given. record {
      setting = given.setting;
      state = given.state;
      run = given.run;
      legal = given.legal;
      stands = stands_there at given.setting given.state given.stands;
    })

pub begin_at-requires-clause-idle : goal.begin_at-requires-clause-idle
begin_at-requires-clause-idle c =
    let at = is_at c.args.self.now (begins_inside c.where_events_are.ensures.visit c.requires.legal) c.place_of.ensures
    c.index_mut.ensures.value in
    subst (λ (o : Option Server). runs_in (head_of o) c.args.worker ≡ None) (sym at.slot_is) c.requires.idle

pub begin_at-requires-clause-age : goal.begin_at-requires-clause-age
begin_at-requires-clause-age c =
    let at = is_at c.args.self.now (begins_inside c.where_events_are.ensures.visit c.requires.legal) c.place_of.ensures
    c.index_mut.ensures.value in
    subst (λ (o : Option Server). IfSome (head_of o) (λ head. ages_left 18446744073709551615 head ≡ true))
    (sym at.slot_is) c.requires.age

pub begin_at-requires-clause-once : goal.begin_at-requires-clause-once
begin_at-requires-clause-once c =
    let at = is_at c.args.self.now (begins_inside c.where_events_are.ensures.visit c.requires.legal) c.place_of.ensures
    c.index_mut.ensures.value in
    subst (λ (o : Option Server). IfSome (head_of o) (λ head. is_running head c.args.packet ≡ false))
    (sym at.slot_is) c.requires.once

pub returns-clause-age : goal.returns-clause-age
returns-clause-age c =
    let at = is_at c.args.self.now (begins_inside c.where_events_are.ensures.visit c.requires.legal) c.place_of.ensures
    c.index_mut.ensures.value in
    subst (λ (o : Option Server). IfSome (head_of o) (λ head. c.begin_at.result ≡ next_age head)) at.slot_is
    c.begin_at.ensures.age

pub returns-clause-head : goal.returns-clause-head
returns-clause-head c =
    let at = is_at c.args.self.now (begins_inside c.where_events_are.ensures.visit c.requires.legal) c.place_of.ensures
    c.index_mut.ensures.value in
    ap head_of (is_there at c.begin_at.new.slot)
    ∙ (c.begin_at.ensures.head
    ∙ ap (λ (o : Option Server). option_map (λ head. begins head c.args.worker c.args.packet) (head_of o)) at.slot_is)

pub returns-clause-others : goal.returns-clause-others
returns-clause-others c =
    others_there c.args.self.now.servers.items c.place_of.result c.args.server c.begin_at.new.slot c.place_of.ensures

pub returns-clause-stands : goal.returns-clause-stands
returns-clause-stands c =
    let at = is_at c.args.self.now (begins_inside c.where_events_are.ensures.visit c.requires.legal) c.place_of.ensures
    c.index_mut.ensures.value in
    still_there at c.begin_at.new.slot (c.begin_at.ensures.stands c.args.server)
