use Rattle.std.proofs.Common.{◌≡◌, ◌∙◌, ℕ, Bool, true, false, refl, sym, subst}
use Rattle.std.proofs.Math.Logic.{∥∥₁_map}
use Rattle.std.specs.Prelude.{is_some}
use Rattle.std.proofs.lemmas.Result.{on_ok_weaker}
use Rattle.ftc_protocol.specs.Next.{next}
use Rattle.ftc_standing.specs.Stand.{IsLink}
use Rattle.ftc_standing.specs.View.{leaving}
use Rattle.ftc_visits.specs.Made.{keeps_visits}
use Rattle.ftc_network.specs.Parts.{parts_of}
use Rattle.ftc_network.specs.Stand.{IsSlot}
use Rattle.ftc_network.proofs.OneEach.{one_each, receiver_up}
use Rattle.ftc_network.proofs.Results.{on_err_both}
use Rattle.ftc_network.proofs.SentAlong.{leaver_inside, other_server, other_link, counts_after}
use Rattle.ftc_network.proofs.SlotThere.{is_at, is_link_at, stands_there, link_stands_there, heads_there}
use Rattle.ftc_network.proofs.network.Network.leave.Goals as goal

-- a message that leaves makes no visit
kept_by : (lost : Bool) (server origin : ℕ) → keeps_visits (leaving lost server origin) ≡ true
kept_by true server origin = refl
kept_by false server origin = refl

pub next-receiver-requires : goal.next-receiver-requires
next-receiver-requires c =
    leaver_inside c.where_events_are.ensures.pass c.where_events_are.ensures.lose c.args.self.now (is_some c.args.lost)
    c.args.server c.args.origin c.requires

pub leave_at-requires : goal.leave_at-requires
leave_at-requires c =
    let old = c.args.self.now in
    let inside = leaver_inside c.where_events_are.ensures.pass c.where_events_are.ensures.lose old (is_some c.args.lost)
    c.args.server c.args.origin c.requires in
    let receiver = is_at old c.next-receiver.ensures.within c.place_of.ensures c.index.ensures in
    let slot = is_at old inside c.place_of-2.ensures c.index_mut.ensures.value in
    let link = is_link_at old inside c.place_of-3.ensures c.index_mut-2.ensures.value in
    ∥∥₁_map c.requires (λ allowed. record {
      setting = allowed.setting;
      state = allowed.state;
      run = allowed.run;
      legal = allowed.legal;
      up_is = receiver_up allowed.setting allowed.state (parts_of old) allowed.stands c.args.server
          c.next-receiver.result c.next-receiver.result c.index.result.now c.is_some-up.result
          c.next-receiver.ensures.same receiver.inside refl receiver.slot_is c.is_some-up.ensures;
      link_stands = link_stands_there link allowed.setting allowed.state allowed.stands;
      stands = stands_there slot allowed.setting allowed.state allowed.stands;
    })

pub returns-clause-ok : goal.returns-clause-ok
returns-clause-ok c =
    let old = c.args.self.now in
    let server = c.args.server in
    let origin = c.args.origin in
    let lost = is_some c.args.lost in
    let inside = leaver_inside c.where_events_are.ensures.pass c.where_events_are.ensures.lose old (is_some c.args.lost)
    c.args.server c.args.origin c.requires in
    let receiver = is_at old c.next-receiver.ensures.within c.place_of.ensures c.index.ensures in
    let slot = is_at old inside c.place_of-2.ensures c.index_mut.ensures.value in
    let link = is_link_at old inside c.place_of-3.ensures c.index_mut-2.ensures.value in
    on_ok_weaker c.leave_at.result (λ done setting state run legal is.
    let after = next setting state (leaving lost server origin) in
    let left = done setting state
    (receiver_up setting state (parts_of old) is server c.next-receiver.result c.next-receiver.result c.index.result.now
    c.is_some-up.result c.next-receiver.ensures.same receiver.inside refl receiver.slot_is c.is_some-up.ensures)
    run legal (link_stands_there link setting state is) (stands_there slot setting state is) in
    one_each setting state (parts_of old) is after c.place_of-2.result c.leave_at.new.slot c.place_of-3.result
    c.leave_at.new.link slot.within link.within
    (subst (λ n. IsSlot setting after n c.leave_at.new.slot) (sym c.place_of-2.ensures) left.1)
    (subst (λ n. IsLink setting after n c.leave_at.new.link) (sym c.place_of-3.ensures) left.0)
    (λ number other differs stays. c.servers_beside.ensures setting state
    (leaving lost server origin) number other run legal
    (other_server setting state lost server origin number (λ same. differs (same ∙ sym c.place_of-2.ensures))) stays)
    (λ number queue differs stays. c.links_stand_still.ensures setting state
    (leaving lost server origin) number queue run legal
    (other_link setting state lost server origin number (λ same. differs (same ∙ sym c.place_of-3.ensures))) stays)
    (counts_after setting state lost server origin old.entered old.done old.propagates is.counts)
    (c.made_visits_stay.ensures setting state (leaving lost server origin) old.visits.items run legal
    (kept_by lost server origin) is.visits)) c.leave_at.ensures.ok

pub returns-clause-err : goal.returns-clause-err
returns-clause-err c =
    let old = c.args.self.now in
    let server = c.args.server in
    let inside = leaver_inside c.where_events_are.ensures.pass c.where_events_are.ensures.lose old (is_some c.args.lost)
    c.args.server c.args.origin c.requires in
    let slot = is_at old inside c.place_of-2.ensures c.index_mut.ensures.value in
    let link = is_link_at old inside c.place_of-3.ensures c.index_mut-2.ensures.value in
    on_err_both c.leave_at.result _ _ _ (λ same still setting state is.
    one_each setting state (parts_of old) is state c.place_of-2.result c.leave_at.new.slot c.place_of-3.result
    c.leave_at.new.link slot.within link.within
    (subst (λ n. IsSlot setting state n c.leave_at.new.slot) (sym c.place_of-2.ensures)
    (still server setting state (stands_there slot setting state is)))
    (subst (λ n. IsLink setting state n c.leave_at.new.link) (sym c.place_of-3.ensures)
    (subst (IsLink setting state server) (sym same) (link_stands_there link setting state is)))
    (λ number other differs stays. stays) (λ from other differs stays. stays) is.counts is.visits)
    c.leave_at.ensures.link c.leave_at.ensures.slot

pub returns-clause-heads : goal.returns-clause-heads
returns-clause-heads c =
    let old = c.args.self.now in
    let inside = leaver_inside c.where_events_are.ensures.pass c.where_events_are.ensures.lose old (is_some c.args.lost)
    c.args.server c.args.origin c.requires in
    heads_there (is_at old inside c.place_of-2.ensures c.index_mut.ensures.value) c.leave_at.new.slot
    c.leave_at.ensures.heads
