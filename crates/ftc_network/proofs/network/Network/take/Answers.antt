use Rattle.std.proofs.Common.{◌≡◌, ◌∙◌, ◌==◌, ◌+◌, ℕ, refl, sym, ap, subst}
use Rattle.std.proofs.Math.Logic.{∥∥₁_map}
use Rattle.std.proofs.lemmas.Result.{on_ok_weaker}
use Rattle.ftc_journal.specs.declared.event.Event.{Event}
use Rattle.ftc_journal.specs.declared.event.Event.TheVariants as event
use Rattle.ftc_protocol.specs.Next.{next}
use Rattle.ftc_protocol.specs.Setting.{servers}
use Rattle.ftc_ring.specs.Ring.{RingShape, next_of}
use Rattle.ftc_standing.specs.Stand.{IsLink}
use Rattle.ftc_network.specs.Parts.{parts_of}
use Rattle.ftc_network.specs.Stand.{IsSlot}
use Rattle.ftc_network.proofs.Allowed.{below_servers}
use Rattle.ftc_network.proofs.OneServer.{server_and_link}
use Rattle.ftc_network.proofs.Results.{on_err_both}
use Rattle.ftc_network.proofs.SlotThere.{is_at, is_link_at, stands_there, link_stands_there, withheld_there}
use Rattle.ftc_network.proofs.SlotThere.{heads_there, same_counts}
use Rattle.ftc_network.proofs.network.Network.take.Goals as goal

pub next-receiver-requires : goal.next-receiver-requires
next-receiver-requires c =
    below_servers (event.Take c.args.link c.args.origin) c.args.self.now c.args.link (λ setting state run legal.
    (c.where_events_are.ensures.take setting state c.args.link c.args.origin run legal).0) c.requires

pub take_at-requires : goal.take_at-requires
take_at-requires c =
    let old = c.args.self.now in
    let below = below_servers (event.Take c.args.link c.args.origin) old c.args.link (λ setting state run legal.
    (c.where_events_are.ensures.take setting state c.args.link c.args.origin run legal).0) c.requires in
    let queue = is_link_at old below c.place_of.ensures c.index_mut.ensures.value in
    let slot = is_at old c.next-receiver.ensures.within c.place_of-2.ensures c.index_mut-2.ensures.value in
    ∥∥₁_map c.requires (λ given.
    let size : old.ring.servers ≡ servers given.setting = ap (λ (ring : RingShape). ring.servers) given.stands.ring in
    let receiver : c.next-receiver.result ≡ next_of (servers given.setting) c.args.link =
    c.next-receiver.ensures.same ∙ ap (λ (n : ℕ). next_of n c.args.link) size in
    record {
      setting = given.setting;
      state = given.state;
      run = given.run;
      legal = given.legal;
      by_ring_is = ap (λ (l : ℕ). l + 1 == c.servers.result) c.number.ensures.same
          ∙ ap (λ (n : ℕ). c.args.link + 1 == n) (c.servers.ensures.same ∙ size);
      link_stands = link_stands_there queue given.setting given.state given.stands;
      stands = subst (λ (n : ℕ). IsSlot given.setting given.state n c.index_mut-2.result.now) receiver
          (stands_there slot given.setting given.state given.stands);
    })

pub returns-clause-ok : goal.returns-clause-ok
returns-clause-ok c =
    let link = c.args.link in
    let event : Event = event.Take link c.args.origin in
    let old = c.args.self.now in
    let below = below_servers event old link (λ setting state run legal.
    (c.where_events_are.ensures.take setting state link c.args.origin run legal).0) c.requires in
    let queue = is_link_at old below c.place_of.ensures c.index_mut.ensures.value in
    let slot = is_at old c.next-receiver.ensures.within c.place_of-2.ensures c.index_mut-2.ensures.value in
    on_ok_weaker c.take_at.result (λ follows setting state run legal is.
    let size : old.ring.servers ≡ servers setting = ap (λ (ring : RingShape). ring.servers) is.ring in
    let receiver : c.next-receiver.result ≡ next_of (servers setting) link =
    c.next-receiver.ensures.same ∙ ap (λ (n : ℕ). next_of n link) size in
    let by_ring : (c.number.result + 1 == c.servers.result) ≡ (link + 1 == servers setting) =
    ap (λ (l : ℕ). l + 1 == c.servers.result) c.number.ensures.same
    ∙ ap (λ (n : ℕ). link + 1 == n) (c.servers.ensures.same ∙ size) in
    let ends = follows setting state by_ring run legal (link_stands_there queue setting state is)
    (subst (λ (n : ℕ). IsSlot setting state n c.index_mut-2.result.now) receiver (stands_there slot setting state is))
    in
    server_and_link setting state (next setting state event) (parts_of old) c.place_of-2.result c.take_at.new.slot
    c.place_of.result c.take_at.new.link old.entered old.done old.propagates slot.within queue.within is
    (subst (λ (n : ℕ). IsSlot setting (next setting state event) n c.take_at.new.slot)
    (sym receiver ∙ sym c.place_of-2.ensures) ends.1)
    (subst (λ (n : ℕ). IsLink setting (next setting state event) n c.take_at.new.link) (sym c.place_of.ensures) ends.0)
    (λ server other less differs stays. c.servers_beside.ensures setting state event server other run legal
    (λ same. differs (same ∙ (sym receiver ∙ sym c.place_of-2.ensures))) stays)
    (λ other queued less differs stays. c.links_stand_still.ensures setting state event other queued run legal
    (λ same. differs (same ∙ sym c.place_of.ensures)) stays)
    (same_counts (next setting state event) refl refl refl is.counts)
    (c.made_visits_stay.ensures setting state event old.visits.items run legal refl is.visits)) c.take_at.ensures.ok

pub returns-clause-err : goal.returns-clause-err
returns-clause-err c =
    let link = c.args.link in
    let old = c.args.self.now in
    let below = below_servers (event.Take link c.args.origin) old link (λ setting state run legal.
    (c.where_events_are.ensures.take setting state link c.args.origin run legal).0) c.requires in
    let queue = is_link_at old below c.place_of.ensures c.index_mut.ensures.value in
    let slot = is_at old c.next-receiver.ensures.within c.place_of-2.ensures c.index_mut-2.ensures.value in
    on_err_both c.take_at.result _ _ _ (λ same still setting state is.
    server_and_link setting state state (parts_of old) c.place_of-2.result c.take_at.new.slot c.place_of.result
    c.take_at.new.link old.entered old.done old.propagates slot.within queue.within is
    (subst (λ (n : ℕ). IsSlot setting state n c.take_at.new.slot) (sym c.place_of-2.ensures)
    (still c.next-receiver.result setting state (stands_there slot setting state is)))
    (subst (λ (n : ℕ). IsLink setting state n c.take_at.new.link) (sym c.place_of.ensures)
    (subst (IsLink setting state link) (sym same) (link_stands_there queue setting state is)))
    (λ server other less differs stays. stays) (λ other queued less differs stays. stays) is.counts is.visits)
    c.take_at.ensures.link c.take_at.ensures.slot

pub returns-clause-withheld : goal.returns-clause-withheld
returns-clause-withheld c =
    let slot = is_at c.args.self.now c.next-receiver.ensures.within c.place_of-2.ensures c.index_mut-2.ensures.value in
    on_ok_weaker c.take_at.result (withheld_there slot c.take_at.new.slot) c.take_at.ensures.buffer

pub returns-clause-heads : goal.returns-clause-heads
returns-clause-heads c =
    let slot = is_at c.args.self.now c.next-receiver.ensures.within c.place_of-2.ensures c.index_mut-2.ensures.value in
    heads_there slot c.take_at.new.slot c.take_at.ensures.heads
