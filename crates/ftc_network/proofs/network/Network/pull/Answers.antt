use Rattle.std.proofs.Common.{◌≡◌, ◌∙◌, Option, refl, sym, ap, subst}
use Rattle.std.proofs.Math.Logic.{∥∥₁_elim}
use Rattle.ftc_base.proofs.Results.{on_any_err}
use Rattle.ftc_journal.specs.declared.event.Event.{Event}
use Rattle.ftc_journal.specs.declared.event.Event.TheVariants as event
use Rattle.ftc_protocol.specs.Next.{next}
use Rattle.ftc_protocol.specs.Setting.{servers}
use Rattle.ftc_ring.specs.Ring.{RingShape, next_of}
use Rattle.ftc_server.specs.declared.server.Server.{Server}
use Rattle.ftc_standing.specs.Stand.{IsLink}
use Rattle.ftc_standing.proofs.Firm.{firm}
use Rattle.ftc_ties.proofs.Serving.{steady}
use Rattle.ftc_network.specs.Parts.{server_in, link_in}
use Rattle.ftc_network.specs.Pulling.{AreGains, IsOfLater, gap_after}
use Rattle.ftc_network.specs.Stand.{IsSlot}
use Rattle.ftc_network.proofs.Allowed.{below_servers}
use Rattle.ftc_network.proofs.Changed.{server_set}
use Rattle.ftc_network.proofs.PullWanted.{between_prop, later_prop, trace_few, may_pull, later_so, pull_follows}
use Rattle.ftc_network.proofs.PulledServer.{another, gap_is}
use Rattle.ftc_network.proofs.SlotThere.{is_at, stands_there, still_there, heads_there, same_counts}
use Rattle.ftc_network.proofs.network.Network.pull.Goals as goal

pub gains_between-requires : goal.gains_between-requires
gains_between-requires c =
    let old = c.args.self.now in
    let link = c.args.link in
    let sender = is_at old (below_servers (event.Pull link) old link (λ setting state run legal.
    (c.where_events_are.ensures.pull setting state link run legal).0) c.requires) c.place_of.ensures c.index.ensures in
    let receiver = is_at old c.next-receiver.ensures.within c.place_of-2.ensures c.index-2.ensures in
    ∥∥₁_elim c.requires (between_prop old.ring c.index.result.now c.index-2.result.now) (λ allowed.
    let setting = allowed.setting in
    let state = allowed.state in
    let steady_so = steady c.every_state_tied.ensures setting state allowed.run in
    let behind : c.next-receiver.result ≡ next_of (servers setting) link =
    c.next-receiver.ensures.same ∙ ap (λ (ring : RingShape). next_of ring.servers link) allowed.stands.ring in
    may_pull setting state steady_so link allowed.legal c.in_turn.ensures.more
    (trace_few setting state steady_so link allowed.legal c.trace_short.ensures c.losses.ensures.counted allowed.few)
    old.ring allowed.stands.ring c.index.result.now c.index-2.result.now
    (stands_there sender setting state allowed.stands)
    (subst (λ n. IsSlot setting state n c.index-2.result.now) behind
    (stands_there receiver setting state allowed.stands)))

pub install_at-requires : goal.install_at-requires
install_at-requires c =
    let old = c.args.self.now in
    let link = c.args.link in
    let replicas = c.in_ok-replicas.field-0.replicas in
    let sender = is_at old (below_servers (event.Pull link) old link (λ setting state run legal.
    (c.where_events_are.ensures.pull setting state link run legal).0) c.requires) c.place_of.ensures c.index.ensures in
    let receiver = is_at old c.next-receiver.ensures.within c.place_of-2.ensures c.index-2.ensures in
    let pulled = is_at old c.next-receiver.ensures.within c.place_of-3.ensures c.index_mut.ensures.value in
    subst (λ (o : Option Server). IsOfLater o replicas) (receiver.slot_is ∙ sym pulled.slot_is)
    (∥∥₁_elim c.requires (later_prop c.index-2.result.now replicas) (λ allowed.
    let setting = allowed.setting in
    let state = allowed.state in
    let steady_so = steady c.every_state_tied.ensures setting state allowed.run in
    let behind : c.next-receiver.result ≡ next_of (servers setting) link =
    c.next-receiver.ensures.same ∙ ap (λ (ring : RingShape). next_of ring.servers link) allowed.stands.ring in
    later_so setting state steady_so link allowed.legal old.ring allowed.stands.ring c.index.result.now
    c.index-2.result.now replicas c.in_ok-replicas.field-0.gained
    (stands_there sender setting state allowed.stands)
    (subst (λ n. IsSlot setting state n c.index-2.result.now) behind
    (stands_there receiver setting state allowed.stands)) c.in_ok-replicas.ensures))

pub returns-in_err-install_at-clause-err : goal.returns-in_err-install_at-clause-err
returns-in_err-install_at-clause-err c =
    let pulled = is_at c.args.self.now c.next-receiver.ensures.within c.place_of-3.ensures c.index_mut.ensures.value in
    on_any_err c.from_residual-in_err-install_at.result _
    (still_there pulled c.install_at.new.slot (c.in_err-install_at.ensures.err c.next-receiver.result))

pub returns-clause-ok : goal.returns-clause-ok
returns-clause-ok c setting state run legal is =
    let old = c.args.self.now in
    let link = c.args.link in
    let pulling : Event = event.Pull link in
    let after = next setting state pulling in
    let receiver = next_of (servers setting) link in
    let firm_so = firm c.every_state_tied.ensures c.needs_of_packets.ensures c.withheld_packets.ensures setting state
    run in
    let behind : c.next-receiver.result ≡ receiver =
    c.next-receiver.ensures.same ∙ ap (λ (ring : RingShape). next_of ring.servers link) is.ring in
    let sender = is_at old (below_servers pulling old link (λ setting state run legal.
    (c.where_events_are.ensures.pull setting state link run legal).0) c.requires) c.place_of.ensures c.index.ensures in
    let found = is_at old c.next-receiver.ensures.within c.place_of-2.ensures c.index-2.ensures in
    let pulled = is_at old c.next-receiver.ensures.within c.place_of-3.ensures c.index_mut.ensures.value in
    let placed : c.place_of-3.result ≡ receiver = c.place_of-3.ensures ∙ behind in
    let follows = pull_follows setting state firm_so c.ends.ensures link legal
    (λ tail old new sender news below its shared is_old is_sender are done. c.what_install_does.ensures setting state
    link tail
    old new sender news run legal below its shared is_old is_sender are done)
    (λ old new stands roomed. c.what_stays.ensures.roomed setting after receiver old new stands roomed)
    (λ old new at at_after only ready. c.slots_stay_ready.ensures setting state
    (event.Pull link) receiver old new run legal
    at at_after only ready)
    old.ring is.ring c.index.result.now c.index_mut.result.now c.install_at.new.slot c.in_ok-replicas.field-0.replicas
    c.in_ok-replicas.field-0.gained
    (stands_there sender setting state is)
    (subst (λ n. IsSlot setting state n c.index_mut.result.now) behind (stands_there pulled setting state is))
    (subst (λ (o : Option Server). AreGains old.ring c.index.result.now o c.in_ok-replicas.field-0.replicas
    c.in_ok-replicas.field-0.gained) (found.slot_is ∙ sym pulled.slot_is) c.in_ok-replicas.ensures)
    c.in_ok-install_at.ensures.ok in
    record {
      ring = is.ring;
      partitions = is.partitions;
      servers_are = server_set (IsSlot setting after) (servers setting) old.servers.items c.place_of-3.result
          c.install_at.new.slot pulled.within
          (subst (λ n. IsSlot setting after n c.install_at.new.slot) (sym placed) follows.0)
          (λ server below differs. c.servers_beside.ensures setting state pulling server
          (server_in old.servers.items server)
          run legal (λ e. differs (e ∙ sym placed)) (is.servers_are server below));
      links_are = λ number below.
          let queue = link_in old.links.items number in
          subst (IsLink setting after number) (sym (c.mark_links.ensures.each number))
          (c.a_server_has_pulled.ensures.link setting state link number queue
          (gap_after link c.next-receiver.result c.in_ok-replicas.field-0.gained number queue.gap) run legal
          (ap (λ n. gap_after link n c.in_ok-replicas.field-0.gained number queue.gap) behind
          ∙ gap_is setting state link number c.in_ok-replicas.field-0.gained queue.gap
          (another setting state firm_so.steady link legal) follows.1
          (is.links_are number below).gap) (is.links_are number below));
      counts = same_counts after refl refl refl is.counts;
      visits = c.made_visits_stay.ensures setting state pulling old.visits.items run legal refl is.visits;
    }

pub returns-clause-heads : goal.returns-clause-heads
returns-clause-heads c =
    let pulled = is_at c.args.self.now c.next-receiver.ensures.within c.place_of-3.ensures c.index_mut.ensures.value in
    heads_there pulled c.install_at.new.slot c.install_at.ensures.heads

pub returns-in_err-install_at-clause-heads : goal.returns-in_err-install_at-clause-heads
returns-in_err-install_at-clause-heads c =
    let pulled = is_at c.args.self.now c.next-receiver.ensures.within c.place_of-3.ensures c.index_mut.ensures.value in
    heads_there pulled c.install_at.new.slot c.install_at.ensures.heads
