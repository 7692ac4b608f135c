use Rattle.std.proofs.Common.{◌≡◌, ◌∙◌, ◌<◌, ◌+◌, ◌-◌, ℕ, Bool, false, None, length, refl, sym, ap, subst, arith}
use Rattle.ftc_journal.specs.declared.event.Event.{Event}
use Rattle.ftc_journal.specs.declared.event.Event.TheVariants as event
use Rattle.ftc_protocol.specs.Next.{next}
use Rattle.ftc_protocol.specs.Setting.{servers}
use Rattle.ftc_ring.specs.Ring.{RingShape, next_of, previous_of}
use Rattle.ftc_serial.proofs.Functions.{with_at_cases}
use Rattle.ftc_standing.specs.Stand.{IsLink}
use Rattle.ftc_network.specs.Parts.{parts_of}
use Rattle.ftc_network.proofs.Allowed.{below_servers}
use Rattle.ftc_network.proofs.OneServer.{server_and_link, gone_withheld}
use Rattle.ftc_network.proofs.ScriptLines.{lines_left}
use Rattle.ftc_network.proofs.SlotThere.{is_within, is_at, is_there, others_there, is_link_at, link_stands_there}
use Rattle.ftc_network.specs.Slots.{head_of}
use Rattle.ftc_network.proofs.network.Network.crash.Goals as goal

pub previous-before-requires : goal.previous-before-requires
previous-before-requires c =
    below_servers (event.Crash c.args.server) c.args.self.now c.args.server (λ setting state run legal.
    (c.where_events_are.ensures.crash setting state c.args.server run legal).0) c.requires.allowed

pub index_mut-requires : goal.index_mut-requires
index_mut-requires c =
    let below = below_servers (event.Crash c.args.server) c.args.self.now c.args.server (λ setting state run legal.
    (c.where_events_are.ensures.crash setting state c.args.server run legal).0) c.requires.allowed in
    is_within c.args.self.now below c.place_of.ensures

pub returns-clause-follows : goal.returns-clause-follows
returns-clause-follows c setting state run legal is =
    let server = c.args.server in
    let event : Event = event.Crash server in
    let old = c.args.self.now in
    let below : server < servers setting = (c.where_events_are.ensures.crash setting state server run legal).0 in
    let size : old.ring.servers ≡ servers setting = ap (λ (ring : RingShape). ring.servers) is.ring in
    let before : c.previous-before.result ≡ previous_of (servers setting) server =
    c.previous-before.ensures.same ∙ ap (λ (n : ℕ). previous_of n server) size in
    let within : c.place_of.result < length old.servers.items =
    omega (arith, below, size, old.each_server, c.place_of.ensures) in
    let link = is_link_at old c.previous-before.ensures.within c.place_of-2.ensures c.index_mut-2.ensures.value in
    let leads : next_of (servers setting) c.previous-before.result ≡ server =
    ap (next_of (servers setting)) before ∙ c.steps.ensures.next_previous (servers setting) server below in
    let stopped = c.a_receiver_stops.ensures setting state server c.previous-before.result c.index_mut-2.result.now run
    legal leads (link_stands_there link setting state is) in
    server_and_link setting state (next setting state event) (parts_of old) c.place_of.result None c.place_of-2.result
    c.clear.new.self old.entered (old.done + 1) old.propagates within link.within is
    (with_at_cases (λ (up : Bool). up ≡ false) state.up server false c.place_of.result (λ same. refl)
    (λ differs. absurd (differs c.place_of.ensures)))
    (subst (λ (n : ℕ). IsLink setting (next setting state event) n c.clear.new.self) (sym link.same)
    (subst (IsLink setting (next setting state event) c.previous-before.result) (sym c.clear.ensures) stopped))
    (λ other slot under differs stays. c.servers_beside.ensures setting state event other slot run legal
    (λ same. differs (same ∙ sym c.place_of.ensures)) stays)
    (λ other queued under differs stays. c.links_stand_still.ensures setting state event other queued run legal
    (λ same. differs (sym (c.steps.ensures.previous_next (servers setting) other under)
    ∙ (ap (previous_of (servers setting)) same ∙ (sym before ∙ sym link.same)))) stays)
    (record {
      entered_is = is.counts.entered_is;
      lines = lines_left setting.lines state.lines old.done is.counts.lines;
      propagates_is = is.counts.propagates_is;
    })
    (c.made_visits_stay.ensures setting state event old.visits.items run legal refl is.visits)

pub returns-clause-withheld : goal.returns-clause-withheld
returns-clause-withheld c =
    let old = c.args.self.now in
    let below = below_servers (event.Crash c.args.server) old c.args.server (λ setting state run legal.
    (c.where_events_are.ensures.crash setting state c.args.server run legal).0) c.requires.allowed in
    gone_withheld old.servers.items c.place_of.result (old.ring.servers - 1)
    (omega (arith, below, old.each_server, c.place_of.ensures))

pub returns-clause-down : goal.returns-clause-down
returns-clause-down c =
    let old = c.args.self.now in
    let below = below_servers (event.Crash c.args.server) old c.args.server (λ setting state run legal.
    (c.where_events_are.ensures.crash setting state c.args.server run legal).0) c.requires.allowed in
    ap head_of (is_there (is_at old below c.place_of.ensures c.index_mut.ensures.value) None)

pub returns-clause-others : goal.returns-clause-others
returns-clause-others c other differs =
    ap head_of (others_there c.args.self.now.servers.items c.place_of.result c.args.server None c.place_of.ensures other
    differs)
