use Rattle.std.proofs.Common.{◌-◌, ◌∙◌, ℕ, refl, sym, ap, subst, arith, true, false, ◌≡◌, Option}
use Rattle.std.proofs.Math.Bool.{Bool-set}
use Rattle.std.proofs.Math.Logic.{∥∥₁_elim}
use Rattle.ftc_journal.specs.declared.event.Event.{Event}
use Rattle.ftc_journal.specs.declared.event.Event.TheVariants as event
use Rattle.ftc_protocol.specs.Legal.{IsLegal}
use Rattle.ftc_protocol.specs.Next.{next}
use Rattle.ftc_protocol.specs.Recovery.{previous_live, following_live}
use Rattle.ftc_protocol.specs.Setting.{servers, shape}
use Rattle.ftc_refinement.specs.Contents.{IsServerAt}
use Rattle.ftc_ring.specs.Live.{IsAlone, IsLiveBefore, IsLiveAfter}
use Rattle.ftc_ring.specs.Ring.{RingShape}
use Rattle.ftc_standing.specs.Stand.{IsLink}
use Rattle.ftc_visits.specs.Made.{AreMade}
use Rattle.ftc_network.specs.Parts.{parts_of, server_in, link_in}
use Rattle.ftc_network.specs.Recovering.{is_up, cut_off}
use Rattle.ftc_network.specs.Reviving.{got_of, all_fetched}
use Rattle.ftc_network.specs.Stand.{IsSlot}
use Rattle.ftc_network.proofs.GotReplicas.{sources_are, anew_in, are_got}
use Rattle.ftc_network.proofs.NearServers.{alone_by, some_of, up_in, within_ring, within_setting, near_live}
use Rattle.ftc_network.proofs.NearServers.{previous_is, following_is, up_at}
use Rattle.ftc_network.proofs.ReadySlots.{idle_ready}
use Rattle.ftc_network.proofs.Replaced.{slot_ready, each_replaced, fewer_withheld, up_again, slot_dropped, link_cut}
use Rattle.ftc_network.proofs.Replaced.{other_heads}
use Rattle.ftc_network.proofs.ScriptLines.{lines_left}
use Rattle.ftc_network.proofs.Untold.{is_below}
use Rattle.ftc_server.specs.declared.server.Server.{Server}
use Rattle.ftc_network.specs.Slots.{head_of, IsIdleHead}
use Rattle.ftc_network.proofs.network.Network.recover.Goals as goal

pub neighbours-requires : goal.neighbours-requires
neighbours-requires c =
    is_below c.args.server c.args.self.now.ring.servers c.requires.allowed (λ given.
    within_ring given.setting given.state (parts_of c.args.self.now) given.stands c.args.server
    ((c.order_of_a_state.ensures given.setting given.state given.run).recoveries given.state.entered c.args.server
    given.line).0)

pub returns-in_default-clause-ok : goal.returns-in_default-clause-ok
returns-in_default-clause-ok c setting state run due line rule is =
    let server = c.args.server in
    let up = is_up c.args.self.now.servers.items in
    let orderly = c.order_of_a_state.ensures setting state run in
    let down = orderly.recoveries state.entered server line in
    absurd (c.the_live.ensures.admissible_not_alone (shape setting) state.up server down.0 down.1 orderly.admissible
    (alone_by (servers setting) up state.up server (up_in setting state (parts_of c.args.self.now) is)
    (subst (λ (ring : RingShape). IsAlone ring.servers up server) is.ring (c.in_default.ensures.none refl))))

pub replace-requires-clause-server : goal.replace-requires-clause-server
replace-requires-clause-server c =
    let old = c.args.self.now in
    let below = is_below c.args.server old.ring.servers c.requires.allowed (λ given.
    within_ring given.setting given.state (parts_of old) given.stands c.args.server
    ((c.order_of_a_state.ensures given.setting given.state given.run).recoveries given.state.entered c.args.server
    given.line).0) in
    omega (arith, below, old.each_server)

pub replace-requires-clause-ready : goal.replace-requires-clause-ready
replace-requires-clause-ready c =
    let old = c.args.self.now in
    let following = c.in-Some.near.following in
    ∥∥₁_elim c.requires.allowed (Bool-set _ _) (λ given.
    slot_ready given.setting given.state following (server_in old.servers.items following)
    (given.stands.servers_are following
    (within_setting given.setting given.state
    (parts_of old) given.stands following c.in-Some.ensures.some.after.within)))

pub returns-clause-ok : goal.returns-clause-ok
returns-clause-ok c setting state run due line rule is =
    let server = c.args.server in
    let old = c.args.self.now in
    let near = c.in-Some.near in
    let undone = c.in_ok-undone.undone in
    let made = c.in_ok-undone.new in
    let event : Event = event.Recover server undone in
    let after = next setting state event in
    let undone_is = c.in_ok-undone.ensures.undone setting state run line is in
    let legal : IsLegal setting state event = ((line, undone_is), λ other. due) in
    let down = c.where_events_are.ensures.recover setting state server undone run legal in
    let behind = c.where_events_are.ensures.following setting state server undone run legal in
    let live = near_live setting state (parts_of old) is server near.previous near.following c.in-Some.ensures.some in
    let before_is = previous_is setting state server near.previous
    ((c.the_live.ensures.before_found (servers setting) state.up server near.previous down.0).1 live.before) in
    let after_is = following_is setting state server near.following
    ((c.the_live.ensures.after_found (servers setting) state.up server near.following down.0).1 live.after) in
    let previous = some_of (server_in old.servers.items near.previous) c.in-Some.ensures.some.before.up in
    let following = some_of (server_in old.servers.items near.following) c.in-Some.ensures.some.after.up in
    let first : IsServerAt setting state (previous_live setting state server) previous.0 =
    subst (λ (n : ℕ). IsServerAt setting state n previous.0) before_is
    (up_at setting state (parts_of old) is near.previous previous.0 live.before.within previous.1).at in
    let last : IsServerAt setting state (following_live setting state server) following.0 =
    subst (λ (n : ℕ). IsServerAt setting state n following.0) after_is
    (up_at setting state (parts_of old) is near.following following.0 live.after.within following.1).at in
    let orderly = c.order_of_a_state.ensures setting state run in
    let sources = sources_are setting state server orderly.admissible down.0 down.1
    (subst (IsLiveBefore (servers setting) state.up server) before_is live.before)
    (subst (IsLiveAfter (servers setting) state.up server) after_is live.after)
    c.recoveries.ensures.from_before c.recoveries.ensures.from_after c.recoveries.ensures.after_is_member in
    let anew = anew_in setting server c.args.rule.now previous.0 following.0 made old.ring old.partitions is.ring rule
    is.partitions (c.in_ok-undone.ensures.new previous.0 following.0 previous.1 following.1) in
    record {
      undone_is = undone_is;
      stands = record {
        ring = is.ring;
        partitions = is.partitions;
        servers_are = each_replaced old.servers.items c.replace.new.servers.items server near.following made
            c.replace.ensures live.after.other (IsSlot setting state) (IsSlot setting after) (servers setting)
            is.servers_are
            (record {
              up = up_again setting state server undone;
              at = c.what_revive_makes.ensures setting state server undone previous.0 following.0 made
                  (got_of (shape setting) server previous.0 following.0 server)
                  (all_fetched (shape setting) server previous.0 following.0) run legal down.0 first last
                  (are_got setting state server previous.0 following.0 down.0 first last sources) anew;
              ready = idle_ready made anew.idle;
            })
            (λ done. subst (λ (n : ℕ). IsSlot setting after n (server_in c.replace.new.servers.items near.following))
            (sym after_is)
            (slot_dropped setting state server undone (server_in old.servers.items near.following)
            (server_in c.replace.new.servers.items near.following)
            (λ before later at has_dropped. c.what_drop_unready_does.ensures setting state server undone before later
            run legal behind.1 at has_dropped)
            (λ before later at at_after only ready. c.slots_stay_ready.ensures setting state event
            (following_live setting state server) before later run legal at at_after only ready) behind.2
            (subst (λ (n : ℕ). IsSlot setting state n (server_in old.servers.items near.following)) after_is
            (is.servers_are near.following live.after.within)) done))
            (λ number slot differs apart stays. c.servers_beside.ensures setting state event number slot run legal
            (differs, λ same. apart (same ∙ sym after_is)) stays);
        links_are = λ link below. subst (IsLink setting after link)
            (sym (c.cut_off.ensures.each link (within_ring setting state (parts_of old) is link below)
            ∙ ap (λ (ring : RingShape). cut_off ring.servers server near.following link
            (link_in old.links.items link)) is.ring))
            (link_cut setting state server undone near.following link (link_in old.links.items link) after_is
            (λ gap into same stands. c.a_server_is_replaced.ensures.emptied setting state server link undone
            (link_in old.links.items link) gap run legal into same stands)
            (λ gap others same stands. c.a_server_is_replaced.ensures.link setting state server link undone
            (link_in old.links.items link) gap run legal others same stands)
            (is.links_are link below));
        counts = record {
          entered_is = is.counts.entered_is;
          lines = lines_left setting.lines state.lines old.done is.counts.lines;
          propagates_is = is.counts.propagates_is;
        };
        visits = subst (AreMade setting after) (sym c.drop_undone.ensures.items)
            (c.undone_visits_are_dropped.ensures setting state server undone old.visits.items run legal is.visits);
      };
    }

pub returns-clause-withheld : goal.returns-clause-withheld
returns-clause-withheld c =
    let old = c.args.self.now in
    let near = c.in-Some.ensures.some in
    let previous = some_of (server_in old.servers.items c.in-Some.near.previous) near.before.up in
    let following = some_of (server_in old.servers.items c.in-Some.near.following) near.after.up in
    let anew = c.in_ok-undone.ensures.new previous.0 following.0 previous.1 following.1 in
    fewer_withheld old.servers.items c.replace.new.servers.items c.args.server c.in-Some.near.following
    c.in_ok-undone.new
    c.replace.ensures near.after.other anew.buffer (old.ring.servers - 1)

pub returns-in_default-clause-anew : goal.returns-in_default-clause-anew
returns-in_default-clause-anew c =
    let server = c.args.server in
    let old = c.args.self.now in
    let up = is_up old.servers.items in
    let both : true ≡ false = ∥∥₁_elim c.requires.allowed (Bool-set _ _) (λ given.
    let orderly = c.order_of_a_state.ensures given.setting given.state given.run in
    let down = orderly.recoveries given.state.entered server given.line in
    absurd (c.the_live.ensures.admissible_not_alone (shape given.setting) given.state.up server down.0 down.1
    orderly.admissible
    (alone_by (servers given.setting) up given.state.up server
    (up_in given.setting given.state (parts_of old) given.stands)
    (subst (λ (ring : RingShape). IsAlone ring.servers up server) given.stands.ring
    (c.in_default.ensures.none refl))))) in
    absurd cc

pub returns-clause-anew : goal.returns-clause-anew
returns-clause-anew c =
    let old = c.args.self.now in
    let near = c.in-Some.ensures.some in
    let previous = some_of (server_in old.servers.items c.in-Some.near.previous) near.before.up in
    let following = some_of (server_in old.servers.items c.in-Some.near.following) near.after.up in
    let anew = c.in_ok-undone.ensures.new previous.0 following.0 previous.1 following.1 in
    subst (λ (o : Option Server). IsIdleHead (head_of o)) (sym c.replace.ensures.here) anew.idle

pub returns-clause-others : goal.returns-clause-others
returns-clause-others c =
    other_heads c.args.self.now.servers.items c.replace.new.servers.items c.args.server c.in-Some.near.following
    c.in_ok-undone.new c.replace.ensures c.in-Some.ensures.some.after.other
