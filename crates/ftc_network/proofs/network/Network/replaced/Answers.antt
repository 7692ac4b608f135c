use Rattle.std.proofs.Common.{◌<◌, ℕ, subst, arith}
use Rattle.ftc_protocol.specs.Setting.{servers}
use Rattle.ftc_refinement.specs.Contents.{IsServerAt}
use Rattle.ftc_network.specs.Parts.{parts_of}
use Rattle.ftc_network.specs.Reviving.{got_of}
use Rattle.ftc_network.proofs.GotReplicas.{got_keys}
use Rattle.ftc_network.proofs.NearServers.{within_ring, within_setting, near_live, previous_is, following_is, up_at}
use Rattle.ftc_network.proofs.Untold.{is_below, is_same}
use Rattle.ftc_network.proofs.network.Network.replaced.Goals as goal

pub revived-requires-clause-server : goal.revived-requires-clause-server
revived-requires-clause-server c =
    is_below c.args.server c.args.self.now.ring.servers c.requires.allowed (λ given.
    within_ring given.setting given.state (parts_of c.args.self.now) given.stands c.args.server
    ((c.order_of_a_state.ensures given.setting given.state given.run).recoveries given.state.entered c.args.server
    given.line).0)

pub revived-requires-clause-previous : goal.revived-requires-clause-previous
revived-requires-clause-previous c =
    let near = c.args.near.now in
    let previous = c.live-previous.result.now in
    is_below previous.id c.args.self.now.ring.servers c.requires.allowed (λ given.
    let below = within_setting given.setting given.state (parts_of c.args.self.now) given.stands near.previous
    c.requires.near.before.within in
    let up = up_at given.setting given.state (parts_of c.args.self.now) given.stands near.previous previous below
    c.live-previous.ensures in
    omega (arith, up.at.number_is, c.requires.near.before.within))

pub revived-requires-clause-own : goal.revived-requires-clause-own
revived-requires-clause-own c =
    let near = c.args.near.now in
    let old = c.args.self.now in
    let server = c.args.server in
    let previous = c.live-previous.result.now in
    let following = c.live-following.result.now in
    is_same (got_of old.ring server previous following server).partitions old.partitions c.requires.allowed (λ given.
    let below = ((c.order_of_a_state.ensures given.setting given.state given.run).recoveries given.state.entered server
    given.line).0 in
    let before = up_at given.setting given.state (parts_of old) given.stands near.previous previous
    (within_setting given.setting given.state (parts_of old) given.stands near.previous c.requires.near.before.within)
    c.live-previous.ensures in
    let after = up_at given.setting given.state (parts_of old) given.stands near.following following
    (within_setting given.setting given.state (parts_of old) given.stands near.following c.requires.near.after.within)
    c.live-following.ensures in
    got_keys given.setting given.state old.ring server near.previous near.following previous following before.at
    after.at server
    old.partitions below given.stands.partitions)

pub returns-clause-undone : goal.returns-clause-undone
returns-clause-undone c setting state run line is =
    let server = c.args.server in
    let near = c.args.near.now in
    let old = c.args.self.now in
    let below : server < servers setting =
    ((c.order_of_a_state.ensures setting state run).recoveries state.entered server line).0 in
    let live = near_live setting state (parts_of old) is server near.previous near.following c.requires.near in
    let after = up_at setting state (parts_of old) is near.following c.live-following.result.now live.after.within
    c.live-following.ensures in
    c.in_ok-undone.ensures setting state server run line
    (previous_is setting state server near.previous
    ((c.the_live.ensures.before_found (servers setting) state.up server near.previous below).1 live.before))
    (subst (λ (n : ℕ). IsServerAt setting state n c.live-following.result.now)
    (following_is setting state server near.following
    ((c.the_live.ensures.after_found (servers setting) state.up server near.following below).1 live.after)) after.at)
    is.visits
