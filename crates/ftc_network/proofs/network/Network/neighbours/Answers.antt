use Rattle.ftc_ring.specs.Live.{is_live}
use Rattle.ftc_network.specs.Recovering.{is_up}
use Rattle.ftc_network.proofs.NearServers.{before_by, after_by}
use Rattle.ftc_network.proofs.network.Network.neighbours.Goals as goal

pub returns-clause-some : goal.returns-clause-some
returns-clause-some c =
    let size = c.args.self.now.ring.servers in
    let live = is_live c.down-down.result in
    let up = is_up c.args.self.now.servers.items in
    record {
      before = before_by size live up c.args.server c.down-down.ensures c.in_ok-live_before.field-0
          c.in_ok-live_before.ensures.nearest;
      after = after_by size live up c.args.server c.down-down.ensures c.in_ok-live_after.field-0
          c.in_ok-live_after.ensures.nearest;
    }
