use Rattle.std.proofs.Common.{sym, rules}
use Rattle.ftc_packet.specs.Flow.{IsFlow, flow_in}
use Rattle.ftc_packet.proofs.FlowsFound.{flow_found-none, flow_found-some}
use Rattle.ftc_packet.proofs.flow.flow_of.Goals as goal

pub returns-then-not-is_flow-clause-computed : goal.returns-then-not-is_flow-clause-computed
returns-then-not-is_flow-clause-computed c =
    let other : ¬ IsFlow c.args.bytes.now = search rules in
    sym (flow_found-none c.args.bytes.now other)

pub returns-clause-computed : goal.returns-clause-computed
unfolding flow_in
returns-clause-computed c =
    let bytes = c.args.bytes.now in
    let flow : IsFlow bytes = search rules in
    let found = flow_found-some bytes flow in
    cc
