use Rattle.std.proofs.Common.{◌∙◌, ap}
use Rattle.ftc_server.specs.Replicas.{may_rise}
use Rattle.ftc_refinement.proofs.RisingNumbers.{set_may_rise}
use Rattle.ftc_refinement.proofs.conditions.applying.what_a_commit_wants.Goals as goal

pub returns : goal.returns
returns c setting state server old run is fewer =
    ap may_rise is.stands.replicas.own.vector
    ∙ set_may_rise c.rising.ensures c.numbers_order.ensures.few c.trace_short.ensures c.losses.ensures.counted setting
    state
    run fewer server (state.lists server server)
