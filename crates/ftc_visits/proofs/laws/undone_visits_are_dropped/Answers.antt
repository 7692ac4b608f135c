use Rattle.std.proofs.Common.{◌≡◌, List, filter, sym, subst}
use Rattle.ftc_journal.specs.declared.event.Event.TheVariants as event
use Rattle.ftc_journal.specs.declared.event.VisitName.{VisitName}
use Rattle.ftc_protocol.specs.Recovery.{visits_in}
use Rattle.ftc_serial.specs.Trace.{names}
use Rattle.ftc_visits.proofs.Dropping.{names_left, each_left}
use Rattle.ftc_visits.proofs.laws.undone_visits_are_dropped.Goals as goal

pub returns : goal.returns
returns c setting state server undone visits run legal are =
    let order = subst (λ (list : List VisitName). list
    ≡ filter (λ (name : VisitName). names list name.server name.packet) (visits_in state.trace)) (sym legal.0.1)
    (c.what_is_undone.ensures.order setting state server) in
    record {
      names = names_left setting.partitions state.trace undone visits are.names order;
      each = each_left setting.partitions state.trace undone visits are.names order
          (λ group packet marks. c.logs_last.ensures.need setting state
          (event.Recover server undone) group packet marks run legal)
          are.each;
    }
