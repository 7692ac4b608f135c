-- all calls so far answered Ok
use Rattle.ftc_workers.proofs.beside.write_rest.Given as goal

abbrev pub invariant-loop : goal.invariant-loop
invariant-loop g l = g.S.Sink.kept l.fn.sink l.sink × g.S.Sink.went l.fn.sink l.sink

abbrev pub decreases-loop : goal.decreases-loop
decreases-loop g l = g.S.Sink.room l.sink
