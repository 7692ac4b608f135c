-- all calls so far answered Ok
use Rattle.ftc_workers.proofs.beside.write_while.Given as goal

abbrev pub invariant-loop : goal.invariant-loop
invariant-loop g l = g.S.Sink.kept l.fn.sink l.sink × g.S.Sink.went l.fn.sink l.sink
