use Rattle.std.proofs.Common.{ap, Err}
use Rattle.ftc_outside.specs.Desk.{Files}
use Rattle.ftc.proofs.MakeLemmas.{make_cut}
use Rattle.ftc.proofs.making.make_capture.Goals as goal

pub returns-clause-ends : goal.returns-clause-ends
returns-clause-ends g c = λ t.
    let old : Files = g.D.Desk.file c.args.desk.now in
    let new : Files = g.D.Desk.file c.write_made.new.desk in
    rw c.from.ensures
    (make_cut c.args.packets c.args.seed c.args.name.now old new c.in-Ok.making.bytes c.in-Ok.making.told
    c.in-Ok.ensures
    (g.D.Desk.sound c.args.desk.now) c.in-Err.error (λ s same. c.in-Err.ensures.safe t s (ap Err same))
    (c.in-Err.ensures.refused t))
