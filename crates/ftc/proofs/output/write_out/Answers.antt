use Rattle.std.proofs.Common.{[], rules}
use Rattle.std.proofs.lemmas.Result.{on_err_weaker}
use Rattle.ftc.proofs.OutLemmas.{begun_out}
use Rattle.ftc.proofs.output.write_out.Goals as goal

pub returns-clause-refused : goal.returns-clause-refused
returns-clause-refused g c = λ t.
    on_err_weaker c.append_records.result
    (λ held. begun_out (g.D.Desk.file c.args.desk.now c.args.name.now) (g.D.Desk.file c.make.new.self c.args.name.now)
    (g.D.Desk.file c.append_records.new.desk c.args.name.now) c.args.capture.now c.write_header.new.out
    c.as_slice.result.now c.args.released.now (c.in_ok-make.ensures.made t) (search rules) (search rules) held)
    (c.append_records.ensures.refused (c.make.ensures.served.tells_on t) [] (c.in_ok-make.ensures.made t))
