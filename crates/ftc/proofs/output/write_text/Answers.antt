use Rattle.std.proofs.Common.{[]}
use Rattle.std.proofs.lemmas.Result.{on_err_weaker}
use Rattle.ftc.proofs.OutLemmas.{nothing_more, may_hold}
use Rattle.ftc.proofs.output.write_text.Goals as goal

pub returns-clause-refused : goal.returns-clause-refused
returns-clause-refused g c = λ t.
    let made = c.in_ok-make.ensures.made t in
    on_err_weaker c.append.result
    (λ cut. may_hold _ _ _ [] c.args.text.now [] c.args.text.now made (nothing_more _)
    (rw c.as_slice.ensures at cut)) (c.append.ensures.refused (c.in_ok-make.ensures.served.tells_on t))
