use Rattle.ftc_base.proofs.Results.{on_any_err}
use Rattle.ftc.proofs.WriteLemmas.{whole_is_front}
use Rattle.ftc.proofs.writing.write_released.Goals as goal

pub returns-in_err-tell_all-clause-refused : goal.returns-in_err-tell_all-clause-refused
returns-in_err-tell_all-clause-refused g c = λ t.
    on_any_err c.from_residual-in_err-tell_all.result _
    (whole_is_front _ _ _ (c.in_ok-write_out.ensures.written t))
