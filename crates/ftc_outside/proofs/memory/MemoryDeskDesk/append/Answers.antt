use Rattle.std.proofs.Common.{arith}
use Rattle.std.proofs.lemmas.Map.Text.{text_keys}
use Rattle.ftc_base.proofs.Results.{on_any_err}
use Rattle.ftc_outside.proofs.memory.MemoryDeskDesk.append.Goals as goal

pub returns-in_err-append-clause-others : goal.returns-in_err-append-clause-others
returns-in_err-append-clause-others c = λ _ q ne. grind (arith, text_keys)

pub returns-in-Some-clause-others : goal.returns-in-Some-clause-others
returns-in-Some-clause-others c = λ _ q ne. grind (arith, text_keys)

pub returns-in_err-append-clause-unchanged : goal.returns-in_err-append-clause-unchanged
returns-in_err-append-clause-unchanged c = on_any_err c.from_residual.result _ (λ q. grind (arith, text_keys))
