use Rattle.std.proofs.Common.{◌≡◌, arith}
use Rattle.ftc_jobs.proofs.all.may_carry_at.Goals as goal

pub returns : goal.returns
returns c setting state rest =
    let says = c.may_carry.ensures setting state rest in
    let first : c.args.server ≡ 0 = omega (arith, c.number.ensures.same) in
    ((λ test. (first, says.0 test)), (λ both. says.1 both.1))
