use Rattle.std.proofs.Common.{◌<◌, ◌^◌, ◌-◌, ℕ, subst}
use Rattle.ftc_server.proofs.Numbers.{all_below}
use Rattle.ftc_server.proofs.laws.rising.Goals as goal

pub returns : goal.returns
returns c vector size each = all_below (2 ^ 64 - 1) vector (λ k within. each k (subst (λ (n : ℕ). k < n) size within))
