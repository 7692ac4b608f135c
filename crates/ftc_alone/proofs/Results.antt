-- What runs are.
use Rattle.std.proofs.Common.{◌≡◌}
use Rattle.std.proofs.Math.Logic.{∥∥₁_elim}
use Rattle.std.specs.Coded.{Coded-set}
use Rattle.ftc_chain.specs.declared.chain.Chain.{the_code}
use Rattle.ftc_chain.specs.ChainRun.{ChainRun}

-- that two runs are the same is a proposition
pub same_run : {Fact : Type 0} (one other : ChainRun) → ∥ Fact ∥₁ → (Fact → one ≡ other) → one ≡ other
same_run one other fact from = ∥∥₁_elim fact (Coded-set the_code one other) from
