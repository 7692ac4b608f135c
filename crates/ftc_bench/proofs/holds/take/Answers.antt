use Rattle.std.proofs.Math.Logic.{∥∥₁_map}
use Rattle.ftc_bench.proofs.holds.take.Goals as goal

pub take_seen-requires : goal.take_seen-requires
take_seen-requires g c = ∥∥₁_map c.requires (λ is. (c.args.origin, is))
