use Rattle.std.proofs.Common.{arith}
use Rattle.ftc_vector.proofs.Held.{newly_held}
use Rattle.ftc_vector.proofs.commits.raise.Goals as goal

pub returns-then-is_new-clause-own : goal.returns-then-is_new-clause-own
returns-then-is_new-clause-own c =
    newly_held c.args.vectors.now.items c.reach.new.vectors.items c.args.group c.args.vector.now c.requires.held
    (omega (arith, c.if-is_new.true, c.len.ensures)) c.reach.ensures.own c.at.ensures.bounds
