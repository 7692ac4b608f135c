use Rattle.std.proofs.Common.{subst}
use Rattle.ftc_workers.specs.Choices.{MayBegin}
use Rattle.ftc_workers.proofs.latch.Latch.make.Goals as goal

pub begin-requires-clause-may : goal.begin-requires-clause-may
begin-requires-clause-may g c = subst (MayBegin c.args.self.now.chain) c.in-Visit.is c.requires.may
