use Rattle.std.proofs.Common.{rules}
use Rattle.std.proofs.lemmas.Nat.{or_lt}
use Rattle.ftc_base.proofs.Members.{has-with}
use Rattle.ftc_base.proofs.sets.NumberSet.with.Goals as goal

pub returns : goal.returns
returns c = rw (← c.self.view_is) (λ member. has-with c.self.inside.bits c.args.number member c.requires)

pub invariant_of-result : goal.invariant_of-result
invariant_of-result c = or_lt 64 c.self.inside.bits _ c.self.invariant (search rules)
