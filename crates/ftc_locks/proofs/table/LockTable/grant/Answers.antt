use Rattle.std.proofs.Common.{rules, arith}
use Rattle.std.proofs.lemmas.Grind.{common_steps}
use Rattle.ftc_locks.proofs.Granted.{granted-valid}
use Rattle.ftc_locks.proofs.table.LockTable.grant.Goals as goal

pub invariant_of-self : goal.invariant_of-self
invariant_of-self c = (
  granted-valid c.args.self.now _ c.args.worker c.args.age c.args.partition c.args.change
      (rw (← c.self.view_is) c.self.invariant.0) c.requires.within c.requires.free c.requires.age_differs
      (search rules) (search rules) (search rules) (search rules)
      (λ w p. grind (arith, common_steps)) (λ w p. grind (arith, common_steps)) (search rules)
      (λ w apart. search rules),
  search rules,
)
