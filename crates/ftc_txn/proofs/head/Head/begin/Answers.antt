use Rattle.std.proofs.Common.{◌≡◌, ◌∙◌, sym}
use Rattle.std.proofs.lemmas.Bool.{cond-true, cond-false}
use Rattle.ftc_txn.specs.Head.{next_age}
use Rattle.ftc_txn.specs.contracts.head.Head.{the_view}
use Rattle.ftc_txn.proofs.KeptByCalls.{begin_keeps}
use Rattle.ftc_txn.proofs.head.Head.begin.Goals as goal
use Rattle.ftc_txn.proofs.head.Head.begin.Goals.{then-some_run, else-some_run}

pub invariant_of-self : goal.invariant_of-self
invariant_of-self c =
    let age_is : c.if-some_run.age ≡ next_age (the_view c.self.inside) = elim c.if-some_run.branch [
      | then-some_run w ↦ w.age-is ∙ sym (cond-true _ _ _ (sym c.some_run.ensures ∙ w.if-some_run.true))
      | else-some_run w ↦ w.age-is ∙ sym (cond-false _ _ _ (sym c.some_run.ensures ∙ w.if-some_run.false))
    ] in (
      c.self.invariant.0,
      c.self.invariant.1,
      rw (
        c.begin.ensures.begun,
        age_is,
      ) (begin_keeps (the_view c.self.inside) c.args.worker c.args.packet c.begin.ensures.within
          c.self.invariant.2 (rw (← c.self.view_is) at c.requires.idle)),
    )
