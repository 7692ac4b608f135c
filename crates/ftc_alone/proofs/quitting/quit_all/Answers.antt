use Rattle.std.proofs.Common.{◌≡◌, ◌∙◌, ◌≢◌, inl, inr, sym, subst, arith}
use Rattle.std.proofs.lemmas.Bool.{cases_eq}
use Rattle.std.proofs.lemmas.Grind.{common_steps}
use Rattle.ftc_chain.specs.Slots.{IsIdle}
use Rattle.ftc_alone.proofs.IdleRuns.{but_on}
use Rattle.ftc_alone.proofs.quitting.quit_all.Goals as goal

pub loop-slot-preserved : goal.loop-slot-preserved
loop-slot-preserved c =
    let is = c.loop-slot.invariant in
    let now = c.loop-slot.chain in
    let new = c.quit.new.self in
    let slot = c.loop-slot.slot in
    let this : c.unwrap.result ≡ slot = grind (arith, common_steps) in (
      (λ worker below. elim (cases_eq worker slot) [
        | inl same ↦ subst (IsIdle new) (this ∙ sym same) c.quit.ensures.idle
        | inr differs ↦ c.quit.ensures.still worker
            (is.0 worker (let apart : worker ≢ slot = differs in omega (arith, below, apart)))
      ]),
      but_on c.args.chain.now now new is.1 c.quit.ensures.quits.rest,
    )
