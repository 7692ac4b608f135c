use Rattle.std.proofs.Common.{◌<◌, ℕ, inl, inr, refl, sym, subst, arith}
use Rattle.ftc_protocol.specs.Legal.{IsHeld}
use Rattle.ftc_protocol.specs.Jobs.{IsNoWork}
use Rattle.ftc_jobs.specs.Turn.{IsIdleAt}
use Rattle.ftc_jobs.proofs.Below.{below_next}
use Rattle.ftc_jobs.proofs.Sizes.{size_of}
use Rattle.ftc_jobs.proofs.WorkInTurn.{work_in_turn}
use Rattle.ftc_jobs.proofs.works.first_work.Goals as goal

pub returns-in-Some-clause-some : goal.returns-in-Some-clause-some
returns-in-Some-clause-some c setting state packets rest no_pull =
    let server = c.server_of.result in
    let first = c.in-Some.ensures.some setting state packets rest in
    work_in_turn setting state server first.origin no_pull
    (λ other another message held before. elim before [
      | inl lower ↦ c.loop-number.invariant setting state packets rest other
          (subst (λ (n : ℕ). other < n) c.server_of.ensures lower) another message held
      | inr same ↦ subst (λ (s : ℕ). IsNoWork setting state s another) (sym same.0)
          (first.before another message (subst (λ (s : ℕ). IsHeld state s another message) same.0 held) same.1)
    ])
    c.in-Some.job first.work

pub loop-number-preserved : goal.loop-number-preserved
loop-number-preserved c setting state packets rest =
    below_next (IsIdleAt setting state) c.loop-number.number c.server_of.result _ c.server_of.ensures (omega arith)
    (c.loop-number.invariant setting state packets rest) (c.in_default.ensures.none refl setting state packets rest)

pub returns-clause-none : goal.returns-clause-none
returns-clause-none c none setting state packets rest server origin message held =
    let size = size_of setting state c.args.network.now rest.resting in
    let below = (c.held_in_turn.ensures.holder setting state server origin message rest.resting.run held).0 in
    c.loop-number.invariant setting state packets rest server (omega arith) origin message held
