use Rattle.std.proofs.Common.{◌∙◌, ℕ, sym, arith}
use Rattle.ftc_protocol.specs.Legal.{IsHeld}
use Rattle.ftc_protocol.specs.State.{Message}
use Rattle.ftc_jobs.specs.All.{is_running_by}
use Rattle.ftc_jobs.specs.Beside.{IsUnwanted}
use Rattle.ftc_jobs.proofs.Below.{below_next}
use Rattle.ftc_jobs.proofs.Sizes.{size_of}
use Rattle.ftc_jobs.proofs.beside.wanted_work.Goals as goal

pub loop-number-preserved : goal.loop-number-preserved
loop-number-preserved c setting state packets rest =
    below_next (λ (server : ℕ). (origin : ℕ) (message : Message) → IsHeld state server origin message →
    IsUnwanted c.args.visits (is_running_by c.args.network.now) setting state server origin)
    c.loop-number.number c.server_of.result _ c.server_of.ensures (omega arith)
    (c.loop-number.invariant setting state packets rest)
    (c.wanted_at-wanted.ensures.none (sym c.is_some.ensures ∙ c.if-is_some.false) setting state packets rest)

pub returns-clause-none : goal.returns-clause-none
returns-clause-none c none setting state packets rest server origin message held =
    let size = size_of setting state c.args.network.now rest.resting in
    let below = (c.held_in_turn.ensures.holder setting state server origin message rest.resting.run held).0 in
    c.loop-number.invariant setting state packets rest server (omega arith) origin message held
