use Rattle.std.proofs.Common.{◌≡◌, ◌++◌, ◌∷◌, [], ◌+◌, List, take, sym, subst}
use Rattle.std.proofs.Math.Logic.{∥∥₁_map, ∥∥₁_map₂}
use Rattle.ftc_base.proofs.Results.{on_any_err}
use Rattle.ftc_journal.specs.declared.event.Event.{Event}
use Rattle.ftc_chain.specs.ChainRun.{ChainRun}
use Rattle.ftc_alone.specs.Alone.{HasPlayed, HasPlayedSome}
use Rattle.ftc_alone.proofs.PlayedParts.{played_on, played_some, some_before, one_taken_more}
use Rattle.ftc_alone.proofs.playing.play_idle.Goals as goal

pub returns-in_err-play_one-clause-err : goal.returns-in_err-play_one-clause-err
returns-in_err-play_one-clause-err c =
    let first : ChainRun = c.args.chain.now in let events : List Event = c.args.schedule.now.items in
    let some : ∥ HasPlayedSome c.as_slice-event-items.result.now first c.loop-event.chain ∥₁ =
    ∥∥₁_map c.loop-event.invariant.0
    (played_some c.as_slice-event-items.result.now c.loop-event.event-index first c.loop-event.chain) in
    on_any_err c.from_residual.result (∥ HasPlayedSome events first c.play_one.new.chain ∥₁)
    (∥∥₁_map (subst (λ (es : List Event). ∥ HasPlayedSome es first c.loop-event.chain ∥₁) c.as_slice-event-items.ensures
    some)
    (some_before events first c.loop-event.chain c.play_one.new.chain c.in_err-play_one.ensures.err))

pub returns-in_err-play_one-clause-idle : goal.returns-in_err-play_one-clause-idle
returns-in_err-play_one-clause-idle c = c.play_one.ensures.idle c.loop-event.invariant.1

pub loop-event-preserved : goal.loop-event-preserved
loop-event-preserved c =
    let first : ChainRun = c.args.chain.now in let now : ChainRun = c.loop-event.chain in let new : ChainRun =
    c.play_one.new.chain in
    let items : List Event = c.as_slice-event-items.result.now in
    let taken : take (c.loop-event.event-index + 1) items ≡ take c.loop-event.event-index items ++ c.event-item.result
    ∷ [] = one_taken_more items c.loop-event.event-index c.event-item.result c.loop-event-test.true c.event-item.is
    in (
      subst (λ (es : List Event). ∥ HasPlayed es first new ∥₁) (sym taken)
          (∥∥₁_map₂ c.loop-event.invariant.0 c.in_ok-play_one.ensures.ok
          (played_on (take c.loop-event.event-index items) (c.event-item.result ∷ []) first now new)),
      c.play_one.ensures.idle c.loop-event.invariant.1,
    )
