-- In a run that is whole each released packet has visited all middleboxes, and no packet is inside.
use Rattle.std.proofs.Common.{◌≢◌, ℕ, ◌<◌, List}
use Rattle.std.proofs.Math.Logic.{∥∥₁_map, ∥∥₁_elim}
use Rattle.ftc_journal.specs.declared.event.Event.{Event}
use Rattle.ftc_protocol.specs.declared.fate.Fate.TheVariants as became
use Rattle.ftc_protocol.specs.Setting.{Setting, IsSetting, servers, count}
use Rattle.ftc_protocol.specs.State.{opening}
use Rattle.ftc_protocol.specs.Run.{IsRun, IsFinished, state_after}
use Rattle.ftc_protocol.specs.Finish.{IsComplete}
use Rattle.ftc_protocol.specs.Whole.{ReleasedVisited}

module _ (c : Setting) (is : IsSetting c) (journal : List Event) where
  pub all_visited : ((setting : Setting) → IsSetting setting → (journal : List Event) → IsRun setting journal →
      ReleasedVisited (servers setting) journal)
      → ∥ IsRun c journal ∥₁ → ∥ ReleasedVisited (servers c) journal ∥₁
  all_visited visited run = ∥∥₁_map run (visited c is journal)

  pub none_inside : ((setting : Setting) → IsSetting setting → (journal : List Event) → IsRun setting journal →
      IsFinished setting (state_after setting (opening setting) journal) →
      IsComplete setting (state_after setting (opening setting) journal))
      → ∥ IsRun c journal ∥₁ → ∥ IsFinished c (state_after c (opening c) journal) ∥₁
      → (packet : ℕ) → packet < count c → (state_after c (opening c) journal).fate packet ≢ became.Inside
  none_inside complete run finished packet below inside =
      ∥∥₁_elim run (λ x y. absurd x)
      (λ legal. ∥∥₁_elim finished (λ x y. absurd x)
      (λ ends. (complete c is journal legal ends).fates packet below inside))
