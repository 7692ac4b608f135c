-- The first event of a journal that isn't legal.
use Rattle.std.specs.Prelude.{ℕ, ◌≡◌, List, take, slice_get, Some}
use Rattle.ftc_journal.specs.declared.event.Event.{Event}
use Rattle.ftc_protocol.specs.Setting.{Setting}
use Rattle.ftc_protocol.specs.State.{opening}
use Rattle.ftc_protocol.specs.Legal.{IsLegal}
use Rattle.ftc_protocol.specs.Run.{IsRun, state_after}

-- the events before that place are a run, after which the event there isn't legal
pub record IsFirstIllegal (setting : Setting) (journal : List Event) (place : ℕ) : Type 0 where
  pub before : ∥ IsRun setting (take place journal) ∥₁
  pub event : Event
  pub there : slice_get journal place ≡ Some event
  pub illegal : IsLegal setting (state_after setting (opening setting) (take place journal)) event → ⊥
