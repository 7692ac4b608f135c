-- Runs of the protocol.
use Rattle.std.specs.Prelude.{◌≡◌, List, [], ◌∷◌}
use Rattle.ftc_journal.specs.declared.event.Event.{Event}
use Rattle.ftc_protocol.specs.Setting.{Setting, IsSetting}
use Rattle.ftc_protocol.specs.State.{ChainState, opening}
use Rattle.ftc_protocol.specs.Legal.{IsLegal}
use Rattle.ftc_protocol.specs.Next.{next}

-- the state after these events, one after another
abbrev pub state_after : Setting → ChainState → List Event → ChainState
state_after setting state [] = state
state_after setting state (event ∷ events) = state_after setting (next setting state event) events

-- each event is legal after those before it
abbrev pub AreLegal : Setting → ChainState → List Event → Type 0
AreLegal setting state [] = Unit {0}
AreLegal setting state (event ∷ events) =
    IsLegal setting state event × AreLegal setting (next setting state event) events

-- a journal is a run where that is so from the opening state
abbrev pub IsRun : Setting → List Event → Type 0
IsRun setting journal = AreLegal setting (opening setting) journal

-- and finished where no event is legal after it
abbrev pub IsFinished : Setting → ChainState → Type 0
IsFinished setting state = (event : Event) → IsLegal setting state event → ⊥

-- a run of such a chain, packets and script leads to the state
pub record IsRunState (setting : Setting) (state : ChainState) : Type 0 where
  pub right : IsSetting setting
  pub journal : List Event
  pub run : IsRun setting journal
  pub reaches : state_after setting (opening setting) journal ≡ state
