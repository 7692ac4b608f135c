-- Sets of visits that are fronts of the trace: changing visits, and with a visit each that is before it.
use Rattle.std.specs.Prelude.{ℕ, ◌≡◌, Bool, true, List, [], ◌∷◌, Some}
use Rattle.ftc_serial.specs.Entries.{Touches}
use Rattle.ftc_serial.specs.Serial.{Entry, Visited, Given}
use Rattle.ftc_protocol.specs.Setting.{Setting}
use Rattle.ftc_protocol.specs.Visits.{Visits, In}
use Rattle.ftc_protocol.specs.Changes.{Changes}
use Rattle.ftc_protocol.specs.Trace.{IsSomeVisit, IsChanging, IsBefore}
use Rattle.ftc_protocol.specs.State.{ChainState, Message}
use Rattle.ftc_protocol.specs.Known.{knows}

-- each visit of the trace stands once, and touches what it changes
abbrev pub AreApart : ℕ → List Entry → Type 0
AreApart partitions [] = Unit {0}
AreApart partitions (Visited server packet outcome ∷ older) =
    (IsSomeVisit older server packet → ⊥)
    × ((partition : ℕ) → Changes partitions outcome partition → Touches partitions outcome partition)
    × AreApart partitions older
AreApart partitions (Given packet bytes ∷ older) = AreApart partitions older

-- with a visit of the middlebox the set, which goes by their packets, has each that is before it
pub record IsClosed (partitions : ℕ) (trace : List Entry) (server : ℕ) (packets : ℕ → Bool) : Type 0 where
  pub before : (packet other : ℕ) → packets other ≡ true → IsBefore partitions trace server packet other →
      packets packet ≡ true

pub record IsFront (setting : Setting) (state : ChainState) (visits : Visits) : Type 0 where
  pub closed : (group : ℕ) → IsClosed setting.partitions state.trace group (visits group)
  pub there : (group packet : ℕ) → In visits group packet → IsChanging setting.partitions state.trace group packet

-- the lists of the servers, what they know and what messages tell are fronts
pub record AreFronts (setting : Setting) (state : ChainState) : Type 0 where
  pub visits : AreApart setting.partitions state.trace
  pub lists : (server : ℕ) → IsFront setting state (state.lists server)
  pub known : (server : ℕ) → IsFront setting state (state.known server)
  pub knows : (server : ℕ) → IsFront setting state (knows setting state server)
  pub told : (origin : ℕ) (message : Message) → state.message origin ≡ Some message →
      IsFront setting state message.known
