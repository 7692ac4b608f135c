-- Runs in which no server crashes and no link loses anything.
use Rattle.std.specs.Prelude.{ℕ, ◌≡◌, ◌<◌, ◌⊎◌, false, []}
use Rattle.ftc_journal.specs.declared.event.Event.{Event}
use Rattle.ftc_journal.specs.declared.event.Event.TheVariants as event
use Rattle.ftc_protocol.specs.declared.fate.Fate.TheVariants as became
use Rattle.ftc_protocol.specs.Setting.{Setting, count}
use Rattle.ftc_protocol.specs.State.{ChainState}

-- the script has no line
pub record IsQuiet (setting : Setting) : Type 0 where
  pub lines : setting.lines ≡ []
  pub loses : (link origin : ℕ) → setting.loses link origin ≡ false

-- the event is no loss on a link and no pull
abbrev pub IsQuietEvent : Event → Type 0
IsQuietEvent (event.Lose server origin) = ⊥
IsQuietEvent (event.Pull link) = ⊥
IsQuietEvent (event.Enter packet) = Unit {0}
IsQuietEvent (event.Take link origin) = Unit {0}
IsQuietEvent (event.Apply server origin group packet) = Unit {0}
IsQuietEvent (event.Visit server packet worker) = Unit {0}
IsQuietEvent (event.Pass server origin) = Unit {0}
IsQuietEvent (event.Carry origin) = Unit {0}
IsQuietEvent (event.Crash server) = Unit {0}
IsQuietEvent (event.Recover server undone) = Unit {0}
IsQuietEvent (event.Propagate origin) = Unit {0}
IsQuietEvent (event.Release packet) = Unit {0}

-- each packet was released, or a middlebox dropped it
abbrev pub AreDone : Setting → ChainState → Type 0
AreDone setting state =
    (packet : ℕ) → packet < count setting →
    (state.fate packet ≡ became.Released) ⊎ ((server : ℕ) × (state.fate packet ≡ became.Filtered server))
