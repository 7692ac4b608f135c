-- Beats that are accepted for a ring and a count of packets.
use Rattle.std.specs.Prelude.{◌≡◌, ℕ, ◌≤◌, ◌<◌, true, List, [], ◌∷◌, length}
use Rattle.ftc_base.specs.Sets.{has}
use Rattle.ftc_ring.specs.Ring.{RingShape, IsRing}
use Rattle.ftc_watch.specs.declared.limits.TheConstants.{MOST_BEATS}
use Rattle.ftc_watch.specs.declared.tick.Tick.{Tick}

pub record BeatsShape : Type 0 where
  pub ring : RingShape
  pub packets : ℕ
  pub ticks : List Tick

-- a tick of servers of so many, not before the last one, when no more packets have entered than there are
pub record IsTick (servers packets last : ℕ) (tick : Tick) : Type 0 where
  pub ordered : last ≤ tick.at
  pub entered : tick.at ≤ packets
  pub within : (server : ℕ) → has tick.servers server ≡ true → server < servers

abbrev pub AreTicks : ℕ → ℕ → ℕ → List Tick → Type 0
AreTicks servers packets last [] = Unit {0}
AreTicks servers packets last (tick ∷ ticks) = IsTick servers packets last tick × AreTicks servers packets tick.at ticks

pub record IsBeats (beats : BeatsShape) : Type 0 where
  pub ring : IsRing beats.ring
  pub few : length beats.ticks ≤ MOST_BEATS
  pub ticks : AreTicks beats.ring.servers beats.packets 0 beats.ticks
