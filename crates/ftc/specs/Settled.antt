-- What the places of a serial chain say of what became of the packets of a run.
use Rattle.std.specs.Prelude.{ℕ, ◌≡◌, Option, Some, None}
use Rattle.ftc_protocol.specs.declared.fate.Fate.{Fate}
use Rattle.ftc_protocol.specs.declared.fate.Fate.TheVariants as became
use Rattle.ftc_serial.specs.declared.position.Place.{Place}
use Rattle.ftc_serial.specs.declared.position.Place.TheVariants as place
use Rattle.ftc_serial.specs.declared.position.Position.{Position}
use Rattle.ftc_serial.specs.declared.position.Position.TheVariants as position

-- The fate of a packet that ends there. None elsewhere: a packet that was lost stands still, and no place says by which
-- event that was.
abbrev pub fate_at : Place → Option Fate
fate_at place.Released = Some became.Released
fate_at (place.Filtered server) = Some (became.Filtered server)
fate_at (place.Waiting server) = None
fate_at place.Passed = None

-- These are the fates of packets that end at these places: each that left is released, and each that was dropped is
-- filtered there.
pub record AreFatesOf (places : ℕ → Option Position) (fate : ℕ → Fate) : Type 0 where
  pub released : (packet : ℕ) → places packet ≡ Some position.Released → fate packet ≡ became.Released
  pub filtered : (server packet : ℕ) → places packet ≡ Some (position.Filtered server) →
      fate packet ≡ became.Filtered server
