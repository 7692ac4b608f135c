-- What the completion of OUT tells the taps.
use Rattle.std.specs.Prelude.{List}
use Rattle.ftc_base.specs.declared.released.Released.{Released}
use Rattle.ftc_outside.specs.Tap.{Face}
use Rattle.ftc_stream.specs.Taps.{AreLeft}
use Rattle.ftc.specs.Done.{AreToldAtLast}

-- Where the taps, whatever they were, were told what was put first, they are now told the released packets.
abbrev pub AreToldBehind : List Released → List Released → List Face → List Face → Type 0
AreToldBehind put released taps left =
    (first : List Face) → AreLeft put first taps → AreToldAtLast first left released
