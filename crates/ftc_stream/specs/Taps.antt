-- Which taps are still there, and what they were told.
use Rattle.std.specs.Prelude.{◌≡◌, ◌⊎◌, ℕ, true, false, not, List, [], ◌∷◌, ◌++◌, take}
use Rattle.std.specs.List.{filter, All, AllZip}
use Rattle.ftc_base.specs.declared.released.Released.{Released}
use Rattle.ftc_outside.specs.Tap.{Face, WasTold}

-- the taps that don't leave at this record
abbrev pub staying : Released → List Face → List Face
staying one taps = filter (λ tap. not (tap.leaves one)) taps

-- a constant tap doesn't leave at this record
abbrev pub StaysIfConstant : Released → Face → Type 0
StaysIfConstant one tap = tap.constant ≡ true → tap.leaves one ≡ false

-- one record was told: those that leave at it are gone, and no constant tap is among them; each of the
-- others was told it, in their order
pub record AreTold (one : Released) (old new : List Face) : Type 0 where
  pub told : AllZip (WasTold (one ∷ [])) (staying one old) new
  pub constant : All (StaysIfConstant one) old

-- one record was told to the taps up to some place, possibly to none; the taps behind it are as they were
pub record AreToldInPart (one : Released) (old new : List Face) : Type 0 where
  pub front : List Face
  pub told : List Face
  pub rest : List Face
  pub before : old ≡ front ++ rest
  pub after : new ≡ told ++ rest
  pub front_told : AreTold one front told

-- each tap is gone, if it isn't constant, or was told these records, in their order
abbrev pub AreLeft : List Released → List Face → List Face → Type 0
AreLeft records [] new = new ≡ []
AreLeft records (tap ∷ taps) new =
    ((tap.constant ≡ false) × AreLeft records taps new)
    ⊎ ((after : Face) × (rest : List Face)
    × (new ≡ after ∷ rest) × WasTold records tap after × AreLeft records taps rest)

-- the same, and then one record more was told to the taps up to some place, possibly to none
abbrev pub AreLeftInPart : List Released → List Face → List Face → Type 0
AreLeftInPart records old new =
    (one : Released) × (between : List Face) × AreLeft records old between × AreToldInPart one between new

-- some front of the records was told, and then one record more up to some place
abbrev pub AreToldShort : List Released → List Face → List Face → Type 0
AreToldShort records old new = (count : ℕ) × AreLeftInPart (take count records) old new
