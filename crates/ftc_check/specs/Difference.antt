-- Where two texts differ.
use Rattle.std.specs.Prelude.{ℕ, ◌≡◌, ◌≢◌, List, take, slice_get}

-- The same bytes stand before that place, and there the texts have different bytes, or just one of them has a byte.
pub record IsFirstDifference (one other : List ℕ) (place : ℕ) : Type 0 where
  pub front : take place one ≡ take place other
  pub there : slice_get one place ≢ slice_get other place
