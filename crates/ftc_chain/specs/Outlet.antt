-- Released packets, of which some were taken out.
use Rattle.std.specs.Prelude.{ℕ, ◌≡◌, ◌++◌, List, length}
use Rattle.ftc_base.specs.declared.released.Released.{Released}

-- those that weren't taken out yet, in the order of their release, for how many more there is room, and how many were
-- taken out
pub record Outgoing : Type 0 where
  pub waiting : List Released
  pub spare : ℕ
  pub drained : ℕ

-- what was taken out and what waits is, in order, what was released
pub record IsOutlet (released : List Released) (outlet : Outgoing) : Type 0 where
  pub drained : List Released
  pub count : length drained ≡ outlet.drained
  pub parts : released ≡ drained ++ outlet.waiting
