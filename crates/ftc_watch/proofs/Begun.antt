-- A watch at its start.
use Rattle.std.proofs.Common.{◌≡◌, ℕ, zero, suc, false, [], refl, ap}
use Rattle.std.specs.Prelude.{not, replicate, slice_index}
use Rattle.ftc_base.specs.Sets.{has}
use Rattle.ftc_watch.specs.Watch.{at_start}
use Rattle.ftc_watch.specs.Watcher.{Kept, known}

-- each of so many counts is 0
pub none_missed : (count server : ℕ) → slice_index (replicate count 0) server ≡ 0
none_missed zero server = refl
none_missed (suc count) zero = refl
none_missed (suc count) (suc server) = none_missed count server

pub begun : (kept : Kept) → ((server : ℕ) → has kept.down server ≡ false) →
    ((server : ℕ) → slice_index kept.missed server ≡ 0) → kept.script ≡ [] → kept.held ≡ [] → known kept ≡ at_start
begun kept down missed script held = λ i. record {
  live = λ server. ap not (down server) i;
  missed = λ server. missed server i;
  script = script i;
  held = held i;
}
