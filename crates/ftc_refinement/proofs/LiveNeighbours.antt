-- The live servers before and behind one that is down.
use Rattle.std.proofs.Common.{◌≡◌, ℕ, Bool, Option, Some, None, refl}
use Rattle.std.specs.Prelude.{◌↔◌, unwrap_or}
use Rattle.ftc_ring.specs.Live.{live_before_of, live_after_of, IsLiveBefore, IsLiveAfter, IsAlone}

module _ (count : ℕ) (live : ℕ → Bool) (server : ℕ) (not_alone : IsAlone count live server → ⊥) where
  -- a search that finds nothing only where all others are down finds one
  neighbour : (Nearest : ℕ → Type 0) (found : Option ℕ) → ((found ≡ None) ↔ IsAlone count live server) →
      ((other : ℕ) → (found ≡ Some other) ↔ Nearest other) → Nearest (unwrap_or found server)
  neighbour Nearest None none some = absurd (not_alone (none.0 refl))
  neighbour Nearest (Some other) none some = (some other).0 refl

  pub before_is : ((live_before_of count live server ≡ None) ↔ IsAlone count live server) →
      ((other : ℕ) → (live_before_of count live server ≡ Some other) ↔ IsLiveBefore count live server other) →
      IsLiveBefore count live server (unwrap_or (live_before_of count live server) server)
  before_is = neighbour (IsLiveBefore count live server) (live_before_of count live server)

  pub after_is : ((live_after_of count live server ≡ None) ↔ IsAlone count live server) →
      ((other : ℕ) → (live_after_of count live server ≡ Some other) ↔ IsLiveAfter count live server other) →
      IsLiveAfter count live server (unwrap_or (live_after_of count live server) server)
  after_is = neighbour (IsLiveAfter count live server) (live_after_of count live server)
