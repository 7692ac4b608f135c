-- Lists of what is kept at a place, in the order in which it came there.
use Rattle.std.specs.Prelude.{ℕ, ◌≡◌, ◌<◌, ◌==◌, List, Option, Some, None}
use Rattle.std.specs.List.{find}
use Rattle.ftc_serial.specs.Words.{EachLater}

-- what is kept of that origin
abbrev pub kept_of : {A : Type 0} → (A → ℕ) → ℕ → List A → Option A
kept_of origin_of origin items = find (λ item. origin_of item == origin) items

-- there is something of an origin exactly where something is kept of it, which stands for it
abbrev pub IsKeptAs : {M A : Type 0} → (ℕ → M → A → Type 0) → ℕ → Option M → Option A → Type 0
IsKeptAs Stands origin None None = Unit {0}
IsKeptAs Stands origin None (Some item) = ⊥
IsKeptAs Stands origin (Some there) None = ⊥
IsKeptAs Stands origin (Some there) (Some item) = Stands origin there item

-- of two origins the one came before the other
abbrev pub IsSooner : {M : Type 0} → (M → ℕ) → (ℕ → Option M) → ℕ → ℕ → Type 0
IsSooner {M} since there earlier later =
    (one other : M) → there earlier ≡ Some one → there later ≡ Some other → since one < since other

-- what is there is kept, in the order of coming, and nothing else is
pub record AreArrived {M A : Type 0} (since : M → ℕ) (origin_of : A → ℕ) (Stands : ℕ → M → A → Type 0)
    (there : ℕ → Option M) (items : List A) : Type 0 where
  pub each : (origin : ℕ) → IsKeptAs Stands origin (there origin) (kept_of origin_of origin items)
  pub order : EachLater (λ earlier later. IsSooner since there (origin_of earlier) (origin_of later)) items
