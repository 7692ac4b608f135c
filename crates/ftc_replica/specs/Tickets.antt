-- The tickets of waits.
use Rattle.std.specs.Prelude.{ℕ, Bool, true, false, ◌≡◌, ◌<◌, ◌≤◌, List, Option, Some, None, map}
use Rattle.std.specs.List.{All, AllPairs, count_by}
use Rattle.ftc_replica.specs.declared.awaited.Number.{Number}
use Rattle.ftc_replica.specs.declared.awaited.Queue.{Queue}
use Rattle.ftc_replica.specs.declared.waits.Wait.{Wait}
use Rattle.ftc_replica.specs.declared.waits.Ticketed.{Ticketed}
use Rattle.ftc_replica.specs.Waiting.{waits_for}
use Rattle.ftc_replica.specs.Awaited.{found}

abbrev pub waits_of : List Ticketed → List Wait
waits_of held = map (λ (one : Ticketed). one.wait) held

abbrev pub waits_for_number : Number → Ticketed → Bool
waits_for_number number one = waits_for number.group number.partition number.number one.wait

-- what is noted of a number is so: how many wait for it, and that none of them has a lower ticket
abbrev pub IsSo : List Ticketed → ℕ → Number → Option Queue → Type 0
IsSo held next number None = count_by (waits_for_number number) held ≡ 0
IsSo held next number (Some queue) =
    (count_by (waits_for_number number) held ≡ queue.count)
    × (queue.from ≤ next)
    × All (λ (one : Ticketed). one.ticket < queue.from → waits_for_number number one ≡ false) held

-- tickets rise up to the next, and each number that is waited for is noted
pub record AreTicketed (held : List Ticketed) (next : ℕ) (is_noted : Bool) (numbers : List (Number × Queue))
    : Type 0 where
  pub rise : AllPairs (λ (one two : Ticketed). one.ticket ≤ two.ticket) held
  pub below : All (λ (one : Ticketed). one.ticket ≤ next) held
  pub noted : is_noted ≡ true → (number : Number) → IsSo held next number (found numbers number)
