-- One link on and one link back, by distance.
use Rattle.std.proofs.Common.{◌≡◌, ℕ, ◌+◌, ◌<◌, ◌≤◌, ◌==◌, ◌⊎◌, arith}
use Rattle.std.proofs.lemmas.Bool.Decides.{nat_tests}
use Rattle.ftc_ring.specs.Ring.{RingShape, IsRing, apart, next_of, previous_of}
use Rattle.ftc_ring.specs.Groups.{group_ending_at}

pub apart_cases : (n a b : ℕ) → a < n → b < n → ((a ≤ b) × (apart n a b + a ≡ b))
    ⊎ ((b < a) × (apart n a b + a ≡ b + n))
apart_cases n a b la lb = grind (arith, nat_tests)

pub apart_within : (n a b : ℕ) → a < n → b < n → apart n a b < n
apart_within n a b la lb = let c = apart_cases n a b la lb in omega arith

pub same_end : (n a b c : ℕ) → a < n → b < n → c < n → apart n a b ≡ apart n a c → b ≡ c
same_end n a b c la lb lc e = let x = apart_cases n a b la lb in let y = apart_cases n a c la lc in omega arith

pub same_start : (n a b c : ℕ) → a < n → b < n → c < n → apart n a c ≡ apart n b c → a ≡ b
same_start n a b c la lb lc e = let x = apart_cases n a c la lc in let y = apart_cases n b c lb lc in omega arith

pub next_within : (n k : ℕ) → k < n → next_of n k < n
next_within n k lk = grind (arith, nat_tests)

pub previous_within : (n k : ℕ) → k < n → previous_of n k < n
previous_within n k lk = grind (arith, nat_tests)

pub next_farther : (n j k : ℕ) → j < n → k < n → apart n j k + 1 < n → apart n j (next_of n k) ≡ apart n j k + 1
next_farther n j k lj lk more = grind (arith, nat_tests)

pub previous_farther : (n j k : ℕ) → j < n → k < n → apart n j k + 1 < n → apart n (previous_of n j) k ≡ apart n j k + 1
previous_farther n j k lj lk more = grind (arith, nat_tests)

pub next_itself : (n k : ℕ) → k < n → 1 < n → apart n k (next_of n k) ≡ 1
next_itself n k lk more = grind (arith, nat_tests)

pub previous_itself : (n k : ℕ) → k < n → 1 < n → apart n (previous_of n k) k ≡ 1
previous_itself n k lk more = grind (arith, nat_tests)

pub itself : (n k : ℕ) → apart n k k ≡ 0
itself n k = grind (arith, nat_tests)

-- a server is the last member of the group that ends at it, and of no other
pub ends : (ring : RingShape) (group server : ℕ) → IsRing ring → group < ring.servers → server < ring.servers →
    (group == group_ending_at ring server) ≡ (apart ring.servers group server == ring.failures)
ends ring group server is below within = let small = is.failures in grind (arith, nat_tests)
