-- Lists that have a vector for each group.
use Rattle.std.proofs.Common.{◌≡◌, ◌<◌, ◌≤◌, ℕ, List, [], length, zero-add, arith}
use Rattle.std.proofs.lemmas.List.{get_or_past}
use Rattle.std.proofs.lemmas.List.FromFn.{length-map-range_with_len, get_or-map-range_with_len}
use Rattle.ftc_base.specs.declared.limits.TheConstants.{MOST_SERVERS}
use Rattle.ftc_vector.specs.Commits.{by_group, vector_of}
use Rattle.ftc_vector.proofs.GroupLists.{by_group-from}
use Rattle.ftc_vector.proofs.Held.{length-by_group, vector_of-by_group}

-- no other group has one
pub vector_of-past : (f : ℕ → List ℕ) (group : ℕ) → MOST_SERVERS ≤ group → vector_of (by_group f) group ≡ []
vector_of-past f group past = get_or_past (by_group f) group [] (omega (arith, length-by_group f))

-- functions that agree on the groups give the same
pub by_group-same : (f g : ℕ → List ℕ) → ((group : ℕ) → group < MOST_SERVERS → f group ≡ g group) →
    by_group f ≡ by_group g
by_group-same f g alike = by_group-from g (by_group f) [] (length-by_group f)
    (λ group less. rw (vector_of-by_group f group less) (alike group less))
