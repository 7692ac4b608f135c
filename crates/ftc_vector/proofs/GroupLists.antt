-- Lists that have a vector for each group.
use Rattle.std.proofs.Common.{◌≡◌, ◌≢◌, ◌<◌, ℕ, List, [], length, get_or, refl, sym, ◌∙◌, arith, zero-add}
use Rattle.std.proofs.Common.{get_or-set_other, get_or-set_same}
use Rattle.std.proofs.lemmas.List.{ext_get_or}
use Rattle.std.proofs.lemmas.List.FromFn.{get_or-map-range_with_len, length-map-range_with_len, fill_by_all}
use Rattle.ftc_base.specs.declared.limits.TheConstants.{MOST_SERVERS}
use Rattle.ftc_vector.specs.Vector.{merged}
use Rattle.ftc_vector.specs.Commits.{by_group, vector_of, all_merged, group_raised}

-- a list of the right length that has for each group what f gives
pub by_group-from : {A : Type 0} (f : ℕ → A) (xs : List A) (d : A) → length xs ≡ MOST_SERVERS →
    ((k : ℕ) → k < MOST_SERVERS → get_or xs k d ≡ f k) → xs ≡ by_group f
unfolding by_group
by_group-from f xs d long each = fill_by_all f xs MOST_SERVERS d long each

pub length-all_merged : (a b : List (List ℕ)) → length (all_merged a b) ≡ MOST_SERVERS
unfolding by_group
length-all_merged a b = length-map-range_with_len (λ g. merged (vector_of a g) (vector_of b g)) 0 MOST_SERVERS

pub vector_of-all_merged : (a b : List (List ℕ)) (group : ℕ) → group < MOST_SERVERS →
    vector_of (all_merged a b) group ≡ merged (vector_of a group) (vector_of b group)
unfolding by_group
vector_of-all_merged a b group within =
    get_or-map-range_with_len (λ g. merged (vector_of a g) (vector_of b g)) 0 MOST_SERVERS group group [] within
    (zero-add group)

pub vector_of-raised : (commits : List (List ℕ)) (group : ℕ) (vector : List ℕ) → group < length commits →
    vector_of (group_raised commits group vector) group ≡ merged (vector_of commits group) vector
vector_of-raised commits group vector within = get_or-set_same commits group _ [] within

pub vector_of-other : (commits : List (List ℕ)) (group other : ℕ) (vector : List ℕ) → other ≢ group →
    vector_of (group_raised commits group vector) other ≡ vector_of commits other
vector_of-other commits group other vector differs = rw get_or-set_other refl

pub same_groups : (a b : List (List ℕ)) → length a ≡ MOST_SERVERS → length b ≡ MOST_SERVERS
    → ((group : ℕ) → group < MOST_SERVERS → vector_of a group ≡ vector_of b group) → a ≡ b
same_groups a b size other alike =
    ext_get_or [] a b (size ∙ sym other) (λ k within. alike k (omega (arith, within, size)))
