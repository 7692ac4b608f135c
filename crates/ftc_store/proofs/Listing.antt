-- Pairs in the order of their keys are the entries of the finite map that they stand for.
use Rattle.std.proofs.Common.{◌≡◌, ◌+◌, ℕ, Bool, true, false, cond, T, Option, Some, None, List, [], ◌∷◌, map, length}
use Rattle.std.proofs.Common.{get_or, refl, sym, ap, subst, ◌∙◌, arith}
use Rattle.std.specs.Prelude.{nat_eq, is_some, ◌&&◌}
use Rattle.std.specs.Cmp.Lexicographic.{slice_cmp, pointwise, nat_list_eq_equiv}
use Rattle.std.specs.FinMap.{entries, from_sorted, is_sorted, get, len, get-from_sorted, entries-from_sorted}
use Rattle.std.specs.FinMap.{len-insert, len-empty, same_map, slice_cmp-IsAntisymmetric, nat_cmp-IsAntisymmetric}
use Rattle.std.specs.FinMap.Entries.{below_all}
use Rattle.std.specs.List.{IsDistinct, AllByRecursion, list_any, slice_get}
use Rattle.std.specs.List.Sorted.{IsPermutation, IsSortedByKey, IsStrictlySortedBy}
use Rattle.std.specs.Map.{keys_of, lookup}
use Rattle.std.specs.declared.cmp.Ordering.{Ordering}
use Rattle.std.specs.declared.cmp.Ordering.TheVariants.{Less, Equal, Greater}
use Rattle.std.specs.Ordering.{is_lt, is_eq, nat_cmp, eq_by_cmp, ordering_reverse}
use Rattle.std.proofs.lemmas.Bool.Decides.{Decides-eqb}
use Rattle.std.proofs.lemmas.Cmp.{nat_list_cmp_total}
use Rattle.std.proofs.lemmas.List.{get_or-map, length-map}
use Rattle.std.proofs.lemmas.List.Sorted.{IsPermutation-map, Contains-permutation, list_any-IsPermutation}
use Rattle.std.proofs.lemmas.Map.Entries.{place_from_lookup, lookup_from_place}
use Rattle.std.proofs.lemmas.Map.Keys.{IsDistinct-IsPermutation, IsDistinct-head, IsDistinct-tail, apart_from_distinct}
use Rattle.std.proofs.lemmas.Map.Keys.{sorted_from_all_adjacent, sorted_head, sorted_tail}
use Rattle.std.proofs.lemmas.Map.Made.{is_some-lookup}
use Rattle.std.proofs.lemmas.Slice.Eq.{slice_eq-Decides}
use Rattle.std.proofs.lemmas.Option.{slice_get_within, slice_get_read, get_or_from_slice_get}
use Rattle.ftc_store.specs.Pairs.{pair_of, key_value}
use Rattle.ftc_store.specs.declared.pairs.Pair.{Pair}
use Rattle.ftc_store.proofs.Lookups.{Pairs, same_test, content_of, found, find_pair}

-- what doesn't come after and isn't the same comes before
rising : (r s : Ordering) → r ≡ ordering_reverse s → is_lt s ≡ false → is_eq r ≡ false → r ≡ Less
rising r Less turned after differs = cc
rising r Equal turned after differs = cc
rising r Greater turned after differs = turned

-- keys that are in order and differ rise strictly
pub rising_keys : {X : Type 0} (key : X → List ℕ) (xs : List X) → IsSortedByKey key (slice_cmp nat_cmp) xs →
    IsDistinct (pointwise nat_eq) (map key xs) → IsStrictlySortedBy (slice_cmp nat_cmp) (map key xs)
rising_keys {X} key [] sorted distinct =
    sorted_from_all_adjacent nat_list_cmp_total [] [] (λ k within. absurd (omega (arith, within)))
rising_keys {X} key (x ∷ xs) sorted distinct =
    let long : length (map key (x ∷ xs)) ≡ length (x ∷ xs) = length-map (x ∷ xs) key in
    sorted_from_all_adjacent nat_list_cmp_total (map key (x ∷ xs)) [] (λ k within.
    let low : get_or (map key (x ∷ xs)) k [] ≡ key (get_or (x ∷ xs) k x) =
    get_or-map key (x ∷ xs) k x [] (omega (arith, within, long)) in
    let high : get_or (map key (x ∷ xs)) (k + 1) [] ≡ key (get_or (x ∷ xs) (k + 1) x) =
    get_or-map key (x ∷ xs) (k + 1) x [] (omega (arith, within, long)) in
    let apart : pointwise nat_eq (get_or (map key (x ∷ xs)) k []) (get_or (map key (x ∷ xs)) (k + 1) []) ≡ false =
    apart_from_distinct (pointwise nat_eq) (map key (x ∷ xs)) k (k + 1) [] distinct (omega arith) within in
    let differs : eq_by_cmp (slice_cmp nat_cmp) (get_or (map key (x ∷ xs)) k []) (get_or (map key (x ∷ xs)) (k + 1) [])
    ≡ false = sym (same_test (get_or (map key (x ∷ xs)) k []) (get_or (map key (x ∷ xs)) (k + 1) [])) ∙ apart in
    let after : is_lt (slice_cmp nat_cmp (get_or (map key (x ∷ xs)) (k + 1) []) (get_or (map key (x ∷ xs)) k []))
    ≡ false = rw (low, high) (sorted k x (omega arith) (omega (arith, within, long))) in
    rising _ _ (nat_list_cmp_total.antisymm (get_or (map key (x ∷ xs)) k [])
    (get_or (map key (x ∷ xs)) (k + 1) [])) after differs)

both : (a b : Bool) → T a → T b → T (a && b)
both true b first second = second
both false b first second = absurd first

less_than_all : (key : List ℕ) (es : Pairs) → AllByRecursion (λ k. slice_cmp nat_cmp key k ≡ Less) (keys_of es) →
    T (below_all (slice_cmp nat_cmp) key es)
less_than_all key [] less = tt
less_than_all key (e ∷ es) less = rw less.0 (less_than_all key es less.1)

pub rising_pairs : (es : Pairs) → IsStrictlySortedBy (slice_cmp nat_cmp) (keys_of es) →
    T (is_sorted (slice_cmp nat_cmp) es)
rising_pairs [] sorted = tt
rising_pairs (e ∷ es) sorted =
    let R : List ℕ → List ℕ → Ordering = slice_cmp nat_cmp in
    both _ _ (less_than_all e.0 es (sorted_head R e.0 (keys_of es) sorted))
    (rising_pairs es (sorted_tail R e.0 (keys_of es) sorted))

nothing : {A : Type 0} (o : Option A) → is_some o ≡ false → o ≡ None
nothing None is = refl
nothing (Some x) is = cc

pub same_key : (q k : List ℕ) → pointwise nat_eq q k ≡ true → q ≡ k
same_key q k is = (slice_eq-Decides Decides-eqb q k (pointwise nat_eq q k) refl).0 is

-- a key is looked up alike in pairs that were brought into another order
lookup_found : (es fs : Pairs) (q v : List ℕ) → IsPermutation es fs → IsDistinct (pointwise nat_eq) (keys_of fs) →
    lookup (pointwise nat_eq q) es ≡ Some v → lookup (pointwise nat_eq q) fs ≡ Some v
lookup_found es fs q v moved distinct is =
    let place = place_from_lookup (pointwise nat_eq q) es v is in
    let there = Contains-permutation es fs (place.1, v) moved (
      place.0,
      slice_get_within es place.0 _ place.2,
      get_or_from_slice_get es place.0 _ _ place.2,
    ) in
    let at : slice_get fs there.0 ≡ Some (place.1, v) =
    slice_get_read fs (length fs) there.0 (place.1, v) refl there.1 (sym there.2) in
    rw (same_key q place.1 place.3) (lookup_from_place nat_list_eq_equiv fs there.0 place.1 v distinct at)

pub lookup_moved : (es fs : Pairs) (q : List ℕ) → IsPermutation es fs → IsDistinct (pointwise nat_eq) (keys_of fs) →
    lookup (pointwise nat_eq q) fs ≡ lookup (pointwise nat_eq q) es
lookup_moved es fs q moved distinct =
    elim (lookup (pointwise nat_eq q) es) as (λ o. lookup (pointwise nat_eq q) es ≡ o →
    lookup (pointwise nat_eq q) fs ≡ o) [
      | None ↦ λ is. nothing _ (is_some-lookup (pointwise nat_eq q) fs
          ∙ sym (list_any-IsPermutation (pointwise nat_eq q) (keys_of es) (keys_of fs)
          (IsPermutation-map (λ (e : List ℕ × List ℕ). e.0) es fs moved))
          ∙ sym (is_some-lookup (pointwise nat_eq q) es) ∙ ap is_some is)
      | Some v ↦ λ is. lookup_found es fs q v moved distinct is
    ] refl

flipped : (x y : List ℕ) → pointwise nat_eq x y ≡ pointwise nat_eq y x
flipped x y = nat_list_eq_equiv.symm x y

-- pairs with different keys, brought into the order of their keys, are the entries
pub listed : (es fs : Pairs) → IsDistinct (pointwise nat_eq) (keys_of es) → IsPermutation es fs →
    IsSortedByKey (λ (e : List ℕ × List ℕ). e.0) (slice_cmp nat_cmp) fs → fs ≡ entries (content_of es)
listed es fs distinct moved sorted =
    let R : List ℕ → List ℕ → Ordering = slice_cmp nat_cmp in
    let apart : IsDistinct (pointwise nat_eq) (keys_of fs) =
    IsDistinct-IsPermutation (pointwise nat_eq) flipped (keys_of es) (keys_of fs)
    (IsPermutation-map (λ (e : List ℕ × List ℕ). e.0) es fs moved) distinct in
    let rises : T (is_sorted (slice_cmp nat_cmp) fs) =
    rising_pairs fs (rising_keys (λ (e : List ℕ × List ℕ). e.0) fs sorted apart) in
    let same : from_sorted fs ≡ content_of es =
    same_map nat_list_cmp_total (slice_cmp-IsAntisymmetric nat_cmp-IsAntisymmetric) (from_sorted fs) (content_of es)
    (λ q.
    get-from_sorted (slice_cmp nat_cmp) fs q rises ∙ find_pair fs q ∙ lookup_moved es fs q moved apart ∙ sym
    (found es q)) in
    sym (entries-from_sorted (slice_cmp nat_cmp) fs rises) ∙ ap entries same

-- how many different keys there are
none_like : (key : List ℕ) (keys : List (List ℕ)) → AllByRecursion (λ k. pointwise nat_eq key k ≡ false) keys →
    list_any (pointwise nat_eq key) keys ≡ false
none_like key [] differ = refl
none_like key (k ∷ keys) differ = rw differ.0 (none_like key keys differ.1)

pub len_distinct : (es : Pairs) → IsDistinct (pointwise nat_eq) (keys_of es) → len (content_of es) ≡ length es
len_distinct [] distinct = len-empty (slice_cmp nat_cmp) (List ℕ)
len_distinct (e ∷ es) distinct =
    let new : is_some (get (content_of es) e.0) ≡ false =
    ap is_some (found es e.0) ∙ is_some-lookup (pointwise nat_eq e.0) es ∙ none_like e.0 (keys_of es)
    (IsDistinct-head (pointwise nat_eq) e.0 (keys_of es) distinct) in
    len-insert nat_list_cmp_total (content_of es) e.0 e.1 ∙ ap
    (λ (b : Bool). cond b (len (content_of es)) (len (content_of es) + 1)) new
    ∙ omega (arith, len_distinct es (IsDistinct-tail (pointwise nat_eq) e.0 (keys_of es) distinct))

-- the same of the store's own pairs
entries_again : (es : Pairs) → map key_value (map pair_of es) ≡ es
entries_again [] = refl
entries_again (e ∷ es) = ap (λ (rest : Pairs). e ∷ rest) (entries_again es)

entries_sorted : (pairs : List Pair) → IsSortedByKey (λ (pair : Pair). pair.key) (slice_cmp nat_cmp) pairs →
    IsSortedByKey (λ (e : List ℕ × List ℕ). e.0) (slice_cmp nat_cmp) (map key_value pairs)
entries_sorted pairs sorted k d low within =
    let long : length (map key_value pairs) ≡ length pairs = length-map pairs key_value in
    rw (
      get_or-map key_value pairs k (pair_of d) d (omega arith),
      get_or-map key_value pairs (k + 1) (pair_of d) d (omega arith),
    ) (sorted k (pair_of d) low (omega arith))

pub listed_pairs : (es : Pairs) (made moved : List Pair) → IsDistinct (pointwise nat_eq) (keys_of es) →
    made ≡ map pair_of es → IsPermutation made moved →
    IsSortedByKey (λ (pair : Pair). pair.key) (slice_cmp nat_cmp) moved → map key_value moved ≡ entries (content_of es)
listed_pairs es made moved distinct made-is other sorted =
    let same : map key_value made ≡ es = ap (map key_value) made-is ∙ entries_again es in
    listed es (map key_value moved) distinct
    (subst (λ (from : Pairs). IsPermutation from (map key_value moved)) same
    (IsPermutation-map key_value made moved other)) (entries_sorted moved sorted)
