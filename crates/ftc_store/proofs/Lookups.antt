-- A key is looked up in the finite map of some pairs as it is in the pairs.
use Rattle.std.proofs.Common.{◌≡◌, ℕ, Bool, List, [], ◌∷◌, refl, sym, ap, ◌∙◌, cond, rules, Some, None}
use Rattle.std.specs.Prelude.{nat_eq}
use Rattle.std.specs.Ordering.{nat_cmp, eq_by_cmp}
use Rattle.std.specs.Cmp.Lexicographic.{slice_cmp, pointwise}
use Rattle.std.specs.Cmp.Rules.{comparing}
use Rattle.std.specs.Map.{lookup}
use Rattle.std.specs.FinMap.{find, get, from_entries, insert, remove, get-from_entries, get-insert, get-remove}
use Rattle.std.specs.FinMap.{same_map, slice_cmp-IsAntisymmetric, nat_cmp-IsAntisymmetric}
use Rattle.std.proofs.lemmas.Cmp.{nat_list_cmp_total, eq_by_cmp_equiv}
use Rattle.ftc_store.specs.Store.{Content}

abbrev pub Pairs : Type 0
Pairs = List (List ℕ × List ℕ)

-- two keys are the same by their bytes exactly where they are by their order
pub same_test : (q k : List ℕ) → pointwise nat_eq q k ≡ eq_by_cmp (slice_cmp nat_cmp) q k
same_test = search (comparing, rules)

-- the content that pairs stand for
abbrev pub content_of : Pairs → Content
content_of pairs = from_entries pairs

pub find_pair : (pairs : Pairs) (q : List ℕ) → find (slice_cmp nat_cmp) q pairs ≡ lookup (pointwise nat_eq q) pairs
find_pair [] q = refl
find_pair (pair ∷ pairs) q =
    ap (λ (b : Bool). cond b (Some pair.1) (find (slice_cmp nat_cmp) q pairs)) (sym (same_test q pair.0)) ∙ ap
    (cond (pointwise nat_eq q pair.0) (Some pair.1)) (find_pair pairs q)

pub found : (pairs : Pairs) (q : List ℕ) → get (content_of pairs) q ≡ lookup (pointwise nat_eq q) pairs
found pairs q = get-from_entries nat_list_cmp_total pairs q ∙ find_pair pairs q

turned : (k q : List ℕ) → pointwise nat_eq k q ≡ eq_by_cmp (slice_cmp nat_cmp) q k
turned k q = same_test k q ∙ (eq_by_cmp_equiv nat_list_cmp_total).symm k q

pub same_content : (m n : Content) → ((q : List ℕ) → get m q ≡ get n q) → m ≡ n
same_content m n alike = same_map nat_list_cmp_total (slice_cmp-IsAntisymmetric nat_cmp-IsAntisymmetric) m n alike

-- pairs that differ at one key stand for contents that differ there
pub put_pair : (old new : Pairs) (k v : List ℕ) →
    ((q : List ℕ) → lookup (pointwise nat_eq q) new
    ≡ cond (pointwise nat_eq k q) (Some v) (lookup (pointwise nat_eq q) old)) →
    content_of new ≡ insert (content_of old) k v
put_pair old new k v differ = same_content _ _ (λ q.
    found new q ∙ differ q ∙ ap (λ (b : Bool). cond b (Some v) (lookup (pointwise nat_eq q) old)) (turned k q)
    ∙ ap (cond (eq_by_cmp (slice_cmp nat_cmp) q k) (Some v)) (sym (found old q)) ∙ sym
    (get-insert nat_list_cmp_total (content_of old) k v q))

pub removed_pair : (old new : Pairs) (k : List ℕ) →
    ((q : List ℕ) → lookup (pointwise nat_eq q) new
    ≡ cond (pointwise nat_eq k q) None (lookup (pointwise nat_eq q) old)) → content_of new ≡ remove (content_of old) k
removed_pair old new k differ = same_content _ _ (λ q.
    found new q ∙ differ q ∙ ap (λ (b : Bool). cond b None (lookup (pointwise nat_eq q) old)) (turned k q)
    ∙ ap (cond (eq_by_cmp (slice_cmp nat_cmp) q k) None) (sym (found old q)) ∙ sym
    (get-remove nat_list_cmp_total (content_of old) k q))

pub same_pairs : (old new : Pairs) →
    ((q : List ℕ) → lookup (pointwise nat_eq q) new ≡ lookup (pointwise nat_eq q) old) → content_of new ≡ content_of old
same_pairs old new alike = same_content _ _ (λ q. found new q ∙ alike q ∙ sym (found old q))
