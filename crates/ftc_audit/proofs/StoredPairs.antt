-- The listed pairs of a store are what its content has.
use Rattle.std.proofs.Common.{◌≡◌, ◌∙◌, inl, inr, refl, sym, ap, subst, ℕ, Bool, true, false, cond, T, List, [], ◌∷◌}
use Rattle.std.proofs.Common.{map, Some}
use Rattle.std.specs.Prelude.{◌&&◌}
use Rattle.std.specs.declared.cmp.Ordering.{Ordering}
use Rattle.std.specs.declared.cmp.Ordering.TheVariants.{Less, Equal, Greater}
use Rattle.std.specs.Ordering.{is_lt, is_eq, nat_cmp, eq_by_cmp}
use Rattle.std.specs.Cmp.Lexicographic.{slice_cmp}
use Rattle.std.specs.FinMap.{entries, entries_sorted, find, get, get-entries, is_sorted}
use Rattle.std.specs.FinMap.Entries.{below_all}
use Rattle.ftc_serial.specs.Words.{AnyOf}
use Rattle.ftc_store.specs.Store.{Content}
use Rattle.ftc_store.specs.Pairs.{key_value}
use Rattle.ftc_store.specs.declared.pairs.Pair.{Pair}
use Rattle.ftc_serial.proofs.Alike.{eq_same}
use Rattle.ftc_audit.proofs.Keys.{tied_to_itself}

abbrev pub IsAt : List ℕ → List ℕ → Pair → Type 0
IsAt key value pair = (pair.key ≡ key) × (pair.value ≡ value)

pub front : (a b : Bool) → T (a && b) → T a
front true b both = tt
front false b both = both

pub behind : (a b : Bool) → T (a && b) → T b
behind true b both = both
behind false b both = absurd both

not_less : (order : Ordering) → is_eq order ≡ true → T (is_lt order) → ⊥
not_less Less equal less = absurd (cc)
not_less Equal equal less = less
not_less Greater equal less = less

pub below_itself : (key : List ℕ) → T (is_lt (slice_cmp nat_cmp key key)) → ⊥
below_itself key less = not_less (slice_cmp nat_cmp key key) (tied_to_itself key) less

below_any : (low key value : List ℕ) (pairs : List Pair) → T (below_all (slice_cmp nat_cmp) low (map key_value pairs))
    → AnyOf (IsAt key value) pairs → T (is_lt (slice_cmp nat_cmp low key))
below_any low key value [] below any = absurd any
below_any low key value (pair ∷ pairs) below (inl (at, has)) =
    subst (λ (k : List ℕ). T (is_lt (slice_cmp nat_cmp low k))) at (front _ _ below)
below_any low key value (pair ∷ pairs) below (inr more) = below_any low key value pairs (behind _ _ below) more

found_there : (pairs : List Pair) (key value : List ℕ) → T (is_sorted (slice_cmp nat_cmp) (map key_value pairs))
    → AnyOf (IsAt key value) pairs → find (slice_cmp nat_cmp) key (map key_value pairs) ≡ Some value
found_there [] key value sorted any = absurd any
found_there (pair ∷ pairs) key value sorted (inl (at, has)) =
    ap (λ (b : Bool). cond b (Some pair.value) (find (slice_cmp nat_cmp) key (map key_value pairs)))
    (ap (eq_by_cmp (slice_cmp nat_cmp) key) at ∙ tied_to_itself key) ∙ ap Some has
found_there (pair ∷ pairs) key value sorted (inr more) =
    elim (eq_by_cmp (slice_cmp nat_cmp) key pair.key) as (λ b. eq_by_cmp (slice_cmp nat_cmp) key pair.key ≡ b
    → cond b (Some pair.value) (find (slice_cmp nat_cmp) key (map key_value pairs)) ≡ Some value) [
      | true ↦ λ same. absurd (below_itself key (subst (λ (k : List ℕ). T (is_lt (slice_cmp nat_cmp k key)))
          (sym (eq_same key pair.key same)) (below_any pair.key key value pairs (front _ _ sorted) more)))
      | false ↦ λ _. found_there pairs key value (behind _ _ sorted) more
    ] refl

there_found : (pairs : List Pair) (key value : List ℕ)
    → find (slice_cmp nat_cmp) key (map key_value pairs) ≡ Some value → AnyOf (IsAt key value) pairs
there_found [] key value found = absurd (cc)
there_found (pair ∷ pairs) key value found =
    elim (eq_by_cmp (slice_cmp nat_cmp) key pair.key) as (λ b. eq_by_cmp (slice_cmp nat_cmp) key pair.key ≡ b
    → cond b (Some pair.value) (find (slice_cmp nat_cmp) key (map key_value pairs)) ≡ Some value
    → AnyOf (IsAt key value) (pair ∷ pairs)) [
      | true ↦ λ same some. inl (sym (eq_same key pair.key same), cc)
      | false ↦ λ _ more. inr (there_found pairs key value more)
    ] refl found

module _ (pairs : List Pair) (content : Content) (listed : map key_value pairs ≡ entries content) where
  pub in_order : T (is_sorted (slice_cmp nat_cmp) (map key_value pairs))
  in_order = subst (λ (es : List (List ℕ × List ℕ)). T (is_sorted (slice_cmp nat_cmp) es)) (sym listed)
      (entries_sorted content)

  pub in_content : (key value : List ℕ) → AnyOf (IsAt key value) pairs → get content key ≡ Some value
  in_content key value any =
      get-entries content key
      ∙ (ap (find (slice_cmp nat_cmp) key) (sym listed) ∙ found_there pairs key value in_order any)

  pub in_pairs : (key value : List ℕ) → get content key ≡ Some value → AnyOf (IsAt key value) pairs
  in_pairs key value has =
      there_found pairs key value (ap (find (slice_cmp nat_cmp) key) listed ∙ (sym (get-entries content key) ∙ has))
