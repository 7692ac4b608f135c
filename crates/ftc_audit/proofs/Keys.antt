-- What a store has after a value was put at a key.
use Rattle.std.proofs.Common.{◌≡◌, ◌≢◌, ◌∙◌, ℕ, Bool, true, List, Some, refl, sym, ap, cond}
use Rattle.std.specs.Cmp.Lexicographic.{slice_cmp}
use Rattle.std.specs.Ordering.{nat_cmp, eq_by_cmp}
use Rattle.std.specs.Str.{bytes_eq}
use Rattle.std.specs.FinMap.{get, insert, get-insert}
use Rattle.std.proofs.lemmas.Bool.{false_from_ne_true}
use Rattle.std.proofs.lemmas.Cmp.{nat_list_cmp_total}
use Rattle.std.proofs.lemmas.Map.Text.{is_eq-slice_cmp}
use Rattle.std.proofs.lemmas.Slice.Eq.{bytes_eq-Decides}
use Rattle.ftc_store.specs.Store.{Content}

is_same : (q k : List ℕ) → eq_by_cmp (slice_cmp nat_cmp) q k ≡ bytes_eq q k
is_same q k = is_eq-slice_cmp q k

pub at_put : (content : Content) (key value : List ℕ) → get (insert content key value) key ≡ Some value
at_put content key value =
    get-insert nat_list_cmp_total content key value key
    ∙ ap (λ (same : Bool). cond same (Some value) (get content key)) (is_same key key
    ∙ (bytes_eq-Decides key key).1 refl)

pub off_put : (content : Content) (key value q : List ℕ) → q ≢ key → get (insert content key value) q ≡ get content q
off_put content key value q differs =
    get-insert nat_list_cmp_total content key value q
    ∙ ap (λ (same : Bool). cond same (Some value) (get content q))
    (false_from_ne_true _ (λ same. differs ((bytes_eq-Decides q key).0 (sym (is_same q key) ∙ same))))

pub tied_to_itself : (key : List ℕ) → eq_by_cmp (slice_cmp nat_cmp) key key ≡ true
tied_to_itself key = is_same key key ∙ (bytes_eq-Decides key key).1 refl
