-- Lists that are changed at one place, as functions of the place.
use Rattle.std.proofs.Common.{◌≡◌, ◌≢◌, ℕ, zero, suc, ◌<◌, true, false, List, [], ◌∷◌, ◌++◌, length, take, Option, Some}
use Rattle.std.proofs.Common.{refl, ap, ◌∙◌, arith, cond}
use Rattle.std.specs.Prelude.{◌==◌, slice_get, slice_set, map}
use Rattle.std.specs.Option.{option_map_or}
use Rattle.std.specs.FinMap.{empty}
use Rattle.std.proofs.lemmas.Bool.{eqb-true, eqb-false}
use Rattle.std.proofs.lemmas.List.{set-set}
use Rattle.ftc_store.specs.Store.{Stored}
use Rattle.ftc_serial.specs.Words.{with_at}
use Rattle.ftc_serial.specs.Contents.{content_at}

pub get_set_same : {A : Type 0} (xs : List A) (place : ℕ) (value : A) → place < length xs →
    slice_get (slice_set xs place value) place ≡ Some value
get_set_same [] place value within = absurd (omega arith)
get_set_same (x ∷ xs) zero value within = refl
get_set_same (x ∷ xs) (suc place) value within = get_set_same xs place value (omega arith)

pub get_set_other : {A : Type 0} (xs : List A) (place : ℕ) (value : A) (other : ℕ) → other ≢ place →
    slice_get (slice_set xs place value) other ≡ slice_get xs other
get_set_other [] place value other apart = refl
get_set_other (x ∷ xs) zero value zero apart = absurd (apart refl)
get_set_other (x ∷ xs) zero value (suc other) apart = refl
get_set_other (x ∷ xs) (suc place) value zero apart = refl
get_set_other (x ∷ xs) (suc place) value (suc other) apart = get_set_other xs place value other (λ e. apart (ap suc e))

pub get_set : {A : Type 0} (xs : List A) (place : ℕ) (value : A) (other : ℕ) → place < length xs →
    slice_get (slice_set xs place value) other ≡ with_at (slice_get xs) place (Some value) other
get_set {A} xs place value other within =
    elim (other == place) as (λ b. (other == place) ≡ b →
    slice_get (slice_set xs place value) other ≡ cond b (Some value) (slice_get xs other)) [
      | true ↦ λ e. ap (slice_get (slice_set xs place value))
          (eqb-true other place e) ∙ get_set_same xs place value within
      | false ↦ λ e. get_set_other xs place value other (eqb-false other place e)
    ] refl

pub get_set_twice : {A : Type 0} (xs : List A) (place : ℕ) (first second : A) (other : ℕ) → place < length xs →
    slice_get (slice_set (slice_set xs place first) place second) other
    ≡ with_at (slice_get xs) place (Some second) other
get_set_twice {A} xs place first second other within =
    ap (λ (ys : List A). slice_get ys other) (set-set xs place first second) ∙ get_set xs place second other within

-- the content at a place, after a change there
content_with : (stores : List Stored) (place : ℕ) (stored : Stored) (other : ℕ) →
    option_map_or (λ s. s.content) (with_at (slice_get stores) place (Some stored) other) empty
    ≡ with_at (content_at stores) place stored.content other
content_with stores place stored other =
    elim (other == place) as (λ b. option_map_or (λ s. s.content) (cond b (Some stored) (slice_get stores other)) empty
    ≡ cond b stored.content (content_at stores other)) [ true ↦ refl | false ↦ refl ]

pub content_set_twice : (stores : List Stored) (place : ℕ) (first second : Stored) (other : ℕ) → place < length stores →
    content_at (slice_set (slice_set stores place first) place second) other
    ≡ with_at (content_at stores) place second.content other
content_set_twice stores place first second other within =
    ap (λ (o : Option Stored). option_map_or (λ s. s.content) o empty)
    (get_set_twice stores place first second other within) ∙ content_with stores place second other

-- content beside one more empty store
pub content_push : (stores : List Stored) (stored : Stored) (place : ℕ) → stored.content ≡ empty →
    ((other : ℕ) → content_at stores other ≡ empty) → content_at (stores ++ stored ∷ []) place ≡ empty
content_push [] stored zero new old = new
content_push [] stored (suc place) new old = refl
content_push (s ∷ stores) stored zero new old = old 0
content_push (s ∷ stores) stored (suc place) new old = content_push stores stored place new (λ other. old (suc other))

-- one more item of a list that is mapped
pub map_take_more : {A B : Type 0} (f : A → B) (xs : List A) (place : ℕ) (x : A) → slice_get xs place ≡ Some x →
    map f (take (suc place) xs) ≡ map f (take place xs) ++ f x ∷ []
map_take_more f [] place x at = absurd (cc)
map_take_more f (y ∷ ys) zero x at = let same : y ≡ x = cc in ap (λ z. f z ∷ []) same
map_take_more f (y ∷ ys) (suc place) x at = ap (λ rest. f y ∷ rest) (map_take_more f ys place x at)
