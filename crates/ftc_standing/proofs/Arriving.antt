-- How lists in the order of coming change.
use Rattle.std.proofs.Common.{◌≡◌, ◌≢◌, ◌<◌, ◌≤◌, ◌==◌, ◌++◌, ◌∙◌, ℕ, Bool, true, false, not, List, [], ◌∷◌, filter}
use Rattle.std.proofs.Common.{Option, Some, None, refl, sym, ap, subst, arith, if◌then◌else◌, eq-eqb, eqb-true, inl}
use Rattle.std.proofs.Common.{inr}
use Rattle.std.specs.List.{AllByRecursion}
use Rattle.std.proofs.lemmas.Bool.{ne_eqb, cases_eq, true≢false}
use Rattle.std.proofs.lemmas.Option.{none-some, same_Some}
use Rattle.std.proofs.lemmas.List.{append_assoc}
use Rattle.ftc_base.proofs.EachOf.{all-weaker, all-append, all-front, all-back, all_zip}
use Rattle.ftc_serial.specs.Words.{EachLater, with_at}
use Rattle.ftc_serial.proofs.AnyOf.{each_push}
use Rattle.ftc_standing.specs.Arrivals.{kept_of, IsKeptAs, IsSooner, AreArrived}

-- ---- lists

pub later_mapped : {A : Type 0} (R S : A → A → Type 0) → ((x y : A) → R x y → S x y) → (xs : List A) →
    EachLater R xs → EachLater S xs
later_mapped R S f [] later = tt
later_mapped R S f (x ∷ xs) later = (all-weaker (R x) (S x) (f x) xs later.0, later_mapped R S f xs later.1)

pub later_mapped_of : {A : Type 0} (P : A → Type 0) (R S : A → A → Type 0) →
    ((x y : A) → P x → P y → R x y → S x y) → (xs : List A) → AllByRecursion P xs → EachLater R xs → EachLater S xs
later_mapped_of P R S f [] all later = tt
later_mapped_of P R S f (x ∷ xs) all later = (
  all_zip P (R x) (S x) (λ y of. f x y all.0 of) xs all.1 later.0,
  later_mapped_of P R S f xs all.1 later.1,
)

-- what stands in front of one, and behind it; and the others without it
pub in_front : {A : Type 0} (R : A → A → Type 0) (before : List A) (x : A) (after : List A) →
    EachLater R (before ++ x ∷ after) → AllByRecursion (λ y. R y x) before
in_front R [] x after later = tt
in_front R (y ∷ before) x after later =
    ((all-back (R y) before (x ∷ after) later.0).0, in_front R before x after later.1)

pub behind : {A : Type 0} (R : A → A → Type 0) (before : List A) (x : A) (after : List A) →
    EachLater R (before ++ x ∷ after) → AllByRecursion (R x) after
behind R [] x after later = later.0
behind R (y ∷ before) x after later = behind R before x after later.1

pub later_without : {A : Type 0} (R : A → A → Type 0) (before : List A) (x : A) (after : List A) →
    EachLater R (before ++ x ∷ after) → EachLater R (before ++ after)
later_without R [] x after later = later.1
later_without R (y ∷ before) x after later = (
  all-append (R y) before after (all-front (R y) before (x ∷ after) later.0)
      (all-back (R y) before (x ∷ after) later.0).1,
  later_without R before x after later.1,
)

-- with another in the place of one, where the relation takes it for the same
pub later_replaced : {A : Type 0} (R : A → A → Type 0) (before : List A) (x z : A) (after : List A) →
    ((y : A) → R y x → R y z) → ((y : A) → R x y → R z y) → EachLater R (before ++ x ∷ after) →
    EachLater R (before ++ z ∷ after)
later_replaced R [] x z after front back later = (all-weaker (R x) (R z) back after later.0, later.1)
later_replaced R (y ∷ before) x z after front back later = (
  all-append (R y) before (z ∷ after) (all-front (R y) before (x ∷ after) later.0)
      (front y (all-back (R y) before (x ∷ after) later.0).0, (all-back (R y) before (x ∷ after) later.0).1),
  later_replaced R before x z after front back later.1,
)

-- ---- what is kept of an origin

module _ {A : Type 0} (origin_of : A → ℕ) where
  -- what is so of each is so of the one that is found
  pub kept_all : (P : A → Type 0) (items : List A) → AllByRecursion P items → (origin : ℕ) (item : A) →
      kept_of origin_of origin items ≡ Some item → P item × (origin_of item ≡ origin)
  kept_all P [] all origin item is = absurd (none-some item is)
  kept_all P (first ∷ items) all origin item is =
      elim (origin_of first == origin) as (λ b. origin_of first == origin ≡ b →
      (if b then Some first else kept_of origin_of origin items) ≡ Some item → P item × (origin_of item ≡ origin)) [
        | true ↦ λ e f. let same : first ≡ item = same_Some first item f in
            (subst P same all.0, ap origin_of (sym same) ∙ eqb-true (origin_of first) origin e)
        | false ↦ λ e f. kept_all P items all.1 origin item f
      ] refl is

  everything : (items : List A) → AllByRecursion (λ item. Unit {0}) items
  everything [] = tt
  everything (item ∷ items) = (tt, everything items)

  pub kept_origin : (items : List A) (origin : ℕ) (item : A) → kept_of origin_of origin items ≡ Some item →
      origin_of item ≡ origin
  kept_origin items origin item is = (kept_all (λ item. Unit {0}) items (everything items) origin item is).1

  -- the first list decides, where it has one
  pub kept_front : (before after : List A) (origin : ℕ) → kept_of origin_of origin before ≡ None →
      kept_of origin_of origin (before ++ after) ≡ kept_of origin_of origin after
  kept_front [] after origin none = refl
  kept_front (x ∷ before) after origin none =
      elim (origin_of x == origin) as (λ b. (if b then Some x else kept_of origin_of origin before) ≡ None →
      (if b then Some x else kept_of origin_of origin (before ++ after)) ≡ kept_of origin_of origin after) [
        | true ↦ λ e. absurd (none-some x (sym e))
        | false ↦ λ e. kept_front before after origin e
      ] none

  pub kept_back : (before after : List A) (origin : ℕ) → kept_of origin_of origin after ≡ None →
      kept_of origin_of origin (before ++ after) ≡ kept_of origin_of origin before
  kept_back [] after origin none = none
  kept_back (x ∷ before) after origin none =
      ap (λ rest. if origin_of x == origin then Some x else rest) (kept_back before after origin none)

  pub kept_same : (x : A) (after : List A) (origin : ℕ) → origin_of x ≡ origin →
      kept_of origin_of origin (x ∷ after) ≡ Some x
  kept_same x after origin is =
      ap (λ b. if b then Some x else kept_of origin_of origin after) (eq-eqb (origin_of x) origin is)

  pub kept_other : (x : A) (after : List A) (origin : ℕ) → origin_of x ≢ origin →
      kept_of origin_of origin (x ∷ after) ≡ kept_of origin_of origin after
  kept_other x after origin isnt =
      ap (λ b. if b then Some x else kept_of origin_of origin after) (ne_eqb (origin_of x) origin isnt)

  -- one that isn't of that origin makes no difference, wherever it stands
  pub kept_without : (before : List A) (x : A) (after : List A) (origin : ℕ) → origin_of x ≢ origin →
      kept_of origin_of origin (before ++ x ∷ after) ≡ kept_of origin_of origin (before ++ after)
  kept_without [] x after origin isnt = kept_other x after origin isnt
  kept_without (y ∷ before) x after origin isnt =
      ap (λ rest. if origin_of y == origin then Some y else rest) (kept_without before x after origin isnt)

-- where one is found of an origin, the list is what stands before it, it, and what stands behind it
module _ {A : Type 0} (origin_of : A → ℕ) (origin : ℕ) where
  pub parted : (items : List A) (item : A) → kept_of origin_of origin items ≡ Some item →
      (before : List A) × (after : List A) × (items ≡ before ++ item ∷ after)
  parted [] item is = absurd (none-some item is)
  parted (x ∷ items) item is = elim (origin_of x == origin) as (λ b.
      (if b then Some x else kept_of origin_of origin items) ≡ Some item →
      (before : List A) × (after : List A) × (x ∷ items ≡ before ++ item ∷ after)) [
        | true ↦ λ e. ([], items, ap (λ y. y ∷ items) (same_Some x item e))
        | false ↦ λ e. let rest = parted items item e in (x ∷ rest.0, rest.1, ap (λ list. x ∷ list) rest.2)
      ] is

pub is_none : {A : Type 0} (o : Option A) → ((x : A) → o ≡ Some x → ⊥) → o ≡ None
is_none None never = refl
is_none (Some x) never = absurd (never x refl)

-- what is there, without that of which the test is true
abbrev pub without_it : {M : Type 0} → (M → Bool) → Option M → Option M
without_it gone None = None
without_it gone (Some there) = if gone there then None else Some there

-- ---- what is there, and what is kept of it

module _ {M A : Type 0} (since : M → ℕ) (origin_of : A → ℕ) (Stands : ℕ → M → A → Type 0) where
  abbrev Are : (ℕ → Option M) → List A → Type 0
  Are there items = AreArrived since origin_of Stands there items

  -- of what is kept there is something, and the other way round
  pub there_of : (origin : ℕ) (o : Option M) (item : A) → IsKeptAs Stands origin o (Some item) →
      (message : M) × (o ≡ Some message) × Stands origin message item
  there_of origin None item is = absurd is
  there_of origin (Some message) item is = (message, refl, is)

  pub kept_for : (origin : ℕ) (message : M) (o : Option A) → IsKeptAs Stands origin (Some message) o →
      (item : A) × (o ≡ Some item) × Stands origin message item
  kept_for origin message None is = absurd is
  kept_for origin message (Some item) is = (item, refl, is)

  pub none_kept : (origin : ℕ) (o : Option A) → IsKeptAs Stands origin None o → o ≡ None
  none_kept origin None is = refl
  none_kept origin (Some item) is = absurd is

  module _ (there : ℕ → Option M) where
    abbrev Sooner : A → A → Type 0
    Sooner earlier later = IsSooner since there (origin_of earlier) (origin_of later)

    -- nothing came before itself
    not_sooner : (message : M) (origin other : ℕ) → there origin ≡ Some message → other ≡ origin →
        IsSooner since there other origin → ⊥
    not_sooner message origin other is same sooner =
        let less : since message < since message = sooner message message (ap there same ∙ is) is in omega arith

    module _ (before : List A) (item : A) (after : List A) (are : Are there (before ++ item ∷ after)) where
      -- what stands at a place of the list is there
      kept_some : (k : A) × (kept_of origin_of (origin_of item) (before ++ item ∷ after) ≡ Some k)
      kept_some = some (kept_of origin_of (origin_of item) before) refl
        where
          some : (o : Option A) → kept_of origin_of (origin_of item) before ≡ o →
              (k : A) × (kept_of origin_of (origin_of item) (before ++ item ∷ after) ≡ Some k)
          some None e = (
            item,
            kept_front origin_of before (item ∷ after) (origin_of item) e
                ∙ kept_same origin_of item after (origin_of item) refl,
          )
          some (Some k) e = (k, front before e)
            where
              front : (list : List A) → kept_of origin_of (origin_of item) list ≡ Some k →
                  kept_of origin_of (origin_of item) (list ++ item ∷ after) ≡ Some k
              front [] f = absurd (none-some k f)
              front (x ∷ list) f = elim (origin_of x == origin_of item) as (λ b.
                  (if b then Some x else kept_of origin_of (origin_of item) list) ≡ Some k →
                  (if b then Some x else kept_of origin_of (origin_of item) (list ++ item ∷ after)) ≡ Some k) [
                    | true ↦ λ g. g
                    | false ↦ λ g. front list g
                  ] f

      its : (message : M) × (there (origin_of item) ≡ Some message) × Stands (origin_of item) message kept_some.0
      its = there_of (origin_of item) (there (origin_of item)) kept_some.0
          (subst (λ o. IsKeptAs Stands (origin_of item) (there (origin_of item)) o) kept_some.1
          (are.each (origin_of item)))

      none_in_front : kept_of origin_of (origin_of item) before ≡ None
      none_in_front = is_none (kept_of origin_of (origin_of item) before) (λ other found.
          let here = kept_all origin_of (λ y. Sooner y item) before (in_front Sooner before item after are.order)
          (origin_of item) other found in
          not_sooner its.0 (origin_of item) (origin_of other) its.1 here.1 here.0)

      none_behind : kept_of origin_of (origin_of item) after ≡ None
      none_behind = is_none (kept_of origin_of (origin_of item) after) (λ other found.
          let here = kept_all origin_of (λ y. Sooner item y) after (behind Sooner before item after are.order)
          (origin_of item) other found in
          not_sooner its.0 (origin_of item) (origin_of item) its.1 refl
          (λ one second one_is second_is. here.0 one second one_is (ap there here.1 ∙ second_is)))

      pub kept_here : kept_of origin_of (origin_of item) (before ++ item ∷ after) ≡ Some item
      kept_here = kept_front origin_of before (item ∷ after) (origin_of item) none_in_front
          ∙ kept_same origin_of item after (origin_of item) refl

      pub there_here : (message : M) × (there (origin_of item) ≡ Some message) × Stands (origin_of item) message item
      there_here = there_of (origin_of item) (there (origin_of item)) item
          (subst (λ o. IsKeptAs Stands (origin_of item) (there (origin_of item)) o) kept_here
          (are.each (origin_of item)))

      none_left : kept_of origin_of (origin_of item) (before ++ after) ≡ None
      none_left = kept_front origin_of before after (origin_of item) none_in_front ∙ none_behind

      -- it goes away
      pub taken_out : Are (with_at there (origin_of item) None) (before ++ after)
      taken_out = record {
        each = λ origin. elim (cases_eq origin (origin_of item)) [
          | inl same ↦ gone origin same
          | inr differs ↦ left origin differs
        ];
        order = later_mapped Sooner
            (λ earlier later. IsSooner since (with_at there (origin_of item) None) (origin_of earlier)
            (origin_of later))
            (λ x y sooner one other one_is other_is. sooner one other (was (origin_of x) one one_is)
            (was (origin_of y) other other_is)) (before ++ after) (later_without Sooner before item after are.order);
      }
        where
          was : (origin : ℕ) (m : M) → with_at there (origin_of item) None origin ≡ Some m → there origin ≡ Some m
          was origin m is = elim (origin == origin_of item) as (λ b. (if b then None else there origin) ≡ Some m →
              there origin ≡ Some m) [
                | true ↦ λ e. absurd (none-some m e)
                | false ↦ λ e. e
              ] is

          gone : (origin : ℕ) → origin ≡ origin_of item →
              IsKeptAs Stands origin (with_at there (origin_of item) None origin)
              (kept_of origin_of origin (before ++ after))
          gone origin same = subst (λ o. IsKeptAs Stands o (with_at there (origin_of item) None o)
              (kept_of origin_of o (before ++ after))) (sym same)
              (subst (λ b. IsKeptAs Stands (origin_of item) (if b then None else there (origin_of item))
              (kept_of origin_of (origin_of item) (before ++ after)))
              (sym (eq-eqb (origin_of item) (origin_of item) refl))
              (subst (λ o. IsKeptAs Stands (origin_of item) None o) (sym none_left) tt))

          left : (origin : ℕ) → origin ≢ origin_of item →
              IsKeptAs Stands origin (with_at there (origin_of item) None origin)
              (kept_of origin_of origin (before ++ after))
          left origin differs = subst (λ b. IsKeptAs Stands origin (if b then None else there origin)
              (kept_of origin_of origin (before ++ after))) (sym (ne_eqb origin (origin_of item) differs))
              (subst (λ o. IsKeptAs Stands origin (there origin) o)
              (kept_without origin_of before item after origin (λ e. differs (sym e))) (are.each origin))

      -- Another takes its place, which came when it came. The others stand for what they stood for, in another way.
      pub replaced : (Now : ℕ → M → A → Type 0) (message : M) (new : A) → origin_of new ≡ origin_of item →
          since message ≡ since there_here.0 → Now (origin_of item) message new →
          ((origin : ℕ) (other : M) (kept : A) → there origin ≡ Some other → origin ≢ origin_of item →
          Stands origin other kept → Now origin other kept) →
          AreArrived since origin_of Now (with_at there (origin_of item) (Some message)) (before ++ new ∷ after)
      replaced Now message new same_origin same_since stands moves = record {
        each = λ origin. elim (cases_eq origin (origin_of item)) [
          | inl same ↦ here origin same
          | inr differs ↦ other origin differs
        ];
        order = later_mapped Sooner
            (λ earlier later. IsSooner since (with_at there (origin_of item) (Some message)) (origin_of earlier)
            (origin_of later))
            (λ x y sooner one second one_is second_is.
            let first = was (origin_of x) one one_is in
            let last = was (origin_of y) second second_is in
            let less : since first.0 < since last.0 = sooner first.0 last.0 first.1 last.1 in
            let before_is : since one ≡ since first.0 = first.2 in
            let after_is : since second ≡ since last.0 = last.2 in
            omega arith)
            (before ++ new ∷ after)
            (later_replaced Sooner before item new after
            (λ y sooner. subst (λ o. IsSooner since there (origin_of y) o) (sym same_origin) sooner)
            (λ y sooner. subst (λ o. IsSooner since there o (origin_of y)) (sym same_origin) sooner) are.order);
      }
        where
          was : (origin : ℕ) (m : M) → with_at there (origin_of item) (Some message) origin ≡ Some m →
              (old : M) × (there origin ≡ Some old) × (since m ≡ since old)
          was origin m is = elim (origin == origin_of item) as (λ b. origin == origin_of item ≡ b →
              (if b then Some message else there origin) ≡ Some m →
              (old : M) × (there origin ≡ Some old) × (since m ≡ since old)) [
                | true ↦ λ e f. (
                  there_here.0,
                  ap there (eqb-true origin (origin_of item) e) ∙ there_here.1,
                  ap since (sym (same_Some message m f)) ∙ same_since,
                )
                | false ↦ λ e f. (m, f, refl)
              ] refl is

          here : (origin : ℕ) → origin ≡ origin_of item → IsKeptAs Now origin
              (with_at there (origin_of item) (Some message) origin) (kept_of origin_of origin (before ++ new ∷ after))
          here origin same = subst (λ o. IsKeptAs Now o (with_at there (origin_of item) (Some message) o)
              (kept_of origin_of o (before ++ new ∷ after))) (sym same)
              (subst (λ b. IsKeptAs Now (origin_of item) (if b then Some message else there (origin_of item))
              (kept_of origin_of (origin_of item) (before ++ new ∷ after)))
              (sym (eq-eqb (origin_of item) (origin_of item) refl))
              (subst (λ o. IsKeptAs Now (origin_of item) (Some message) o)
              (sym (kept_front origin_of before (new ∷ after) (origin_of item) none_in_front
              ∙ kept_same origin_of new after (origin_of item) same_origin)) stands))

          moved : (origin : ℕ) → origin ≢ origin_of item → (o : Option M) (k : Option A) → there origin ≡ o →
              IsKeptAs Stands origin o k → IsKeptAs Now origin o k
          moved origin differs None None is kept = tt
          moved origin differs None (Some k) is kept = kept
          moved origin differs (Some m) None is kept = kept
          moved origin differs (Some m) (Some k) is kept = moves origin m k is differs kept

          other : (origin : ℕ) → origin ≢ origin_of item → IsKeptAs Now origin
              (with_at there (origin_of item) (Some message) origin) (kept_of origin_of origin (before ++ new ∷ after))
          other origin differs = subst (λ b. IsKeptAs Now origin (if b then Some message else there origin)
              (kept_of origin_of origin (before ++ new ∷ after))) (sym (ne_eqb origin (origin_of item) differs))
              (subst (λ o. IsKeptAs Now origin (there origin) o)
              (kept_without origin_of before item after origin (λ e. differs (sym e))
              ∙ sym (kept_without origin_of before new after origin (λ e. differs (sym e ∙ same_origin))))
              (moved origin differs (there origin) (kept_of origin_of origin (before ++ item ∷ after)) refl
              (are.each origin)))

    -- each that is kept is there
    abbrev IsThere : A → Type 0
    IsThere item = (message : M) × (there (origin_of item) ≡ Some message) × Stands (origin_of item) message item

    all_there_behind : (before after : List A) → Are there (before ++ after) → AllByRecursion IsThere after
    all_there_behind before [] are = tt
    all_there_behind before (item ∷ after) are = (
      there_here before item after are,
      all_there_behind (before ++ item ∷ []) after
          (subst (λ list. Are there list) (sym (append_assoc before (item ∷ []) after)) are),
    )

    pub all_there : (items : List A) → Are there items → AllByRecursion IsThere items
    all_there items are = all_there_behind [] items are

    -- one comes, behind all others
    pub added : (origin : ℕ) (message : M) (item : A) (items : List A) → Are there items → there origin ≡ None →
        origin_of item ≡ origin → ((other : ℕ) (old : M) → there other ≡ Some old → since old < since message) →
        Stands origin message item → Are (with_at there origin (Some message)) (items ++ item ∷ [])
    added origin message item items are none is newest stands = record {
      each = λ other. elim (cases_eq other origin) [
        | inl same ↦ here other same
        | inr differs ↦ same_as other differs
      ];
      order = each_push New items item
          (later_mapped_of IsThere Sooner New (λ x y x_there y_there sooner one second one_is second_is.
          sooner one second (sym (at_other x x_there) ∙ one_is) (sym (at_other y y_there) ∙ second_is))
          items (all_there items are) are.order)
          (all-weaker IsThere (λ y. New y item) (λ y y_there one second one_is second_is.
          let old : since one < since message = newest (origin_of y) one (sym (at_other y y_there) ∙ one_is) in
          let new : message ≡ second = same_Some message second (sym at_origin ∙ (ap with_it (sym is) ∙ second_is)) in
          subst (λ m. since one < since m) new old)
          items (all_there items are));
    }
      where
        with_it : ℕ → Option M
        with_it = with_at there origin (Some message)

        New : A → A → Type 0
        New earlier later = IsSooner since (with_at there origin (Some message)) (origin_of earlier) (origin_of later)

        at_origin : with_at there origin (Some message) origin ≡ Some message
        at_origin = ap (λ b. if b then Some message else there origin) (eq-eqb origin origin refl)

        at_other : (y : A) → IsThere y → with_at there origin (Some message) (origin_of y) ≡ there (origin_of y)
        at_other y y_there = ap (λ b. if b then Some message else there (origin_of y)) (ne_eqb (origin_of y) origin
            (λ e. none-some y_there.0 (sym none ∙ (sym (ap there e) ∙ y_there.1))))

        not_kept : kept_of origin_of origin items ≡ None
        not_kept = none_kept origin (kept_of origin_of origin items)
            (subst (λ o. IsKeptAs Stands origin o (kept_of origin_of origin items)) none (are.each origin))

        here : (other : ℕ) → other ≡ origin →
            IsKeptAs Stands other (with_at there origin (Some message) other)
            (kept_of origin_of other (items ++ item ∷ []))
        here other same = subst (λ o. IsKeptAs Stands o (with_at there origin (Some message) o)
            (kept_of origin_of o (items ++ item ∷ []))) (sym same)
            (subst (λ o. IsKeptAs Stands origin o (kept_of origin_of origin (items ++ item ∷ []))) (sym at_origin)
            (subst (λ o. IsKeptAs Stands origin (Some message) o)
            (sym (kept_front origin_of items (item
            ∷ []) origin not_kept ∙ kept_same origin_of item [] origin is)) stands))

        same_as : (other : ℕ) → other ≢ origin →
            IsKeptAs Stands other (with_at there origin (Some message) other)
            (kept_of origin_of other (items ++ item ∷ []))
        same_as other differs = subst (λ b. IsKeptAs Stands other (if b then Some message else there other)
            (kept_of origin_of other (items ++ item ∷ []))) (sym (ne_eqb other origin differs))
            (subst (λ o. IsKeptAs Stands other (there other) o)
            (sym (kept_back origin_of items (item
            ∷ []) other (kept_other origin_of item [] other (λ e. differs (sym e ∙ is)))))
            (are.each other))

    -- the oldest is the first
    pub first_is : (item : A) (rest : List A) → Are there (item ∷ rest) → (origin : ℕ) (message : M) →
        there origin ≡ Some message → ((other : ℕ) (old : M) → there other ≡ Some old → since message ≤ since old) →
        origin_of item ≡ origin
    first_is item rest are origin message is oldest = elim (cases_eq (origin_of item) origin) [
      | inl same ↦ same
      | inr differs ↦
          let first = there_here [] item rest are in
          let kept = kept_for origin message (kept_of origin_of origin (item ∷ rest))
          (subst (λ o. IsKeptAs Stands origin o (kept_of origin_of origin (item ∷ rest))) is (are.each origin)) in
          let behind_it = kept_all origin_of (λ y. Sooner item y) rest are.order.0 origin kept.0
          (sym (kept_other origin_of item rest origin differs) ∙ kept.1) in
          let less : since first.0 < since message = behind_it.0 first.0 message first.1 (ap there behind_it.1 ∙ is) in
          let most : since message ≤ since first.0 = oldest (origin_of item) first.0 first.1 in
          absurd (omega arith)
    ]

    -- nothing is there where nothing is kept, and the other way round
    pub none_there : (origin : ℕ) → Are there [] → there origin ≡ None
    none_there origin are = is_none (there origin) (λ message is.
        let kept = kept_for origin message None (subst (λ o. IsKeptAs Stands origin o None) is (are.each origin)) in
        none-some kept.0 kept.1)

    pub emptied : ((origin : ℕ) → there origin ≡ None) → Are there []
    emptied none = record {
      each = λ origin. subst (λ o. IsKeptAs Stands origin o None) (sym (none origin)) tt;
      order = tt;
    }

    -- what stood for something stands for what it is now
    pub stays : (New : ℕ → M → A → Type 0) (now : ℕ → Option M) →
        ((origin : ℕ) → now origin ≡ there origin) →
        ((origin : ℕ) (message : M) (item : A) → there origin ≡ Some message → Stands origin message item →
        New origin message item) → (items : List A) → Are there items → AreArrived since origin_of New now items
    stays New now same stand items are = record {
      each = λ origin. subst (λ o. IsKeptAs New origin o (kept_of origin_of origin items)) (sym (same origin))
          (kept_as origin (there origin) (kept_of origin_of origin items) refl (are.each origin));
      order = later_mapped Sooner (λ earlier later. IsSooner since now (origin_of earlier) (origin_of later))
          (λ x y sooner one second one_is second_is. sooner one second (sym (same (origin_of x)) ∙ one_is)
          (sym (same (origin_of y)) ∙ second_is)) items are.order;
    }
      where
        kept_as : (origin : ℕ) (o : Option M) (k : Option A) → there origin ≡ o → IsKeptAs Stands origin o k →
            IsKeptAs New origin o k
        kept_as origin None None is stands = tt
        kept_as origin None (Some item) is stands = stands
        kept_as origin (Some message) None is stands = stands
        kept_as origin (Some message) (Some item) is stands = stand origin message item is stands

    -- of some it goes away, and of the others it stays
    pub filtered : (gone : M → Bool) (keeps : A → Bool) → ((origin : ℕ) (message : M) (item : A) →
        there origin ≡ Some message → origin_of item ≡ origin → Stands origin message item →
        keeps item ≡ not (gone message)) → (now : ℕ → Option M) →
        ((origin : ℕ) → now origin ≡ without_it gone (there origin)) → (items : List A) → Are there items →
        Are now (filter keeps items)
    filtered gone keeps agree now is_now items are = record {
      each = λ origin. subst (λ o. IsKeptAs Stands origin o (kept_of origin_of origin (filter keeps items)))
          (sym (is_now origin))
          (each_left origin (there origin) refl (kept_of origin_of origin items) refl (are.each origin));
      order = later_mapped Sooner Left (λ x y sooner one second one_is second_is.
          sooner one second (was (there (origin_of x)) one (sym (is_now (origin_of x)) ∙ one_is))
          (was (there (origin_of y)) second (sym (is_now (origin_of y)) ∙ second_is)))
          (filter keeps items) (later_filtered items are.order);
    }
      where
        Left : A → A → Type 0
        Left earlier later = IsSooner since now (origin_of earlier) (origin_of later)

        was : (o : Option M) (m : M) → without_it gone o ≡ Some m → o ≡ Some m
        was None m is = absurd (none-some m is)
        was (Some old) m is = elim (gone old) as (λ b. (if b then None else Some old) ≡ Some m → Some old ≡ Some m) [
          | true ↦ λ e. absurd (none-some m e)
          | false ↦ λ e. e
        ] is

        all_filtered : (P : A → Type 0) (list : List A) → AllByRecursion P list → AllByRecursion P (filter keeps list)
        all_filtered P [] all = tt
        all_filtered P (x ∷ list) all = elim (keeps x) as (λ b.
            AllByRecursion P (if b then x ∷ filter keeps list else filter keeps list)) [
              | true ↦ (all.0, all_filtered P list all.1)
              | false ↦ all_filtered P list all.1
            ]

        later_filtered : (list : List A) → EachLater Sooner list → EachLater Sooner (filter keeps list)
        later_filtered [] later = tt
        later_filtered (x ∷ list) later = elim (keeps x) as (λ b.
            EachLater Sooner (if b then x ∷ filter keeps list else filter keeps list)) [
              | true ↦ (all_filtered (Sooner x) list later.0, later_filtered list later.1)
              | false ↦ later_filtered list later.1
            ]

        -- what is found of an origin is found among those that are left, if it is left
        found_left : (origin : ℕ) (item : A) (list : List A) → kept_of origin_of origin list ≡ Some item →
            keeps item ≡ true → kept_of origin_of origin (filter keeps list) ≡ Some item
        found_left origin item [] is keep = is
        found_left origin item (x ∷ list) is keep =
            elim (origin_of x == origin) as (λ b. origin_of x == origin ≡ b →
            (if b then Some x else kept_of origin_of origin list) ≡ Some item →
            kept_of origin_of origin (if keeps x then x ∷ filter keeps list else filter keeps list) ≡ Some item) [
              | true ↦ λ e f.
                  let same : x ≡ item = same_Some x item f in
                  ap (λ b. kept_of origin_of origin (if b then x ∷ filter keeps list else filter keeps list))
                  (ap keeps same ∙ keep)
                  ∙ (ap (λ b. if b then Some x else kept_of origin_of origin (filter keeps list)) e ∙ f)
              | false ↦ λ e f. elim (keeps x) as (λ b.
                  kept_of origin_of origin (if b then x ∷ filter keeps list else filter keeps list) ≡ Some item) [
                    | true ↦ ap (λ b. if b then Some x else kept_of origin_of origin (filter keeps list)) e
                        ∙ found_left origin item list f keep
                    | false ↦ found_left origin item list f keep
                  ]
            ] refl is

        none_left_of : (origin : ℕ) (list : List A) →
            AllByRecursion (λ x. origin_of x ≡ origin → keeps x ≡ false) list →
            kept_of origin_of origin (filter keeps list) ≡ None
        none_left_of origin [] all = refl
        none_left_of origin (x ∷ list) all =
            elim (keeps x) as (λ b. keeps x ≡ b →
            kept_of origin_of origin (if b then x ∷ filter keeps list else filter keeps list) ≡ None) [
              | true ↦ λ e. elim (cases_eq (origin_of x) origin) [
                | inl same ↦ absurd (true≢false (sym e ∙ all.0 same))
                | inr differs ↦ kept_other origin_of x (filter keeps list) origin differs
                    ∙ none_left_of origin list all.1
              ]
              | false ↦ λ e. none_left_of origin list all.1
            ] refl

        each_left : (origin : ℕ) (o : Option M) → there origin ≡ o → (k : Option A) →
            kept_of origin_of origin items ≡ k → IsKeptAs Stands origin o k →
            IsKeptAs Stands origin (without_it gone o) (kept_of origin_of origin (filter keeps items))
        each_left origin None is k found stands = subst (λ o. IsKeptAs Stands origin None o)
            (sym (none_left_of origin items (all-weaker IsThere (λ x. origin_of x ≡ origin → keeps x ≡ false)
            (λ x x_there same. absurd (none-some x_there.0 (sym is ∙ (ap there (sym same) ∙ x_there.1))))
            items (all_there items are)))) tt
        each_left origin (Some m) is None found stands = absurd stands
        each_left origin (Some m) is (Some item) found stands =
            elim (gone m) as (λ b. gone m ≡ b →
            IsKeptAs Stands origin (if b then None else Some m) (kept_of origin_of origin (filter keeps items))) [
              | true ↦ λ e. subst (λ o. IsKeptAs Stands origin None o)
                  (sym (none_left_of origin items (all-weaker IsThere (λ x. origin_of x ≡ origin → keeps x ≡ false)
                  (λ x x_there same.
                  let same_message : m ≡ x_there.0 =
                  same_Some m x_there.0 (sym is ∙ (ap there (sym same) ∙ x_there.1)) in
                  agree (origin_of x) x_there.0 x x_there.1 refl x_there.2
                  ∙ ap not (ap gone (sym same_message) ∙ e))
                  items (all_there items are)))) tt
              | false ↦ λ e. subst (λ o. IsKeptAs Stands origin (Some m) o)
                  (sym (found_left origin item items found
                  (agree origin m item is (kept_origin origin_of items origin item found) stands ∙ ap not e))) stands
            ] refl
