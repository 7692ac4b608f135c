-- What can be decided: searches below a bound.
use Rattle.std.proofs.Common.{◌≡◌, ℕ, zero, suc, ◌<◌, ◌≤◌, Bool, true, false, List, [], ◌∷◌, ◌++◌, ◌⊎◌, inl, inr, refl}
use Rattle.std.proofs.Common.{sym, subst, arith, Option, Some, None}
use Rattle.std.proofs.lemmas.Bool.{true≢false, cases_eq, cases_lt}
use Rattle.std.proofs.lemmas.Option.{none-some, same_Some}
use Rattle.std.specs.List.{AllByRecursion}
use Rattle.ftc_serial.specs.Words.{AnyOf, each_below}

abbrev pub Decided : Type 0 → Type 0
Decided P = P ⊎ (P → ⊥)

pub both : (P Q : Type 0) → Decided P → Decided Q → Decided (P × Q)
both P Q a b = elim a [
  | inl p ↦ elim b [ inl q ↦ inl (p, q) | inr n ↦ inr (λ x. n x.1) ]
  | inr n ↦ inr (λ x. n x.0)
]

-- of three, and of five
pub three : (P Q R : Type 0) → Decided P → Decided Q → Decided R → Decided (P × Q × R)
three P Q R a b d = elim (both P (Q × R) a (both Q R b d)) [
  | inl x ↦ inl (x.0, x.1.0, x.1.1)
  | inr isnt ↦
      inr (λ x. isnt (x.0, (x.1, x.2)))
]

pub five : (P Q R S T : Type 0) → Decided P → Decided Q → Decided R → Decided S → Decided T →
    Decided (P × Q × R × S × T)
five P Q R S T a b d e f =
    elim (both P (Q × (R × (S × T))) a (both Q (R × (S × T)) b (both R (S × T) d (both S T e f)))) [
      | inl x ↦ inl (x.0, x.1.0, x.1.1.0, x.1.1.1.0, x.1.1.1.1)
      | inr isnt ↦ inr (λ x. isnt (x.0, (x.1, (x.2, (x.3, x.4)))))
    ]

pub either : (P Q : Type 0) → Decided P → Decided Q → Decided (P ⊎ Q)
either P Q a b = elim a [
  | inl p ↦ inl (inl p)
  | inr n ↦ elim b [ inl q ↦ inl (inr q) | inr m ↦ inr (λ x. elim x [ inl p ↦ n p | inr q ↦ m q ]) ]
]

pub leads : (P Q : Type 0) → Decided P → Decided Q → Decided (P → Q)
leads P Q a b = elim b [
  | inl q ↦ inl (λ p. q)
  | inr n ↦ elim a [ inl p ↦ inr (λ f. n (f p)) | inr m ↦ inl (λ p. absurd (m p)) ]
]

pub same_as : (P Q : Type 0) → (P → Q) → (Q → P) → Decided P → Decided Q
same_as P Q to from a = elim a [ inl p ↦ inl (to p) | inr n ↦ inr (λ q. n (from q)) ]

pub equal : (a b : ℕ) → Decided (a ≡ b)
equal a b = elim (cases_eq a b) [ inl same ↦ inl same | inr other ↦ inr other ]

pub less : (a b : ℕ) → Decided (a < b)
less a b = elim (cases_lt a b) [ inl is ↦ inl is | inr isnt ↦ inr (λ is. omega arith) ]

pub at_most : (a b : ℕ) → Decided (a ≤ b)
at_most a b = elim (cases_lt b a) [ inl is ↦ inr (λ le. omega arith) | inr isnt ↦ inl (omega arith) ]

pub is_true : (b : Bool) → Decided (b ≡ true)
is_true true = inl refl
is_true false = inr (λ e. true≢false (sym e))

pub is_false : (b : Bool) → Decided (b ≡ false)
is_false false = inl refl
is_false true = inr (λ e. true≢false e)

pub same_flag : (a b : Bool) → Decided (a ≡ b)
same_flag a true = is_true a
same_flag a false = is_false a

pub is_none : (A : Type 0) (o : Option A) → Decided (o ≡ None)
is_none A None = inl refl
is_none A (Some a) = inr (λ e. none-some a (sym e))

-- a thing that may be there, with P
pub there_with : (A : Type 0) (o : Option A) (P : A → Type 0) → ((a : A) → o ≡ Some a → Decided (P a)) →
    Decided ((a : A) × (o ≡ Some a) × P a)
there_with A None P each = inr (λ x. none-some x.0 x.1)
there_with A (Some a) P each = elim (each a refl) [
  | inl p ↦ inl (a, refl, p)
  | inr n ↦ inr (λ x. n (subst P (sym (same_Some a x.0 x.1)) x.2))
]

-- a thing that is there has P
pub there_has : (A : Type 0) (o : Option A) (P : A → Type 0) → ((a : A) → o ≡ Some a → Decided (P a)) →
    Decided ((a : A) → o ≡ Some a → P a)
there_has A None P each = inl (λ a e. absurd (none-some a e))
there_has A (Some a) P each = elim (each a refl) [
  | inl p ↦ inl (λ b e. subst P (same_Some a b e) p)
  | inr n ↦ inr (λ f. n (f a refl))
]

pub some_below : (n : ℕ) (P : ℕ → Type 0) → ((k : ℕ) → Decided (P k)) → Decided ((k : ℕ) × (k < n) × P k)
some_below zero P each = inr (λ x. let l : x.0 < 0 = x.1 in omega arith)
some_below (suc n) P each = elim (each n) [
  | inl p ↦ inl (n, omega arith, p)
  | inr isnt ↦ elim (some_below n P each) [
    | inl x ↦ let l : x.0 < n = x.1 in inl (x.0, omega arith, x.2)
    | inr none ↦ inr (λ x. let l : x.0 < suc n = x.1 in elim (cases_eq x.0 n) [
      | inl e ↦ isnt (subst P e x.2)
      | inr other ↦ none (x.0, omega arith, x.2)
    ])
  ]
]

pub all_below : (n : ℕ) (P : ℕ → Type 0) → ((k : ℕ) → Decided (P k)) → Decided ((k : ℕ) → k < n → P k)
all_below zero P each = inl (λ k l. absurd (omega arith))
all_below (suc n) P each = elim (each n) [
  | inr isnt ↦ inr (λ f. isnt (f n (omega arith)))
  | inl p ↦ elim (all_below n P each) [
    | inr isnt ↦ inr (λ f. isnt (λ k l. f k (omega arith)))
    | inl all ↦ inl (λ k l. elim (cases_eq k n) [ inl e ↦ subst P (sym e) p | inr other ↦ all k (omega arith) ])
  ]
]

pub any_of : (A : Type 0) (P : A → Type 0) → ((a : A) → Decided (P a)) → (xs : List A) → Decided (AnyOf P xs)
any_of A P each [] = inr (λ x. x)
any_of A P each (x ∷ xs) = either (P x) (AnyOf P xs) (each x) (any_of A P each xs)

pub all_of : (A : Type 0) (P : A → Type 0) → ((a : A) → Decided (P a)) → (xs : List A) → Decided (AllByRecursion P xs)
all_of A P each [] = inl tt
all_of A P each (x ∷ xs) = both (P x) (AllByRecursion P xs) (each x) (all_of A P each xs)

-- what the list of one of the numbers has, the whole list has
pub among : (A : Type 0) (P : A → Type 0) (xs ys : List A) → AnyOf P xs ⊎ AnyOf P ys → AnyOf P (xs ++ ys)
among A P [] ys a = elim a [ inl none ↦ absurd none | inr there ↦ there ]
among A P (x ∷ xs) ys a = elim a [
  | inl there ↦ elim there [ inl here ↦ inl here | inr more ↦ inr (among A P xs ys (inl more)) ]
  | inr behind ↦ inr (among A P xs ys (inr behind))
]

pub among_each : (A : Type 0) (P : A → Type 0) (f : ℕ → List A) (n k : ℕ) → k < n → AnyOf P (f k) →
    AnyOf P (each_below f n)
among_each A P f zero k l there = absurd (omega arith)
among_each A P f (suc n) k l there = elim (cases_eq k n) [
  | inl e ↦ among A P (each_below f n) (f n) (inr (subst (λ x. AnyOf P (f x)) e there))
  | inr other ↦ among A P (each_below f n) (f n) (inl (among_each A P f n k (omega arith) there))
]
