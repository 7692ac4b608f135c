-- Sets of visits: one visit alone, two sets together, and the lists of servers of which one gained a visit.
use Rattle.std.proofs.Common.{◌≡◌, ℕ, ◌==◌, Bool, true, ◌⊎◌, inl, inr, refl, sym, subst, eqb-true, eq-eqb}
use Rattle.std.proofs.lemmas.Bool.{or_cases, or_left, or_right, and_parts, and_from}
use Rattle.ftc_serial.specs.Words.{with_at}
use Rattle.ftc_serial.proofs.Functions.{with_at_cases}
use Rattle.ftc_protocol.specs.Visits.{In, Visits, just, union}

pub in_one : (k p : ℕ) (b : Bool) (j q : ℕ) → In (just k p b) j q → (k ≡ j) × (q ≡ p) × (b ≡ true)
in_one k p b j q h =
    let a = and_parts _ b h in let e = and_parts (j == k) (q == p) a.0 in
    (sym (eqb-true j k e.0), eqb-true q p e.1, a.1)

pub one_in : (k p : ℕ) (b : Bool) → b ≡ true → In (just k p b) k p
one_in k p b h = and_from _ b (and_from (k == k) (p == p) (eq-eqb k k refl) (eq-eqb p p refl)) h

pub in_both : (a b : Visits) (j p : ℕ) → In (union a b) j p → In a j p ⊎ In b j p
in_both a b j p h = or_cases (a j p) (b j p) h

pub in_left : (a b : Visits) (j p : ℕ) → In a j p → In (union a b) j p
in_left a b j p h = or_left (a j p) (b j p) h

pub in_right : (a b : Visits) (j p : ℕ) → In b j p → In (union a b) j p
in_right a b j p h = or_right (a j p) (b j p) h

-- a list that gained one visit has it, or had what it has
pub gained : (has : ℕ → Visits) (k i q : ℕ) (b : Bool) (x j p : ℕ)
    → In (with_at has k (union (has k) (just i q b)) x) j p
    → In (has x) j p ⊎ ((x ≡ k) × (i ≡ j) × (p ≡ q) × (b ≡ true))
gained has k i q b x j p = with_at_cases (λ (v : Visits). In v j p
    → In (has x) j p ⊎ ((x ≡ k) × (i ≡ j) × (p ≡ q) × (b ≡ true))) has k _ x
    (λ e h. elim (in_both (has k) (just i q b) j p h) [
      | inl old ↦ inl (subst (λ y. In (has y) j p) (sym e) old)
      | inr new ↦ let n = in_one i q b j p new in inr (e, n.0, n.1, n.2)
    ])
    (λ ne h. inl h)

pub kept : (has : ℕ → Visits) (k i q : ℕ) (b : Bool) (x j p : ℕ) → In (has x) j p
    → In (with_at has k (union (has k) (just i q b)) x) j p
kept has k i q b x j p h = with_at_cases (λ (v : Visits). In v j p) has k _ x
    (λ e. in_left (has k) (just i q b) j p (subst (λ y. In (has y) j p) e h)) (λ ne. h)

pub gets : (has : ℕ → Visits) (k i q : ℕ) (b : Bool) → b ≡ true → In (with_at has k (union (has k) (just i q b)) k) i q
gets has k i q b h = with_at_cases (λ (v : Visits). In v i q) has k _ k
    (λ e. in_right (has k) (just i q b) i q (one_in i q b h)) (λ ne. absurd (ne refl))
