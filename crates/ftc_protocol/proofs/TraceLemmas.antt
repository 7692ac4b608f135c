-- What stands in a trace, and what is before what, as the trace grows and loses visits.
use Rattle.std.proofs.Common.{◌≡◌, ap, ◌&&◌, if◌then◌else◌, eqb-true, ℕ, ◌==◌, Bool, true, false, cond, not, List, []}
use Rattle.std.proofs.Common.{◌∷◌, inl, inr, refl, sym, subst, ◌∙◌}
use Rattle.std.proofs.lemmas.Bool.{true≢false}
use Rattle.ftc_store.specs.Store.{written}
use Rattle.ftc_serial.specs.Words.{AnyOf}
use Rattle.ftc_protocol.specs.Changes.{Changes, Meets, changes, is_changing, is_some_list}
use Rattle.ftc_serial.specs.Serial.{Entry, Given, Visited}
use Rattle.ftc_protocol.specs.Visits.{Visits}
use Rattle.ftc_protocol.specs.Trace.{content_of, IsBefore, IsChanging, IsInTrace, IsVisit}
use Rattle.ftc_serial.specs.Take.{Outcome}
use Rattle.ftc_serial.specs.Removal.{is_taken, left_of}

pub any_map : {A : Type 0} (P Q : A → Type 0) → ((x : A) → P x → Q x) → (xs : List A) → AnyOf P xs → AnyOf Q xs
any_map P Q f [] a = a
any_map P Q f (x ∷ xs) a = elim a [ inl p ↦ inl (f x p) | inr b ↦ inr (any_map P Q f xs b) ]

pub visit_map : (P Q : Outcome → Type 0) → ((o : Outcome) → P o → Q o) → (j p : ℕ) (e : Entry) → IsVisit P j p e →
    IsVisit Q j p e
visit_map P Q f j p (Visited k q o) h = (h.0, h.1, f o h.2)
visit_map P Q f j p (Given q bytes) h = h

pub stands_map : (P Q : Outcome → Type 0) → ((o : Outcome) → P o → Q o) → (trace : List Entry) (j p : ℕ) →
    IsInTrace P trace j p → IsInTrace Q trace j p
stands_map P Q f trace j p h = any_map (IsVisit P j p) (IsVisit Q j p) (visit_map P Q f j p) trace h

-- an outcome that changes some partition changes something
some_key : (i : ℕ) (keys : List ℕ) → AnyOf (λ (key : ℕ). key ≡ i) keys → is_some_list keys ≡ true
some_key i [] a = absurd a
some_key i (key ∷ keys) a = refl

pub changes_some : (part : ℕ) (o : Outcome) (i : ℕ) → Changes part o i → is_changing part o ≡ true
changes_some part o i h = some_key i (changes part o) h

pub meets_changing : (part : ℕ) (w : Outcome) (trace : List Entry) (j p : ℕ) →
    IsInTrace (λ v. Meets part v w) trace j p → IsChanging part trace j p
meets_changing part w trace j p h =
    stands_map _ (λ o. is_changing part o ≡ true) (λ v m. changes_some part v m.0 m.1) trace j p h

-- both ends of `before` stand, the first changing
pub before_first : (part : ℕ) (trace : List Entry) (j p q : ℕ) → IsBefore part trace j p q → IsChanging part trace j p
before_first part [] j p q h = absurd h
before_first part (Visited k x o ∷ older) j p q h =
    elim h [
      | inl here ↦ inr (meets_changing part o older j p here.1.1)
      | inr there ↦
          inr (before_first part older j p q there)
    ]
before_first part (Given x bytes ∷ older) j p q h =
    elim h [ inl here ↦ absurd here.0 | inr there ↦ inr (before_first part older j p q there) ]

pub before_last : (part : ℕ) (trace : List Entry) (j p q : ℕ) → IsBefore part trace j p q →
    IsInTrace (λ o. Unit {0}) trace j q
before_last part [] j p q h = absurd h
before_last part (Visited k x o ∷ older) j p q h =
    elim h [ inl here ↦ inl (here.1.0, here.0, tt) | inr there ↦ inr (before_last part older j p q there) ]
before_last part (Given x bytes ∷ older) j p q h =
    elim h [ inl here ↦ absurd here.0 | inr there ↦ inr (before_last part older j p q there) ]

-- what stands in what is left stood, and what stood and isn't taken out is left
module _ (gone : ℕ → ℕ → Bool) where
  pub left_stood : (P : Entry → Type 0) (trace : List Entry) → AnyOf P (left_of gone trace) →
      AnyOf (λ e. P e × (is_taken gone e ≡ false)) trace
  left_stood P [] = λ h. absurd h
  left_stood P (e ∷ older) =
      elim (is_taken gone e) as (λ b. is_taken gone e ≡ b →
      AnyOf P (cond (not b) (e ∷ left_of gone older) (left_of gone older)) →
      AnyOf (λ e. P e × (is_taken gone e ≡ false)) (e ∷ older)) [
        | true ↦ λ is h. inr (left_stood P older h)
        | false ↦ λ is h. elim h [ inl here ↦ inl (here, is) | inr there ↦ inr (left_stood P older there) ]
      ] refl

  pub stands_left : (P : Entry → Type 0) (trace : List Entry) → AnyOf (λ e. P e × (is_taken gone e ≡ false)) trace →
      AnyOf P (left_of gone trace)
  stands_left P [] = λ h. absurd h
  stands_left P (e ∷ older) =
      elim (is_taken gone e) as (λ b. is_taken gone e ≡ b → AnyOf (λ e. P e × (is_taken gone e ≡ false)) (e ∷ older) →
      AnyOf P (cond (not b) (e ∷ left_of gone older) (left_of gone older))) [
        | true ↦ λ is h. elim h [
          | inl here ↦ absurd (true≢false (sym is ∙ here.1))
          | inr there ↦
              stands_left P older there
        ]
        | false ↦ λ is h. elim h [ inl here ↦ inl here.0 | inr there ↦ inr (stands_left P older there) ]
      ] refl

  pub visit_left : (P : Outcome → Type 0) (trace : List Entry) (j p : ℕ) → IsInTrace P trace j p → gone j p ≡ false →
      IsInTrace P (left_of gone trace) j p
  visit_left P trace j p h stays = stands_left (IsVisit P j p) trace (any_map (IsVisit P j p) _ just trace h)
    where
      just : (e : Entry) → IsVisit P j p e → IsVisit P j p e × (is_taken gone e ≡ false)
      just (Visited k q o) h = (
        h,
        subst (λ i. gone i q ≡ false) (sym h.0) (subst (λ i. gone j i ≡ false) (sym h.1) stays),
      )
      just (Given q bytes) h = absurd h

  pub visit_stood : (P : Outcome → Type 0) (trace : List Entry) (j p : ℕ) → IsInTrace P (left_of gone trace) j p →
      IsInTrace P trace j p × (gone j p ≡ false)
  visit_stood P trace j p h = let a = left_stood (IsVisit P j p) trace h in
      (any_map _ (IsVisit P j p) (λ e is. is.0) trace a, stays trace a)
    where
      stays : (es : List Entry) → AnyOf (λ e. IsVisit P j p e × (is_taken gone e ≡ false)) es → gone j p ≡ false
      stays [] a = absurd a
      stays (Visited k q o ∷ es) a = elim a [
        | inl here ↦ subst (λ i. gone j i ≡ false) here.0.1 (subst (λ i. gone i q ≡ false) here.0.0 here.1)
        | inr there ↦ stays es there
      ]
      stays (Given q bytes ∷ es) a = elim a [ inl here ↦ absurd here.0 | inr there ↦ stays es there ]

  pub before_left : (part : ℕ) (trace : List Entry) (j p q : ℕ) → IsBefore part (left_of gone trace) j p q →
      IsBefore part trace j p q
  before_left part [] j p q = λ h. absurd h
  before_left part (Given x bytes ∷ older) j p q =
      λ h. elim h [ inl here ↦ absurd here.0 | inr there ↦ inr (before_left part older j p q there) ]
  before_left part (Visited k x o ∷ older) j p q =
      let e = Visited k x o in
      elim (gone k x) as (λ b. IsBefore part (cond (not b) (e ∷ left_of gone older) (left_of gone older)) j p q →
      IsBefore part (e ∷ older) j p q) [
        | true ↦ λ h. inr (before_left part older j p q h)
        | false ↦ λ h. elim h [
          | inl here ↦ inl (here.0, (here.1.0, (visit_stood (λ v. Meets part v o) older j p here.1.1).0))
          | inr there ↦ inr (before_left part older j p q there)
        ]
      ]

-- the store of a set that has no visit that is taken out
pub store_left : (gone : Visits) (trace : List Entry) (j : ℕ) (set : ℕ → Bool) →
    ((p : ℕ) → IsInTrace (λ o. Unit {0}) trace j p → gone j p ≡ true → set p ≡ false) →
    content_of trace set j ≡ content_of (left_of gone trace) set j
store_left gone [] j set apart = refl
store_left gone (Given p b ∷ older) j set apart = store_left gone older j set (λ q st. apart q (inr st))
store_left gone (Visited k p o ∷ older) j set apart =
    let rest = store_left gone older j set (λ q st. apart q (inr st)) in
    elim (gone k p) as (λ b. gone k p ≡ b →
    (if (k == j) && set p then written o.writes (content_of older set j) else content_of older set j)
    ≡ content_of (cond (not b) (Visited k p o ∷ left_of gone older) (left_of gone older)) set j) [
      | true ↦ λ g. elim (k == j) as (λ t. k == j ≡ t →
          (if t && set p then written o.writes (content_of older set j) else content_of older set j)
          ≡ content_of (left_of gone older) set j) [
            | true ↦ λ e. let kj = eqb-true k j e in
                subst (λ b. (if true && b then written o.writes (content_of older set j) else content_of older set j)
                ≡ content_of (left_of gone older) set j)
                (sym (apart p (inl (kj, refl, tt)) (subst (λ v. gone v p ≡ true) kj g))) rest
            | false ↦ λ e. rest
          ] refl
      | false ↦ λ g. ap (λ v. if (k == j) && set p then written o.writes v else v) rest
    ] refl
