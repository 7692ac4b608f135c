-- The test that a message is ready says that each of its logs is had.
use Rattle.std.proofs.Common.{◌≡◌, ℕ, ◌==◌, ◌&&◌, ◌||◌, if◌then◌else◌, Bool, true, false, not, List, [], ◌∷◌, inl, inr}
use Rattle.std.proofs.Common.{refl, sym, subst, ◌∙◌, eq-eqb, eqb-true}
use Rattle.std.specs.List.{list_any, list_all}
use Rattle.std.proofs.lemmas.Bool.{true≢false, and_parts, and_from, or_cases, or_left, or_right, not_from_true}
use Rattle.ftc_base.specs.declared.ask.Answer.{Answer}
use Rattle.ftc_serial.specs.Words.{AnyOf}
use Rattle.ftc_serial.specs.Serial.{Entry, Given, Visited}
use Rattle.ftc_protocol.specs.Trace.{Has, IsInTrace, has_each, is_had_if_met}
use Rattle.ftc_protocol.specs.Visits.{In, Visits}
use Rattle.ftc_protocol.specs.Changes.{Meets, changes, is_changing, meets}
use Rattle.ftc_serial.specs.Take.{Outcome}
use Rattle.ftc_base.specs.Partition.{partition_of}

any_true : {A : Type 0} (P : A → Type 0) (f : A → Bool) → ((x : A) → P x → f x ≡ true) → (xs : List A) → AnyOf P xs →
    list_any f xs ≡ true
any_true P f g [] a = absurd a
any_true P f g (x ∷ xs) a =
    elim a [
      | inl p ↦ or_left (f x) (list_any f xs) (g x p)
      | inr b ↦
          or_right (f x) (list_any f xs) (any_true P f g xs b)
    ]

pub meets_true : (part : ℕ) (v w : Outcome) → Meets part v w → meets part v w ≡ true
meets_true part v w m =
    any_true (λ (changed : ℕ). changed
    ≡ m.0) _ (λ changed e. any_true (λ (answer : Answer). partition_of part answer.key
    ≡ m.0) _ (λ answer e'. eq-eqb changed (partition_of part answer.key) (e ∙ sym e')) w.answers m.2)
    (changes part v) m.1

pub had_by : (part : ℕ) (set : Visits) (j p : ℕ) (o : Outcome) (older : List Entry) →
    list_all (is_had_if_met part set j o) older ≡ true → IsInTrace (λ v. Meets part v o) older j p → In set j p
had_by part set j p o [] all h = absurd h
had_by part set j p o (Given q bytes ∷ older) all h =
    elim h [
      | inl here ↦ absurd here
      | inr there ↦
          had_by part set j p o older (and_parts true (list_all (is_had_if_met part set j o) older) all).1 there
    ]
had_by part set j p o (Visited k q v ∷ older) all h =
    let a = and_parts (is_had_if_met part set j o (Visited k q v)) (list_all (is_had_if_met part set j o) older) all in
    elim h [
      | inl here ↦ elim (or_cases (not ((k == j) && meets part v o)) (set j q) a.0) [
        | inl no_meet ↦ absurd (true≢false
            (sym no_meet ∙ not_from_true _ (and_from _ _ (eq-eqb k j here.0) (meets_true part v o here.2))))
        | inr is ↦ subst (λ x. In set j x) here.1 is
      ]
      | inr there ↦ had_by part set j p o older a.1 there
    ]

-- what the test says of the entry of a visit
entry_says : (b : Bool) (x y : Bool) → (if b then x else y) ≡ true → ((b ≡ true → x ≡ true) × (b ≡ false → y ≡ true))
entry_says true x y h = (λ _. h, λ e. absurd (true≢false e))
entry_says false x y h = (λ e. absurd (true≢false (sym e)), λ _. h)

pub each_had : (part : ℕ) (set wanted : Visits) (j q : ℕ) → In wanted j q → (trace : List Entry) →
    has_each part trace set wanted ≡ true → Has part trace set j q
each_had part set wanted j q is [] h = record { changing = λ c. absurd c; other = λ n p b. absurd b }
each_had part set wanted j q is (Given x bytes ∷ older) h =
    let rest = each_had part set wanted j q is older h in
    record {
      changing = λ c. elim c [ inl here ↦ absurd here | inr there ↦ rest.changing there ];
      other = λ n p b. elim b [ inl here ↦ absurd here.0 | inr there ↦ rest.other (λ c. n (inr c)) p there ];
    }
each_had part set wanted j q is (Visited k x o ∷ older) h =
    let a = and_parts (not (wanted k x) || (if is_changing part o then set k x
    else list_all (is_had_if_met part set k o) older)) (has_each part older set wanted) h in
    let rest = each_had part set wanted j q is older a.1 in
    let says : k ≡ j → x ≡ q → (is_changing part o ≡ true → In set k x)
    × (is_changing part o ≡ false → list_all (is_had_if_met part set k o) older ≡ true) = λ e e'.
    elim (or_cases (not (wanted k x)) (if is_changing part o then set k x
    else list_all (is_had_if_met part set k o) older) a.0) [
      | inl not_wanted ↦ absurd
          (true≢false (sym not_wanted ∙ not_from_true _
          (subst (λ u. wanted u x ≡ true) (sym e) (subst (λ u. wanted j u ≡ true) (sym e') is))))
      | inr says ↦ entry_says (is_changing part o) _ _ says
    ] in
    record {
      changing = λ c. elim c [
        | inl here ↦ subst (λ u. In set u q) here.0 (subst (λ u. In set k u) here.1 ((says here.0 here.1).0 here.2))
        | inr there ↦ rest.changing there
      ];
      other = λ n p b. elim b [
        | inl here ↦
            let unchanging : is_changing part o ≡ false =
            elim (is_changing part o) as (λ t. is_changing part o ≡ t →
            t ≡ false) [ true ↦ λ e. absurd (n (inl (here.1.0, here.0, e))) | false ↦ λ e. refl ] refl in
            had_by part set j p o older
            (subst (λ u. list_all (is_had_if_met part set u o) older
            ≡ true) here.1.0 ((says here.1.0 here.0).1 unchanging)) here.1.1
        | inr there ↦ rest.other (λ c. n (inr c)) p there
      ];
    }

any_says : {A : Type 0} (P : A → Type 0) (f : A → Bool) → ((x : A) → f x ≡ true → P x) → (xs : List A) →
    list_any f xs ≡ true → AnyOf P xs
any_says P f g [] a = absurd (true≢false (sym a))
any_says P f g (x ∷ xs) a =
    elim (or_cases (f x) (list_any f xs) a) [ inl h ↦ inl (g x h) | inr b ↦ inr (any_says P f g xs b) ]

-- some changed partition that is touched
some_met : (part : ℕ) (answers : List Answer) (changed : List ℕ) →
    list_any (λ (i : ℕ). list_any (λ (answer : Answer). i == partition_of part answer.key) answers) changed ≡ true
    → (i : ℕ) × AnyOf (λ (x : ℕ). x ≡ i) changed × AnyOf (λ (answer : Answer). partition_of part answer.key ≡ i) answers
some_met part answers [] is = absurd (true≢false (sym is))
some_met part answers (i ∷ changed) is =
    elim (or_cases (list_any (λ (answer : Answer). i == partition_of part answer.key) answers) _ is) [
      | inl here ↦ (
        i,
        inl refl,
        any_says (λ (answer : Answer). partition_of part answer.key
            ≡ i) _ (λ answer e. sym (eqb-true i (partition_of part answer.key) e)) answers here,
      )
      | inr there ↦ let r = some_met part answers changed there in (r.0, inr r.1, r.2)
    ]

pub meets_says : (part : ℕ) (v w : Outcome) → meets part v w ≡ true → Meets part v w
meets_says part v w is = let r = some_met part w.answers (changes part v) is in (r.0, r.1, r.2)
