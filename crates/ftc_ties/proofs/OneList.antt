-- A visit has one log, and a set of visits one rising list of logs.
use Rattle.std.proofs.Common.{◌≡◌, ℕ, ◌<◌, ◌==◌, ◌&&◌, ◌||◌, ◌⊎◌, nat_lt, true, false, List, [], ◌∷◌, Some, None}
use Rattle.std.proofs.Common.{Option, if◌then◌else◌, inl, inr, refl, sym, ap, subst, ◌∙◌, arith, eqb-true, eq-eqb}
use Rattle.std.proofs.Common.{ltb-true}
use Rattle.std.specs.List.{AllByRecursion}
use Rattle.std.proofs.lemmas.Bool.{true≢false, cases_Bool, and_parts, and_from, or_cases, or_left}
use Rattle.ftc_base.specs.Sets.{has}
use Rattle.ftc_vector.specs.Vector.{by_partition}
use Rattle.ftc_message.specs.Logged.{Logged, log_follows, logs_rise}
use Rattle.ftc_serial.specs.Take.{Outcome}
use Rattle.ftc_serial.specs.Serial.{Entry, Visited, Given}
use Rattle.ftc_txn.specs.Touched.{is_touched, is_changed}
use Rattle.ftc_protocol.specs.Trace.{IsInTrace}
use Rattle.ftc_protocol.proofs.TraceLemmas.{stands_map}
use Rattle.ftc_ties.specs.Numbers.{IsTrace, before_of}
use Rattle.ftc_ties.specs.Logs.{IsLogIn}
use Rattle.ftc_ties.specs.Messages.{names_log}

-- a visit has one outcome
one_outcome : (partitions : ℕ) (trace : List Entry) → IsTrace partitions trace → (j p : ℕ) (one other : Outcome)
    → IsInTrace (λ o. o ≡ one) trace j p → IsInTrace (λ o. o ≡ other) trace j p → one ≡ other
one_outcome partitions [] is j p one other first second = absurd first
one_outcome partitions (Given q bytes ∷ older) is j p one other first second = elim first [
  | inl here ↦ absurd here
  | inr more ↦ elim second [
    | inl here ↦ absurd here
    | inr again ↦ one_outcome partitions older is j p one other more again
  ]
]
one_outcome partitions (Visited k q o ∷ older) is j p one other first second = elim first [
  | inl here ↦ elim second [
    | inl also ↦ sym here.2 ∙ also.2
    | inr more ↦ absurd (is.0 (subst (λ x. IsInTrace (λ u. Unit {0}) older x q) (sym here.0)
        (subst (λ x. IsInTrace (λ u. Unit {0}) older j x) (sym here.1)
        (stands_map (λ u. u ≡ other) (λ u. Unit {0}) (λ u e. tt) older j p more))))
  ]
  | inr more ↦ elim second [
    | inl here ↦ absurd (is.0 (subst (λ x. IsInTrace (λ u. Unit {0}) older x q) (sym here.0)
        (subst (λ x. IsInTrace (λ u. Unit {0}) older j x) (sym here.1)
        (stands_map (λ u. u ≡ one) (λ u. Unit {0}) (λ u e. tt) older j p more))))
    | inr again ↦ one_outcome partitions older is.2 j p one other more again
  ]
]

module _ (same_members : (a b : ℕ) → ((member : ℕ) → has a member ≡ has b member) → a ≡ b) (partitions : ℕ)
    (trace : List Entry) (is : IsTrace partitions trace) where
  pub one_log : (one other : Logged) → IsLogIn partitions trace one → IsLogIn partitions trace other
      → one.group ≡ other.group → one.origin ≡ other.origin → one ≡ other
  one_log one other first second group origin =
      let there : IsInTrace (λ o. o ≡ first.outcome) trace other.group other.origin =
      subst (λ x. IsInTrace (λ o. o ≡ first.outcome) trace x other.origin) group
      (subst (λ x. IsInTrace (λ o. o ≡ first.outcome) trace one.group x) origin first.there) in
      let outcome : first.outcome
      ≡ second.outcome =
      one_outcome partitions trace is other.group other.origin first.outcome second.outcome there second.there in
      let numbers : Outcome → ℕ → ℕ
      → List (Option ℕ) = λ o g p. by_partition (λ i. if is_touched partitions o.answers i then Some
      (before_of partitions trace g p i) else None) in
      let before : one.before ≡ other.before =
      first.before ∙ (ap (λ o. numbers o one.group one.origin) outcome
      ∙ (ap (λ g. numbers second.outcome g one.origin) group
      ∙ (ap (λ p. numbers second.outcome other.group p) origin ∙ sym second.before))) in
      let changed : one.changed ≡ other.changed = same_members one.changed other.changed (λ i.
      first.changed i ∙ (ap (λ (o : Outcome). is_changed partitions o.writes i) outcome ∙ sym (second.changed i))) in
      let writes : one.writes ≡ other.writes = first.writes ∙
      (ap (λ (o : Outcome). o.writes) outcome ∙ sym second.writes) in
      λ i. record { group = group i; origin = origin i; before = before i; changed = changed i; writes = writes i }

-- ---- rising lists

-- behind it by origin and group
abbrev IsBehind : ℕ → ℕ → ℕ → ℕ → Type 0
IsBehind origin group p g = (origin < p) ⊎ ((origin ≡ p) × (group < g))

follows : (origin group p g : ℕ) → log_follows (Some (origin, group)) p g ≡ true → IsBehind origin group p g
follows origin group p g is = elim (or_cases (nat_lt origin p) (origin == p && nat_lt group g) is) [
  | inl less ↦ inl (ltb-true origin p less)
  | inr same ↦ let parts = and_parts (origin == p) (nat_lt group g) same in
      inr (eqb-true origin p parts.0, ltb-true group g parts.1)
]

behind_both : (a b p g x y : ℕ) → IsBehind a b p g → IsBehind p g x y → IsBehind a b x y
behind_both a b p g x y first second = elim first [
  | inl less ↦ elim second [ inl more ↦ inl (omega arith) | inr same ↦ let e : p ≡ x = same.0 in inl (omega arith) ]
  | inr same ↦ let e : a ≡ p = same.0 in let l : b < g = same.1 in elim second [
    | inl more ↦ inl (omega arith)
    | inr also ↦ let f : p ≡ x = also.0 in let m : g < y = also.1 in inr (omega arith, omega arith)
  ]
]

not_behind_itself : (a b p g : ℕ) → IsBehind a b p g → IsBehind p g a b → ⊥
not_behind_itself a b p g first second = elim first [
  | inl less ↦ elim second [ inl more ↦ omega arith | inr same ↦ let e : p ≡ a = same.0 in omega arith ]
  | inr same ↦ let e : a ≡ p = same.0 in let l : b < g = same.1 in
      elim second [ inl more ↦ omega arith | inr also ↦ let m : g < b = also.1 in omega arith ]
]

-- what a rising list names is behind where it begins
named_behind : (origin group : ℕ) (logs : List Logged) → logs_rise (Some (origin, group)) logs ≡ true → (g p : ℕ)
    → names_log logs g p ≡ true → IsBehind origin group p g
named_behind origin group [] rise g p named = absurd (true≢false (sym named))
named_behind origin group (log ∷ logs) rise g p named =
    let parts = and_parts (log_follows (Some (origin, group)) log.origin log.group)
    (logs_rise (Some (log.origin, log.group)) logs) rise in
    let first = follows origin group log.origin log.group parts.0 in
    elim (or_cases (log.group == g && log.origin == p) (names_log logs g p) named) [
      | inl here ↦
          let same = and_parts (log.group == g) (log.origin == p) here in
          subst (λ x. IsBehind origin group p x) (eqb-true log.group g same.0)
          (subst (λ x. IsBehind origin group x log.group) (eqb-true log.origin p same.1) first)
      | inr more ↦ behind_both origin group log.origin log.group p g first
          (named_behind log.origin log.group logs parts.1 g p more)
    ]

own_name : (log : Logged) (logs : List Logged) → names_log (log ∷ logs) log.group log.origin ≡ true
own_name log logs = or_left (log.group == log.group && log.origin == log.origin) (names_log logs log.group log.origin)
    (and_from (log.group == log.group) (log.origin == log.origin) (eq-eqb log.group log.group refl)
    (eq-eqb log.origin log.origin refl))

-- the rest rises behind its first log
rises_behind : (last : Option (ℕ × ℕ)) (log : Logged) (logs : List Logged) → logs_rise last (log ∷ logs) ≡ true
    → logs_rise (Some (log.origin, log.group)) logs ≡ true
rises_behind last log logs rise = (and_parts (log_follows last log.origin log.group)
    (logs_rise (Some (log.origin, log.group)) logs) rise).1

-- where a list names a log, it is its first or behind its first
named_where : (last : Option (ℕ × ℕ)) (log : Logged) (logs : List Logged) → logs_rise last (log ∷ logs) ≡ true
    → (g p : ℕ) → names_log (log ∷ logs) g p ≡ true
    → ((log.group ≡ g) × (log.origin ≡ p)) ⊎ IsBehind log.origin log.group p g
named_where last log logs rise g p named = elim (or_cases (log.group == g && log.origin == p)
    (names_log logs g p) named) [
      | inl here ↦ let same = and_parts (log.group == g) (log.origin == p) here in
          inl (eqb-true log.group g same.0, eqb-true log.origin p same.1)
      | inr more ↦ inr (named_behind log.origin log.group logs (rises_behind last log logs rise) g p more)
    ]

module _ (same_members : (a b : ℕ) → ((member : ℕ) → has a member ≡ has b member) → a ≡ b) (partitions : ℕ)
    (trace : List Entry) (is : IsTrace partitions trace) where
  pub one_list : (last : Option (ℕ × ℕ)) (ones others : List Logged)
      → AllByRecursion (IsLogIn partitions trace) ones → AllByRecursion (IsLogIn partitions trace) others
      → logs_rise last ones ≡ true → logs_rise last others ≡ true
      → ((g p : ℕ) → names_log ones g p ≡ names_log others g p) → ones ≡ others
  one_list last [] [] first second rise also names = refl
  one_list last [] (other ∷ others) first second rise also names =
      absurd (true≢false (sym (own_name other others) ∙ sym (names other.group other.origin)))
  one_list last (one ∷ ones) [] first second rise also names =
      absurd (true≢false (sym (own_name one ones) ∙ names one.group one.origin))
  one_list last (one ∷ ones) (other ∷ others) first second rise also names =
      let key : (one.group ≡ other.group) × (one.origin ≡ other.origin) = elim
      (named_where last other others also one.group one.origin
      (sym (names one.group one.origin) ∙ own_name one ones)) [
        | inl same ↦ (sym same.0, sym same.1)
        | inr behind ↦ elim (named_where last one ones rise other.group other.origin
            (names other.group other.origin ∙ own_name other others)) [
              | inl same ↦ same
              | inr ahead ↦ absurd (not_behind_itself other.origin other.group one.origin one.group behind ahead)
            ]
      ] in
      let head : one ≡ other = one_log same_members partitions trace is one other first.0 second.0 key.0 key.1 in
      let above : logs_rise (Some (one.origin, one.group)) ones ≡ true = rises_behind last one ones rise in
      let over : logs_rise (Some (one.origin, one.group)) others
      ≡ true = subst (λ (x : Logged). logs_rise (Some (x.origin, x.group)) others ≡ true) (sym head)
      (rises_behind last other others also) in
      ap (λ (x : Logged). x ∷ ones) head ∙ ap (λ (xs : List Logged). other ∷ xs)
      (one_list (Some (one.origin, one.group)) ones others first.1 second.1 above over
      (λ g p. tails one ones others above over head g p (names g p)))
    where
      tails : (one : Logged) (ones others : List Logged) → logs_rise (Some (one.origin, one.group)) ones ≡ true
          → logs_rise (Some (one.origin, one.group)) others ≡ true
          → {other : Logged} → one ≡ other → (g p : ℕ) → names_log (one ∷ ones) g p ≡ names_log (other ∷ others) g p
          → names_log ones g p ≡ names_log others g p
      tails one ones others above over head g p all = elim (one.group == g && one.origin == p) as
          (λ b. one.group == g && one.origin == p ≡ b → (b || names_log ones g p) ≡ (b || names_log others g p)
          → names_log ones g p ≡ names_log others g p) [
            | false ↦ λ e same. same
            | true ↦ λ e same.
                let parts = and_parts (one.group == g) (one.origin == p) e in
                let here : (logs : List Logged) → logs_rise (Some (one.origin, one.group)) logs ≡ true
                → names_log logs g p ≡ false = λ logs rises. elim (cases_Bool (names_log logs g p)) [
                  | inl named ↦ absurd (itself one.origin one.group g p (eqb-true one.group g parts.0)
                      (eqb-true one.origin p parts.1) (named_behind one.origin one.group logs rises g p named))
                  | inr isnt ↦ isnt
                ] in
                here ones above ∙ sym (here others over)
          ] refl (all ∙ sym (ap (λ (x : Logged). names_log (x ∷ others) g p) head))
        where
          itself : (origin group g p : ℕ) → group ≡ g → origin ≡ p → IsBehind origin group p g → ⊥
          itself origin group g p same also behind =
              elim behind [ inl less ↦ omega arith | inr two ↦ let l : group < g = two.1 in omega arith ]
