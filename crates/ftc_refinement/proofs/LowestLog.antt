-- No log of a held message that is to be applied stands before the one that is applied next.
use Rattle.std.proofs.Common.{◌≡◌, ◌∙◌, ◌<◌, ◌≤◌, ◌⊎◌, ◌∷◌, ◌||◌, ℕ, Bool, true, false, List, [], Option, Some, None}
use Rattle.std.proofs.Common.{refl, sym, ap, subst, cond, inl, inr, arith}
use Rattle.std.specs.List.{AllByRecursion, list_any}
use Rattle.std.proofs.lemmas.Bool.{cases_eq, and_parts}
use Rattle.ftc_message.specs.Logged.{Logged, log_follows, logs_rise}
use Rattle.ftc_replica.specs.Held.{Held as Replicated}
use Rattle.ftc_serial.specs.Words.{AnyOf}
use Rattle.ftc_server.specs.Replicas.{is_had, may_apply}
use Rattle.ftc_server.specs.Work.{is_packet_of, next_log}
use Rattle.ftc_refinement.proofs.NextWork.{IsLowerHad, not_less, greater, waits_as}

-- ---- one log of a list

pub found_within : (test : Logged → Bool) (logs : List Logged) → list_any test logs ≡ true →
    (log : Logged) × (test log ≡ true) × AnyOf (λ other. other ≡ log) logs
found_within test [] some = absurd cc
found_within test (log ∷ logs) some =
    elim (test log) as (λ b. test log ≡ b → b || list_any test logs ≡ true →
    (found : Logged) × (test found ≡ true) × AnyOf (λ other. other ≡ found) (log ∷ logs)) [
      | true ↦ λ is some. (log, is, inl refl)
      | false ↦ λ isnt some. let rest = found_within test logs some in (rest.0, rest.1, inr rest.2)
    ] refl some

pub all_at : (P : Logged → Type 0) (log : Logged) (logs : List Logged) → AllByRecursion P logs →
    AnyOf (λ other. other ≡ log) logs → P log
all_at P log [] all at = absurd at
all_at P log (first ∷ logs) all at =
    elim at [ inl same ↦ subst P same all.0 | inr later ↦ all_at P log logs all.1 later ]

-- ---- what comes next, where one is to be applied

-- the one has a lower packet than the other, or the same and a lower group
abbrev pub IsLower : Logged → Logged → Type 0
IsLower one other = (one.origin < other.origin) ⊎ ((one.origin ≡ other.origin) × (one.group < other.group))

lower_by : (one other : Logged) → one.origin ≤ other.origin → (other.origin ≡ one.origin → one.group < other.group) →
    IsLower one other
lower_by one other least greater = elim (cases_eq other.origin one.origin) [
  | inl same ↦ inr (sym same, greater same)
  | inr differs ↦ inl (omega (arith, least, differs))
]

first_lower : (first log : Logged) (logs : List Logged) → logs_rise (Some (first.origin, first.group)) logs ≡ true →
    AnyOf (λ other. other ≡ log) logs → IsLower first log
first_lower first log logs rising at =
    lower_by first log
    (all_at (λ (other : Logged). first.origin ≤ other.origin) log logs
    (not_less first.origin first.group logs rising) at)
    (all_at (λ (other : Logged). other.origin ≡ first.origin → first.group < other.group) log logs
    (greater first.origin first.group logs rising) at)

-- the log is lacking, and the replica of its group takes it
pub record IsTakeable (replicas : List (Option Replicated)) (log : Logged) : Type 0 where
  pub lacking : is_had replicas log ≡ false
  pub allowed : may_apply replicas log ≡ true

-- something comes next: the log, or a lower one
abbrev pub IsNoLater : Logged → Option Logged → Type 0
IsNoLater log None = ⊥
IsNoLater log (Some next) = (next ≡ log) ⊎ IsLower next log

module _ (replicas : List (Option Replicated)) (log : Logged) (takeable : IsTakeable replicas log) where
  waits_not : (waiting : Option ℕ) (first : Logged) → first ≡ log → (waiting ≡ Some log.origin → ⊥) →
      is_packet_of waiting first ≡ false
  waits_not waiting first same free =
      elim (is_packet_of waiting first) as (λ b. is_packet_of waiting first ≡ b → b ≡ false) [
        | true ↦ λ is. absurd (free (waits_as waiting first is ∙ ap (λ (l : Logged). Some l.origin) same))
        | false ↦ λ isnt. refl
      ] refl

  comes_here : (waiting : Option ℕ) (first : Logged) (logs : List Logged) → first ≡ log →
      (waiting ≡ Some log.origin → ⊥) → next_log replicas waiting (first ∷ logs) ≡ Some first
  comes_here waiting first logs same free =
      ap (λ b. cond b (next_log replicas waiting logs)
      (cond (is_packet_of waiting first) (next_log replicas waiting logs)
      (cond (may_apply replicas first) (Some first) (next_log replicas (Some first.origin) logs))))
      (ap (is_had replicas) same ∙ takeable.lacking)
      ∙ (ap (λ b. cond b (next_log replicas waiting logs)
      (cond (may_apply replicas first) (Some first) (next_log replicas (Some first.origin) logs)))
      (waits_not waiting first same free)
      ∙ ap (λ b. cond b (Some first) (next_log replicas (Some first.origin) logs))
      (ap (may_apply replicas) same ∙ takeable.allowed))

  -- a lacking log of another packet, or of a higher group, keeps it not waiting
  still_free : (first : Logged) → IsLower first log → IsLowerHad replicas log first → is_had replicas first ≡ false →
      Some first.origin ≡ Some log.origin → ⊥
  still_free first lower had lacks same =
      let origins : first.origin ≡ log.origin = cc in
      elim lower [
        | inl less ↦ omega (arith, less, origins)
        | inr at ↦ let has = had at.0 at.1 in absurd cc
      ]

  pub comes_by : (waiting : Option ℕ) (last : Option (ℕ × ℕ)) (logs : List Logged) → logs_rise last logs ≡ true →
      AllByRecursion (IsLowerHad replicas log) logs → (waiting ≡ Some log.origin → ⊥) →
      AnyOf (λ other. other ≡ log) logs → IsNoLater log (next_log replicas waiting logs)
  comes_by waiting last [] rising had free at = absurd at
  comes_by waiting last (first ∷ logs) rising had free at =
      let parts = and_parts (log_follows last first.origin first.group)
      (logs_rise (Some (first.origin, first.group)) logs)
      rising in
      let behind : (w : Option ℕ) → (w ≡ Some log.origin → ⊥) → AnyOf (λ other. other ≡ log) logs →
      IsNoLater log (next_log replicas w logs) =
      λ w free later. comes_by w (Some (first.origin, first.group)) logs parts.1 had.1 free later in
      elim at [
        | inl same ↦ subst (IsNoLater log) (sym (comes_here waiting first logs same free)) (inl same)
        | inr later ↦
            let lower = first_lower first log logs parts.1 later in
            elim (is_had replicas first) as (λ h. is_had replicas first ≡ h →
            IsNoLater log (cond h (next_log replicas waiting logs) (cond (is_packet_of waiting first)
            (next_log replicas waiting logs)
            (cond (may_apply replicas first) (Some first) (next_log replicas (Some first.origin) logs))))) [
              | true ↦ λ has. behind waiting free later
              | false ↦ λ lacks.
                  elim (is_packet_of waiting first) as (λ w. IsNoLater log (cond w (next_log replicas waiting logs)
                  (cond (may_apply replicas first) (Some first) (next_log replicas (Some first.origin) logs)))) [
                    | true ↦ behind waiting free later
                    | false ↦ elim (may_apply replicas first) as (λ m.
                        IsNoLater log (cond m (Some first) (next_log replicas (Some first.origin) logs))) [
                          | true ↦ inr lower
                          | false ↦ behind (Some first.origin) (still_free first lower had.0 lacks) later
                        ]
                  ]
            ] refl
      ]

-- of two logs not each is lower than the other
pub not_both : (one other : Logged) → (one ≡ other) ⊎ IsLower one other → IsLower other one → ⊥
not_both one other first second = elim first [
  | inl same ↦
      let origins = ap (λ (l : Logged). l.origin) same in
      let groups = ap (λ (l : Logged). l.group) same in
      elim second [ inl less ↦ omega (arith, less, origins) | inr at ↦ omega (arith, at.1, groups) ]
  | inr lower ↦ elim lower [
    | inl less ↦ elim second [ inl more ↦ omega (arith, less, more) | inr at ↦ omega (arith, less, at.0) ]
    | inr at ↦ elim second [ inl more ↦ omega (arith, at.0, more) | inr also ↦ omega (arith, at.1, also.1) ]
  ]
]
