-- The messages that stand before the first one with work.
use Rattle.std.proofs.Common.{◌≡◌, ◌∙◌, ◌++◌, ◌∷◌, ℕ, true, false, List, [], Option, Some, None, refl, sym, ap, subst}
use Rattle.std.proofs.Common.{cond, inl, inr}
use Rattle.std.specs.List.{AllByRecursion}
use Rattle.std.specs.Option.{option_map}
use Rattle.std.proofs.lemmas.Option.{same_Some}
use Rattle.std.proofs.lemmas.Bool.{eq-eqb, true≢false}
use Rattle.ftc_replica.specs.Held.{Held}
use Rattle.ftc_serial.specs.Words.{AnyOf}
use Rattle.ftc_server.specs.declared.held.HeldMessage.{HeldMessage}
use Rattle.ftc_server.specs.declared.work.Work.{Work}
use Rattle.ftc_server.specs.Holding.{found, is_of}
use Rattle.ftc_server.specs.Looks.{held_origin}
use Rattle.ftc_server.specs.Work.{work_for, has_work, first_with_work}
use Rattle.ftc_jobs.specs.Turn.{IsRising}

-- it was passed over: it has no work, and its logs rise
pub record IsPassed (replicas : List (Option Held)) (held : HeldMessage) : Type 0 where
  pub idle : work_for replicas held ≡ None
  pub rising : IsRising held

none_of : (o : Option Work) → Rattle.std.specs.Option.is_some o ≡ false → o ≡ None
none_of None is = refl
none_of (Some work) is = absurd cc

passed_of : (replicas : List (Option Held)) (held : HeldMessage) → has_work replicas held ≡ false → IsRising held →
    IsPassed replicas held
passed_of replicas held none rising = record { idle = none_of (work_for replicas held) none; rising = rising }

-- where none has work, all were passed over
pub all_passed : (replicas : List (Option Held)) (items : List HeldMessage) → AllByRecursion IsRising items →
    first_with_work replicas items ≡ None → AllByRecursion (IsPassed replicas) items
all_passed replicas [] all none = tt
all_passed replicas (held ∷ items) all none =
    elim (has_work replicas held) as (λ b. has_work replicas held ≡ b →
    cond b (Some held) (first_with_work replicas items) ≡ None → AllByRecursion (IsPassed replicas) (held ∷ items)) [
      | true ↦ λ has same. absurd cc
      | false ↦ λ isnt same. (passed_of replicas held isnt all.0, all_passed replicas items all.1 same)
    ] refl none

-- the first with work, and those before it
pub record IsFirstOf (replicas : List (Option Held)) (items : List HeldMessage) (held : HeldMessage) : Type 0 where
  pub before : List HeldMessage
  pub after : List HeldMessage
  pub parts : items ≡ before ++ held ∷ after
  pub passed : AllByRecursion (IsPassed replicas) before
  pub works : has_work replicas held ≡ true
  pub rising : IsRising held

pub first_of : (replicas : List (Option Held)) (items : List HeldMessage) (held : HeldMessage) →
    AllByRecursion IsRising items → first_with_work replicas items ≡ Some held → IsFirstOf replicas items held
first_of replicas [] held all some = absurd cc
first_of replicas (item ∷ items) held all some =
    elim (has_work replicas item) as (λ b. has_work replicas item ≡ b →
    cond b (Some item) (first_with_work replicas items) ≡ Some held → IsFirstOf replicas (item ∷ items) held) [
      | true ↦ λ has same. subst (IsFirstOf replicas (item ∷ items)) (same_Some item held same)
          (record { before = []; after = items; parts = refl; passed = tt; works = has; rising = all.0 })
      | false ↦ λ isnt same.
          let rest = first_of replicas items held all.1 same in
          record {
            before = item ∷ rest.before;
            after = rest.after;
            parts = ap (λ list. item ∷ list) rest.parts;
            passed = (passed_of replicas item isnt all.0, rest.passed);
            works = rest.works;
            rising = rest.rising;
          }
    ] refl some

-- what is so of all is so of the one that is found
pub so_of_found : (P : HeldMessage → Type 0) (origin : ℕ) (items : List HeldMessage) (held : HeldMessage) →
    AllByRecursion P items → found origin items ≡ Some held → P held
so_of_found P origin [] held all there = absurd cc
so_of_found P origin (item ∷ items) held all there =
    elim (is_of origin item) as (λ b. cond b (Some item) (found origin items) ≡ Some held → P held) [
      | true ↦ λ same. subst P (same_Some item held same) all.0
      | false ↦ λ same. so_of_found P origin items held all.1 same
    ] there

-- one that stands before is found there
pub found_before : (P : HeldMessage → Type 0) (origin : ℕ) (before rest : List HeldMessage) → AllByRecursion P before →
    AnyOf (λ (item : HeldMessage). item.message.origin ≡ origin) before →
    (held : HeldMessage) × (found origin (before ++ rest) ≡ Some held) × P held
found_before P origin [] rest all any = absurd any
found_before P origin (item ∷ items) rest all any =
    elim (is_of origin item) as (λ b. is_of origin item ≡ b →
    (held : HeldMessage) × (cond b (Some item) (found origin (items ++ rest)) ≡ Some held) × P held) [
      | true ↦ λ is. (item, refl, all.0)
      | false ↦ λ isnt. found_before P origin items rest all.1 (elim any [
        | inl here ↦ absurd (true≢false (sym (eq-eqb item.message.origin origin here) ∙ isnt))
        | inr later ↦ later
      ])
    ] refl

-- ---- the origin of the first

pub no_first : (o : Option HeldMessage) → option_map held_origin o ≡ None → o ≡ None
no_first None is = refl
no_first (Some held) is = absurd cc

pub some_first : (o : Option HeldMessage) (origin : ℕ) → option_map held_origin o ≡ Some origin →
    (held : HeldMessage) × (o ≡ Some held) × (held.message.origin ≡ origin)
some_first None origin is = absurd cc
some_first (Some held) origin is = (held, refl, same_Some held.message.origin origin is)
