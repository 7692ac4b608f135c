-- Steps one after the other, and which servers are live behind them.
use Rattle.std.proofs.Common.{◌≡◌, ◌==◌, ℕ, zero, suc, ◌+◌, Bool, true, false, List, [], ◌∷◌, ◌++◌, Some, take}
use Rattle.std.proofs.Common.{if◌then◌else◌, refl, ap, subst, add-one}
use Rattle.std.specs.Prelude.{slice_get}
use Rattle.ftc_ring.specs.Ring.{RingShape}
use Rattle.ftc_ring.specs.Live.{IsAdmissible}
use Rattle.ftc_ring.proofs.Nearest.{more_live}
use Rattle.ftc_script.specs.declared.line.ScriptLine.{ScriptLine}
use Rattle.ftc_script.specs.declared.line.ScriptLine.TheVariants.{Crash, Recover}
use Rattle.ftc_script.specs.Steps.{at_of, with_at, live_after, live_after_all, last_of, IsStep, AreSteps}

-- one more step at the end
pub live_push : (live : ℕ → Bool) (steps : List ScriptLine) (step : ScriptLine) →
    live_after_all live (steps ++ step ∷ []) ≡ live_after (live_after_all live steps) step
live_push live [] step = refl
live_push live (s ∷ steps) step = live_push (live_after live s) steps step

pub last_push : (last : ℕ) (steps : List ScriptLine) (step : ScriptLine) →
    last_of last (steps ++ step ∷ []) ≡ at_of step
last_push last [] step = refl
last_push last (s ∷ steps) step = last_push (at_of s) steps step

pub steps_push : (ring : RingShape) (packets last : ℕ) (live : ℕ → Bool) (steps : List ScriptLine) (step : ScriptLine) →
    AreSteps ring packets last live steps → IsStep ring packets (last_of last steps) (live_after_all live steps) step →
    AreSteps ring packets last live (steps ++ step ∷ [])
steps_push ring packets last live [] step are is = (is, tt)
steps_push ring packets last live (s ∷ steps) step are is =
    (are.0, steps_push ring packets (at_of s) (live_after live s) steps step are.1 is)

-- a recovery leaves those live that were live
recovered : (live : ℕ → Bool) (server k : ℕ) → live k ≡ true → with_at live server true k ≡ true
recovered live server k up =
    elim (k == server) as (λ t. (if t then true else live k) ≡ true) [ true ↦ refl | false ↦ up ]

pub keeps : (ring : RingShape) (packets last : ℕ) (live : ℕ → Bool) (step : ScriptLine) → IsAdmissible ring live →
    IsStep ring packets last live step → IsAdmissible ring (live_after live step)
keeps ring packets last live (Crash at server) all is = is.1.admissible
keeps ring packets last live (Recover at server) all is =
    more_live ring live (with_at live server true) (λ k lk up. recovered live server k up) all

pub admissible_on : (ring : RingShape) (packets last : ℕ) (live : ℕ → Bool) (steps : List ScriptLine) (k : ℕ) →
    IsAdmissible ring live → AreSteps ring packets last live steps →
    IsAdmissible ring (live_after_all live (take k steps))
admissible_on ring packets last live steps zero all are = all
admissible_on ring packets last live [] (suc k) all are = all
admissible_on ring packets last live (s ∷ steps) (suc k) all are =
    admissible_on ring packets (at_of s) (live_after live s) steps k (keeps ring packets last live s all are.0) are.1

-- the step at a place, and what is live behind it
pub step_at : (ring : RingShape) (packets last : ℕ) (live : ℕ →
    Bool) (steps : List ScriptLine) (k : ℕ) (step : ScriptLine) → AreSteps ring packets last live steps →
    slice_get steps k ≡ Some step →
    IsStep ring packets (last_of last (take k steps)) (live_after_all live (take k steps)) step
step_at ring packets last live [] k step are e = absurd cc
step_at ring packets last live (s ∷ steps) zero step are e = let same : s ≡ step =
    cc in subst (IsStep ring packets last live) same are.0
step_at ring packets last live (s ∷ steps) (suc k) step are e =
    step_at ring packets (at_of s) (live_after live s) steps k step are.1 e

live_suc : (live : ℕ → Bool) (steps : List ScriptLine) (k : ℕ) (step : ScriptLine) → slice_get steps k ≡ Some step →
    live_after_all live (take (suc k) steps) ≡ live_after (live_after_all live (take k steps)) step
live_suc live [] k step e = absurd cc
live_suc live (s ∷ steps) zero step e = let same : s ≡ step = cc in ap (live_after live) same
live_suc live (s ∷ steps) (suc k) step e = live_suc (live_after live s) steps k step e

pub live_behind : (live : ℕ → Bool) (steps : List ScriptLine) (k : ℕ) (step : ScriptLine) →
    slice_get steps k ≡ Some step →
    live_after_all live (take (k + 1) steps) ≡ live_after (live_after_all live (take k steps)) step
live_behind live steps k step e = rw add-one (live_suc live steps k step e)

last_suc : (last : ℕ) (steps : List ScriptLine) (k : ℕ) (step : ScriptLine) → slice_get steps k ≡ Some step →
    last_of last (take (suc k) steps) ≡ at_of step
last_suc last [] k step e = absurd cc
last_suc last (s ∷ steps) zero step e = let same : s ≡ step = cc in ap at_of same
last_suc last (s ∷ steps) (suc k) step e = last_suc (at_of s) steps k step e

pub last_behind : (last : ℕ) (steps : List ScriptLine) (k : ℕ) (step : ScriptLine) → slice_get steps k ≡ Some step →
    last_of last (take (k + 1) steps) ≡ at_of step
last_behind last steps k step e = rw add-one (last_suc last steps k step e)
