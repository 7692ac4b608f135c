-- The order of jobs is total, and a first job is the only one.
use Rattle.std.proofs.Common.{◌≡◌, ℕ, zero, suc, List, [], ◌∷◌, length, ◌⊎◌, inl, inr, refl, sym, ap, ◌∙◌, arith}
use Rattle.std.proofs.lemmas.Bool.{cases_eq, cases_lt}
use Rattle.ftc_journal.specs.declared.job.Job.{Job}
use Rattle.ftc_journal.specs.declared.job.Job.TheVariants.{Apply, Carry, Crash, Enter, Lose, Pass, Propagate, Pull}
use Rattle.ftc_journal.specs.declared.job.Job.TheVariants.{Recover, Take, Visit}
use Rattle.ftc_protocol.specs.Setting.{Setting}
use Rattle.ftc_protocol.specs.State.{ChainState}
use Rattle.ftc_protocol.specs.Measure.{IsBelow}
use Rattle.ftc_protocol.specs.Jobs.{place_of, IsEarlier, IsFirstJob}

-- ---- lists of numbers

pub below_both : (xs ys zs : List ℕ) → IsBelow xs ys → IsBelow ys zs → IsBelow xs zs
below_both [] ys zs a b = absurd a
below_both (x ∷ xs) [] zs a b = absurd a
below_both (x ∷ xs) (y ∷ ys) [] a b = absurd b
below_both (x ∷ xs) (y ∷ ys) (z ∷ zs) a b = elim a [
  | inl less ↦ elim b [ inl more ↦ inl (omega arith) | inr same ↦ let e : y ≡ z = same.0 in inl (omega arith) ]
  | inr same ↦ let e : x ≡ y =
      same.0 in elim b [
        | inl more ↦ inl (omega arith)
        | inr equal ↦
            inr (e ∙ equal.0, below_both xs ys zs same.1 equal.1)
      ]
]

pub not_below_itself : (xs : List ℕ) → IsBelow xs xs → ⊥
not_below_itself [] a = a
not_below_itself (x ∷ xs) a = elim a [ inl less ↦ omega arith | inr same ↦ not_below_itself xs same.1 ]

pub compared : (xs ys : List ℕ) → length xs ≡ length ys → IsBelow xs ys ⊎ ((xs ≡ ys) ⊎ IsBelow ys xs)
compared [] [] same = inr (inl refl)
compared [] (y ∷ ys) same = absurd (omega arith)
compared (x ∷ xs) [] same = absurd (omega arith)
compared (x ∷ xs) (y ∷ ys) same = elim (cases_lt x y) [
  | inl less ↦ inl (inl less)
  | inr more ↦ elim (cases_eq x y) [
    | inr other ↦ inr (inr (inl (omega arith)))
    | inl equal ↦ elim (compared xs ys (omega arith)) [
      | inl below ↦ inl (inr (equal, below))
      | inr rest ↦ elim rest [
        | inl all ↦ inr (inl (cc))
        | inr above ↦ inr (inr (inr (sym equal, above)))
      ]
    ]
  ]
]

-- ---- jobs

-- the job that has a place, read back
abbrev work_at : ℕ → ℕ → ℕ → ℕ → ℕ → Job
work_at k zero q j p = Carry p
work_at k (suc zero) q j p = Apply k p j q
work_at k (suc (suc zero)) q j p = Visit k p
work_at k (suc (suc (suc more))) zero j p = Pass k p
work_at k (suc (suc (suc more))) (suc zero) j p = Lose k p
work_at k (suc (suc (suc more))) (suc (suc another)) j p = Carry p

abbrev line_at : ℕ → ℕ → Job
line_at k zero = Crash k
line_at k (suc other) = Recover k

abbrev job_with : ℕ → ℕ → ℕ → ℕ → ℕ → ℕ → Job
job_with zero k what q j p = Enter p
job_with (suc zero) k what q j p = Pull k
job_with (suc (suc zero)) k what q j p = work_at k what q j p
job_with (suc (suc (suc zero))) k what q j p = Take k p
job_with (suc (suc (suc (suc zero)))) k what q j p = line_at k what
job_with (suc (suc (suc (suc (suc zero))))) k what q j p = Enter p
job_with (suc (suc (suc (suc (suc (suc more)))))) k what q j p = Propagate p

abbrev job_at : List ℕ → Job
job_at (a ∷ k ∷ since ∷ what ∷ q ∷ j ∷ p ∷ rest) = job_with a k what q j p
job_at other = Enter 0

-- the place of a job has seven numbers, from which the job is read back
place_tells : (s : ChainState) (j : Job) → (length (place_of s j) ≡ 7) × (job_at (place_of s j) ≡ j)
place_tells s (Enter p) = (refl, refl)
place_tells s (Take l p) = (refl, refl)
place_tells s (Apply k p j q) = (refl, refl)
place_tells s (Visit k p) = (refl, refl)
place_tells s (Pass k p) = (refl, refl)
place_tells s (Lose k p) = (refl, refl)
place_tells s (Carry p) = (refl, refl)
place_tells s (Crash k) = (refl, refl)
place_tells s (Recover k) = (refl, refl)
place_tells s (Pull l) = (refl, refl)
place_tells s (Propagate p) = (refl, refl)

pub same_job : (s : ChainState) (a b : Job) → place_of s a ≡ place_of s b → a ≡ b
same_job s a b same = sym (place_tells s a).1 ∙ (ap job_at same ∙ (place_tells s b).1)

-- of two jobs one is earlier, or they are one
pub ordered : (s : ChainState) (a b : Job) → IsEarlier s a b ⊎ ((a ≡ b) ⊎ IsEarlier s b a)
ordered s a b = elim (compared (place_of s a) (place_of s b) ((place_tells s a).0 ∙ sym (place_tells s b).0)) [
  | inl below ↦ inl below
  | inr rest ↦ elim rest [ inl same ↦ inr (inl (same_job s a b same)) | inr above ↦ inr (inr above) ]
]

pub one_first : (c : Setting) (s : ChainState) (a b : Job) → IsFirstJob c s a → IsFirstJob c s b → a ≡ b
one_first c s a b fa fb = elim (ordered s a b) [
  | inl below ↦ absurd (fb.least a fa.legal below)
  | inr rest ↦ elim rest [ inl same ↦ same | inr above ↦ absurd (fa.least b fb.legal above) ]
]
