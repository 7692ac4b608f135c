-- Jobs beside what slots run.
use Rattle.std.specs.Prelude.{ℕ, ◌≡◌, Bool, true, false, not}
use Rattle.ftc_journal.specs.declared.job.Job.{Job}
use Rattle.ftc_journal.specs.declared.job.Job.TheVariants as kind
use Rattle.ftc_protocol.specs.Setting.{Setting}
use Rattle.ftc_protocol.specs.State.{ChainState}
use Rattle.ftc_protocol.specs.Jobs.{IsLegalJob, IsWork, IsNoLine, IsNoEnter}

abbrev pub is_visit : Job → Bool
is_visit (kind.Visit server packet) = true
is_visit other = false

-- it is a visit that no slot runs
abbrev pub is_free_visit : (ℕ → ℕ → Bool) → Job → Bool
is_free_visit runs (kind.Visit server packet) = not (runs server packet)
is_free_visit runs other = false

-- a visit that no slot runs is wanted, or what is no visit
abbrev pub is_sought : Bool → (ℕ → ℕ → Bool) → Job → Bool
is_sought true runs job = is_free_visit runs job
is_sought false runs job = not (is_visit job)

-- the job is legal and wanted
pub record IsWanted (visits : Bool) (runs : ℕ → ℕ → Bool) (setting : Setting) (state : ChainState) (job : Job) :
    Type 0 where
  pub legal : IsLegalJob setting state job
  pub wanted : is_sought visits runs job ≡ true

-- no legal job is wanted
abbrev pub IsNoneWanted : Bool → (ℕ → ℕ → Bool) → Setting → ChainState → Type 0
IsNoneWanted visits runs setting state =
    (job : Job) → IsLegalJob setting state job → is_sought visits runs job ≡ false

-- the job is legal and no visit
pub record IsOtherJob (setting : Setting) (state : ChainState) (job : Job) : Type 0 where
  pub legal : IsLegalJob setting state job
  pub other : is_visit job ≡ false

-- the work of the message of that origin at the server isn't wanted
abbrev pub IsUnwanted : Bool → (ℕ → ℕ → Bool) → Setting → ChainState → ℕ → ℕ → Type 0
IsUnwanted visits runs setting state server origin =
    (job : Job) → IsWork setting state server origin job → is_sought visits runs job ≡ false

-- no line is to be done, no packet may enter, and no message may begin without one
pub record IsNoneOutside (setting : Setting) (state : ChainState) : Type 0 where
  pub lines : IsNoLine setting state
  pub enters : IsNoEnter setting state
  pub propagates : (origin : ℕ) → IsLegalJob setting state (kind.Propagate origin) → ⊥
