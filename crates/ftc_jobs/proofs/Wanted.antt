-- Which legal jobs are wanted, where it is known of the work of held messages.
use Rattle.std.proofs.Common.{◌≡◌, ◌⊎◌, ℕ, Bool, true, false, not, refl, sym, ap, subst, inl, inr}
use Rattle.ftc_journal.specs.declared.job.Job.{Job}
use Rattle.ftc_journal.specs.declared.job.Job.TheVariants.{Enter, Take, Apply, Visit, Pass, Lose, Carry, Crash, Recover}
use Rattle.ftc_journal.specs.declared.job.Job.TheVariants.{Pull, Propagate}
use Rattle.ftc_protocol.specs.Jobs.{IsLegalJob, IsWork, IsNoWork, IsNoApply, IsNoPull, IsNoTake}
use Rattle.ftc_protocol.specs.Legal.{IsHeld}
use Rattle.ftc_protocol.specs.Setting.{Setting}
use Rattle.ftc_protocol.specs.State.{Message, ChainState}
use Rattle.ftc_script.specs.declared.line.ScriptLine.{ScriptLine}
use Rattle.ftc_script.specs.declared.line.ScriptLine.TheVariants.{Crash as CrashLine, Recover as RecoverLine}
use Rattle.ftc_jobs.specs.All.{IsUntaken}
use Rattle.ftc_jobs.specs.Beside.{is_visit, is_sought, IsWanted, IsNoneWanted, IsOtherJob, IsUnwanted, IsNoneOutside}
use Rattle.ftc_jobs.specs.Lines.{job_of_line}
use Rattle.ftc_jobs.proofs.JobKinds.{held_where}
use Rattle.ftc_jobs.proofs.WorkAt.{at_its_place}

-- the job of a line is no visit
pub line_is_no_visit : (line : ScriptLine) → is_visit (job_of_line line) ≡ false
line_is_no_visit (CrashLine at server) = refl
line_is_no_visit (RecoverLine at server) = refl

-- a visit that a slot runs isn't wanted
pub taken_is_unwanted : (visits : Bool) (runs : ℕ → ℕ → Bool) (server packet : ℕ) → runs server packet ≡ true →
    is_sought visits runs (Visit server packet) ≡ false
taken_is_unwanted true runs server packet taken = ap not taken
taken_is_unwanted false runs server packet taken = refl

module _ (setting : Setting) (state : ChainState) where
  pub legal_work : (server origin : ℕ) (job : Job) → IsWork setting state server origin job →
      IsLegalJob setting state job
  legal_work server origin (Apply at own group packet) work =
      at_its_place (IsLegalJob setting state) (λ a o. Apply a o group packet) server origin at own work.0 work.1 work.2
  legal_work server origin (Visit at own) work =
      at_its_place (IsLegalJob setting state) (λ a o. Visit a o) server origin at own work.0 work.1 work.3
  legal_work server origin (Pass at own) work =
      at_its_place (IsLegalJob setting state) (λ a o. Pass a o) server origin at own work.0 work.1 work.4
  legal_work server origin (Lose at own) work =
      at_its_place (IsLegalJob setting state) (λ a o. Lose a o) server origin at own work.0 work.1 work.4
  legal_work server origin (Carry own) work =
      subst (λ (o : ℕ). IsLegalJob setting state (Carry o)) (sym work.1) work.4
  legal_work server origin (Enter packet) work = absurd work
  legal_work server origin (Take link own) work = absurd work
  legal_work server origin (Crash at) work = absurd work
  legal_work server origin (Recover at) work = absurd work
  legal_work server origin (Pull link) work = absurd work
  legal_work server origin (Propagate own) work = absurd work

  -- no job is the work of a message that has none
  pub not_work : (server origin : ℕ) → IsNoWork setting state server origin → (job : Job) →
      IsWork setting state server origin job → ⊥
  not_work server origin none (Apply at own group packet) work = none.apply group packet work.2
  not_work server origin none (Visit at own) work = none.visit work.3
  not_work server origin none (Pass at own) work = none.pass work.4
  not_work server origin none (Lose at own) work = none.lose work.4
  not_work server origin none (Carry own) work = none.carry work.0 work.4
  not_work server origin none (Enter packet) work = absurd work
  not_work server origin none (Take link own) work = absurd work
  not_work server origin none (Crash at) work = absurd work
  not_work server origin none (Recover at) work = absurd work
  not_work server origin none (Pull link) work = absurd work
  not_work server origin none (Propagate own) work = absurd work

  module _ (runs : ℕ → ℕ → Bool) where
    -- work that isn't wanted where no visit is, is a visit, beside which nothing is to be applied
    no_apply : (server origin : ℕ) (job : Job) → IsWork setting state server origin job →
        is_sought false runs job ≡ false → IsNoApply setting state server origin
    no_apply server origin (Visit at own) work isnt = work.2
    no_apply server origin (Apply at own group packet) work isnt = absurd cc
    no_apply server origin (Pass at own) work isnt = absurd cc
    no_apply server origin (Lose at own) work isnt = absurd cc
    no_apply server origin (Carry own) work isnt = absurd cc
    no_apply server origin (Enter packet) work isnt = absurd work
    no_apply server origin (Take link own) work isnt = absurd work
    no_apply server origin (Crash at) work isnt = absurd work
    no_apply server origin (Recover at) work isnt = absurd work
    no_apply server origin (Pull link) work isnt = absurd work
    no_apply server origin (Propagate own) work isnt = absurd work

    -- work is no visit that a slot runs, where none runs its message's packet
    pub untaken_work : (server origin : ℕ) (job : Job) → IsWork setting state server origin job →
        runs server origin ≡ false → IsUntaken runs job
    untaken_work server origin (Visit at own) work free =
        subst (λ (a : ℕ). runs a own ≡ false) (sym work.0)
        (subst (λ (o : ℕ). runs server o ≡ false) (sym work.1) free)
    untaken_work server origin (Apply at own group packet) work free = tt
    untaken_work server origin (Pass at own) work free = tt
    untaken_work server origin (Lose at own) work free = tt
    untaken_work server origin (Carry own) work free = tt
    untaken_work server origin (Enter packet) work free = tt
    untaken_work server origin (Take link own) work free = tt
    untaken_work server origin (Crash at) work free = tt
    untaken_work server origin (Recover at) work free = tt
    untaken_work server origin (Pull link) work free = tt
    untaken_work server origin (Propagate own) work free = tt

    -- a legal job that is no visit is wanted, where no visit is
    pub wanted_other : (job : Job) → IsOtherJob setting state job → IsWanted false runs setting state job
    wanted_other job is = record { legal = is.legal; wanted = ap not is.other }

    -- where no work of a held message is a visit that no slot runs, no legal job is
    pub no_free_visit : ((server origin : ℕ) (message : Message) → IsHeld state server origin message →
        IsUnwanted true runs setting state server origin) →
        ((server packet : ℕ) → IsLegalJob setting state (Visit server packet) →
        IsWork setting state server packet (Visit server packet)) → IsNoneWanted true runs setting state
    no_free_visit unwanted visits (Visit server packet) legal =
        let held = held_where setting state server packet (Visit server packet) (refl, refl) legal in
        unwanted server packet held.0 held.1 (Visit server packet) (visits server packet legal)
    no_free_visit unwanted visits (Enter packet) legal = refl
    no_free_visit unwanted visits (Take link origin) legal = refl
    no_free_visit unwanted visits (Apply server origin group packet) legal = refl
    no_free_visit unwanted visits (Pass server origin) legal = refl
    no_free_visit unwanted visits (Lose server origin) legal = refl
    no_free_visit unwanted visits (Carry origin) legal = refl
    no_free_visit unwanted visits (Crash server) legal = refl
    no_free_visit unwanted visits (Recover server) legal = refl
    no_free_visit unwanted visits (Pull link) legal = refl
    no_free_visit unwanted visits (Propagate origin) legal = refl

    module _ (unwanted : (server origin : ℕ) (message : Message) → IsHeld state server origin message →
        IsUnwanted false runs setting state server origin)
        (works : (server origin : ℕ) →
        ((job : Job) × IsWork setting state server origin job) ⊎ IsNoWork setting state server origin)
        (passes : (server origin : ℕ) → IsLegalJob setting state (Pass server origin) →
        IsWork setting state server origin (Pass server origin))
        (loses : (server origin : ℕ) → IsLegalJob setting state (Lose server origin) →
        IsWork setting state server origin (Lose server origin))
        (carries : (origin : ℕ) → IsLegalJob setting state (Carry origin) →
        IsWork setting state 0 origin (Carry origin))
        (no_pull : IsNoPull setting state) (no_take : IsNoTake setting state) (outside : IsNoneOutside setting state)
      where
        -- where nothing else is legal, and no work of a held message is anything but a visit, no other job is legal
        pub no_other_job : IsNoneWanted false runs setting state
        no_other_job (Visit server packet) legal = refl
        no_other_job (Apply server origin group packet) legal =
            let job = Apply server origin group packet in
            let held = held_where setting state server origin job (refl, refl) legal in
            absurd (elim (works server origin) [
              | inl some ↦ no_apply server origin some.0 some.1 (unwanted server origin held.0 held.1 some.0 some.1)
                  group packet legal
              | inr none ↦ none.apply group packet legal
            ])
        no_other_job (Pass server origin) legal =
            let held = held_where setting state server origin (Pass server origin) (refl, refl) legal in
            unwanted server origin held.0 held.1 (Pass server origin) (passes server origin legal)
        no_other_job (Lose server origin) legal =
            let held = held_where setting state server origin (Lose server origin) (refl, refl) legal in
            unwanted server origin held.0 held.1 (Lose server origin) (loses server origin legal)
        no_other_job (Carry origin) legal =
            let held = held_where setting state 0 origin (Carry origin) (refl, refl) legal in
            unwanted 0 origin held.0 held.1 (Carry origin) (carries origin legal)
        no_other_job (Enter packet) legal = absurd (outside.enters packet legal)
        no_other_job (Take link origin) legal = absurd (no_take link origin legal)
        no_other_job (Crash server) legal = absurd (outside.lines server (inl legal))
        no_other_job (Recover server) legal = absurd (outside.lines server (inr legal))
        no_other_job (Pull link) legal = absurd (no_pull link legal)
        no_other_job (Propagate origin) legal = absurd (outside.propagates origin legal)
