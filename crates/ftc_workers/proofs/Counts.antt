-- How the events that are added count.
use Rattle.std.proofs.Common.{◌≡◌, ◌≤◌, ◌+◌, ◌++◌, ◌∷◌, [], List, ℕ, true, false, length, refl, arith}
use Rattle.ftc_journal.specs.declared.event.Event.{Event}
use Rattle.ftc_journal.specs.declared.event.Event.TheVariants as event
use Rattle.ftc_journal.specs.declared.job.Job.{Job}
use Rattle.ftc_journal.specs.declared.job.Job.TheVariants as job
use Rattle.ftc_protocol.specs.Setting.{Setting}
use Rattle.ftc_protocol.specs.State.{ChainState}
use Rattle.ftc_protocol.specs.Legal.{is_release}
use Rattle.ftc_protocol.specs.Next.{next}
use Rattle.ftc_protocol.specs.Drive.{AreReleases}
use Rattle.ftc_protocol.specs.Jobs.{event_of}
use Rattle.ftc_chain.specs.Doing.{is_visit}
use Rattle.ftc_workers.specs.Visits.{visits, visits_of}

pub visits_append : (xs ys : List Event) → visits (xs ++ ys) ≡ visits xs + visits ys
visits_append [] ys = omega arith
visits_append (x ∷ xs) ys = omega (arith, visits_append xs ys)

one_at_most : (one : Event) → visits_of one ≤ 1
one_at_most (event.Visit server packet worker) = omega arith
one_at_most other = omega arith

-- there are no more visits than events
pub visits_within : (events : List Event) → visits events ≤ length events
visits_within [] = omega arith
visits_within (one ∷ events) = omega (arith, one_at_most one, visits_within events)

release_counts : (one : Event) → is_release one ≡ true → visits_of one ≡ 0
release_counts (event.Visit server packet worker) is = absurd cc
release_counts other is = refl

-- releases are no visits
pub releases_count : (setting : Setting) (state : ChainState) (events : List Event) →
    AreReleases setting state events → visits events ≡ 0
releases_count setting state [] due = refl
releases_count setting state (one ∷ events) due =
    let rest = releases_count setting (next setting state one) events due.2 in
    omega (arith, release_counts one due.0, rest)

-- the event of a job other than a visit is none
pub step_counts : (setting : Setting) (state : ChainState) (slot : ℕ) (done : Job) → is_visit done ≡ false →
    visits_of (event_of setting state slot done) ≡ 0
step_counts setting state slot (job.Visit server packet) other = absurd cc
step_counts setting state slot done other = refl
