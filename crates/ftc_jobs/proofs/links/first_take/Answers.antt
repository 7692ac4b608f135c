use Rattle.std.proofs.Common.{◌∙◌, ◌<◌, ℕ, inl, inr, refl, sym, subst, arith}
use Rattle.std.proofs.lemmas.Bool.{cases_eq, cases_lt}
use Rattle.ftc_journal.specs.declared.job.Job.TheVariants as job
use Rattle.ftc_protocol.specs.Setting.{servers}
use Rattle.ftc_protocol.specs.Jobs.{IsLegalJob}
use Rattle.ftc_jobs.proofs.Sizes.{size_of}
use Rattle.ftc_jobs.proofs.links.first_take.Goals as goal

pub returns-in-Some-clause-some : goal.returns-in-Some-clause-some
returns-in-Some-clause-some c setting state rest no_pull idle = (
  no_pull,
  idle,
  (c.oldest_at.ensures setting state c.in-Some.origin rest).0 c.in-Some.is,
  λ other another below. c.loop-number.invariant setting state rest other another
      (subst (λ (n : ℕ). other < n) c.server_of-link.ensures below),
)

pub loop-number-preserved : goal.loop-number-preserved
loop-number-preserved c setting state rest link origin below legal =
    elim (cases_eq link c.loop-number.number) [
      | inl same ↦ c.in_default.not-Some origin
          ((c.oldest_at.ensures setting state origin rest).1
          (subst (λ (n : ℕ). IsLegalJob setting state (job.Take n origin)) (same ∙ sym c.server_of-link.ensures) legal))
      | inr differs ↦ c.loop-number.invariant setting state rest link origin (omega (arith, below, differs)) legal
    ]

pub returns-clause-none : goal.returns-clause-none
returns-clause-none c none setting state rest link origin legal =
    let size = size_of setting state c.args.network.now rest in
    elim (cases_lt link (servers setting)) [
      | inl below ↦ c.loop-number.invariant setting state rest link origin (omega arith) legal
      | inr outside ↦ c.what_a_link_offers.ensures.outside setting state link origin rest.run outside legal
    ]

pub returns-in-Some-clause-other : goal.returns-in-Some-clause-other
returns-in-Some-clause-other c setting state rest =
    record { legal = (c.oldest_at.ensures setting state c.in-Some.origin rest).0 c.in-Some.is; other = refl }
