use Rattle.std.proofs.Common.{◌∙◌, ◌<◌, ℕ, Some, refl, sym, ap, subst}
use Rattle.std.proofs.lemmas.Option.{none-some, same_Some}
use Rattle.ftc_journal.specs.declared.job.Job.TheVariants as job
use Rattle.ftc_protocol.specs.Setting.{count}
use Rattle.ftc_protocol.specs.Jobs.{IsLegalJob}
use Rattle.ftc_jobs.proofs.LinesInOrder.{lines_left}
use Rattle.ftc_jobs.proofs.NextLine.{none_for, not_for}
use Rattle.ftc_jobs.proofs.lines.entering.Goals as goal

pub returns-in-Some : goal.returns-in-Some
returns-in-Some c setting state rest packet = (
  (λ same. absurd (none-some packet same)),
  (λ legal.
      let due = (c.next_line.ensures setting state c.args.packets rest c.in-Some.field-0).0 c.in-Some.is in
      absurd (not_for state.lines packet c.in-Some.field-0 legal.0.2 due.0 (due.1 ∙ sym legal.0.0))),
)

pub returns-in-None : goal.returns-in-None
returns-in-None c setting state rest packet =
    let network = c.args.network.now in
    let entered_is = rest.resting.stands.counts.entered_is in
    let order = lines_left setting state rest.resting.run in
    let few : state.entered < count setting = subst (λ (n : ℕ). n < count setting) entered_is
    (subst (λ (n : ℕ). network.entered < n) rest.packets_are c.if-network-packets.false) in
    let legal : IsLegalJob setting state (job.Enter state.entered) = (
      (
        refl,
        few,
        none_for state.lines state.entered order
            (λ line next at. none-some line
            (sym c.in-None.is ∙ (c.next_line.ensures setting state c.args.packets rest line).1 (next, at))),
      ),
      λ other. rest.resting.none_due,
    ) in (
      (λ same. subst (λ (n : ℕ). IsLegalJob setting state (job.Enter n))
          (sym entered_is ∙ same_Some network.entered packet same)
          legal),
      (λ it. ap (λ (n : ℕ). Some n) (entered_is ∙ sym it.0.0)),
    )
