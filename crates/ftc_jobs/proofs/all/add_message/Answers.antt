use Rattle.std.proofs.Common.{◌≡◌, List, refl, sym, subst}
use Rattle.std.proofs.lemmas.Result.{on_ok_weaker}
use Rattle.ftc_journal.specs.declared.job.Job.{Job}
use Rattle.ftc_journal.specs.declared.job.Job.TheVariants.{Carry, Lose, Pass, Visit}
use Rattle.ftc_message.specs.Logged.{Logged}
use Rattle.ftc_protocol.specs.Jobs.{IsLegalJob}
use Rattle.ftc_jobs.specs.All.{is_running_by, HasJobsOf, IsOfLogs, IsUntaken}
use Rattle.ftc_jobs.proofs.AllJobs.{adds_if, adds_itself}
use Rattle.ftc_jobs.proofs.JobKinds.{apply_of_message, message_jobs}
use Rattle.ftc_jobs.proofs.Standing.{is_up_there}
use Rattle.ftc_jobs.proofs.all.add_message.Goals as goal

pub returns : goal.returns
returns c = on_ok_weaker c.add_if-4.result (λ grown setting state packets live rest slot there.
    let network = c.args.network.now in
    let server = c.args.server in
    let runs = is_running_by network in
    let message = c.args.message.now in
    let origin = message.origin in
    let resting = rest.resting in
    let up = is_up_there setting state network resting server live slot in
    let visit = c.may_begin_visit.ensures setting state resting in
    let carry = c.may_carry_at-carry.ensures setting state resting in
    message_jobs setting state server origin message.logs runs c.args.jobs.now c.add_applies.new.jobs c.add_if.new.jobs
    c.add_if-2.new.jobs c.add_if-3.new.jobs c.add_if-4.new.jobs
    (subst (λ (logs : List Logged). HasJobsOf (IsOfLogs server origin logs) runs setting state c.args.jobs.now
    c.add_applies.new.jobs) c.as_slice.ensures (c.in_ok-add_applies.ensures setting state resting))
    (adds_if runs setting state (λ (job : Job). Visit server origin ≡ job) _ _ c.may_begin_visit.result
    (Visit server origin) c.in_ok-add_if.ensures (λ test. (refl, visit.0 test))
    (λ job of legal.
    (of, visit.1 (subst (λ (j : Job). IsLegalJob setting state j × IsUntaken runs j) (sym of) legal))))
    (adds_itself runs setting state _ _ c.may_pass-pass.result (Pass server origin) tt c.in_ok-add_if-2.ensures
    (c.may_pass-pass.ensures setting state packets rest))
    (adds_itself runs setting state _ _ c.may_lose-lose.result (Lose server origin) tt c.in_ok-add_if-3.ensures
    (c.may_lose-lose.ensures setting state packets rest))
    (adds_if runs setting state (λ (job : Job). (Carry origin ≡ job) × (server ≡ 0)) _ _ c.may_carry_at-carry.result
    (Carry origin) grown (λ test. ((refl, (carry.0 test).0), ((carry.0 test).1, tt)))
    (λ job of legal. (of.0, carry.1 (of.1, subst (IsLegalJob setting state) (sym of.0) legal.0))))
    (λ group packet legal. apply_of_message live server origin group packet message there
    ((c.which_applies.ensures setting state server origin group packet live resting.run resting.none_due up.at).1
    legal)))
    c.add_if-4.ensures
