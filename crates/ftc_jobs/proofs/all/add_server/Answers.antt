use Rattle.std.proofs.Common.{◌∙◌, refl, sym, ap}
use Rattle.std.specs.Option.{option_copied}
use Rattle.std.proofs.lemmas.Result.{on_ok_weaker}
use Rattle.ftc_journal.specs.declared.job.Job.TheVariants.{Crash, Recover}
use Rattle.ftc_jobs.specs.All.{is_running_by, IsOfMessages}
use Rattle.ftc_jobs.proofs.AllJobs.{adds_itself, adds_none}
use Rattle.ftc_jobs.proofs.JobKinds.{held_where, server_jobs}
use Rattle.ftc_jobs.proofs.Standing.{down_holds_none}
use Rattle.ftc_jobs.proofs.all.add_server.Goals as goal

pub returns-in-Some : goal.returns-in-Some
returns-in-Some c = on_ok_weaker c.add_messages.result (λ messages setting state packets rest.
    let server = c.args.server in
    let runs = is_running_by c.args.network.now in
    server_jobs runs setting state server c.args.jobs.now c.add_if.new.jobs c.add_if-2.new.jobs c.add_messages.new.jobs
    (adds_itself runs setting state _ _ c.may_crash-crash.result (Crash server) tt c.in_ok-add_if.ensures
    (c.may_crash-crash.ensures setting state packets rest))
    (adds_itself runs setting state _ _ c.may_recover-recover.result (Recover server) tt c.in_ok-add_if-2.ensures
    (c.may_recover-recover.ensures setting state packets rest))
    (messages setting state packets rest (sym c.server_at.ensures ∙ ap (λ o. option_copied o) c.in-Some.is)))
    c.add_messages.ensures

pub returns-in-None : goal.returns-in-None
returns-in-None c setting state packets rest =
    let server = c.args.server in
    let runs = is_running_by c.args.network.now in
    server_jobs runs setting state server c.args.jobs.now c.add_if.new.jobs c.add_if-2.new.jobs c.add_if-2.new.jobs
    (adds_itself runs setting state _ _ c.may_crash-crash.result (Crash server) tt c.in_ok-add_if.ensures
    (c.may_crash-crash.ensures setting state packets rest))
    (adds_itself runs setting state _ _ c.may_recover-recover.result (Recover server) tt c.in_ok-add_if-2.ensures
    (c.may_recover-recover.ensures setting state packets rest))
    (adds_none runs setting state (IsOfMessages server) _ _ refl (λ job of legal.
    let there = held_where setting state server of.0 job of.1 legal.0 in
    down_holds_none setting state c.args.network.now rest.resting server
    (c.held_in_turn.ensures.holder setting state server of.0 there.0 rest.resting.run there.1)
    (sym c.server_at.ensures ∙ ap (λ o. option_copied o) c.in-None.is)))
