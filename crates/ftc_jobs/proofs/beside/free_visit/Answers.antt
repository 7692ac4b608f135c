use Rattle.ftc_jobs.specs.All.{is_running_by}
use Rattle.ftc_jobs.proofs.Wanted.{no_free_visit}
use Rattle.ftc_jobs.proofs.beside.free_visit.Goals as goal

pub returns-clause-none : goal.returns-clause-none
returns-clause-none c none setting state packets rest =
    no_free_visit setting state (is_running_by c.args.network.now)
    (c.wanted_work.ensures.none none setting state packets rest) (c.work.ensures.visit setting state)
