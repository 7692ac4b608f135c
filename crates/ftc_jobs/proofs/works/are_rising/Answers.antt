use Rattle.ftc_base.proofs.EachOf.{tests_all}
use Rattle.ftc_server.specs.Holding.{are_rising}
use Rattle.ftc_jobs.proofs.works.are_rising.Goals as goal

pub returns : goal.returns
returns c = tests_all are_rising c.args._server.now.held.items c.args._server.now.«rising»
