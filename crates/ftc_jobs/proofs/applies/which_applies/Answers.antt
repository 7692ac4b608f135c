use Rattle.ftc_message.specs.Logged.{Logged}
use Rattle.ftc_replica.specs.Held.{Held}
use Rattle.ftc_jobs.proofs.ApplyNow.{applicable, may_happen, test_of_legal}
use Rattle.ftc_jobs.proofs.applies.which_applies.Goals as goal

pub returns : goal.returns
returns c setting state server origin group packet old run none is =
    let order = c.order_of_a_state.ensures setting state run in
    let trace = (c.every_state_tied.ensures setting state run).trace in
    let say = λ (log : Logged) (replica : Held)
    (of_log : Rattle.ftc_ties.specs.Logs.IsLogIn setting.partitions state.trace log).
    c.what_vectors_say.ensures.had setting state server log replica run of_log in
    let ready = λ (log : Logged) (replica : Held)
    (of_log : Rattle.ftc_ties.specs.Logs.IsLogIn setting.partitions state.trace log).
    c.what_vectors_say.ensures.ready setting state server log replica run of_log in (
      (λ test. (
        may_happen setting state server origin group packet old order trace is say ready c.order_tests.ensures.ready
            (applicable old origin group packet test),
        λ other. none,
      )),
      (λ legal. test_of_legal setting state server origin group packet old order trace is say ready
          c.order_tests.ensures.ready legal.0
          (c.what_apply_wants.ensures.ready setting state server origin group packet old run legal is)),
    )
