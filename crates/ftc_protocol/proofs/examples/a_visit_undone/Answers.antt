use Rattle.ftc_protocol.proofs.Example.{a_setting, a_run, nothing_left}
use Rattle.ftc_protocol.proofs.examples.a_visit_undone.Goals as goal

pub returns-clause-setting : goal.returns-clause-setting
returns-clause-setting c = a_setting

pub returns-clause-run : goal.returns-clause-run
returns-clause-run c = a_run

pub returns-clause-left : goal.returns-clause-left
returns-clause-left c = nothing_left
