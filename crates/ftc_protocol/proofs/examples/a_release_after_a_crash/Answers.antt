use Rattle.ftc_protocol.proofs.RecoveryExample.{a_setting, a_run, is_finished, released}
use Rattle.ftc_protocol.proofs.examples.a_release_after_a_crash.Goals as goal

pub returns-clause-setting : goal.returns-clause-setting
returns-clause-setting c = a_setting

pub returns-clause-run : goal.returns-clause-run
returns-clause-run c = a_run

pub returns-clause-finished : goal.returns-clause-finished
returns-clause-finished c = is_finished

pub returns-clause-fate : goal.returns-clause-fate
returns-clause-fate c = released
