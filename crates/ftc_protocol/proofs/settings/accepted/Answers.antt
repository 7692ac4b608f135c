use Rattle.ftc_protocol.proofs.AcceptedSettings.{is_setting, few_messages}
use Rattle.ftc_protocol.proofs.settings.accepted.Goals as goal

pub returns-clause-setting : goal.returns-clause-setting
returns-clause-setting c = is_setting

pub returns-clause-few : goal.returns-clause-few
returns-clause-few c = few_messages
