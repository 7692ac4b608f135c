use Rattle.ftc_message.specs.SameLaws.{logs_tell, log_lists_tell, need_lists_tell, messages_tell}
use Rattle.ftc_message.proofs.laws.sameness.Goals as goal

pub returns : goal.returns
returns c = record {
  logs = logs_tell;
  log_lists = log_lists_tell;
  need_lists = need_lists_tell;
  messages = messages_tell;
}
