use Rattle.ftc_message.proofs.LogLaws.{log_at_again}
use Rattle.ftc_message.proofs.NeedLaws.{needs_at_again}
use Rattle.ftc_message.proofs.CommitLaws.{commits_at_again}
use Rattle.ftc_message.proofs.MessageLaws.{needs_spelled}
use Rattle.ftc_message.proofs.laws.read_again.Goals as goal

pub returns : goal.returns
returns c = record {
  log = λ last log rest typed some follows. log_at_again last log rest (record { typed = typed; some = some }) follows;
  needs = λ most needs rest are some few. needs_at_again most 0 needs rest (record {
    few = few;
    each = needs_spelled needs are.each some;
    rising = are.rising;
  });
  commits = commits_at_again;
}
