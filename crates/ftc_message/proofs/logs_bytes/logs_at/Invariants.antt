-- what is left gives what the whole gives, behind logs that rise
use Rattle.std.proofs.Common.{◌≡◌, ◌-◌, None, Ok, true}
use Rattle.ftc_message.specs.Logged.{logs_rise}
use Rattle.ftc_base.specs.Reading.{◌>>=◌}
use Rattle.ftc_message.specs.Reading.{times, with_log, logs_at}
use Rattle.ftc_message.proofs.Following.{end_of}
use Rattle.ftc_message.proofs.RiseLaws.{place_of_log}
use Rattle.ftc_message.proofs.logs_bytes.logs_at.Given as goal

abbrev pub invariant-loop : goal.invariant-loop
invariant-loop l = record {
  told : logs_at l.bytes ≡ (times with_log (l.count - l.counter) (l.last, l.logs) l.rest >>= λ logs.
      Ok (logs.0.1, logs.1));
  last : l.last ≡ end_of place_of_log None l.logs;
  rising : logs_rise None l.logs ≡ true;
}
