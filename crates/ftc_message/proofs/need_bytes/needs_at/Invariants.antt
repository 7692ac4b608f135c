-- what is left gives what the whole gives, behind needs that rise
use Rattle.std.proofs.Common.{◌≡◌, ◌-◌, Ok, true}
use Rattle.ftc_message.specs.Logged.{needs_rise}
use Rattle.ftc_base.specs.Reading.{◌>>=◌}
use Rattle.ftc_message.specs.Reading.{times, with_need, needs_at}
use Rattle.ftc_message.proofs.Following.{end_of}
use Rattle.ftc_message.proofs.RiseLaws.{place_of_need}
use Rattle.ftc_message.proofs.need_bytes.needs_at.Given as goal

abbrev pub invariant-loop : goal.invariant-loop
invariant-loop l = record {
  told : needs_at l.most l.least l.bytes
      ≡ (times (with_need l.least) (l.count - l.counter) (l.from, l.needs) l.rest >>= λ needs. Ok (needs.0.1, needs.1));
  next : l.from ≡ end_of place_of_need 0 l.needs;
  rising : needs_rise 0 l.needs ≡ true;
}
