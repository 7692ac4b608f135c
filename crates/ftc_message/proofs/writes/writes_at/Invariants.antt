-- what is left gives what the whole gives
use Rattle.std.proofs.Common.{◌≡◌, ◌-◌, length, Ok}
use Rattle.ftc_base.specs.Reading.{◌>>=◌}
use Rattle.ftc_message.specs.Reading.{times, with_write, writes_at}
use Rattle.ftc_message.proofs.writes.writes_at.Given as goal

abbrev pub invariant-loop : goal.invariant-loop
invariant-loop l = record {
  told : writes_at l.bytes ≡ (times with_write (l.count - l.counter) (l.last, l.writes.items) l.rest >>= λ writes.
      Ok (writes.0.1, writes.1));
  count : length l.writes.items ≡ l.counter;
}
