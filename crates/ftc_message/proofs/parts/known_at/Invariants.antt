-- what is left gives what the whole gives, where the numbers so far are the marks
use Rattle.std.proofs.Common.{◌≡◌, ◌-◌, Ok, length}
use Rattle.ftc_base.specs.declared.limits.TheConstants.{MOST_PARTITIONS}
use Rattle.ftc_base.specs.Reading.{◌>>=◌}
use Rattle.ftc_message.specs.Spelling.{not_zero}
use Rattle.ftc_message.specs.Reading.{times, with_mark, marks_at}
use Rattle.ftc_message.proofs.parts.known_at.Given as goal

abbrev pub invariant-loop : goal.invariant-loop
invariant-loop l = record {
  told : marks_at 1 l.bytes
      ≡ (times (with_mark 1) (l.count - l.counter) (l.from, not_zero l.vector) l.rest
      >>= λ marks. Ok (marks.0.1, marks.1));
  size : length l.vector ≡ MOST_PARTITIONS;
}
