-- what is left gives what the whole gives
use Rattle.std.proofs.Common.{◌≡◌, ◌-◌, Ok}
use Rattle.ftc_base.specs.Reading.{◌>>=◌}
use Rattle.ftc_message.specs.Reading.{times, with_mark, marks_at}
use Rattle.ftc_message.proofs.parts.marks_at.Given as goal

abbrev pub invariant-loop : goal.invariant-loop
invariant-loop l = marks_at l.least l.bytes
    ≡ (times (with_mark l.least) (l.count - l.counter) (l.from, l.marks) l.rest >>= λ marks. Ok (marks.0.1, marks.1))
