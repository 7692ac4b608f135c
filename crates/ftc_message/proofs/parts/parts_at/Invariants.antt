-- what is left gives what the whole gives
use Rattle.std.proofs.Common.{◌≡◌, ◌-◌, Ok}
use Rattle.ftc_base.specs.Reading.{◌>>=◌}
use Rattle.ftc_message.specs.Reading.{times, with_part, parts_at}
use Rattle.ftc_message.proofs.parts.parts_at.Given as goal

abbrev pub invariant-loop : goal.invariant-loop
invariant-loop l = parts_at l.bytes ≡ (times with_part (l.count - l.counter) (l.from, l.parts) l.rest >>= λ parts.
    Ok (parts.0.1, parts.1))
