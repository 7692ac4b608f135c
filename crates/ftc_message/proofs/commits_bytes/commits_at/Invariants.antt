-- what is left gives what the whole gives, beside what is known so far
use Rattle.std.proofs.Common.{◌≡◌, ◌-◌, []}
use Rattle.ftc_base.specs.Reading.{◌>>=◌}
use Rattle.ftc_message.specs.Reading.{times, with_need, commits_at}
use Rattle.ftc_message.proofs.CommitLaws.{known_beside}
use Rattle.ftc_message.proofs.commits_bytes.commits_at.Given as goal

abbrev pub invariant-loop : goal.invariant-loop
invariant-loop l =
    commits_at l.bytes ≡ (times (with_need 1) (l.count - l.counter) (l.from, []) l.rest >>= known_beside l.commits)
