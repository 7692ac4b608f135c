-- the groups so far are counted
use Rattle.std.proofs.Common.{◌≡◌, ◌+◌, ◌≤◌, length, drop}
use Rattle.ftc_message.specs.Spelling.{known_from}
use Rattle.ftc_message.proofs.commits_bytes.count_known.Given as goal

abbrev pub invariant-loop-place : goal.invariant-loop-place
invariant-loop-place l = record {
  count : l.count + length (known_from l.place (drop l.place l.commits)) ≡ length (known_from 0 l.commits);
  few : l.count ≤ l.place;
}
