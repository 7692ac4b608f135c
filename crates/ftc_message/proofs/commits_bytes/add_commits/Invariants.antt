-- what is left belongs behind what was added
use Rattle.std.proofs.Common.{◌≡◌, ◌++◌, drop}
use Rattle.std.specs.List.{flat_map}
use Rattle.ftc_message.specs.Spelling.{need_bytes, known_from, commits_bytes}
use Rattle.ftc_message.proofs.commits_bytes.add_commits.Given as goal

abbrev pub invariant-loop-place : goal.invariant-loop-place
invariant-loop-place l = l.out ++ flat_map need_bytes (known_from l.place (drop l.place l.commits)) ≡ l.fn.out
    ++ commits_bytes l.commits
