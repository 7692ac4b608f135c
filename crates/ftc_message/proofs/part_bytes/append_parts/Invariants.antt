-- what is left belongs behind what was added
use Rattle.std.proofs.Common.{◌≡◌, ◌++◌, drop}
use Rattle.ftc_message.specs.Spelling.{parts_bytes, parts_from}
use Rattle.ftc_message.proofs.part_bytes.append_parts.Given as goal

abbrev pub invariant-loop-partition : goal.invariant-loop-partition
invariant-loop-partition l = l.out ++ parts_from l.changed l.partition (drop l.partition l.before) ≡ l.fn.out
    ++ parts_bytes l.before l.changed
