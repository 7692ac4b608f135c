-- the counts so far have been added
use Rattle.std.proofs.Common.{◌≡◌, ◌++◌}
use Rattle.std.specs.List.{flat_map, enumerate_from}
use Rattle.ftc_serial.specs.Held.{serial_state}
use Rattle.ftc_report.specs.Text.{key_count}
use Rattle.ftc_report.specs.Contents.{contents}
use Rattle.ftc_report.proofs.summaries.append_key_counts.Given as goal

abbrev pub invariant-loop-place : goal.invariant-loop-place
invariant-loop-place l = l.out ≡ l.fn.out
    ++ flat_map key_count (enumerate_from 0 (contents l.place (serial_state l.serial)))
