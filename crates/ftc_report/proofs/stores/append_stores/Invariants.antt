-- the stores so far have been added
use Rattle.std.proofs.Common.{◌≡◌, ◌++◌}
use Rattle.std.specs.List.{flat_map, enumerate_from}
use Rattle.ftc_serial.specs.Held.{serial_state}
use Rattle.ftc_report.specs.Text.{store_lines}
use Rattle.ftc_report.specs.Contents.{contents}
use Rattle.ftc_report.proofs.stores.append_stores.Given as goal

abbrev pub invariant-loop-place : goal.invariant-loop-place
invariant-loop-place l = l.out ≡ l.fn.out
    ++ flat_map store_lines (enumerate_from 0 (contents l.place (serial_state l.serial)))
