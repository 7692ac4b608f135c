use Rattle.std.proofs.Common.{◌≡◌}
use Rattle.ftc_serial.specs.Held.{serial_state}
use Rattle.ftc_report.specs.Text.{key_count}
use Rattle.ftc_report.proofs.Numbering.{lines_of_values}
use Rattle.ftc_report.proofs.summaries.append_key_counts.Goals as goal

pub loop-place-preserved : goal.loop-place-preserved
loop-place-preserved c =
    let number : c.unwrap-server.result ≡ c.loop-place.place = rw c.unwrap-server.ensures at c.new.ensures.same in
    lines_of_values key_count _ _ _ (serial_state c.args.serial.now).maps _ _ _ c.loop-place.invariant number
    c.store.ensures c.in_ok-append_key_count.ensures
