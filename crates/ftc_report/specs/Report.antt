-- The report of a run.
use Rattle.std.specs.Prelude.{ℕ, List}
use Rattle.ftc_journal.specs.declared.event.Event.{Event}
use Rattle.ftc_protocol.specs.Setting.{Setting}
use Rattle.ftc_protocol.specs.State.{opening}
use Rattle.ftc_protocol.specs.Fates.{fates_in}
use Rattle.ftc_protocol.specs.Run.{state_after}
use Rattle.ftc_report.specs.Text.{report_text}
use Rattle.ftc_report.specs.Contents.{contents_after}

-- the report over the state after the journal, the maps of the serial run of its trace, and the lines of the taps
abbrev pub report_of : Setting → List Event → List (List ℕ) → List ℕ
report_of setting journal taps =
    report_text (fates_in setting (state_after setting (opening setting) journal))
    (contents_after setting.rules setting.packets journal) taps
