-- What a finished run wrote is right.
use Rattle.std.proofs.Common.{◌≡◌, ℕ, refl, List, []}
use Rattle.std.specs.List.{AllByRecursion}
use Rattle.ftc_outside.specs.Tap.{HasNoFeed}
use Rattle.ftc_journal.specs.declared.event.Event.{Event}
use Rattle.ftc_pcap.specs.declared.capture.Capture.{Capture}
use Rattle.ftc_serial.specs.Serial.{State}
use Rattle.ftc_protocol.specs.Setting.{Setting}
use Rattle.ftc_report.specs.Output.{out_bytes}
use Rattle.ftc_report.specs.Report.{report_of}
use Rattle.ftc_check.specs.declared.verdict.Checked.{Checked}
use Rattle.ftc_check.specs.declared.verdict.Checked.TheVariants.{Yes}
use Rattle.ftc_check.specs.Verdict.{IsWhole, IsVerdict}
use Rattle.ftc_check.proofs.OwnReport.{own}
use Rattle.ftc_check.proofs.Verdicts.{one}

module _ (c : Setting) (capture : Capture) (journal : List Event) (end : State) (lines : List (List ℕ)) where
  pub right : AllByRecursion HasNoFeed lines → IsWhole c journal end →
      IsVerdict c capture (out_bytes capture end.released) journal (report_of c journal lines) Yes
  right plain whole = record {
    end = end;
    whole = whole;
    out_is = refl;
    report_is = record { front = report_of c journal []; without_taps = own c journal lines plain; same = refl };
  }

  pub only : (verdict : Checked) → AllByRecursion HasNoFeed lines → IsWhole c journal end →
      IsVerdict c capture (out_bytes capture end.released) journal (report_of c journal lines) verdict → verdict ≡ Yes
  only verdict plain whole is =
      one c journal capture (out_bytes capture end.released) (report_of c journal lines) verdict Yes is
      (right plain whole)
