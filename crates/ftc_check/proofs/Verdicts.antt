-- Two verdicts on the same files are the same.
use Rattle.std.proofs.Common.{◌≡◌, ℕ, List, [], Some, refl, sym, ap, subst, ◌∙◌}
use Rattle.std.proofs.Math.Logic.{∥∥₁_elim}
use Rattle.ftc_journal.specs.declared.event.Event.{Event}
use Rattle.ftc_pcap.specs.declared.capture.Capture.{Capture}
use Rattle.ftc_serial.specs.Serial.{State}
use Rattle.ftc_protocol.specs.Setting.{Setting}
use Rattle.ftc_report.specs.Output.{out_bytes}
use Rattle.ftc_report.specs.Report.{report_of}
use Rattle.ftc_check.specs.declared.verdict.Checked.{Checked}
use Rattle.ftc_check.specs.declared.verdict.Checked.TheVariants.{Yes, NotRun, Unfinished, OutDiffers, ReportDiffers}
use Rattle.ftc_check.specs.Difference.{IsFirstDifference}
use Rattle.ftc_check.specs.Verdict.{IsUnfinished, IsWhole, IsOutWrong, IsOtherReport, IsReport, IsVerdict}
use Rattle.ftc_check.proofs.Illegal.{none_illegal, one_illegal}
use Rattle.ftc_check.proofs.Ones.{one_place, one_front, none_differs}

module _ (c : Setting) (journal : List Event) where
  not_over : IsUnfinished c journal → (end : State) → IsWhole c journal end → ⊥
  not_over unfinished end whole = ∥∥₁_elim whole.finished (λ x y. absurd x) (λ finished. unfinished.unfinished finished)

  one_end : (end other : State) → IsWhole c journal end → IsWhole c journal other → end ≡ other
  one_end end other whole also = let same : Some end ≡ Some other = sym whole.serial ∙ also.serial in cc

  not_other : (report : List ℕ) (place : ℕ) → IsOtherReport c journal report place → IsReport c journal report → ⊥
  not_other report place differs is =
      none_differs differs.front (report_of c journal []) place differs.differs
      (one_front report differs.front is.front differs.without_taps is.without_taps ∙ is.same)

  one_other : (report : List ℕ) (place other : ℕ) → IsOtherReport c journal report place →
      IsOtherReport c journal report other → place ≡ other
  one_other report place other differs also =
      let same = one_front report also.front differs.front also.without_taps differs.without_taps in
      one_place differs.front (report_of c journal []) place other differs.differs
      (subst (λ (front : List ℕ). IsFirstDifference front (report_of c journal []) other) same also.differs)

  module _ (capture : Capture) (out : List ℕ) where
    not_wrong : (place : ℕ) → IsOutWrong c capture out journal place → (end : State) → IsWhole c journal end →
        out ≡ out_bytes capture end.released → ⊥
    not_wrong place wrong end whole same =
        none_differs out (out_bytes capture wrong.end.released) place wrong.differs
        (same ∙ ap (λ (e : State). out_bytes capture e.released) (one_end end wrong.end whole wrong.whole))

    one_wrong : (place other : ℕ) → IsOutWrong c capture out journal place → IsOutWrong c capture out journal other →
        place ≡ other
    one_wrong place other wrong also =
        one_place out (out_bytes capture wrong.end.released) place other wrong.differs
        (subst (λ (e : State). IsFirstDifference out (out_bytes capture e.released) other)
        (one_end also.end wrong.end also.whole wrong.whole) also.differs)

    pub one : (report : List ℕ) (verdict other : Checked) → IsVerdict c capture out journal report verdict →
        IsVerdict c capture out journal report other → verdict ≡ other
    one report (NotRun event) (NotRun other) a b = ap NotRun (one_illegal c journal event other a b)
    one report (NotRun event) Unfinished a b = absurd (none_illegal c journal event a b.run)
    one report (NotRun event) (OutDiffers place) a b = absurd (none_illegal c journal event a b.whole.run)
    one report (NotRun event) (ReportDiffers place) a b = absurd (none_illegal c journal event a b.whole.run)
    one report (NotRun event) Yes a b = absurd (none_illegal c journal event a b.whole.run)
    one report Unfinished (NotRun event) a b = absurd (none_illegal c journal event b a.run)
    one report Unfinished Unfinished a b = refl
    one report Unfinished (OutDiffers place) a b = absurd (not_over a b.end b.whole)
    one report Unfinished (ReportDiffers place) a b = absurd (not_over a b.end b.whole)
    one report Unfinished Yes a b = absurd (not_over a b.end b.whole)
    one report (OutDiffers place) (NotRun event) a b = absurd (none_illegal c journal event b a.whole.run)
    one report (OutDiffers place) Unfinished a b = absurd (not_over b a.end a.whole)
    one report (OutDiffers place) (OutDiffers other) a b = ap OutDiffers (one_wrong place other a b)
    one report (OutDiffers place) (ReportDiffers other) a b = absurd (not_wrong place a b.end b.whole b.out_is)
    one report (OutDiffers place) Yes a b = absurd (not_wrong place a b.end b.whole b.out_is)
    one report (ReportDiffers place) (NotRun event) a b = absurd (none_illegal c journal event b a.whole.run)
    one report (ReportDiffers place) Unfinished a b = absurd (not_over b a.end a.whole)
    one report (ReportDiffers place) (OutDiffers other) a b = absurd (not_wrong other b a.end a.whole a.out_is)
    one report (ReportDiffers place) (ReportDiffers other) a b =
        ap ReportDiffers (one_other report place other a.report_is b.report_is)
    one report (ReportDiffers place) Yes a b = absurd (not_other report place a.report_is b.report_is)
    one report Yes (NotRun event) a b = absurd (none_illegal c journal event b a.whole.run)
    one report Yes Unfinished a b = absurd (not_over b a.end a.whole)
    one report Yes (OutDiffers place) a b = absurd (not_wrong place b a.end a.whole a.out_is)
    one report Yes (ReportDiffers place) a b = absurd (not_other report place b.report_is a.report_is)
    one report Yes Yes a b = refl
