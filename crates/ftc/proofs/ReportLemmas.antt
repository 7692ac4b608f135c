-- The report of a finished run, over the serial chain behind its trace.
use Rattle.std.proofs.Common.{◌≡◌, ◌∙◌, ap, sym, ℕ, List, [], length, Option}
use Rattle.std.specs.Option.{option_map_or}
use Rattle.ftc_journal.specs.declared.event.Event.{Event}
use Rattle.ftc_mbox.specs.declared.rule.Rule.{Rule}
use Rattle.ftc_store.specs.Store.{Content}
use Rattle.ftc_protocol.specs.declared.fate.Fate.{Fate}
use Rattle.ftc_protocol.specs.Fates.{fates_in}
use Rattle.ftc_protocol.specs.Run.{state_after}
use Rattle.ftc_protocol.specs.Setting.{Setting}
use Rattle.ftc_protocol.specs.State.{opening}
use Rattle.ftc_report.specs.Contents.{contents, contents_after}
use Rattle.ftc_report.specs.Report.{report_of}
use Rattle.ftc_report.specs.Text.{report_text}
use Rattle.ftc_serial.specs.Serial.{State}
use Rattle.ftc.specs.Driven.{IsFinishedRun}

contents_are : (setting : Setting) (journal : List Event) (end : State) → IsFinishedRun setting journal end →
    contents_after setting.rules setting.packets journal ≡ contents (length setting.rules) end
contents_are setting journal end finished = ap (λ (ended : Option State).
    option_map_or (contents (length setting.rules)) ended []) finished.whole.serial

pub report_is : (setting : Setting) (journal events : List Event) (end : State) (rules : List Rule)
    (lines : List (List ℕ)) → IsFinishedRun setting journal end → rules ≡ setting.rules → events ≡ journal →
    {fates : List Fate} → fates ≡ fates_in setting (state_after setting (opening setting) events) → (text : List ℕ) →
    text ≡ report_text fates (contents (length rules) end) lines → text ≡ report_of setting journal lines
report_is setting journal events end rules lines finished rules_are same {fates} fates_are text is =
    is ∙ (ap (λ (given : List Rule). report_text fates (contents (length given) end) lines) rules_are
    ∙ (ap (λ (stores : List Content). report_text fates stores lines) (sym (contents_are setting journal end finished))
    ∙ (ap (λ (of : List Fate). report_text of (contents_after setting.rules setting.packets journal) lines) fates_are
    ∙ ap (λ (taken : List Event). report_text (fates_in setting (state_after setting (opening setting) taken))
    (contents_after setting.rules setting.packets journal) lines) same)))
