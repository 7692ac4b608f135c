use Rattle.std.proofs.Common.{◌∙◌, ℕ, List, map, ap, subst}
use Rattle.std.specs.List.{AllByRecursion}
use Rattle.ftc_base.proofs.Results.{on_any_err, on_err_map}
use Rattle.ftc_journal.specs.Text.{spelling}
use Rattle.ftc_outside.specs.Tap.{HasNoFeed}
use Rattle.ftc_protocol.specs.Setting.{setting_of}
use Rattle.ftc_report.specs.Report.{report_of}
use Rattle.ftc_serial.specs.Packets.{bytes_of_packets}
use Rattle.ftc_words.specs.Shown.{named_of}
use Rattle.ftc.specs.Done.{lines_of}
use Rattle.ftc.proofs.WriteLemmas.{journal_cut, journal_alone, report_cut}
use Rattle.ftc.proofs.writing.write_texts.Goals as goal

pub returns-in_err-write_journal-clause-refused : goal.returns-in_err-write_journal-clause-refused
returns-in_err-write_journal-clause-refused g c = λ t.
    on_any_err c.from_residual.result _ (journal_cut _ c.requires.apart _ _ _ _ _
    (rw c.journal.ensures.same at (c.in_err-write_journal.ensures.refused t)) (c.write_journal.ensures.others t))

pub returns-in_err-lines-clause-refused : goal.returns-in_err-lines-clause-refused
returns-in_err-lines-clause-refused g c = λ t.
    on_any_err c.from_residual-in_err-lines.result _ (journal_alone _ c.requires.apart _ _ _ _ _
    (rw c.journal.ensures.same at (c.in_ok-write_journal.ensures.written t)) (c.write_journal.ensures.others t))

pub returns-in_err-report-clause-refused : goal.returns-in_err-report-clause-refused
returns-in_err-report-clause-refused g c = λ t.
    on_any_err c.from_residual-in_err-report.result _ (journal_alone _ c.requires.apart _ _ _ _ _
    (rw c.journal.ensures.same at (c.in_ok-write_journal.ensures.written t)) (c.write_journal.ensures.others t))

pub returns-clause-refused : goal.returns-clause-refused
returns-clause-refused g c = λ t.
    let texts = c.args.texts.now in
    let events = c.args.driven.now.chain.journal in
    let left = lines_of (map
    (λ tap. (goal.Tap-dyn g (tap.vtable, tap.value)).face tap.value) c.args.taps.now.list.items) in
    let told = c.write_journal.ensures.served.tells_on t in
    let setting = setting_of texts.spec (bytes_of_packets texts.capture.packets) texts.script in
    on_err_map c.write_text.result _ _
    (report_cut (named_of c.args.names) c.requires.apart (spelling events) (report_of setting events) left
    (g.D.Desk.file c.args.desk.now) (g.D.Desk.file c.write_journal.new.desk) (g.D.Desk.file c.write_text.new.desk)
    (rw c.journal.ensures.same at (c.in_ok-write_journal.ensures.written t))
    (c.write_journal.ensures.others t) (c.write_text.ensures.others told) c.in_ok-report.report
    (c.in_ok-report.ensures ∙ ap (λ (lines : List (List ℕ)). report_of setting events lines)
    c.in_ok-lines.ensures.lines)
    (subst (AllByRecursion HasNoFeed) c.in_ok-lines.ensures.lines c.in_ok-lines.ensures.alone))
    (c.write_text.ensures.refused told)
