use Rattle.std.proofs.Common.{◌≡◌, ◌∙◌, sym, rules, Some, IfErr}
use Rattle.std.proofs.lemmas.Result.{IfErr-weaker}
use Rattle.ftc_outside.specs.Desk.{Files, SameFiles}
use Rattle.ftc_words.specs.Shown.{named_of}
use Rattle.ftc.specs.Refused.{IsTextRefused, IsWrongJournal, IsNeverWrong, IsInputRefused}
use Rattle.ftc.proofs.Refusing.{refused_first, refused_before, journal_stays, out_refused, journal_refused}
use Rattle.ftc.proofs.Refusing.{report_refused}
use Rattle.ftc.proofs.files.read_files.Goals as goal

pub returns-in_err-inputs-clause-refused : goal.returns-in_err-inputs-clause-refused
returns-in_err-inputs-clause-refused g c = λ t.
    refused_first c.from_residual.result (IsInputRefused (g.D.Desk.sound c.args.desk.now) (named_of c.args.names)
    (g.D.Desk.file c.args.desk.now)) _ (search (rules, c.read_inputs.ensures.refused t))

pub returns-in_err-out-clause-refused : goal.returns-in_err-out-clause-refused
returns-in_err-out-clause-refused g c = λ t.
    let old : Files = g.D.Desk.file c.args.desk.now in
    let read : Files = g.D.Desk.file c.read_inputs.new.desk in
    let refused : IfErr c.from_residual-in_err-out.result
    (IsTextRefused (g.D.Desk.sound c.read_inputs.new.desk) read c.args.names.out.now IsNeverWrong) =
    search (rules, c.fetch.ensures.absent) in
    IfErr-weaker c.from_residual-in_err-out.result _ _
    (λ ending is. out_refused _ (named_of c.args.names) old _ _ _ ending (c.in_ok-inputs.ensures.accepted t)
    (refused_before _ _ old read c.args.names.out.now IsNeverWrong ending c.read_inputs.ensures.served.sound_on
    (c.read_inputs.ensures.files t) is)) refused

pub returns-in_err-journal-clause-refused : goal.returns-in_err-journal-clause-refused
returns-in_err-journal-clause-refused g c = λ t.
    let old : Files = g.D.Desk.file c.args.desk.now in
    let fetched : Files = g.D.Desk.file c.fetch.new.self in
    let t-read = c.read_inputs.ensures.served.tells_on t in
    let to_read : SameFiles old (g.D.Desk.file c.read_inputs.new.desk) = c.read_inputs.ensures.files t in
    let to_fetched : SameFiles old fetched = λ name. c.fetch.ensures.files t-read name ∙ to_read name in
    let out_file = sym (to_read c.args.names.out.now) ∙ c.in_ok-out.ensures.bytes t-read in
    let refused : IfErr c.from_residual-in_err-journal.result
    (IsTextRefused (g.D.Desk.sound c.fetch.new.self) fetched c.args.names.journal.now IsWrongJournal) =
    search (rules, c.fetch_journal.ensures.refused (c.fetch.ensures.served.tells_on t-read)) in
    IfErr-weaker c.from_residual-in_err-journal.result _ _
    (λ ending is. journal_refused _ (named_of c.args.names) old _ _ _ _ ending (c.in_ok-inputs.ensures.accepted t)
    out_file (refused_before _ _ old fetched c.args.names.journal.now IsWrongJournal ending
    (λ s. c.fetch.ensures.served.sound_on (c.read_inputs.ensures.served.sound_on s)) to_fetched is)) refused

pub returns-in_err-report-clause-refused : goal.returns-in_err-report-clause-refused
returns-in_err-report-clause-refused g c = λ t.
    let old : Files = g.D.Desk.file c.args.desk.now in
    let read : Files = g.D.Desk.file c.read_inputs.new.desk in
    let t-read = c.read_inputs.ensures.served.tells_on t in
    let to_read : SameFiles old read = c.read_inputs.ensures.files t in
    let fetched : Files = g.D.Desk.file c.fetch.new.self in
    let t-fetched = c.fetch.ensures.served.tells_on t-read in
    let to_fetched : SameFiles old fetched = λ name. c.fetch.ensures.files t-read name ∙ to_read name in
    let out_file : old c.args.names.out.now ≡ Some c.in_ok-out.out =
    sym (to_read c.args.names.out.now) ∙ c.in_ok-out.ensures.bytes t-read in
    let judged : Files = g.D.Desk.file c.fetch_journal.new.desk in
    let to_judged : SameFiles old judged = λ name. c.fetch_journal.ensures.files t-fetched name ∙ to_fetched name in
    let journal_right = journal_stays c.args.names.journal.now fetched old c.in_ok-journal.journal.items
    (sym (to_fetched c.args.names.journal.now)) (c.in_ok-journal.ensures.accepted t-fetched) in
    let refused : IfErr c.from_residual-in_err-report.result
    (IsTextRefused (g.D.Desk.sound c.fetch_journal.new.desk) judged c.args.names.report.now IsNeverWrong) =
    search (rules, c.fetch-2.ensures.absent) in
    IfErr-weaker c.from_residual-in_err-report.result _ _
    (λ ending is. report_refused _ (named_of c.args.names) old _ _ _ _ _ ending (c.in_ok-inputs.ensures.accepted t)
    out_file journal_right (refused_before _ _ old judged c.args.names.report.now IsNeverWrong ending
    (λ s. c.fetch_journal.ensures.served.sound_on
    (c.fetch.ensures.served.sound_on (c.read_inputs.ensures.served.sound_on s))) to_judged is)) refused
