use Rattle.std.proofs.Common.{◌≡◌, subst, sym, rules, List, IfErr}
use Rattle.std.proofs.lemmas.Result.{IfErr-weaker}
use Rattle.ftc_audit.specs.Table.{IsTableOf, IsCause}
use Rattle.ftc_audit.specs.declared.cause.PortsCause.{PortsCause}
use Rattle.ftc_audit.specs.declared.line.PortLine.{PortLine}
use Rattle.ftc_base.specs.declared.refusal.Refuse.TheVariants as refuse
use Rattle.ftc_outside.specs.Desk.{Files, SameFiles}
use Rattle.ftc_serial.specs.Packets.{bytes_of_packets}
use Rattle.ftc_serial.specs.Trace.{trace_of}
use Rattle.ftc_serial.specs.declared.step.Step.{Step}
use Rattle.ftc.specs.Porting.{ports_by}
use Rattle.ftc.specs.Refused.{IsTextRefused, IsWrongJournal, IsSetupRefused}
use Rattle.ftc.proofs.PortLemmas.{port_journal_refused, table_refused, cause_told}
use Rattle.ftc.proofs.Refusing.{refused_first, refused_before, journal_stays}
use Rattle.ftc.proofs.porting.read_table.Goals as goal

pub returns-in_err-setup-clause-refused : goal.returns-in_err-setup-clause-refused
returns-in_err-setup-clause-refused g c = λ t.
    refused_first c.from_residual.result (IsSetupRefused (g.D.Desk.sound c.args.desk.now) c.args.names.chain.now
    c.args.names.capture.now (g.D.Desk.file c.args.desk.now)) _ (search (rules, c.read_setup.ensures.refused t))

pub returns-in_err-journal-clause-refused : goal.returns-in_err-journal-clause-refused
returns-in_err-journal-clause-refused g c = λ t.
    let old : Files = g.D.Desk.file c.args.desk.now in
    let read : Files = g.D.Desk.file c.read_setup.new.desk in
    let to_read : SameFiles old read = c.read_setup.ensures.files t in
    let refused : IfErr c.from_residual-in_err-journal.result
    (IsTextRefused (g.D.Desk.sound c.read_setup.new.desk) read c.args.names.journal.now IsWrongJournal) =
    search (rules, c.fetch_journal.ensures.refused (c.read_setup.ensures.served.tells_on t)) in
    IfErr-weaker c.from_residual-in_err-journal.result _ _
    (λ ending is. port_journal_refused _ (ports_by c.args.names) c.args.server old _ _ ending
    (c.in_ok-setup.ensures.accepted t)
    (refused_before _ _ old read c.args.names.journal.now IsWrongJournal ending c.read_setup.ensures.served.sound_on
    to_read is)) refused

pub returns-clause-refused : goal.returns-clause-refused
returns-clause-refused g c = λ t.
    let old : Files = g.D.Desk.file c.args.desk.now in
    let setup = c.in_ok-setup.setup in
    let packets = bytes_of_packets setup.capture.packets in
    let journal_right = journal_stays c.args.names.journal.now (g.D.Desk.file c.read_setup.new.desk) old
    c.in_ok-journal.journal.items (sym (c.read_setup.ensures.files t c.args.names.journal.now))
    (c.in_ok-journal.ensures.accepted (c.read_setup.ensures.served.tells_on t)) in
    let why : (cause : PortsCause) → c.in-Err.refusal ≡ refuse.Bad cause
    → IsCause setup.spec.rules packets (trace_of c.in_ok-journal.journal.items) c.args.server cause =
    λ cause is. subst (λ (steps : List Step). IsCause setup.spec.rules packets steps c.args.server cause)
    c.in_ok-trace.ensures (cause_told (List PortLine)
    (IsCause setup.spec.rules packets c.in_ok-trace.trace c.args.server) c.in-Err.refusal c.in-Err.ensures.bad cause
    is) in
    rw c.from.ensures (table_refused (g.D.Desk.sound c.args.desk.now) (ports_by c.args.names) c.args.server old
    setup.spec setup.capture c.in_ok-journal.journal.items c.in-Err.refusal (c.in_ok-setup.ensures.accepted t)
    journal_right why)

pub returns-in-Ok-clause-accepted : goal.returns-in-Ok-clause-accepted
returns-in-Ok-clause-accepted g c = λ t.
    let setup = c.in_ok-setup.setup in
    record {
      chain = setup.spec;
      capture = setup.capture;
      journal = c.in_ok-journal.journal.items;
      setup = c.in_ok-setup.ensures.accepted t;
      journal_right = journal_stays _ _ _ _ (sym (c.read_setup.ensures.files t c.args.names.journal.now))
          (c.in_ok-journal.ensures.accepted (c.read_setup.ensures.served.tells_on t));
      table = subst (λ (steps : List Step). IsTableOf setup.spec.rules (bytes_of_packets setup.capture.packets) steps
          c.args.server c.in-Ok.lines) c.in_ok-trace.ensures c.in-Ok.ensures.table;
    }
