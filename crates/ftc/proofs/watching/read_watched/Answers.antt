use Rattle.std.proofs.Common.{rules, length, IfErr}
use Rattle.std.proofs.lemmas.Result.{IfErr-weaker}
use Rattle.ftc_outside.specs.Desk.{Files, SameFiles}
use Rattle.ftc.specs.Texts.{ring_of}
use Rattle.ftc.specs.Refused.{IsTextRefused, IsSetupRefused}
use Rattle.ftc.specs.Watching.{watched_by, IsWrongBeats}
use Rattle.ftc.proofs.Refusing.{refused_first, refused_before}
use Rattle.ftc.proofs.WatchLemmas.{beats_refused}
use Rattle.ftc.proofs.watching.read_watched.Goals as goal

pub returns-in_err-setup-clause-refused : goal.returns-in_err-setup-clause-refused
returns-in_err-setup-clause-refused g c = λ t.
    refused_first c.from_residual.result (IsSetupRefused (g.D.Desk.sound c.args.desk.now) c.args.names.chain.now
    c.args.names.capture.now (g.D.Desk.file c.args.desk.now)) _ (search (rules, c.read_setup.ensures.refused t))

pub returns-in_err-beats-clause-refused : goal.returns-in_err-beats-clause-refused
returns-in_err-beats-clause-refused g c = λ t.
    let old : Files = g.D.Desk.file c.args.desk.now in
    let read : Files = g.D.Desk.file c.read_setup.new.desk in
    let to_read : SameFiles old read = c.read_setup.ensures.files t in
    let setup = c.in_ok-setup.setup in
    let refused : IfErr c.from_residual-in_err-beats.result
    (IsTextRefused (g.D.Desk.sound c.read_setup.new.desk) read c.args.names.beats.now
    (IsWrongBeats (ring_of setup.spec) (length setup.capture.packets))) =
    search (rules, c.fetch_beats.ensures.refused (c.read_setup.ensures.served.tells_on t)) in
    IfErr-weaker c.from_residual-in_err-beats.result _ _
    (λ ending is. beats_refused _ (watched_by c.args.names) old _ _ ending (c.in_ok-setup.ensures.accepted t)
    (refused_before _ _ old read c.args.names.beats.now (IsWrongBeats (ring_of setup.spec)
    (length setup.capture.packets)) ending c.read_setup.ensures.served.sound_on to_read is)) refused
