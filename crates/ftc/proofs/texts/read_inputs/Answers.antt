use Rattle.std.proofs.Common.{rules, sym, length, IfErr}
use Rattle.std.proofs.lemmas.Result.{IfErr-weaker}
use Rattle.ftc_outside.specs.Desk.{Files, SameFiles}
use Rattle.ftc_words.specs.Shown.{named_of}
use Rattle.ftc.specs.Texts.{ring_of, HasScript}
use Rattle.ftc.specs.Refused.{IsTextRefused, IsWrongScript, IsSetupRefused}
use Rattle.ftc.proofs.Refusing.{refused_first, refused_before, script_refused, script_stays}
use Rattle.ftc.proofs.texts.read_inputs.Goals as goal

pub returns-in_err-setup-clause-refused : goal.returns-in_err-setup-clause-refused
returns-in_err-setup-clause-refused g c = λ t.
    refused_first c.from_residual.result (IsSetupRefused (g.D.Desk.sound c.args.desk.now) c.args.names.chain.now
    c.args.names.capture.now (g.D.Desk.file c.args.desk.now)) _ (search (rules, c.read_setup.ensures.refused t))

pub returns-in_err-script-clause-refused : goal.returns-in_err-script-clause-refused
returns-in_err-script-clause-refused g c = λ t.
    let old : Files = g.D.Desk.file c.args.desk.now in
    let read : Files = g.D.Desk.file c.read_setup.new.desk in
    let to_read : SameFiles old read = c.read_setup.ensures.files t in
    let setup = c.in_ok-setup.setup in
    let refused : IfErr c.from_residual-in_err-script.result
    (IsTextRefused (g.D.Desk.sound c.read_setup.new.desk) read c.args.names.script.now
    (IsWrongScript (ring_of setup.spec) (length setup.capture.packets))) =
    search (rules, c.fetch_script.ensures.refused (c.read_setup.ensures.served.tells_on t)) in
    IfErr-weaker c.from_residual-in_err-script.result _ _
    (λ ending is. script_refused _ (named_of c.args.names) old _ _ ending (c.in_ok-setup.ensures.accepted t)
    (refused_before _ _ old read c.args.names.script.now (IsWrongScript (ring_of setup.spec)
    (length setup.capture.packets)) ending c.read_setup.ensures.served.sound_on to_read is)) refused

pub returns-clause-accepted : goal.returns-clause-accepted
returns-clause-accepted g c = λ t.
    let read : Files = g.D.Desk.file c.read_setup.new.desk in
    let setup = c.in_ok-setup.setup in
    let has_script : HasScript c.args.names.script.now read setup.spec (length setup.capture.packets)
    c.in_ok-script.script =
    search (rules, c.in_ok-script.ensures.accepted (c.read_setup.ensures.served.tells_on t)) in
    record {
      setup = c.in_ok-setup.ensures.accepted t;
      script_right = script_stays _ _ _ _ _ _ (sym (c.read_setup.ensures.files t c.args.names.script.now)) has_script;
    }
