use Rattle.std.proofs.Common.{rules, sym, IfErr}
use Rattle.std.proofs.lemmas.Result.{IfErr-weaker}
use Rattle.ftc_outside.specs.Desk.{Files, SameFiles}
use Rattle.ftc.specs.Refused.{IsTextRefused, IsWrongCapture}
use Rattle.ftc.proofs.Refusing.{refused_before, capture_refused, capture_stays}
use Rattle.ftc.proofs.texts.read_setup.Goals as goal

pub returns-in_err-capture-clause-refused : goal.returns-in_err-capture-clause-refused
returns-in_err-capture-clause-refused g c = λ t.
    let old : Files = g.D.Desk.file c.args.desk.now in
    let read : Files = g.D.Desk.file c.fetch_chain.new.desk in
    let to_read : SameFiles old read = c.fetch_chain.ensures.files t in
    let refused : IfErr c.from_residual-in_err-capture.result
    (IsTextRefused (g.D.Desk.sound c.fetch_chain.new.desk) read c.args.capture.now IsWrongCapture) =
    search (rules, c.fetch_capture.ensures.refused (c.fetch_chain.ensures.served.tells_on t)) in
    IfErr-weaker c.from_residual-in_err-capture.result _ _
    (λ ending is. capture_refused _ c.args.chain.now _ old _ ending (c.in_ok-spec.ensures.accepted t)
    (refused_before _ _ old read c.args.capture.now IsWrongCapture ending c.fetch_chain.ensures.served.sound_on to_read
    is)) refused

pub returns-clause-accepted : goal.returns-clause-accepted
returns-clause-accepted g c = λ t. record {
  chain_right = c.in_ok-spec.ensures.accepted t;
  capture_right = capture_stays _ _ _ _ (sym (c.fetch_chain.ensures.files t c.args.capture.now))
      (c.in_ok-capture.ensures.accepted (c.fetch_chain.ensures.served.tells_on t));
}
