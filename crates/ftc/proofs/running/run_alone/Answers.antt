use Rattle.std.proofs.Common.{inl, inr, refl, map}
use Rattle.ftc_base.proofs.Results.{on_any_err, on_err_map}
use Rattle.ftc_serial.specs.Held.{serial_state}
use Rattle.ftc_words.specs.Shown.{named_of}
use Rattle.ftc.specs.Done.{IsDriven, AreToldAll}
use Rattle.ftc.proofs.RunLemmas.{on_ok_both, err_of, out_begun, has_written, has_begun}
use Rattle.ftc.proofs.running.run_alone.Goals as goal

pub returns-in_err-driven-clause-refused : goal.returns-in_err-driven-clause-refused
returns-in_err-driven-clause-refused g c = λ t. on_any_err c.from_residual.result _ (inl (λ name. refl))

pub returns-in_err-write_released-clause-failed : goal.returns-in_err-write_released-clause-failed
returns-in_err-write_released-clause-failed g c = λ t failed.
    let texts = c.args.texts.now in
    let driven = c.in_ok-driven.driven in
    let left = map (λ tap. (goal.Tap-dyn g (
      tap.vtable,
      tap.value,
    )).face tap.value) c.write_released.new.taps.list.items in
    out_begun (named_of c.args.names) c.requires.apart.written texts.spec texts.capture texts.script
    (IsDriven texts.spec texts.capture texts.script texts.schedule.items) driven.chain.journal
    (serial_state driven.serial)
    c.in_ok-driven.ensures.finished c.in_ok-driven.ensures.chosen c.released-released.result.now
    c.released-released.ensures left (g.D.Desk.file c.args.desk.now) (g.D.Desk.file c.write_released.new.desk)
    (c.in_err-write_released.ensures.refused t) (c.write_released.ensures.others t)

pub returns-in_err-write_released-clause-refused : goal.returns-in_err-write_released-clause-refused
returns-in_err-write_released-clause-refused g c = λ t.
    let texts = c.args.texts.now in
    let driven = c.in_ok-driven.driven in
    let left = map (λ tap. (goal.Tap-dyn g (
      tap.vtable,
      tap.value,
    )).face tap.value) c.write_released.new.taps.list.items in
    on_any_err c.from_residual-in_err-write_released.result _ (inr (
    out_begun (named_of c.args.names) c.requires.apart.written texts.spec texts.capture texts.script
    (IsDriven texts.spec texts.capture texts.script texts.schedule.items) driven.chain.journal
    (serial_state driven.serial)
    c.in_ok-driven.ensures.finished c.in_ok-driven.ensures.chosen c.released-released.result.now
    c.released-released.ensures left (g.D.Desk.file c.args.desk.now) (g.D.Desk.file c.write_released.new.desk)
    (c.in_err-write_released.ensures.refused t) (c.write_released.ensures.others t)))

pub returns-clause-done : goal.returns-clause-done
returns-clause-done g c = λ t.
    let texts = c.args.texts.now in
    let driven = c.in_ok-driven.driven in
    let told = c.write_released.ensures.served.tells_on t in
    let taps = map (λ tap. (goal.Tap-dyn g (tap.vtable, tap.value)).face tap.value) c.args.taps.now.list.items in
    let left = map (λ tap. (goal.Tap-dyn g (
      tap.vtable,
      tap.value,
    )).face tap.value) c.write_released.new.taps.list.items in
    on_ok_both c.write_texts.result _ _ _ (λ written plain.
    has_written (named_of c.args.names) c.requires.apart.written texts.spec texts.capture texts.script
    (IsDriven texts.spec texts.capture texts.script texts.schedule.items) driven.chain.journal
    (serial_state driven.serial)
    c.in_ok-driven.ensures.finished c.in_ok-driven.ensures.chosen c.released-released.result.now
    c.released-released.ensures left (g.D.Desk.file c.args.desk.now) (g.D.Desk.file c.write_released.new.desk)
    (g.D.Desk.file c.write_texts.new.desk) (c.in_ok-write_released.ensures.written t)
    (c.write_released.ensures.others t)
    (AreToldAll taps left) c.in_ok-write_released.ensures.told plain written)
    (c.write_texts.ensures.written told) c.write_texts.ensures.plain

pub returns-clause-failed : goal.returns-clause-failed
returns-clause-failed g c = λ t failed.
    let texts = c.args.texts.now in
    let driven = c.in_ok-driven.driven in
    let told = c.write_released.ensures.served.tells_on t in
    let left = map (λ tap. (goal.Tap-dyn g (
      tap.vtable,
      tap.value,
    )).face tap.value) c.write_released.new.taps.list.items in
    has_begun (named_of c.args.names) c.requires.apart.written texts.spec texts.capture texts.script
    (IsDriven texts.spec texts.capture texts.script texts.schedule.items) driven.chain.journal
    (serial_state driven.serial)
    c.in_ok-driven.ensures.finished c.in_ok-driven.ensures.chosen c.released-released.result.now
    c.released-released.ensures left (g.D.Desk.file c.args.desk.now) (g.D.Desk.file c.write_released.new.desk)
    (g.D.Desk.file c.write_texts.new.desk) (c.in_ok-write_released.ensures.written t)
    (c.write_released.ensures.others t)
    (err_of c.write_texts.result _ _ failed (c.write_texts.ensures.refused told))

pub returns-clause-refused : goal.returns-clause-refused
returns-clause-refused g c = λ t.
    let texts = c.args.texts.now in
    let driven = c.in_ok-driven.driven in
    let told = c.write_released.ensures.served.tells_on t in
    let left = map (λ tap. (goal.Tap-dyn g (
      tap.vtable,
      tap.value,
    )).face tap.value) c.write_released.new.taps.list.items in
    on_err_map c.write_texts.result _ _ (λ cut. inr (
    has_begun (named_of c.args.names) c.requires.apart.written texts.spec texts.capture texts.script
    (IsDriven texts.spec texts.capture texts.script texts.schedule.items) driven.chain.journal
    (serial_state driven.serial)
    c.in_ok-driven.ensures.finished c.in_ok-driven.ensures.chosen c.released-released.result.now
    c.released-released.ensures left (g.D.Desk.file c.args.desk.now) (g.D.Desk.file c.write_released.new.desk)
    (g.D.Desk.file c.write_texts.new.desk) (c.in_ok-write_released.ensures.written t)
    (c.write_released.ensures.others t)
    cut)) (c.write_texts.ensures.refused told)
