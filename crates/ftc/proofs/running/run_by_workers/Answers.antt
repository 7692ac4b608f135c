use Rattle.std.proofs.Common.{inl, inr, map, rules}
use Rattle.ftc_base.proofs.Results.{on_any_err, on_err_map}
use Rattle.ftc_outside.specs.Desk.{Files}
use Rattle.ftc_stream.specs.Records.{records}
use Rattle.ftc.specs.Done.{IsAny, AreToldAtLast}
use Rattle.ftc.proofs.RunLemmas.{on_ok_both, grown_file, not_absent, others_on, completed, elsewhere, has_written}
use Rattle.ftc.proofs.RunLemmas.{has_begun}
use Rattle.ftc.proofs.running.run_by_workers.Goals as goal

pub returns-in_err-write_front-clause-refused : goal.returns-in_err-write_front-clause-refused
returns-in_err-write_front-clause-refused g c = λ t.
    on_any_err c.from_residual.result _ (inl (elsewhere c.args.names.out.now (g.D.Desk.file c.args.desk.now)
    (g.D.Desk.file c.write_front.new.desk) (c.write_front.ensures.others t)))

pub returns-in_err-worked-clause-refused : goal.returns-in_err-worked-clause-refused
returns-in_err-worked-clause-refused g c = λ t.
    let out = c.args.names.out.now in
    let old : Files = g.D.Desk.file c.args.desk.now in
    let mid : Files = g.D.Desk.file c.write_front.new.desk in
    let new : Files = g.D.Desk.file c.work.new.desk in
    let first = c.write_front.ensures.served.tells_on t in
    on_any_err c.from_residual-in_err-worked.result _
    (inl (elsewhere out old new
    (others_on out old mid new (c.write_front.ensures.others t) (c.work.ensures.others first))))

pub returns-in_err-worked-clause-safe : goal.returns-in_err-worked-clause-safe
returns-in_err-worked-clause-safe g c = λ t s failed.
    let first = c.write_front.ensures.served.tells_on t in
    not_absent (g.D.Desk.file c.write_front.new.desk c.args.names.out.now) c.args.texts.now.capture.header
    (c.in_ok-write_front.ensures.written t)
    (c.work.ensures.absent first (c.write_front.ensures.served.sound_on s) (search rules))

pub returns-in_err-complete-clause-refused : goal.returns-in_err-complete-clause-refused
returns-in_err-complete-clause-refused g c = λ t.
    let out = c.args.names.out.now in
    let old : Files = g.D.Desk.file c.args.desk.now in
    let begun : Files = g.D.Desk.file c.write_front.new.desk in
    let mid : Files = g.D.Desk.file c.work.new.desk in
    let new : Files = g.D.Desk.file c.complete.new.desk in
    let first = c.write_front.ensures.served.tells_on t in
    let second = c.work.ensures.served.tells_on first in
    on_any_err c.from_residual-in_err-complete.result _
    (inl (elsewhere out old new (others_on out old mid new (others_on out old begun mid (c.write_front.ensures.others t)
    (c.work.ensures.others first)) (c.complete.ensures.others second))))

pub returns-in_err-complete-clause-safe : goal.returns-in_err-complete-clause-safe
returns-in_err-complete-clause-safe g c = λ t s failed.
    let out = c.args.names.out.now in
    let capture = c.args.texts.now.capture in
    let first = c.write_front.ensures.served.tells_on t in
    let second = c.work.ensures.served.tells_on first in
    let put = records capture c.in_ok-worked.worked.put in
    let there = grown_file out capture.header put (g.D.Desk.file c.write_front.new.desk) (g.D.Desk.file c.work.new.desk)
    (c.in_ok-write_front.ensures.written t) (c.in_ok-worked.ensures.grown first) in
    not_absent (g.D.Desk.file c.work.new.desk out) _ there
    (c.complete.ensures.absent second (c.work.ensures.served.sound_on (c.write_front.ensures.served.sound_on s))
    (search rules))

pub returns-clause-done : goal.returns-clause-done
returns-clause-done g c = λ t.
    let taps = map (λ tap. (goal.Tap-dyn g (tap.vtable, tap.value)).face tap.value) c.args.taps.now.list.items in
    let left = map (λ tap. (goal.Tap-dyn g (tap.vtable, tap.value)).face tap.value) c.complete.new.taps.list.items in
    let first = c.write_front.ensures.served.tells_on t in
    let second = c.work.ensures.served.tells_on first in
    let out = completed _ _ _ _ _ _ _ _ (c.in_ok-write_front.ensures.written t) (c.in_ok-worked.ensures.grown first)
    (c.in_ok-complete.ensures.written second) (c.write_front.ensures.others t) (c.work.ensures.others first)
    (c.complete.ensures.others second) in
    on_ok_both c.write_texts.result _ _ _ (λ written plain.
    has_written _ c.requires.apart.written _ _ _ IsAny _ _ c.in_ok-worked.ensures.finished tt _
    c.released-released.ensures left _ _ _ out.0 out.1 (AreToldAtLast taps left)
    (c.in_ok-complete.ensures.told taps c.in_ok-worked.ensures.told) plain written)
    (c.write_texts.ensures.written (c.complete.ensures.served.tells_on second)) c.write_texts.ensures.plain

pub returns-clause-refused : goal.returns-clause-refused
returns-clause-refused g c = λ t.
    let left = map (λ tap. (goal.Tap-dyn g (tap.vtable, tap.value)).face tap.value) c.complete.new.taps.list.items in
    let first = c.write_front.ensures.served.tells_on t in
    let second = c.work.ensures.served.tells_on first in
    let out = completed _ _ _ _ _ _ _ _ (c.in_ok-write_front.ensures.written t) (c.in_ok-worked.ensures.grown first)
    (c.in_ok-complete.ensures.written second) (c.write_front.ensures.others t) (c.work.ensures.others first)
    (c.complete.ensures.others second) in
    on_err_map c.write_texts.result _ _ (λ cut. inr (
    has_begun _ c.requires.apart.written _ _ _ IsAny _ _ c.in_ok-worked.ensures.finished tt _
    c.released-released.ensures left _ _ _ out.0 out.1 cut))
    (c.write_texts.ensures.refused (c.complete.ensures.served.tells_on second))
