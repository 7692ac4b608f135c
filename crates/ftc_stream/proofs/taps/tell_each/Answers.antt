use Rattle.std.proofs.Common.{rules, ◌<◌, ◌∙◌, sym, length}
use Rattle.ftc_base.proofs.Results.{on_any_err}
use Rattle.ftc_stream.proofs.Telling.{one_stays, one_leaves, one_refuses}
use Rattle.ftc_stream.proofs.taps.tell_each.Goals as goal

pub returns-in_err-see_one-clause-part : goal.returns-in_err-see_one-clause-part
returns-in_err-see_one-clause-part g c =
    let below : c.loop-place.place < length c.loop-place.taps.items = search rules in
    on_any_err c.from_residual.result _
    (one_refuses (λ tap. (goal.Tap-dyn g (tap.vtable, tap.value)).face tap.value)
    (record { packet = c.args.number; bytes = c.args.bytes.now }) _
    c.loop-place.taps.items c.loop-place.place c.index_mut.result.now c.see_one.new.tap below
    c.index_mut.ensures.value c.in_err-see_one.ensures.err c.loop-place.invariant)

pub loop-place-preserved-then-branch : goal.loop-place-preserved-then-branch
loop-place-preserved-then-branch g c =
    let below : c.loop-place.place < length c.loop-place.taps.items = search rules in
    one_stays (λ tap. (goal.Tap-dyn g (tap.vtable, tap.value)).face tap.value) (record {
      packet =
          c.args.number;
      bytes = c.args.bytes.now;
    }) _
    c.loop-place.taps.items c.loop-place.place c.index_mut.result.now c.see_one.new.tap below
    c.index_mut.ensures.value (sym c.if-branch.true ∙ c.in_ok-see_one.ensures.stays) c.in_ok-see_one.ensures.told
    c.loop-place.invariant

pub loop-place-preserved : goal.loop-place-preserved
loop-place-preserved g c =
    let below : c.loop-place.place < length c.loop-place.taps.items = search rules in
    one_leaves (λ tap. (goal.Tap-dyn g (tap.vtable, tap.value)).face tap.value) (record {
      packet =
          c.args.number;
      bytes = c.args.bytes.now;
    }) _
    c.loop-place.taps.items c.remove.new.self.items c.loop-place.place c.index_mut.result.now c.see_one.new.tap
    c.in_ok-see_one.field-0 below c.index_mut.ensures.value c.in_ok-see_one.ensures.stays c.if-branch.false
    c.in_ok-see_one.ensures.constant c.remove.ensures.items c.loop-place.invariant
