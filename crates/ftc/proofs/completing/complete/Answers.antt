use Rattle.std.proofs.Common.{◌++◌, List, map, length, drop, rules}
use Rattle.ftc_base.specs.declared.released.Released.{Released}
use Rattle.ftc_base.proofs.Results.{on_ok_map}
use Rattle.ftc_stream.specs.Records.{writable, records}
use Rattle.ftc.proofs.CompleteLemmas.{rest_is, completed, told_the_rest, told_anew}
use Rattle.ftc.proofs.completing.complete.Goals as goal

pub returns-then-not-are_first-clause-told : goal.returns-then-not-are_first-clause-told
returns-then-not-are_first-clause-told g c =
    let taps = map (λ tap. (goal.Tap-dyn g (tap.vtable, tap.value)).face tap.value) c.args.taps.now.list.items in
    let left = map (λ tap. (goal.Tap-dyn g (
      tap.vtable,
      tap.value,
    )).face tap.value) c.write_released.new.taps.list.items in
    on_ok_map c.write_released.result _ _
    (told_anew (writable c.args.capture.now c.args.put.now) c.args.released.now taps left) c.write_released.ensures.told

pub returns-clause-written : goal.returns-clause-written
returns-clause-written g c = λ t was.
    let capture = c.args.capture.now in
    let put : List Released = c.args.put.now in
    let released : List Released = c.args.released.now in
    let rest : List Released = drop (length put) released in
    completed c.none_is_passed_over.ensures capture put rest released (search rules) c.requires
    (g.D.Desk.file c.append_records.new.desk c.args.name.now) c.new.result _ c.new.ensures
    (rest_is put released c.as_slice-put.result.now c.as_slice-all.result.now c.as_slice-put.ensures
    c.as_slice-all.ensures)
    (c.in_ok-append_records.ensures.grown t (capture.header ++ records capture put) was)

pub returns-clause-told : goal.returns-clause-told
returns-clause-told g c =
    let put : List Released = c.args.put.now in
    let released : List Released = c.args.released.now in
    let rest : List Released = drop (length put) released in
    let taps = map (λ tap. (goal.Tap-dyn g (tap.vtable, tap.value)).face tap.value) c.args.taps.now.list.items in
    let left = map (λ tap. (goal.Tap-dyn g (tap.vtable, tap.value)).face tap.value) c.tell_all.new.self.list.items in
    told_the_rest c.none_is_passed_over.ensures c.args.capture.now put rest released
    (search rules) c.requires taps left _
    (rest_is put released c.as_slice-put.result.now c.as_slice-all.result.now c.as_slice-put.ensures
    c.as_slice-all.ensures)
    c.in_ok-tell_all.ensures.told
