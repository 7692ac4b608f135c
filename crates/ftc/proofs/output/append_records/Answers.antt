use Rattle.std.proofs.Common.{◌++◌, ◌∙◌, List, ℕ, refl, length, rules, drop, ap}
use Rattle.std.specs.List.{flat_map}
use Rattle.std.proofs.lemmas.Option.{slice_get_read}
use Rattle.std.proofs.lemmas.Result.{on_err_weaker}
use Rattle.ftc_base.proofs.Results.{on_any_err}
use Rattle.ftc_report.specs.Output.{released_record}
use Rattle.ftc.proofs.OutLemmas.{may_hold, whole_is, has_front, next_is, absent_at_first}
use Rattle.ftc.proofs.output.append_records.Goals as goal

pub returns-in_err-flush_long-clause-refused : goal.returns-in_err-flush_long-clause-refused
returns-in_err-flush_long-clause-refused g c = λ t held was.
    let sofar = c.loop-packet.invariant in
    let items = c.args.released.now in
    let record_of = released_record c.args.capture.now in
    let front = held ++ c.args.first in
    let (before, is, sum) = sofar.written t held was in
    let whole = whole_is record_of items c.loop-packet.packet-index front before c.loop-packet.piece sum in
    on_any_err c.from_residual.result _
    (may_hold (g.D.Desk.file c.args.desk.now c.args.name.now) _ _ before c.loop-packet.piece
    (flat_map record_of (drop c.loop-packet.packet-index items)) (front ++ flat_map record_of items) is whole
    (c.in_err-flush_long.ensures.refused (sofar.tells t)))

pub returns-in_err-add_record-clause-refused : goal.returns-in_err-add_record-clause-refused
returns-in_err-add_record-clause-refused g c = λ t held was.
    let sofar = c.loop-packet.invariant in
    let items = c.args.released.now in
    let record_of = released_record c.args.capture.now in
    let front = held ++ c.args.first in
    let (before, is, sum) = sofar.written t held was in
    let (after, now, same) = c.in_ok-flush_long.ensures.moved (sofar.tells t) before is in
    let whole = whole_is record_of items c.loop-packet.packet-index front after c.flush_long.new.piece (same ∙ sum) in
    on_any_err c.from_residual-in_err-add_record.result _
    (has_front (g.D.Desk.file c.args.desk.now c.args.name.now) _ after _ (front ++ flat_map record_of items) now whole)

pub loop-packet-preserved : goal.loop-packet-preserved
loop-packet-preserved g c =
    let sofar = c.loop-packet.invariant in
    let items = c.args.released.now in
    let record_of = released_record c.args.capture.now in
    let there = slice_get_read items (length items) c.loop-packet.packet-index c.packet-item.result refl
    (search rules) c.packet-item.is in
    record {
      written = λ t held was.
          let (before, is, sum) = sofar.written t held was in
          let (after, now, same) = c.in_ok-flush_long.ensures.moved (sofar.tells t) before is in (
            after,
            now,
            ap (λ (piece : List ℕ). after
                ++ piece) c.in_ok-add_record.ensures.ok ∙ next_is record_of items c.loop-packet.packet-index
                c.packet-item.result (held ++ c.args.first) after c.flush_long.new.piece there (same ∙ sum),
          );
      others = search rules;
      tells = search rules;
      count = search rules;
      still = search rules;
      sound = search rules;
    }

pub returns-clause-refused : goal.returns-clause-refused
returns-clause-refused g c = λ t held was.
    let sofar = c.loop-packet.invariant in
    let items = c.args.released.now in
    let record_of = released_record c.args.capture.now in
    let front = held ++ c.args.first in
    let (before, is, sum) = sofar.written t held was in
    let whole = whole_is record_of items c.loop-packet.packet-index front before c.loop-packet.piece sum in
    on_err_weaker c.append.result
    (λ cut. may_hold (g.D.Desk.file c.args.desk.now c.args.name.now) _ _ before c.loop-packet.piece
    (flat_map record_of (drop c.loop-packet.packet-index items)) (front ++ flat_map record_of items) is whole
    (rw c.as_slice.ensures at cut)) (c.append.ensures.refused (sofar.tells t))

pub returns-in_err-flush_long-clause-absent : goal.returns-in_err-flush_long-clause-absent
returns-in_err-flush_long-clause-absent g c = λ t s failed.
    let sofar = c.loop-packet.invariant in
    absent_at_first _ _ (λ held was. let (before, is, sum) = sofar.written t held was in (before, is))
    (c.flush_long.ensures.absent (sofar.sound s) (search rules))

pub returns-clause-absent : goal.returns-clause-absent
returns-clause-absent g c = λ t s failed.
    let sofar = c.loop-packet.invariant in
    absent_at_first _ _ (λ held was. let (before, is, sum) = sofar.written t held was in (before, is))
    (search rules)
