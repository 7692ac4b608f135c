use Rattle.std.proofs.Common.{◌≢◌, ◌<◌, length, sym, ◌∙◌, arith}
use Rattle.ftc_check.proofs.Pieces.{goes_on, stays_within, between_next, next_tap, next_other}
use Rattle.ftc_check.proofs.report.front_len.Goals as goal

pub loop-line-preserved-then-not-is_tap_line : goal.loop-line-preserved-then-not-is_tap_line
loop-line-preserved-then-not-is_tap_line c =
    let going : c.loop-line.from ≢ length c.args.report.now = λ end. (let none = c.in-Some.ensures.none.1 end in cc) in
    let some : c.loop-line.from < length c.args.report.now = omega arith in
    record {
      ordered = omega arith;
      within = stays_within c.args.report.now c.loop-line.from c.in-Some.line c.in-Some.ensures.line;
      between = between_next c.args.report.now c.loop-line.from c.in-Some.line c.in-Some.ensures.line;
      front = next_other c.args.report.now c.loop-line.from c.in-Some.line c.in-Some.ensures.line some
          c.loop-line.invariant.between (sym c.is_tap_line.ensures ∙ c.if-not-is_tap_line.true);
    }

pub loop-line-preserved : goal.loop-line-preserved
loop-line-preserved c =
    let going : c.loop-line.from ≢ length c.args.report.now = λ end. (let none = c.in-Some.ensures.none.1 end in cc) in
    let some : c.loop-line.from < length c.args.report.now = omega arith in
    record {
      ordered = omega (arith, goes_on c.args.report.now c.loop-line.from c.in-Some.line c.in-Some.ensures.line);
      within = stays_within c.args.report.now c.loop-line.from c.in-Some.line c.in-Some.ensures.line;
      between = between_next c.args.report.now c.loop-line.from c.in-Some.line c.in-Some.ensures.line;
      front = next_tap c.args.report.now c.loop-line.from c.loop-line.end c.in-Some.line c.in-Some.ensures.line some
          c.loop-line.invariant.between c.loop-line.invariant.front
          (sym c.is_tap_line.ensures ∙ c.if-not-is_tap_line.false);
    }
