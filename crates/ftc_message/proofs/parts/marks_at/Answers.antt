use Rattle.std.proofs.Common.{Ok, refl}
use Rattle.std.proofs.lemmas.Result.{err_from_is_err_and}
use Rattle.ftc_message.specs.Reading.{with_mark, marks_at}
use Rattle.ftc_message.proofs.Steps.{goes_on, ends, is_done}
use Rattle.ftc_message.proofs.parts.marks_at.Goals as goal

pub returns-in_err-partition : goal.returns-in_err-partition
returns-in_err-partition c =
    let p = err_from_is_err_and c.from_residual-in_err-partition.result c.from_residual-in_err-partition.ensures.1 in
    let fault = c.in_err-partition.field-0.0 in
    rw (p.1, p.2) (ends (with_mark c.args.least) (λ marks. Ok (marks.0.1, marks.1)) c.in_ok-count.count c.loop.counter
    (c.loop.from, c.loop.marks) c.loop.rest.now fault (marks_at c.args.least c.args.bytes.now) c.loop-test.true
    (rw c.in_err-partition.ensures.value refl) c.loop.invariant)

pub loop-preserved : goal.loop-preserved
loop-preserved c =
    rw c.set.ensures (goes_on (with_mark c.args.least) (λ marks. Ok (marks.0.1, marks.1)) c.in_ok-count.count
    c.loop.counter (c.loop.from, c.loop.marks) _ c.loop.rest.now c.in_ok-partition.behind.now
    (marks_at c.args.least c.args.bytes.now) c.loop-test.true (rw c.in_ok-partition.ensures.value refl)
    c.loop.invariant)

pub returns : goal.returns
returns c =
    is_done (with_mark c.args.least) (λ marks. Ok (marks.0.1, marks.1)) c.in_ok-count.count c.loop.counter
    (c.loop.from, c.loop.marks) c.loop.rest.now (marks_at c.args.least c.args.bytes.now) c.loop-test.false
    c.loop.invariant
