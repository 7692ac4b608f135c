use Rattle.std.proofs.Common.{Ok, refl}
use Rattle.std.proofs.lemmas.Result.{err_from_is_err_and}
use Rattle.ftc_message.specs.Reading.{with_part, parts_at}
use Rattle.ftc_message.proofs.Steps.{goes_on, ends, is_done}
use Rattle.ftc_message.proofs.parts.parts_at.Goals as goal

pub returns-in_err-part : goal.returns-in_err-part
returns-in_err-part c =
    let p = err_from_is_err_and c.from_residual-in_err-part.result c.from_residual-in_err-part.ensures.1 in
    let fault = c.in_err-part.field-0.0 in
    rw (p.1, p.2) (ends with_part (λ parts. Ok (parts.0.1, parts.1)) c.in_ok-count.count c.loop.counter (
      c.loop.from,
      c.loop.parts,
    ) c.loop.rest.now fault (parts_at c.args.bytes.now) c.loop-test.true
    (rw c.in_err-part.ensures.value refl) c.loop.invariant)

pub loop-preserved : goal.loop-preserved
loop-preserved c =
    rw c.add.ensures (goes_on with_part (λ parts. Ok (parts.0.1, parts.1)) c.in_ok-count.count c.loop.counter
    (c.loop.from, c.loop.parts) _ c.loop.rest.now c.in_ok-part.behind.now
    (parts_at c.args.bytes.now) c.loop-test.true (rw c.in_ok-part.ensures.value refl) c.loop.invariant)

pub returns : goal.returns
returns c = is_done with_part (λ parts. Ok (parts.0.1, parts.1)) c.in_ok-count.count c.loop.counter (
  c.loop.from,
  c.loop.parts,
) c.loop.rest.now (parts_at c.args.bytes.now) c.loop-test.false c.loop.invariant
