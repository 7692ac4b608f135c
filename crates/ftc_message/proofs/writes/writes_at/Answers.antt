use Rattle.std.proofs.Common.{Ok, refl, arith}
use Rattle.std.proofs.lemmas.List.{length_push}
use Rattle.ftc_message.specs.Reading.{with_write, writes_at}
use Rattle.ftc_message.proofs.Steps.{goes_on, ends, is_done}
use Rattle.ftc_message.proofs.writes.writes_at.Goals as goal

pub returns-in-Err : goal.returns-in-Err
returns-in-Err c =
    ends with_write (λ writes. Ok (writes.0.1, writes.1)) c.in_ok-count.count c.loop.counter (
      c.loop.last,
      c.loop.writes.items,
    ) c.loop.rest.now c.in-Err.fault (writes_at c.args.bytes.now) c.loop-test.true
    (rw c.in-Err.ensures refl) c.loop.invariant.told

pub loop-preserved : goal.loop-preserved
loop-preserved c = record {
  told =
      rw c.push.ensures.items (goes_on with_write
      (λ writes. Ok (writes.0.1, writes.1)) c.in_ok-count.count c.loop.counter (
        c.loop.last,
        c.loop.writes.items,
      ) _ c.loop.rest.now c.in-Ok.behind.now (writes_at c.args.bytes.now) c.loop-test.true
      (rw c.in-Ok.ensures refl) c.loop.invariant.told);
  count = rw c.push.ensures.items (omega (
    arith,
    length_push c.loop.writes.items c.in-Ok.write,
    c.loop.invariant.count,
  ));
}

pub returns : goal.returns
returns c = is_done with_write (λ writes. Ok (writes.0.1, writes.1)) c.in_ok-count.count c.loop.counter (
  c.loop.last,
  c.loop.writes.items,
) c.loop.rest.now (writes_at c.args.bytes.now) c.loop-test.false c.loop.invariant.told
