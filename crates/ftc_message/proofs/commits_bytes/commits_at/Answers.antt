use Rattle.std.proofs.Common.{[], arith}
use Rattle.std.proofs.lemmas.Result.{err_from_is_err_and}
use Rattle.ftc_message.specs.Reading.{with_need, commits_at}
use Rattle.ftc_message.proofs.Steps.{is_done}
use Rattle.ftc_message.proofs.CommitLaws.{commits_at_takes, known_beside, one_known, group_ends, known_ends}
use Rattle.ftc_message.proofs.commits_bytes.commits_at.Goals as goal

pub returns-in-Err-clause-value : goal.returns-in-Err-clause-value
returns-in-Err-clause-value c =
    group_ends c.in_ok-count.count c.loop.counter c.loop.from c.loop.rest.now c.in-Err.fault c.loop.commits
    (commits_at c.args.bytes.now) c.loop-test.true c.in-Err.ensures.value c.loop.invariant

pub returns-in_err-rest-clause-value : goal.returns-in_err-rest-clause-value
returns-in_err-rest-clause-value c =
    let p = err_from_is_err_and c.from_residual-in_err-rest.result c.from_residual-in_err-rest.ensures.1 in
    rw (p.1, p.2) (known_ends c.in_ok-count.count c.loop.counter c.loop.from c.in-Ok.found.0 c.loop.rest.now
    c.in-Ok.found.1.now c.in_err-rest.field-0.0 c.loop.commits (commits_at c.args.bytes.now) c.loop-test.true
    c.in-Ok.ensures.value c.in_err-rest.ensures c.loop.invariant)

pub loop-preserved : goal.loop-preserved
loop-preserved c =
    rw (c.raise.ensures, c.number-from.ensures.same)
    (one_known c.in_ok-count.count c.loop.counter c.loop.from c.in-Ok.found.0 c.loop.rest.now c.in-Ok.found.1.now
    c.known_at.new.vector c.in_ok-rest.rest.now c.loop.commits (commits_at c.args.bytes.now) c.loop-test.true
    c.in-Ok.ensures.value c.in_ok-rest.ensures c.loop.invariant)

pub returns-clause-value : goal.returns-clause-value
returns-clause-value c =
    is_done (with_need 1) (known_beside c.loop.commits) c.in_ok-count.count c.loop.counter
    (c.loop.from, []) c.loop.rest.now (commits_at c.args.bytes.now) c.loop-test.false c.loop.invariant

pub returns-clause-spelled : goal.returns-clause-spelled
returns-clause-spelled c =
    let told = is_done (with_need 1) (known_beside c.loop.commits) c.in_ok-count.count
    c.loop.counter (c.loop.from, []) c.loop.rest.now (commits_at c.args.bytes.now) c.loop-test.false c.loop.invariant in
    (commits_at_takes c.args.bytes.now (
      c.loop.commits,
      c.loop.rest.now,
    ) (λ i. omega (arith, c.type_inv.bytes i)) told).0.parts
