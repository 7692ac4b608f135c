use Rattle.std.proofs.Common.{◌∙◌, ◌-◌, ℕ, Ok, refl, arith}
use Rattle.std.proofs.lemmas.Result.{err_from_is_err_and}
use Rattle.std.proofs.lemmas.List.{length-set}
use Rattle.ftc_message.specs.Spelling.{not_zero}
use Rattle.ftc_message.specs.Reading.{with_mark, marks_at}
use Rattle.ftc_message.proofs.Steps.{goes_on, ends, is_done}
use Rattle.ftc_vector.proofs.Partitions.{length-by_partition}
use Rattle.ftc_message.proofs.CommitLaws.{marks_start, not_zero-set, known_done, known_refused}
use Rattle.ftc_message.proofs.parts.known_at.Goals as goal

pub loop-init : goal.loop-init
loop-init c =
    let count = c.in_ok-count.count in
    let read = marks_start c.args.bytes.now c.in_ok-count.after.now count (count - 0) (omega arith)
    c.in_ok-count.ensures.value in
    rw c.requires (record { told = read; size = length-by_partition {A = ℕ} (λ _. 0) })

pub returns-in_err-partition : goal.returns-in_err-partition
returns-in_err-partition c =
    let p = err_from_is_err_and c.from_residual-in_err-partition.result c.from_residual-in_err-partition.ensures.1 in
    let fault = c.in_err-partition.field-0.0 in
    rw (p.1, p.2) (known_refused c.args.bytes.now fault
    (ends (with_mark 1) (λ marks. Ok (marks.0.1, marks.1)) c.in_ok-count.count c.loop.counter
    (c.loop.from, not_zero c.loop.vector) c.loop.rest.now fault (marks_at 1 c.args.bytes.now) c.loop-test.true
    (rw c.in_err-partition.ensures.value refl) c.loop.invariant.told))

pub loop-preserved : goal.loop-preserved
loop-preserved c =
    let vector = c.loop.vector in
    let place = c.in_ok-partition.partition in
    let number = c.in_ok-partition.number in
    rw c.set.ensures (record {
      told = rw (← not_zero-set vector place number c.in_ok-partition.ensures.enough)
          (goes_on (with_mark 1) (λ marks. Ok (marks.0.1, marks.1)) c.in_ok-count.count c.loop.counter
          (c.loop.from, not_zero vector) _ c.loop.rest.now c.in_ok-partition.behind.now (marks_at 1 c.args.bytes.now)
          c.loop-test.true (rw c.in_ok-partition.ensures.value refl) c.loop.invariant.told);
      size = length-set vector place number ∙ c.loop.invariant.size;
    })

pub returns : goal.returns
returns c =
    known_done c.args.bytes.now c.loop.vector c.loop.rest.now c.loop.invariant.size
    (is_done (with_mark 1) (λ marks. Ok (marks.0.1, marks.1)) c.in_ok-count.count c.loop.counter
    (c.loop.from, not_zero c.loop.vector) c.loop.rest.now (marks_at 1 c.args.bytes.now) c.loop-test.false
    c.loop.invariant.told)
