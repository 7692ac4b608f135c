use Rattle.std.proofs.Common.{◌≡◌, ℕ, Ok, true, leb, refl, sym, subst, arith}
use Rattle.std.proofs.lemmas.Result.{err_from_is_err_and}
use Rattle.ftc_message.specs.declared.need.Need.{Need}
use Rattle.ftc_message.specs.Reading.{with_need, needs_at}
use Rattle.ftc_message.proofs.NeedLaws.{needs_at_takes, need_read, group_refused, marks_refused}
use Rattle.ftc_message.proofs.Steps.{goes_on, ends, is_done}
use Rattle.ftc_message.proofs.Following.{end_of-push}
use Rattle.ftc_message.proofs.RiseLaws.{place_of_need, needs_rise-push}
use Rattle.ftc_message.proofs.need_bytes.needs_at.Goals as goal

pub push-requires : goal.push-requires
push-requires c =
    let need : Need = record { group = c.in-Ok.found.0; marks = c.marks_at.new.marks } in
    needs_rise-push 0 c.loop.needs need c.loop.invariant.rising
    (subst (λ (from : ℕ). leb from need.group ≡ true) c.loop.invariant.next c.in-Ok.ensures.follows)

pub returns-in-Err-clause-value : goal.returns-in-Err-clause-value
returns-in-Err-clause-value c =
    ends (with_need c.args.least) (λ needs. Ok (needs.0.1, needs.1)) c.in_ok-count.count c.loop.counter
    (c.loop.from, c.loop.needs) c.loop.rest.now c.in-Err.fault (needs_at c.args.most c.args.least c.args.bytes.now)
    c.loop-test.true
    (rw (group_refused c.args.least c.loop.from c.loop.rest.now c.in-Err.fault c.in-Err.ensures.value) refl)
    c.loop.invariant.told

pub returns-in_err-rest-clause-value : goal.returns-in_err-rest-clause-value
returns-in_err-rest-clause-value c =
    let p = err_from_is_err_and c.from_residual-in_err-rest.result c.from_residual-in_err-rest.ensures.1 in
    let fault = c.in_err-rest.field-0.0 in
    let refused = marks_refused c.args.least c.loop.from c.loop.rest.now c.in-Ok.found.1.now c.in-Ok.found.0 fault
    c.in-Ok.ensures.value c.in_err-rest.ensures in
    rw (p.1, p.2) (ends (with_need c.args.least) (λ needs. Ok (needs.0.1, needs.1)) c.in_ok-count.count c.loop.counter
    (c.loop.from, c.loop.needs) c.loop.rest.now fault (needs_at c.args.most c.args.least c.args.bytes.now)
    c.loop-test.true (rw refused refl) c.loop.invariant.told)

pub loop-preserved : goal.loop-preserved
loop-preserved c =
    let need : Need = record { group = c.in-Ok.found.0; marks = c.marks_at.new.marks } in
    let read = need_read c.args.least c.loop.from c.loop.rest.now c.in-Ok.found.1.now c.in_ok-rest.rest.now
    c.in-Ok.found.0 c.marks_at.new.marks c.in-Ok.ensures.value c.in_ok-rest.ensures in
    let follows = subst (λ (from : ℕ). leb from need.group ≡ true) c.loop.invariant.next c.in-Ok.ensures.follows in
    rw (c.in_ok-push.ensures.ok, c.number-from.ensures.same) (record {
      told = goes_on (with_need c.args.least) (λ needs. Ok (needs.0.1, needs.1)) c.in_ok-count.count c.loop.counter
          (c.loop.from, c.loop.needs) _ c.loop.rest.now c.in_ok-rest.rest.now
          (needs_at c.args.most c.args.least c.args.bytes.now) c.loop-test.true (rw read refl) c.loop.invariant.told;
      next = sym (end_of-push place_of_need 0 c.loop.needs need);
      rising = needs_rise-push 0 c.loop.needs need c.loop.invariant.rising follows;
    })

pub returns-clause-value : goal.returns-clause-value
returns-clause-value c =
    is_done (with_need c.args.least) (λ needs. Ok (needs.0.1, needs.1)) c.in_ok-count.count c.loop.counter
    (c.loop.from, c.loop.needs) c.loop.rest.now (needs_at c.args.most c.args.least c.args.bytes.now) c.loop-test.false
    c.loop.invariant.told

pub returns-clause-spelled : goal.returns-clause-spelled
returns-clause-spelled c =
    let told = is_done (with_need c.args.least) (λ needs. Ok (needs.0.1, needs.1)) c.in_ok-count.count c.loop.counter
    (c.loop.from, c.loop.needs) c.loop.rest.now (needs_at c.args.most c.args.least c.args.bytes.now) c.loop-test.false
    c.loop.invariant.told in
    (needs_at_takes c.args.most c.args.least c.args.bytes.now (c.loop.needs, c.loop.rest.now)
    (λ i. omega (arith, c.type_inv.bytes i)) told).0.parts
