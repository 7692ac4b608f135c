use Rattle.std.proofs.Common.{◌≡◌, ℕ, Option, None, Ok, true, refl, sym, subst}
use Rattle.ftc_message.specs.Logged.{log_follows}
use Rattle.ftc_message.specs.Reading.{with_log, logs_at}
use Rattle.ftc_message.proofs.Steps.{goes_on, ends, is_done}
use Rattle.ftc_message.proofs.Following.{end_of-push}
use Rattle.ftc_message.proofs.RiseLaws.{place_of_log, logs_rise-push}
use Rattle.ftc_message.proofs.logs_bytes.logs_at.Goals as goal

pub push-requires : goal.push-requires
push-requires c =
    logs_rise-push None c.loop.logs c.in-Ok.log c.loop.invariant.rising
    (subst (λ (last : Option (ℕ × ℕ)). log_follows last c.in-Ok.log.origin c.in-Ok.log.group
    ≡ true) c.loop.invariant.last c.in-Ok.ensures.follows)

pub returns-in-Err : goal.returns-in-Err
returns-in-Err c =
    ends with_log (λ logs. Ok (logs.0.1, logs.1)) c.in_ok-count.count c.loop.counter (
      c.loop.last,
      c.loop.logs,
    ) c.loop.rest.now c.in-Err.fault (logs_at c.args.bytes.now) c.loop-test.true
    (rw c.in-Err.ensures.value refl) c.loop.invariant.told

pub loop-preserved : goal.loop-preserved
loop-preserved c =
    rw (c.in_ok-push-in-Ok.ensures.ok, c.origin.ensures, c.group.ensures.same) (record {
      told = goes_on with_log (λ logs. Ok (logs.0.1, logs.1)) c.in_ok-count.count c.loop.counter (
        c.loop.last,
        c.loop.logs,
      ) _ c.loop.rest.now c.in-Ok.behind.now (logs_at c.args.bytes.now) c.loop-test.true
          (rw c.in-Ok.ensures.value refl) c.loop.invariant.told;
      last = sym (end_of-push place_of_log None c.loop.logs c.in-Ok.log);
      rising = logs_rise-push None c.loop.logs c.in-Ok.log c.loop.invariant.rising
          (subst (λ (last : Option (ℕ × ℕ)). log_follows last c.in-Ok.log.origin c.in-Ok.log.group
          ≡ true) c.loop.invariant.last c.in-Ok.ensures.follows);
    })

pub returns : goal.returns
returns c = is_done with_log (λ logs. Ok (logs.0.1, logs.1)) c.in_ok-count.count c.loop.counter (
  c.loop.last,
  c.loop.logs,
) c.loop.rest.now (logs_at c.args.bytes.now) c.loop-test.false c.loop.invariant.told
