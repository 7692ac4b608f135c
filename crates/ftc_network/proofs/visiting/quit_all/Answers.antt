use Rattle.std.proofs.Common.{◌≡◌, ◌∙◌, ◌≢◌, Option, Some, None, inl, inr, refl, sym, ap, arith}
use Rattle.std.proofs.lemmas.Bool.{cases_eq, cases_lt}
use Rattle.std.proofs.lemmas.Grind.{common_steps}
use Rattle.ftc_base.specs.declared.limits.TheConstants.{MOST_SLOTS}
use Rattle.ftc_server.specs.State.{ServerState}
use Rattle.ftc_txn.specs.Slots.{Running, slot_at}
use Rattle.ftc_standing.proofs.Arriving.{is_none}
use Rattle.ftc_network.proofs.visiting.quit_all.Goals as goal

pub loop-number-preserved : goal.loop-number-preserved
loop-number-preserved c =
    let is = c.loop-number.invariant in
    let now = c.loop-number.server in
    let new = c.quit_one.new.server in
    let worker = c.unwrap-worker.result in
    let number = c.loop-number.number in
    let this : worker ≡ number = grind (arith, common_steps) in (
      (λ setting state at stands. c.quit_one.ensures.stands setting state at (is.0 setting state at stands)),
      c.quit_one.ensures.withheld ∙ is.1,
      (λ other below. elim (cases_eq other worker) [
        | inl same ↦ ap (slot_at new.head.slots) same ∙ c.quit_one.ensures.gone
        | inr differs ↦ c.quit_one.ensures.others other differs
            ∙ is.2 other (let apart : other ≢ number = λ same. differs (same ∙ sym this) in omega (arith, below, apart))
      ]),
      (λ other running runs. elim (cases_eq other worker) [
        | inl same ↦ absurd (let none : None ≡ Some running =
            sym c.quit_one.ensures.gone ∙ (ap (slot_at new.head.slots) (sym same) ∙ runs) in cc)
        | inr differs ↦ is.3 other running (sym (c.quit_one.ensures.others other differs) ∙ runs)
      ]),
      c.quit_one.ensures.fields ∙ ap (λ (s : ServerState). record s { head = new.head }) is.4,
      c.quit_one.ensures.vector ∙ is.5,
    )

pub returns-clause-idle : goal.returns-clause-idle
returns-clause-idle c worker =
    let is = c.loop-number.invariant in
    let now = c.loop-number.server in
    elim (cases_lt worker MOST_SLOTS) [
      | inl within ↦ is.2 worker (omega (arith, within))
      | inr past ↦ is_none (slot_at now.head.slots worker) (λ running runs.
          let within = is.3 worker running runs in absurd (omega (arith, within, past)))
    ]
