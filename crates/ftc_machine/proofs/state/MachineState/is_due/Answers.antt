use Rattle.std.proofs.Common.{◌≡◌, ◌-◌, ◌||◌, ◌∙◌, ℕ, Bool, true, not, inl, inr, sym, arith, true≢false}
use Rattle.std.proofs.lemmas.Bool.{cases_Bool}
use Rattle.ftc_base.specs.Sets.{has}
use Rattle.ftc_machine.specs.LegalityTests.{footprints_of, has_named}
use Rattle.ftc_machine.specs.DueTests.{known_last, named, is_due_by}
use Rattle.ftc_machine.proofs.ScriptTests.{each_below}
use Rattle.ftc_machine.proofs.state.MachineState.is_due.Goals as goal

-- where the last group's need isn't met, not all are
pub returns-else-is_need_met : goal.returns-else-is_need_met
returns-else-is_need_met c =
    let k = c.args.self.now in
    let w = c.args.withheld.now in
    let test : ℕ → Bool =
    λ group. not (has w.needs group) || has_named (footprints_of k) (known_last k) (named group w.packet) in
    elim (cases_Bool (is_due_by k (known_last k) w)) [
      | inl due ↦ absurd (true≢false (sym (each_below k.ring.servers test due (c.servers.result - 1)
          (let n = c.servers.ensures.same in let some = k.some_server in omega (arith, n, some)))
          ∙ sym c.is_need_met.ensures ∙ c.if-is_need_met.false))
      | inr isnt ↦ c.if-is_need_met.false ∙ sym isnt
    ]
