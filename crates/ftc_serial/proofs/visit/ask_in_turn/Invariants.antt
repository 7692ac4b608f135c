-- what the answers so far lead to is what no answers lead to
use Rattle.std.proofs.Common.{◌≡◌, ◌-◌, length}
use Rattle.ftc_serial.specs.Take.{asked, asked_from}
use Rattle.ftc_serial.proofs.visit.ask_in_turn.Given as goal

abbrev pub invariant-loop : goal.invariant-loop
invariant-loop l = record {
  told : asked_from l.rule l.packet l.store.content (8 - l.counter) l.answers.items
      ≡ asked l.rule l.packet l.store.content;
  count : length l.answers.items ≡ l.counter;
}
