use Rattle.std.proofs.Common.{◌∙◌, sym, ap, refl, arith}
use Rattle.ftc_serial.specs.Take.{asked, stopped}
use Rattle.ftc_serial.proofs.Asking.{turn, turn_end, turn_last}
use Rattle.ftc_serial.proofs.visit.ask_in_turn.Goals as goal

pub loop-init : goal.loop-init
unfolding asked
loop-init c = record { told = rw c.new-answers.ensures refl; count = rw c.new-answers.ensures refl }

pub loop-preserved : goal.loop-preserved
loop-preserved c =
    let is = rw c.get-value.ensures at c.push.ensures.items in
    record {
      told = turn c.args.rule.now c.args.packet.now c.args.store.now.content c.loop.counter c.loop.answers.items
          c.push.new.self.items c.in-Read.key c.in-Read.change c.loop-test.true
          (sym c.in-Read.ensures.asked) is ∙ c.loop.invariant.told;
      count = omega (arith, c.push.ensures.len, c.loop.invariant.count);
    }

pub returns-in-Finish-clause-same : goal.returns-in-Finish-clause-same
returns-in-Finish-clause-same c =
    turn_end c.args.rule.now c.args.packet.now c.args.store.now.content c.loop.counter c.loop.answers.items
    c.in-Finish.end c.loop-test.true (sym c.in-Finish.ensures.asked) ∙ c.loop.invariant.told

pub returns-clause-same : goal.returns-clause-same
returns-clause-same c =
    c.stopped.ensures ∙ ap (stopped c.loop.answers.items) c.ask-last.ensures.asked ∙ turn_last c.args.rule.now
    c.args.packet.now c.args.store.now.content c.loop.counter c.loop.answers.items c.loop-test.false ∙
    c.loop.invariant.told
