use Rattle.std.proofs.Common.{◌≡◌, ◌∙◌, ◌++◌, ◌||◌, sym, ap, add-one, arith}
use Rattle.std.proofs.lemmas.Grind.{common_steps}
use Rattle.ftc_serial.specs.Words.{each_below}
use Rattle.ftc_network.specs.Pulling.{news_of, is_gained, any_below}
use Rattle.ftc_network.proofs.pulling.gains_of.Goals as goal

pub loop-number-preserved : goal.loop-number-preserved
loop-number-preserved c =
    let number = c.loop-number.number in
    let news_at = news_of c.args.ring.now c.args.sender.now c.args.receiver.now in
    let gain_at = is_gained c.args.ring.now c.args.sender.now c.args.receiver.now in
    let group : c.unwrap-group.result ≡ number = grind (arith, common_steps) in (
      c.in_ok-add_group.ensures.replicas
          ∙ (ap (λ list. list ++ news_at c.unwrap-group.result) c.loop-number.invariant.0
          ∙ (ap (λ g. each_below news_at number ++ news_at g) group ∙ sym (ap (each_below news_at) (add-one number)))),
      c.in_ok-add_group.ensures.gained
          ∙ (ap (λ b. b || gain_at c.unwrap-group.result) c.loop-number.invariant.1
          ∙ (ap (λ g. any_below gain_at number || gain_at g) group ∙ sym (ap (any_below gain_at) (add-one number)))),
    )
