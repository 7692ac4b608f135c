use Rattle.std.proofs.Common.{◌≡◌, ◌∙◌, ◌++◌, sym, ap, add-one, arith}
use Rattle.std.proofs.lemmas.Grind.{common_steps}
use Rattle.ftc_serial.specs.Words.{each_below}
use Rattle.ftc_network.specs.Reviving.{fetched_of}
use Rattle.ftc_network.proofs.reviving.got_all.Goals as goal

pub loop-number-preserved : goal.loop-number-preserved
loop-number-preserved c =
    let number = c.loop-number.number in
    let fetched_at = fetched_of c.args.ring.now c.args.server c.args.previous.now c.args.following.now in
    let group : c.unwrap-group.result ≡ number = grind (arith, common_steps) in
    c.in_ok-add_group.ensures
    ∙ (ap (λ list. list ++ fetched_at c.unwrap-group.result) c.loop-number.invariant
    ∙ (ap (λ g. each_below fetched_at number
    ++ fetched_at g) group ∙ sym (ap (each_below fetched_at) (add-one number))))
