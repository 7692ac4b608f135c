use Rattle.std.proofs.Common.{◌∙◌, Option, ap}
use Rattle.std.specs.Prelude.{is_some}
use Rattle.ftc_replica.specs.Held.{Held}
use Rattle.ftc_server.proofs.Slotting.{idle_slots}
use Rattle.ftc_server.proofs.Installing.{empty_member}
use Rattle.ftc_server.proofs.server.Server.with.Goals as goal

pub invariant_of-result-clause-slots : goal.invariant_of-result-clause-slots
invariant_of-result-clause-slots c =
    ∣ idle_slots c.in_ok-rule.rule c.new-2.result c.new-3.result.items c.new-2.ensures.idle ∣₁

pub invariant_of-result-clause-members : goal.invariant_of-result-clause-members
invariant_of-result-clause-members c group within =
    ap (λ (slot : Option Held). is_some slot) (c.in_ok-others.ensures.each group within)
    ∙ empty_member c.args.ring.now c.args.id c.args.partitions group
