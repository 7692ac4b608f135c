use Rattle.std.proofs.Common.{◌∙◌, List, ap}
use Rattle.std.proofs.Math.Logic.{∥∥₁_map}
use Rattle.ftc_base.specs.declared.ask.Write.{Write}
use Rattle.ftc_txn.specs.Touched.{is_changed}
use Rattle.ftc_txn.proofs.TouchedLists.{changed_none}
use Rattle.ftc_server.proofs.Finding.{true_false}
use Rattle.ftc_server.proofs.Slotting.{slots_restarted}
use Rattle.ftc_server.proofs.server.Server.restart.Goals as goal

pub commit-requires-clause-numbers : goal.commit-requires-clause-numbers
commit-requires-clause-numbers c partition within is =
    let partitions = c.args.self.now.head.partitions in
    true_false (is_changed partitions c.new.result.items partition) is
    (ap (λ (writes : List Write). is_changed partitions writes partition) c.new.ensures ∙ changed_none partitions
    partition)

pub invariant_of-self-clause-slots : goal.invariant_of-self-clause-slots
invariant_of-self-clause-slots c =
    let server = c.args.self.now in
    ∥∥₁_map server.slots (λ slots.
    slots_restarted server.rule server.head c.commit.new.self server.held.items c.args.worker c.new.result.items
    c.commit.result
    c.requires c.commit.ensures slots)
