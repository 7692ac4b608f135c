use Rattle.std.proofs.Common.{ap, ◌∙◌, List}
use Rattle.ftc_base.specs.declared.ask.Write.{Write}
use Rattle.ftc_txn.specs.Touched.{is_changed}
use Rattle.ftc_txn.proofs.TouchedLists.{changed_none}
use Rattle.ftc_txn.proofs.Kept.{not_both}
use Rattle.ftc_txn.proofs.tests.finish.Goals as goal

pub commit-requires-clause-numbers : goal.commit-requires-clause-numbers
commit-requires-clause-numbers c = λ p _ is.
    not_both (is_changed c.args.head.now.partitions c.new.result.items p)
    (ap (λ (ws : List Write). is_changed c.args.head.now.partitions ws p) c.new.ensures ∙ changed_none
    c.args.head.now.partitions p) is
