use Rattle.std.proofs.Common.{◌≡◌, ℕ, List, ap, ◌∙◌}
use Rattle.ftc_base.specs.Sets.{has}
use Rattle.ftc_base.specs.declared.ask.Answer.{Answer}
use Rattle.ftc_txn.specs.Touched.{is_touched}
use Rattle.ftc_txn.proofs.TouchedLists.{changed_is_marked}
use Rattle.ftc_txn.proofs.logged.log_of.Goals as goal

pub new-requires-clause-marked : goal.new-requires-clause-marked
new-requires-clause-marked c = λ p is.
    let touched : (q : ℕ) → has c.touched_by-touched.result q
    ≡ is_touched c.args.partitions c.args.transaction.now.answers q =
    λ q. c.touched_by-touched.ensures q ∙ ap
    (λ (xs : List Answer). is_touched c.args.partitions xs q) c.answers-answers.ensures in
    rw c.numbers_at.ensures (changed_is_marked c.args.partitions c.args.transaction.now.answers c.args.writes.now.items
    c.args.vector.now c.touched_by-touched.result c.changed_by-changed.result c.requires.some c.requires.within
    c.requires.were_read touched c.changed_by-changed.ensures p is)
