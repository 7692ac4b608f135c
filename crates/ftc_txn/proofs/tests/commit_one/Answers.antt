use Rattle.std.proofs.Common.{◌≡◌, ℕ, List, [], ◌∷◌, ◌++◌, sym, ap, ◌∙◌, arith}
use Rattle.ftc_base.specs.declared.ask.Write.{Write}
use Rattle.ftc_base.specs.Partition.{partition_of}
use Rattle.ftc_vector.specs.Vector.{number_at}
use Rattle.ftc_txn.specs.Touched.{is_changed}
use Rattle.ftc_txn.proofs.Writing.{changed_one}
use Rattle.ftc_txn.proofs.tests.commit_one.Goals as goal

pub commit-requires-clause-writes : goal.commit-requires-clause-writes
commit-requires-clause-writes c = rw (c.push.ensures.items, c.new-writes.ensures) c.requires

pub commit-requires-clause-numbers : goal.commit-requires-clause-numbers
commit-requires-clause-numbers c = λ p within is.
    let items : c.push.new.self.items ≡ c.args.write ∷ [] =
    c.push.ensures.items ∙ ap (λ (ws : List Write). ws ++ c.args.write ∷ []) c.new-writes.ensures in
    let place = changed_one c.args.head.now.partitions c.args.write p
    (ap (λ (ws : List Write). is_changed c.args.head.now.partitions ws p) (sym items) ∙ is) in
    let counted : c.partitions.result ≡ c.args.head.now.partitions =
    c.partitions.ensures ∙ c.store.ensures.partitions in
    let same : p ≡ c.partition_of-partition.result =
    place ∙ ap (λ (n : ℕ). partition_of n c.args.write.key)
    (sym counted) ∙ sym c.partition_of-partition.ensures.same in
    let number : number_at c.args.head.now.vector p ≡ c.at.result =
    ap (number_at c.args.head.now.vector) same ∙ ap (λ (v : List ℕ). number_at v c.partition_of-partition.result)
    (sym c.vector.ensures) ∙ sym c.at.ensures.same in
    rw number (omega (arith, c.if-at.false, c.at.type_inv))
