-- the partitions of the writes so far
use Rattle.std.proofs.Common.{◌≡◌, ℕ, take}
use Rattle.ftc_base.specs.Sets.{has}
use Rattle.ftc_txn.specs.Touched.{is_changed}
use Rattle.ftc_txn.proofs.touched.changed_by.Given as goal

abbrev pub invariant-loop-write : goal.invariant-loop-write
invariant-loop-write l = (p : ℕ) → has l.changed p ≡ is_changed l.partitions (take l.write-index l.write-items) p
