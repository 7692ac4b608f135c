-- the partitions of the answers so far
use Rattle.std.proofs.Common.{◌≡◌, ℕ, take}
use Rattle.ftc_base.specs.Sets.{has}
use Rattle.ftc_txn.specs.Touched.{is_touched}
use Rattle.ftc_txn.proofs.touched.touched_by.Given as goal

abbrev pub invariant-loop-answer : goal.invariant-loop-answer
invariant-loop-answer l = (p : ℕ) → has l.touched p ≡ is_touched l.partitions (take l.answer-index l.answer-items) p
