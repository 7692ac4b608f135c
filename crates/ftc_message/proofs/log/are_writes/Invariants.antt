-- the writes so far have keys and values of few bytes
use Rattle.std.proofs.Common.{take}
use Rattle.std.specs.List.{AllByRecursion}
use Rattle.ftc_message.specs.Bounds.{IsWrite}
use Rattle.ftc_message.proofs.log.are_writes.Given as goal

abbrev pub invariant-loop-write : goal.invariant-loop-write
invariant-loop-write l = AllByRecursion IsWrite (take l.write-index l.write-items)
