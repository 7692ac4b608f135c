-- the writes so far are copied
use Rattle.std.proofs.Common.{◌≡◌, take}
use Rattle.ftc_message.proofs.log.Log.copy.Given as goal

abbrev pub invariant-loop-write : goal.invariant-loop-write
invariant-loop-write l = l.writes.items ≡ take l.write-index l.write-items
