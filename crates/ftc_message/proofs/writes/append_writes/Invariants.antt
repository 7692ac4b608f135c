-- the writes so far are added
use Rattle.std.proofs.Common.{◌≡◌, ◌++◌, ◌∷◌, length, take}
use Rattle.std.specs.List.{flat_map}
use Rattle.ftc_message.specs.Spelling.{write_bytes}
use Rattle.ftc_message.proofs.writes.append_writes.Given as goal

abbrev pub invariant-loop-write : goal.invariant-loop-write
invariant-loop-write l = l.out ≡ l.fn.out
    ++ (length l.write-items ∷ flat_map write_bytes (take l.write-index l.write-items))
