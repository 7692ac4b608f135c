-- the needs so far are added
use Rattle.std.proofs.Common.{◌≡◌, ◌++◌, ◌∷◌, length, take}
use Rattle.std.specs.List.{flat_map}
use Rattle.ftc_message.specs.Spelling.{need_bytes}
use Rattle.ftc_message.proofs.need_bytes.add_needs.Given as goal

abbrev pub invariant-loop-need : goal.invariant-loop-need
invariant-loop-need l = l.out ≡ l.fn.out ++ (length l.need-items ∷ flat_map need_bytes (take l.need-index l.need-items))
