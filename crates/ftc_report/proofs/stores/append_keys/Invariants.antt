-- the lines so far have been added
use Rattle.std.proofs.Common.{◌≡◌, ◌++◌, take, map}
use Rattle.std.specs.List.{flat_map}
use Rattle.ftc_store.specs.Pairs.{key_value}
use Rattle.ftc_report.specs.Text.{key_line}
use Rattle.ftc_report.proofs.stores.append_keys.Given as goal

abbrev pub invariant-loop-pair : goal.invariant-loop-pair
invariant-loop-pair l = l.out ≡ l.fn.out ++ flat_map key_line (map key_value (take l.pair-index l.pairs))
