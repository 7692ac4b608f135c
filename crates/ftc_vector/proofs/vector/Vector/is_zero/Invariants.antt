-- the bits so far are 0 where the numbers so far are
use Rattle.std.proofs.Common.{◌≡◌, drop}
use Rattle.std.specs.Prelude.{◌&&◌}
use Rattle.std.specs.List.{list_all}
use Rattle.ftc_vector.proofs.Zeros.{is_zero}
use Rattle.ftc_vector.proofs.vector.Vector.is_zero.Given as goal

abbrev pub invariant-loop-number : goal.invariant-loop-number
invariant-loop-number l = (is_zero l.bits && list_all is_zero (drop l.number-index l.number-items))
    ≡ list_all is_zero l.number-items
