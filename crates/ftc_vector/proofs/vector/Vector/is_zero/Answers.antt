use Rattle.std.proofs.Common.{◌+◌, ◌∙◌, ℕ, List, drop, get_or, sym, ap, arith}
use Rattle.std.specs.Prelude.{◌&&◌}
use Rattle.std.specs.List.{list_all}
use Rattle.std.proofs.lemmas.List.{drop_more}
use Rattle.ftc_vector.proofs.Zeros.{is_zero, one_more}
use Rattle.ftc_vector.proofs.vector.Vector.is_zero.Goals as goal

pub loop-number-preserved : goal.loop-number-preserved
loop-number-preserved c =
    let numbers = c.self.inside.numbers in
    let place = c.loop-number.number-index in
    one_more c.loop-number.bits (get_or numbers place 0) (list_all is_zero (drop (place + 1) numbers))
    ∙ ap (λ (rest : List ℕ). is_zero c.loop-number.bits
    && list_all is_zero rest) (sym (drop_more numbers place 0 (omega (arith, c.loop-number-test.true))))
    ∙ c.loop-number.invariant
