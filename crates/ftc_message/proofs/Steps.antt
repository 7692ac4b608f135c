-- Reading step by step, as a loop does.
use Rattle.std.proofs.Common.{◌≡◌, ℕ, suc, ◌-◌, ◌+◌, ◌<◌, ◌≤◌, List, Result, Ok, Err, refl, ◌∙◌, arith}
use Rattle.ftc_message.specs.declared.fault.FieldFault.{FieldFault}
use Rattle.ftc_base.specs.Reading.{◌>>=◌}
use Rattle.ftc_message.specs.Reading.{times}

-- after one more step
pub goes_on : {S T : Type 0} (step : S → List ℕ → Result (S × List ℕ) FieldFault) (behind : S × List ℕ →
    Result T FieldFault) (count i : ℕ) (so_far next : S) (bytes rest : List ℕ) (total : Result T FieldFault)
    → i < count → step so_far bytes ≡ Ok (next, rest) → total ≡ (times step (count - i) so_far bytes >>= behind) →
    total ≡ (times step (count - (i + 1)) next rest >>= behind)
unfolding times
goes_on step behind count i so_far next bytes rest total under read is =
    let left : count - i ≡ suc (count - (i + 1)) = omega arith in
    let one : (times step (count - i) so_far bytes >>= behind) ≡ (times step (count - (i + 1)) next rest >>= behind) =
    rw (left, read) refl in
    is ∙ one

-- at a step that has a fault
pub ends : {S T : Type 0} (step : S → List ℕ → Result (S × List ℕ) FieldFault) (behind : S × List ℕ →
    Result T FieldFault) (count i : ℕ) (so_far : S) (bytes : List ℕ) (fault : FieldFault) (total : Result T FieldFault)
    → i < count → step so_far bytes ≡ Err fault → total ≡ (times step (count - i) so_far bytes >>= behind) →
    total ≡ Err fault
unfolding times
ends step behind count i so_far bytes fault total under read is =
    let left : count - i ≡ suc (count - (i + 1)) = omega arith in
    let one : (times step (count - i) so_far bytes >>= behind) ≡ Err fault = rw (left, read) refl in
    is ∙ one

-- after the last step
pub is_done : {S T : Type 0} (step : S → List ℕ → Result (S × List ℕ) FieldFault) (behind : S × List ℕ →
    Result T FieldFault) (count i : ℕ) (so_far : S) (bytes : List ℕ) (total : Result T FieldFault)
    → count ≤ i → total ≡ (times step (count - i) so_far bytes >>= behind) → total ≡ behind (so_far, bytes)
unfolding times
is_done step behind count i so_far bytes total past is =
    let none : count - i ≡ 0 = omega arith in
    let one : (times step (count - i) so_far bytes >>= behind) ≡ behind (so_far, bytes) = rw none refl in
    is ∙ one
