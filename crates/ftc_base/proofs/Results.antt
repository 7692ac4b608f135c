-- Results that are passed on.
use Rattle.std.proofs.Common.{◌≡◌, Result, Ok, Err, refl}
use Rattle.std.specs.Result.{OnOk, OnErr}
use Rattle.ftc_base.specs.Reading.{◌>>=◌}

pub on_any_err : {A E : Type 0} (result : Result A E) (P : Type 0) → P → OnErr result P
on_any_err (Ok value) P holds = tt
on_any_err (Err error) P holds = holds

-- where two readings went well, each did
pub both_ok : {A B F : Type 0} (first : Result A F) (next : A → Result B F) (b : B) → (first >>= next) ≡ Ok b
    → (a : A) × (first ≡ Ok a) × (next a ≡ Ok b)
both_ok (Ok a) next b e = (a, refl, e)
both_ok (Err fault) next b e = absurd cc

pub on_ok_map : {A E : Type 0} (result : Result A E) (P Q : Type 0) → (P → Q) → OnOk result P → OnOk result Q
on_ok_map (Ok value) P Q f on = f on
on_ok_map (Err error) P Q f on = on

pub on_err_map : {A E : Type 0} (result : Result A E) (P Q : Type 0) → (P → Q) → OnErr result P → OnErr result Q
on_err_map (Ok value) P Q f on = on
on_err_map (Err error) P Q f on = f on
