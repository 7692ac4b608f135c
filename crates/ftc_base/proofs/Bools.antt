-- Facts on Booleans.
use Rattle.std.proofs.Common.{◌≡◌, ◌&&◌, ◌||◌, Bool, true, false, not, refl}

pub not_not : (test : Bool) → not (not test) ≡ test
not_not true = refl
not_not false = refl

pub not_from_never : (test : Bool) → (test ≡ true → ⊥) → not test ≡ true
not_from_never true never = absurd (never refl)
not_from_never false never = refl

pub not_both : (test : Bool) → not test ≡ true → test ≡ true → ⊥
not_both true isnt is = absurd cc
not_both false isnt is = absurd cc

pub and_one : (one other : Bool) → (one && other) ≡ true → one ≡ true
and_one true other is = refl
and_one false other is = cc

pub and_other : (one other : Bool) → (one && other) ≡ true → other ≡ true
and_other true other is = is
and_other false other is = cc

pub or_without : (one other : Bool) → other ≡ false → (one || other) ≡ one
or_without true other isnt = refl
or_without false other isnt = isnt
