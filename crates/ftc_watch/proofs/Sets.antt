-- The set of some members.
use Rattle.std.proofs.Common.{◌≡◌, ℕ, ◌<◌, ◌≤◌, ◌+◌, ◌^◌, ◌*◌, ◌%◌, Bool, true, false, List, [], ◌∷◌, length, drop}
use Rattle.std.proofs.Common.{get_or, ◌⊎◌, inl, inr, refl, sym, ap, ◌∙◌, arith, add-one, drop-cons}
use Rattle.std.specs.Prelude.{◌==◌, ◌||◌, nat_lt}
use Rattle.std.proofs.lemmas.Bool.Decides.{nat_tests}
use Rattle.std.specs.Int.RustNames.{bit_or}
use Rattle.std.proofs.Math.Pow.{pow-lt}
use Rattle.std.proofs.lemmas.Bool.{and_parts}
use Rattle.ftc_base.specs.Sets.{has}
use Rattle.ftc_base.specs.declared.limits.TheConstants.{MOST_MEMBERS}
use Rattle.ftc_base.proofs.Members.{has-zero, has-with, same}
use Rattle.ftc_watch.specs.Members.{are_below, with_member, with_members}

bit_fits : (number : ℕ) → number < 64 → 1 * 2 ^ number % 2 ^ 64 ≡ 2 ^ number
bit_fits number within = let small : 2 ^ number < 2 ^ 64 = pow-lt within in omega arith

pub has-with_member : (set number member : ℕ) → number < MOST_MEMBERS
    → has (with_member set number) member ≡ (member == number || has set member)
unfolding with_member
has-with_member set number member within = ap (λ bit. has (bit_or set bit) member) (sym (bit_fits number within))
    ∙ has-with set number member within

-- a set that has one more member
pub one_member : (more set number : ℕ) → number < MOST_MEMBERS → ((member : ℕ)
    → has more member ≡ (member == number || has set member)) → more ≡ with_member set number
one_member more set number within has_more = same more (with_member set number)
    (λ member. has_more member ∙ sym (has-with_member set number member within))

-- the first number that is left
left_first : (numbers : List ℕ) (i : ℕ) → i < length numbers
    → drop i numbers ≡ get_or numbers i 0 ∷ drop (i + 1) numbers
left_first numbers i inside = rw (add-one, drop-cons numbers i 0)

pub below_next : (bound : ℕ) (numbers : List ℕ) (i : ℕ) → i < length numbers → are_below bound (drop i numbers) ≡ true
    → (get_or numbers i 0 < bound) × (are_below bound (drop (i + 1) numbers) ≡ true)
below_next bound numbers i inside all =
    let split = and_parts (nat_lt (get_or numbers i 0) bound) (are_below bound (drop (i + 1) numbers))
    (ap (are_below bound) (sym (left_first numbers i inside)) ∙ all) in
    (grind (arith, nat_tests, split.0), split.1)

pub set_next : (numbers : List ℕ) (i set more whole : ℕ) → i < length numbers
    → with_members set (drop i numbers) ≡ whole → more ≡ with_member set (get_or numbers i 0)
    → with_members more (drop (i + 1) numbers) ≡ whole
set_next numbers i set more whole inside told is =
    rw is (sym (ap (with_members set) (left_first numbers i inside)) ∙ told)

pub below_more : (bound more : ℕ) (numbers : List ℕ) → bound ≤ more → are_below bound numbers ≡ true
    → are_below more numbers ≡ true
below_more bound more [] up all = refl
below_more bound more (number ∷ numbers) up all =
    let split = and_parts (nat_lt number bound) (are_below bound numbers) all in
    let here : nat_lt number more ≡ true = grind (arith, nat_tests, split.0) in
    rw here (below_more bound more numbers up split.1)

either : (s t : Bool) → (s || t) ≡ true → (s ≡ true) ⊎ (t ≡ true)
either true t e = inl refl
either false t e = inr e

-- members of a set of numbers that are below a bound are below it
pub members_below : (bound set : ℕ) (numbers : List ℕ) (member : ℕ) → bound ≤ MOST_MEMBERS
    → are_below bound numbers ≡ true
    → (has set member ≡ true → member < bound) → has (with_members set numbers) member ≡ true → member < bound
members_below bound set [] member few all before is = before is
members_below bound set (number ∷ numbers) member few all before is =
    let split = and_parts (nat_lt number bound) (are_below bound numbers) all in
    let small : number < bound = grind (arith, nat_tests, split.0) in
    members_below bound (with_member set number) numbers member few split.1
    (λ (now : has (with_member set number) member ≡ true). elim
    (either (member == number) (has set member) (sym (has-with_member set number member (omega arith)) ∙ now)) [
      | inl same ↦ grind (arith, nat_tests, same)
      | inr old ↦ before old
    ]) is
