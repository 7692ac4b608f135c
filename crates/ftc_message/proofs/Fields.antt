-- A field that is read is the field that was written, and what was written is read again.
use Rattle.std.proofs.Common.{◌≡◌, ℕ, suc, ◌+◌, ◌^◌, ◌<◌, ◌≤◌, Bool, true, false, cond, ◌&&◌, leb, ltb, List, [], ◌∷◌}
use Rattle.std.proofs.Common.{◌++◌, length, get_or, take, drop, Result, Ok, Err, refl, sym, ap, subst, ◌∙◌}
use Rattle.std.proofs.Common.{append_assoc, arith, inl, inr}
use Rattle.std.proofs.lemmas.Bool.{cases_lt, ltb-false, ltb-true, leb-true, le-leb, lt-ltb, le-ltb, and_parts, and_from}
use Rattle.std.proofs.lemmas.List.{take_at, drop_at, take-append-drop, length-append, length-take, get_or-drop}
use Rattle.std.proofs.lemmas.List.{get_or-take, get_or_past}
use Rattle.std.proofs.lemmas.Nat.{be_bytes_4, be_bytes_8, from_be_bytes-to_be_bytes_4, from_be_bytes-to_be_bytes_8}
use Rattle.ftc_base.specs.declared.limits.TheConstants.{MOST_SERVERS}
use Rattle.ftc_message.specs.declared.fault.FrameCause.{FrameCause}
use Rattle.ftc_message.specs.declared.fault.FrameCause.TheVariants.{Cut, Range}
use Rattle.ftc_message.specs.declared.fault.FieldFault.{FieldFault}
use Rattle.ftc_message.specs.Numbers.{number_bytes, number_of}
use Rattle.ftc_base.specs.Reading.{◌>>=◌, ◌>>◌, unless}
use Rattle.ftc_message.specs.Fields.{fault_of, byte_at, within_at, taken_at, integer_at, group_at}
use Rattle.ftc_message.specs.Reading.{times}

abbrev pub IsBytes : List ℕ → Type 0
IsBytes bytes = (i : ℕ) → get_or bytes i 0 < 256

IsBytes-drop : (n : ℕ) (bytes : List ℕ) → IsBytes bytes → IsBytes (drop n bytes)
IsBytes-drop n bytes fits i = rw get_or-drop (fits (n + i))

IsBytes-take : (n : ℕ) (bytes : List ℕ) → IsBytes bytes → IsBytes (take n bytes)
IsBytes-take n bytes fits i =
    elim (cases_lt i n) [
      | inl under ↦ rw (get_or-take n bytes i 0 under) (fits i)
      | inr past ↦ rw (get_or_past (take n bytes) i 0 (omega (arith, length-take n bytes))) (omega arith)
    ]

IsBytes-rest : (byte : ℕ) (bytes : List ℕ) → IsBytes (byte ∷ bytes) → IsBytes bytes
IsBytes-rest byte bytes fits i = fits (suc i)

-- ---- one field after another

-- the value of a step that has no fault
pub bind_ok : {A B : Type 0} (read : Result A FieldFault) (next : A → Result B FieldFault) (y : B) →
    (read >>= next) ≡ Ok y → (x : A) × (read ≡ Ok x) × (next x ≡ Ok y)
bind_ok (Ok x) next y is = (x, refl, is)
bind_ok (Err fault) next y is = absurd cc

-- a test that was passed
pub test_ok : {A : Type 0} (passed : Bool) (bytes : List ℕ) (cause : FrameCause) (next : Result A FieldFault) (y : A) →
    (unless passed (fault_of bytes cause) >> next) ≡ Ok y → (passed ≡ true) × (next ≡ Ok y)
test_ok true bytes cause next y is = (refl, is)
test_ok false bytes cause next y is = absurd cc

abbrev done : {A : Type 0} → A → Result A FieldFault
done x = Ok x

pub ok_is : {A : Type 0} (x y : A) → done x ≡ done y → x ≡ y
ok_is x y is = cc

-- the first of several steps
pub times_ok : {S : Type 0} (step : S → List ℕ →
    Result (S × List ℕ) FieldFault) (count : ℕ) (so_far : S) (bytes : List ℕ) (y : S × List ℕ)
    → times step (suc count) so_far bytes ≡ Ok y → (next : S × List ℕ) × (step so_far bytes ≡ Ok next)
    × (times step count next.0 next.1 ≡ Ok y)
unfolding times
times_ok step count so_far bytes y is = bind_ok (step so_far bytes) (λ next. times step count next.0 next.1) y is

-- what a reader took from the front
pub record Takes (bytes text rest : List ℕ) : Type 0 where
  pub parts : bytes ≡ text ++ rest
  pub rest_fits : IsBytes rest

pub Takes-then : (a x b y c : List ℕ) → Takes a x b → Takes b y c → Takes a (x ++ y) c
Takes-then a x b y c p q =
    record { parts = p.parts ∙ ap (λ (t : List ℕ). x ++ t) q.parts ∙ sym (append_assoc x y c); rest_fits = q.rest_fits }

-- ---- bytes

pub within_takes : (least most : ℕ) (bytes : List ℕ) (x : ℕ × List ℕ) → IsBytes bytes →
    within_at least most bytes ≡ Ok x → Takes bytes (x.0 ∷ []) x.1 × (least ≤ x.0) × (x.0 ≤ most)
unfolding byte_at within_at
within_takes least most [] x fits is = absurd cc
within_takes least most (byte ∷ rest) x fits is =
    let passed = test_ok (leb least byte && leb byte most) (byte ∷ rest) Range (Ok (byte, rest)) x is in
    let bounds = and_parts (leb least byte) (leb byte most) passed.0 in
    let same : (byte, rest) ≡ x = ok_is (byte, rest) x passed.1 in
    let P : ℕ × List ℕ → Type 0 = λ y. Takes (byte ∷ rest) (y.0 ∷ []) y.1 × (least ≤ y.0) × (y.0 ≤ most) in
    subst P same (
      record { parts = refl; rest_fits = IsBytes-rest byte rest fits },
      leb-true least byte bounds.0,
      leb-true byte most bounds.1,
    )

pub within_again : (least most byte : ℕ) (rest : List ℕ) → least ≤ byte → byte ≤ most →
    within_at least most (byte ∷ rest) ≡ Ok (byte, rest)
unfolding byte_at within_at
within_again least most byte rest low high =
    rw (and_from (leb least byte) (leb byte most) (le-leb least byte low) (le-leb byte most high)) refl

pub group_takes : (bytes : List ℕ) (x : ℕ × List ℕ) → IsBytes bytes → group_at bytes ≡ Ok x →
    Takes bytes (x.0 ∷ []) x.1 × (x.0 < MOST_SERVERS)
unfolding byte_at group_at
group_takes [] x fits is = absurd cc
group_takes (byte ∷ rest) x fits is =
    let passed = test_ok (ltb byte MOST_SERVERS) (byte ∷ rest) Range (Ok (byte, rest)) x is in
    let same : (byte, rest) ≡ x = ok_is (byte, rest) x passed.1 in
    let P : ℕ × List ℕ → Type 0 = λ y. Takes (byte ∷ rest) (y.0 ∷ []) y.1 × (y.0 < MOST_SERVERS) in
    subst P same (record { parts = refl; rest_fits = IsBytes-rest byte rest fits }, ltb-true byte MOST_SERVERS passed.0)

pub group_again : (group : ℕ) (rest : List ℕ) → group < MOST_SERVERS → group_at (group ∷ rest) ≡ Ok (group, rest)
unfolding byte_at group_at
group_again group rest small = rw (lt-ltb group MOST_SERVERS small) refl

-- ---- so many bytes

guard_ok : {A : Type 0} (short : Bool) (fault : FieldFault) (x y : A) → cond short (Err fault) (Ok x) ≡ Ok y →
    (short ≡ false) × (x ≡ y)
guard_ok true fault x y is = absurd cc
guard_ok false fault x y is = (refl, cc)

pub taken_takes : (count : ℕ) (bytes : List ℕ) (x : List ℕ × List ℕ) → IsBytes bytes → taken_at count bytes ≡ Ok x →
    Takes bytes x.0 x.1 × (length x.0 ≡ count) × IsBytes x.0
unfolding taken_at
taken_takes count bytes x fits is =
    let whole = guard_ok (ltb (length bytes) count) (record { left = length bytes; cause = Cut }) (
      take count bytes,
      drop count bytes,
    ) x is in
    let long : count ≤ length bytes = ltb-false _ _ whole.0 in
    let P : List ℕ × List ℕ → Type 0 = λ y. Takes bytes y.0 y.1 × (length y.0 ≡ count) × IsBytes y.0 in
    subst P whole.1 (
      record { parts = sym (take-append-drop count bytes); rest_fits = IsBytes-drop count bytes fits },
      omega (arith, length-take count bytes),
      IsBytes-take count bytes fits,
    )

pub taken_again : (count : ℕ) (text rest : List ℕ) → length text ≡ count →
    taken_at count (text ++ rest) ≡ Ok (text, rest)
unfolding taken_at
taken_again count text rest size =
    let long : ltb (length (text ++ rest)) count ≡ false = le-ltb _ _ (omega (arith, length-append text rest)) in
    rw (long, take_at text rest count size, drop_at text rest count size) refl

-- ---- numbers

-- the law of numbers: their bytes are those that they were read from, and they are read again from their bytes
pub record IsWide (count limit : ℕ) : Type 0 where
  pub size : (number : ℕ) → length (number_bytes count number) ≡ count
  pub back : (bytes : List ℕ) → length bytes ≡ count → IsBytes bytes →
      number_bytes count (number_of count bytes) ≡ bytes
  pub again : (number : ℕ) → number < limit → number_of count (number_bytes count number) ≡ number
  pub below : (bytes : List ℕ) → IsBytes bytes → number_of count bytes < limit

pub wide_4 : IsWide 4 (2 ^ 32)
unfolding number_bytes number_of
wide_4 = record {
  size = λ number. refl;
  back = λ bytes size fits. be_bytes_4 bytes _ size fits (omega arith);
  again = λ number small. omega (arith, from_be_bytes-to_be_bytes_4 number small);
  below = λ bytes fits. omega (arith, fits 0, fits 1, fits 2, fits 3);
}

pub wide_8 : IsWide 8 (2 ^ 64)
unfolding number_bytes number_of
wide_8 = record {
  size = λ number. refl;
  back = λ bytes size fits. be_bytes_8 bytes _ size fits (omega arith);
  again = λ number small. omega (arith, from_be_bytes-to_be_bytes_8 number small);
  below = λ bytes fits. omega (arith, fits 0, fits 1, fits 2, fits 3, fits 4, fits 5, fits 6, fits 7);
}

pub number_takes : (count limit : ℕ) → IsWide count limit → (bytes : List ℕ) (x : ℕ × List ℕ) → IsBytes bytes →
    integer_at count bytes ≡ Ok x → Takes bytes (number_bytes count x.0) x.1 × (x.0 < limit)
unfolding integer_at
number_takes count limit wide bytes x fits is =
    let front = bind_ok (taken_at count bytes) (λ front. Ok (number_of count front.0, front.1)) x is in
    let taken = taken_takes count bytes front.0 fits front.1 in
    let same : (number_of count front.0.0, front.0.1) ≡ x = ok_is _ x front.2 in
    let P : ℕ × List ℕ → Type 0 = λ y. Takes bytes (number_bytes count y.0) y.1 × (y.0 < limit) in
    subst P same (
      record {
        parts = rw (wide.back front.0.0 taken.1 taken.2) taken.0.parts;
        rest_fits = taken.0.rest_fits;
      },
      wide.below front.0.0 taken.2,
    )

pub number_again : (count limit : ℕ) → IsWide count limit → (number : ℕ) (rest : List ℕ) → number < limit →
    integer_at count (number_bytes count number ++ rest) ≡ Ok (number, rest)
unfolding integer_at
number_again count limit wide number rest small =
    rw (taken_again count (number_bytes count number) rest (wide.size number), wide.again number small) refl
