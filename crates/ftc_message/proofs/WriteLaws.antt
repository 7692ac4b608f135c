-- Writes: what is read is spelled so, and what is spelled so is read.
use Rattle.std.proofs.Common.{◌≡◌, ℕ, ◌≤◌, ◌==◌, Bool, true, false, cond, List, [], ◌∷◌, ◌++◌, length, Option}
use Rattle.std.proofs.Common.{Some, None, Ok, refl, sym, ap, subst, ◌∙◌, ◌⊎◌, inl, inr, append_assoc, arith}
use Rattle.std.specs.Prelude.{IfSome}
use Rattle.std.specs.List.{AllByRecursion, flat_map}
use Rattle.std.proofs.lemmas.Bool.{eqb-true, eqb-false}
use Rattle.ftc_base.specs.declared.ask.Write.{Write}
use Rattle.ftc_base.specs.declared.limits.TheConstants.{MOST_KEY_BYTES, MOST_VALUE_BYTES, MOST_WRITES}
use Rattle.ftc_message.specs.declared.fault.FrameCause.TheVariants.{Order}
use Rattle.ftc_message.specs.Logged.{key_follows, keys_rise}
use Rattle.ftc_message.specs.Bounds.{IsWrite}
use Rattle.ftc_message.specs.Spelling.{value_bytes, write_bytes, writes_bytes}
use Rattle.ftc_base.specs.Reading.{◌>>=◌, ◌>>◌, unless}
use Rattle.ftc_message.specs.Fields.{fault_of, within_at, taken_at}
use Rattle.ftc_message.specs.Reading.{put_at, value_at, key_at, write_at, writes_at}
use Rattle.ftc_message.proofs.Fields.{IsBytes, Takes, Takes-then, bind_ok, test_ok, ok_is, within_takes, within_again}
use Rattle.ftc_message.proofs.Fields.{taken_takes, taken_again}
use Rattle.ftc_message.proofs.ItemLaws.{Items, counted_read, items_again}

-- ---- a value

record PutRead (bytes : List ℕ) (x : Option (List ℕ) × List ℕ) : Type 0 where
  pub value : List ℕ
  pub there : x.0 ≡ Some value
  pub takes : Takes bytes (length value ∷ value) x.1
  pub few : length value ≤ MOST_VALUE_BYTES

put_takes : (bytes : List ℕ) (x : Option (List ℕ) × List ℕ) → IsBytes bytes → put_at bytes ≡ Ok x → PutRead bytes x
unfolding put_at
put_takes bytes x fits is =
    let size = bind_ok (within_at 0 MOST_VALUE_BYTES bytes) (λ size. taken_at size.0 size.1 >>= λ value.
    Ok (Some value.0, value.1)) x is in
    let value = bind_ok (taken_at size.0.0 size.0.1) (λ value. Ok (Some value.0, value.1)) x size.2 in
    let first = within_takes 0 MOST_VALUE_BYTES bytes size.0 fits size.1 in
    let second = taken_takes size.0.0 size.0.1 value.0 first.0.rest_fits value.1 in
    let counted : Takes bytes (length value.0.0 ∷ []) size.0.1 =
    subst (λ (n : ℕ). Takes bytes (n ∷ []) size.0.1) (sym second.1) first.0 in
    subst (PutRead bytes) (ok_is (Some value.0.0, value.0.1) x value.2) (record {
      value = value.0.0;
      there = refl;
      takes = Takes-then bytes (length value.0.0 ∷ []) size.0.1 value.0.0 value.0.1 counted second.0;
      few = omega (arith, first.2, second.1);
    })

put_again : (value rest : List ℕ) → length value ≤ MOST_VALUE_BYTES →
    put_at (length value ∷ (value ++ rest)) ≡ Ok (Some value, rest)
unfolding put_at
put_again value rest few =
    rw (
      within_again 0 MOST_VALUE_BYTES (length value) (value ++ rest) (omega arith) few,
      taken_again (length value) value rest refl,
    ) refl

chosen : {A : Type 0} (b : Bool) (x y z : A) → cond b x y ≡ z → ((b ≡ true) × (x ≡ z)) ⊎ ((b ≡ false) × (y ≡ z))
chosen true x y z is = inl (refl, is)
chosen false x y z is = inr (refl, is)

value_of_put : (bytes rest : List ℕ) (x : Option (List ℕ) × List ℕ) → Takes bytes (1 ∷ []) rest → PutRead rest x →
    Takes bytes (value_bytes x.0) x.1 × IfSome x.0 (λ value. length value ≤ MOST_VALUE_BYTES)
value_of_put bytes rest x tag put =
    let P : Option (List ℕ) → Type 0 =
    λ v. Takes bytes (value_bytes v) x.1 × IfSome v (λ value. length value ≤ MOST_VALUE_BYTES) in
    subst P (sym put.there) (Takes-then bytes (1 ∷ []) rest (length put.value ∷ put.value) x.1 tag put.takes, put.few)

value_takes : (bytes : List ℕ) (x : Option (List ℕ) × List ℕ) → IsBytes bytes → value_at bytes ≡ Ok x →
    Takes bytes (value_bytes x.0) x.1 × IfSome x.0 (λ value. length value ≤ MOST_VALUE_BYTES)
unfolding value_at
value_takes bytes x fits is =
    let tag = bind_ok (within_at 0 1 bytes) (λ tag. cond (tag.0 == 0) (Ok (None, tag.1)) (put_at tag.1)) x is in
    let first = within_takes 0 1 bytes tag.0 fits tag.1 in
    elim (chosen (tag.0.0 == 0) (Ok (None, tag.0.1)) (put_at tag.0.1) (Ok x) tag.2) [
      | inl delete ↦
          let zero_is : tag.0.0 ≡ 0 = eqb-true tag.0.0 0 delete.0 in
          let P : Option (List ℕ) × List ℕ → Type 0 =
          λ y. Takes bytes (value_bytes y.0) y.1 × IfSome y.0 (λ value. length value ≤ MOST_VALUE_BYTES) in
          subst P (ok_is (None, tag.0.1) x delete.1) (
            subst (λ (n : ℕ). Takes bytes (n ∷ []) tag.0.1) zero_is first.0,
            tt,
          )
      | inr put ↦
          let one_is : tag.0.0 ≡ 1 = omega (arith, eqb-false tag.0.0 0 put.0, first.2) in
          value_of_put bytes tag.0.1 x (subst (λ (n : ℕ). Takes bytes (n ∷ []) tag.0.1) one_is first.0)
          (put_takes tag.0.1 x first.0.rest_fits put.1)
    ]

value_again : (value : Option (List ℕ)) (rest : List ℕ) → IfSome value (λ v. length v ≤ MOST_VALUE_BYTES) →
    value_at (value_bytes value ++ rest) ≡ Ok (value, rest)
unfolding value_at
value_again None rest few = rw (within_again 0 1 0 rest (omega arith) (omega arith)) refl
value_again (Some value) rest few =
    rw (within_again 0 1 1 (length value ∷ (value ++ rest)) (omega arith) (omega arith)) (put_again value rest few)

-- ---- a key

record KeyRead (last : Option (List ℕ)) (bytes : List ℕ) (x : List ℕ × List ℕ) : Type 0 where
  pub takes : Takes bytes (length x.0 ∷ x.0) x.1
  pub some : 1 ≤ length x.0
  pub few : length x.0 ≤ MOST_KEY_BYTES
  pub follows : key_follows last x.0 ≡ true

key_takes : (last : Option (List ℕ)) (bytes : List ℕ) (x : List ℕ × List ℕ) → IsBytes bytes → key_at last bytes ≡ Ok x →
    KeyRead last bytes x
unfolding key_at
key_takes last bytes x fits is =
    let size = bind_ok (within_at 1 MOST_KEY_BYTES bytes) (λ size. taken_at size.0 size.1 >>= λ key.
    unless (key_follows last key.0) (fault_of size.1 Order) >> Ok key) x is in
    let key = bind_ok (taken_at size.0.0 size.0.1)
    (λ key. unless (key_follows last key.0) (fault_of size.0.1 Order) >> Ok key) x size.2 in
    let passed = test_ok (key_follows last key.0.0) size.0.1 Order (Ok key.0) x key.2 in
    let first = within_takes 1 MOST_KEY_BYTES bytes size.0 fits size.1 in
    let second = taken_takes size.0.0 size.0.1 key.0 first.0.rest_fits key.1 in
    let counted : Takes bytes (length key.0.0 ∷ []) size.0.1 =
    subst (λ (n : ℕ). Takes bytes (n ∷ []) size.0.1) (sym second.1) first.0 in
    subst (KeyRead last bytes) (ok_is key.0 x passed.1) (record {
      takes = Takes-then bytes (length key.0.0 ∷ []) size.0.1 key.0.0 key.0.1 counted second.0;
      some = omega (arith, first.1, second.1);
      few = omega (arith, first.2, second.1);
      follows = passed.0;
    })

key_again : (last : Option (List ℕ)) (key rest : List ℕ) → 1 ≤ length key → length key ≤ MOST_KEY_BYTES →
    key_follows last key ≡ true → key_at last (length key ∷ (key ++ rest)) ≡ Ok (key, rest)
unfolding key_at
key_again last key rest some few follows =
    rw (
      within_again 1 MOST_KEY_BYTES (length key) (key ++ rest) some few,
      taken_again (length key) key rest refl,
      follows,
    ) refl

-- ---- writes

write_takes : (last : Option (List ℕ)) (bytes : List ℕ) (x : Write × List ℕ) → IsBytes bytes →
    write_at last bytes ≡ Ok x → Takes bytes (write_bytes x.0) x.1 × IsWrite x.0 × (key_follows last x.0.key ≡ true)
unfolding write_at
write_takes last bytes x fits is =
    let key = bind_ok (key_at last bytes) (λ key. value_at key.1 >>= λ value.
    Ok (record { key = key.0; value = value.0 }, value.1)) x is in
    let value = bind_ok (value_at key.0.1) (λ value. Ok (record { key = key.0.0; value = value.0 }, value.1)) x key.2 in
    let first = key_takes last bytes key.0 fits key.1 in
    let second = value_takes key.0.1 value.0 first.takes.rest_fits value.1 in
    let P : Write × List ℕ → Type 0 =
    λ y. Takes bytes (write_bytes y.0) y.1 × IsWrite y.0 × (key_follows last y.0.key ≡ true) in
    subst P (ok_is (record { key = key.0.0; value = value.0.0 }, value.0.1) x value.2) (
      Takes-then bytes (length key.0.0 ∷ key.0.0) key.0.1 (value_bytes value.0.0) value.0.1 first.takes second.0,
      record { key_some = first.some; key_few = first.few; value_few = second.1 },
      first.follows,
    )

write_again : (last : Option (List ℕ)) (write : Write) (rest : List ℕ) → IsWrite write →
    key_follows last write.key ≡ true → write_at last (write_bytes write ++ rest) ≡ Ok (write, rest)
unfolding write_at
write_again last write rest is follows =
    let text : write_bytes write ++ rest ≡ length write.key ∷ (write.key ++ (value_bytes write.value ++ rest)) =
    ap (λ (bytes : List ℕ). length write.key ∷ bytes) (append_assoc write.key (value_bytes write.value) rest) in
    ap (write_at last) text ∙ rw (
      key_again last write.key (value_bytes write.value
          ++ rest) is.key_some is.key_few follows,
      value_again write.value rest is.value_few,
    ) refl

abbrev writes : Items (Option (List ℕ)) Write
writes = record {
  item_at = write_at;
  place = λ write. Some write.key;
  item_bytes = write_bytes;
  IsItem = IsWrite;
  follows = λ last write. key_follows last write.key;
  rise = keys_rise;
  goes_on = record { none = λ _. refl; next = λ _ _ _. refl };
  takes = write_takes;
  again = write_again;
}

-- writes that have a spelling
pub record AreWritesSpelled (ws : List Write) : Type 0 where
  pub few : length ws ≤ MOST_WRITES
  pub each : AllByRecursion IsWrite ws
  pub rising : keys_rise None ws ≡ true

pub writes_at_takes : (bytes : List ℕ) (x : List Write × List ℕ) → IsBytes bytes → writes_at bytes ≡ Ok x →
    Takes bytes (writes_bytes x.0) x.1 × AreWritesSpelled x.0
unfolding writes_at
writes_at_takes bytes x fits is =
    let read = counted_read writes None (λ n. n ∷ []) (λ n. n ≤ MOST_WRITES) (within_at 0 MOST_WRITES) bytes x
    (λ count at. (let head = within_takes 0 MOST_WRITES bytes count fits at in (head.0, head.2))) is in
    (read.takes, record { few = read.few; each = read.each; rising = read.rising })

pub writes_at_again : (ws : List Write) (rest : List ℕ) → AreWritesSpelled ws →
    writes_at (writes_bytes ws ++ rest) ≡ Ok (ws, rest)
unfolding writes_at
writes_at_again ws rest spelled =
    let read = items_again writes None [] ws rest spelled.each spelled.rising in
    rw (within_again 0 MOST_WRITES (length ws) (flat_map write_bytes ws ++ rest) (omega arith) spelled.few, read.1) refl
