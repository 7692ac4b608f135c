-- The store of a list that has all changing visits is the serial chain's.
use Rattle.std.proofs.Common.{◌≡◌, ◌≢◌, ℕ, ◌+◌, ◌<◌, ◌==◌, ◌&&◌, if◌then◌else◌, Bool, true, false, List, [], ◌∷◌, inl}
use Rattle.std.proofs.Common.{inr, refl, sym, ap, subst, ◌∙◌, arith, eq-eqb, Option, Some, None}
use Rattle.std.proofs.lemmas.Bool.{true≢false, eqb-false, ne_eqb}
use Rattle.std.specs.Prelude.{slice_get}
use Rattle.ftc_serial.specs.Words.{AnyOf}
use Rattle.ftc_protocol.specs.Changes.{Changes, changes, is_some_list}
use Rattle.ftc_store.specs.Store.{Content, written}
use Rattle.ftc_serial.specs.Serial.{Entry, Given, State, Visited}
use Rattle.ftc_protocol.specs.Trace.{IsChanging, IsInTrace, IsTouching, content_of}
use Rattle.ftc_protocol.proofs.Places.{IsEntry, IsSerial, IsSoundTaking, Released, Waits, opening_waits, place_after}
use Rattle.ftc_protocol.proofs.Places.{placed, serial_of}
use Rattle.ftc_serial.specs.Take.{Outcome}
use Rattle.ftc_protocol.specs.Setting.{Setting, rule_at, servers}
use Rattle.ftc_serial.specs.Entries.{Touches, WritesIn}
use Rattle.ftc_base.specs.declared.ask.Write.{Write}
use Rattle.ftc_protocol.proofs.TraceLemmas.{changes_some}
use Rattle.ftc_base.specs.Partition.{partition_of}
use Rattle.ftc_serial.proofs.Functions.{with_at_cases}
use Rattle.ftc_protocol.proofs.ChangeLaws.{written_changed}

pub writes_change : (c : Setting) → IsSoundTaking c → (s : State) (j p : ℕ) (o : Outcome) →
    IsEntry c s (Visited j p o) → (i : ℕ) → WritesIn c.partitions o i → Changes c.partitions o i
writes_change c sound s j p o legal i = written_changed c.partitions o i

pub some_changes : (keys : List ℕ) → is_some_list keys ≡ true → (i : ℕ) × AnyOf (λ (key : ℕ). key ≡ i) keys
some_changes [] h = absurd (true≢false (sym h))
some_changes (key ∷ keys) h = (key, inl refl)

pub some_any : {A : Type 0} (P : A → Type 0) (xs : List A) → AnyOf P xs → is_some_list xs ≡ true
some_any P [] a = absurd a
some_any P (x ∷ xs) a = refl

-- a changing visit of a serial run touches something
pub touching_changing : (c : Setting) → IsSoundTaking c → (trace : List Entry) → IsSerial c trace → (j p : ℕ) →
    IsChanging c.partitions trace j p → IsTouching trace j p
touching_changing c sound [] is j p h = absurd h
touching_changing c sound (Given q b ∷ older) is j p h =
    elim h [ inl here ↦ absurd here | inr there ↦ inr (touching_changing c sound older is.1 j p there) ]
touching_changing c sound (Visited k q o ∷ older) is j p h = elim h [
  | inl here ↦
      let some = some_changes (changes c.partitions o) here.2 in
      let touches : Touches c.partitions o some.0 =
      subst (λ (u : Outcome). Changes c.partitions u some.0 →
      Touches c.partitions u some.0) (sym is.0.2)
      (sound.touched (rule_at c k) is.0.0 ((serial_of c older).maps k) some.0) some.1 in
      inl (here.0, here.1, some_any _ o.answers touches)
  | inr there ↦ inr (touching_changing c sound older is.1 j p there)
]

no_writes : (part : ℕ) (ws : List Write) (store : Content) →
    ((i : ℕ) → AnyOf (λ (w : Write). partition_of part w.key ≡ i) ws → ⊥) → written ws store ≡ store
no_writes part [] store h = refl
no_writes part (w ∷ ws) store h = absurd (h (partition_of part w.key) (inl refl))

pub store_all : (c : Setting) → IsSoundTaking c → (trace : List Entry) → IsSerial c trace → (j : ℕ) (set : ℕ → Bool)
    → ((p : ℕ) → IsChanging c.partitions trace j p → set p ≡ true) → content_of trace set j ≡ (serial_of c trace).maps j
store_all c sound [] is j set all = refl
store_all c sound (Given p bytes ∷ older) is j set all = store_all c sound older is.1 j set (λ q c. all q (inr c))
store_all c sound (Visited k p o ∷ older) is j set all =
    let rest = store_all c sound older is.1 j set (λ q c. all q (inr c)) in
    let maps = (serial_of c older).maps in
    with_at_cases (λ (v : Content). (if (k == j) && set p then written o.writes (content_of older set j)
    else content_of older set j) ≡ v) maps k (written o.writes (maps k)) j
    (λ e. elim (set p) as (λ b. set p ≡ b →
    (if (k == j) && b then written o.writes (content_of older set j) else content_of older set j)
    ≡ written o.writes (maps k)) [
      | true ↦ λ s. subst (λ b. (if b && true then written o.writes (content_of older set j)
          else content_of older set j) ≡ written o.writes (maps k)) (sym (eq-eqb k j (sym e)))
          (ap (written o.writes) rest ∙ ap (λ i. written o.writes (maps i)) e)
      | false ↦ λ s.
          let none_written : (i : ℕ) → WritesIn c.partitions o i → ⊥ = λ i w.
          true≢false (sym (all p (inl (
            sym e,
            refl,
            changes_some c.partitions o i (writes_change c sound (serial_of c older) k p o is.0 i w),
          ))) ∙ s) in
          (elim (k == j) as (λ b. (if b && false then written o.writes (content_of older set j)
          else content_of older set j) ≡ content_of older set j) [ true ↦ refl | false ↦ refl ])
          ∙ (rest ∙ (ap maps e ∙ sym (no_writes c.partitions o.writes (maps k) none_written)))
    ] refl)
    (λ ne. subst (λ b. (if b && set p then written o.writes (content_of older set j) else content_of older set j)
    ≡ maps j) (sym (ne_eqb k j (λ e. ne (sym e)))) rest)

-- where packets wait, and where visits are, is on the chain
pub waits_below : (c : Setting) → 0 < (servers c) → (trace : List Entry) → IsSerial c trace →
    (k p : ℕ) (bytes : (List ℕ)) → (serial_of c trace).place p ≡ Waits k bytes → k < (servers c)
waits_below c some [] is k p bytes = λ w. let e : 0 ≡ k = opening_waits (slice_get c.packets p) k bytes w in omega arith
waits_below c some (Given q b ∷ older) is k p bytes =
    with_at_cases (λ v. v ≡ Waits k bytes →
    k < (servers c)) (serial_of c older).place q Released p (λ e w. cc)
    (λ ne w. waits_below c some older is.1 k p bytes w)
waits_below c some (Visited i q o ∷ older) is k p bytes =
    with_at_cases (λ v. v ≡ Waits k bytes → k < (servers c)) (serial_of c older).place q _ p
    (λ e w. let il : i < (servers c) = waits_below c some older is.1 i q is.0.0 is.0.1 in last i o.packet il w)
    (λ ne w. waits_below c some older is.1 k p bytes w)
  where
    last : (i : ℕ) (v : Option (List ℕ)) → i < (servers c) → place_after (servers c) i v ≡ Waits k bytes →
        k < (servers c)
    last i None il = λ w. cc
    last i (Some b) il = elim (i + 1 == (servers c)) as (λ t. i + 1 == (servers c) ≡ t →
        (placed t i b) ≡ Waits k bytes → k < (servers c)) [
          | true ↦ λ e w. cc
          | false ↦ λ e w. let ne : i + 1 ≢ (servers c) = eqb-false (i + 1) (servers c) e in let same : i + 1 ≡ k =
              cc in omega arith
        ] refl

pub stands_below : (c : Setting) → 0 < (servers c) → (P : Outcome → Type 0) (trace : List Entry) → IsSerial c trace →
    (j p : ℕ) → IsInTrace P trace j p → j < (servers c)
stands_below c some P [] is j p h = absurd h
stands_below c some P (Given q b ∷ older) is j p h =
    elim h [ inl here ↦ absurd here | inr there ↦ stands_below c some P older is.1 j p there ]
stands_below c some P (Visited i q o ∷ older) is j p h = elim h [
  | inl here ↦ subst (λ v. v < (servers c)) here.0 (waits_below c some older is.1 i q is.0.0 is.0.1)
  | inr there ↦ stands_below c some P older is.1 j p there
]
