-- A place after another is looked at, and the message that it has goes away where a test is true.
use Rattle.std.proofs.Common.{◌≡◌, ◌≢◌, ℕ, ◌+◌, ◌<◌, ◌≤◌, ◌&&◌, if◌then◌else◌, Bool, true, false, List, length, Option}
use Rattle.std.proofs.Common.{Some, None, inl, inr, refl, sym, ◌∙◌, ap, subst, slice_set, is_some, get_or-set_same}
use Rattle.std.proofs.Common.{get_or-set_other, arith}
use Rattle.std.proofs.lemmas.Bool.{cases_eq}
use Rattle.std.proofs.Math.ListN.{length-set}
use Rattle.ftc_protocol.specs.declared.fate.Fate.{Fate}
use Rattle.ftc_protocol.specs.declared.fate.Fate.TheVariants.{Lost}
use Rattle.ftc_machine.specs.declared.state.message.Message.{Message}
use Rattle.ftc_machine.specs.LostPackets.{drop_kept, loses_kept, fate_lost}
use Rattle.ftc_machine.specs.Slots.{slot_at, has_such}

-- a place among those below the next
below_next : (P : ℕ → Type 0) (place : ℕ) → ((other : ℕ) → other < place → P other) → P place → (other : ℕ) →
    other < place + 1 → P other
below_next P place each here other less = elim (cases_eq other place) [
  | inl same ↦ subst P (sym same) here
  | inr differs ↦ each other (omega arith)
]

-- the messages and the fates, where the messages in the places before this one were looked at
pub record AreSwept (test : Message →
    Bool) (event place : ℕ) (old new : List (Option Message)) (before after : List (Option Fate)) : Type 0 where
  pub size : length new ≡ length old
  pub sizes : length after ≡ length before
  pub gone : (origin : ℕ) → origin < place → slot_at new origin ≡ drop_kept test (slot_at old origin)
  pub left : (origin : ℕ) → place ≤ origin → slot_at new origin ≡ slot_at old origin
  pub lost : (packet : ℕ) → packet < place →
      slot_at after packet ≡ fate_lost (loses_kept test (slot_at old packet)) event (slot_at before packet)
  pub same : (packet : ℕ) → place ≤ packet → slot_at after packet ≡ slot_at before packet

-- what has no message that the test is true of
kept_by : (test : Message → Bool) (slot : Option Message) → has_such test slot ≡ false → drop_kept test slot ≡ slot
kept_by test None stays = refl
kept_by test (Some message) stays = ap (λ b. if b then None else Some message) stays

none_lost : (test : Message → Bool) (slot : Option Message) → has_such test slot ≡ false → loses_kept test slot ≡ false
none_lost test None stays = refl
none_lost test (Some message) stays = ap (λ b. b && is_some message.packet) stays

dropped_by : (test : Message → Bool) (slot : Option Message) → has_such test slot ≡ true → drop_kept test slot ≡ None
dropped_by test None goes = refl
dropped_by test (Some message) goes = ap (λ b. if b then None else Some message) goes

some_lost : (test : Message → Bool) (slot : Option Message) → has_such test slot ≡ true →
    loses_kept test slot ≡ has_such (λ (message : Message). is_some message.packet) slot
some_lost test None goes = refl
some_lost test (Some message) goes = ap (λ b. b && is_some message.packet) goes

module _ (test : Message → Bool) (event : ℕ) (old : List (Option Message)) (before : List (Option Fate)) where
  -- a place that keeps what it has
  pub sweep_keeps : (place : ℕ) (new : List (Option Message)) (after : List (Option Fate)) →
      AreSwept test event place old new before after
      → has_such test (slot_at new place) ≡ false → AreSwept test event (place + 1) old new before after
  sweep_keeps place new after swept stays =
      let here : slot_at new place ≡ slot_at old place = swept.left place (omega arith) in
      let kept : has_such test (slot_at old place) ≡ false = ap (has_such test) (sym here) ∙ stays in
      record {
        size = swept.size;
        sizes = swept.sizes;
        gone = below_next (λ origin. slot_at new origin ≡ drop_kept test (slot_at old origin)) place swept.gone
            (here ∙ sym (kept_by test (slot_at old place) kept));
        left = λ origin more. swept.left origin (omega arith);
        lost = below_next (λ packet. slot_at after packet
            ≡ fate_lost (loses_kept test (slot_at old packet)) event (slot_at before packet)) place swept.lost
            (swept.same place (omega arith) ∙ ap (λ b. fate_lost b event (slot_at before place))
            (sym (none_lost test (slot_at old place) kept)));
        same = λ packet more. swept.same packet (omega arith);
      }

  -- a place whose message goes away
  pub sweep_drops : (place : ℕ) (new next : List (Option Message)) (after then_after : List (Option Fate)) →
      AreSwept test event place old new before after
      → has_such test (slot_at new place) ≡ true → place < length old → place < length before →
      next ≡ slice_set new place None
      → then_after ≡ (if has_such (λ (message : Message). is_some message.packet) (slot_at new place) then
      slice_set after place (Some (Lost event)) else after)
      → AreSwept test event (place + 1) old next before then_after
  sweep_drops place new next after then_after swept goes within wide next_is after_is =
      let size = swept.size in
      let sizes = swept.sizes in
      let here : slot_at new place ≡ slot_at old place = swept.left place (omega arith) in
      let dropped : has_such test (slot_at old place) ≡ true = ap (has_such test) (sym here) ∙ goes in
      let apart : (origin : ℕ) → origin ≢ place → slot_at next origin ≡ slot_at new origin =
      λ origin differs. ap (λ (slots : List
      (Option Message)). slot_at slots origin) next_is ∙ get_or-set_other new place origin None None differs in
      record {
        size = ap (λ (slots : List (Option Message)). length slots) next_is ∙ (length-set new place None ∙ swept.size);
        sizes = ap (λ (slots : List (Option Fate)). length slots) after_is ∙
            (long (has_such (λ (message : Message). is_some message.packet) (slot_at new place)) ∙ swept.sizes);
        gone = below_next (λ origin. slot_at next origin ≡ drop_kept test (slot_at old origin)) place
            (λ origin less. apart origin (λ e. omega arith) ∙ swept.gone origin less)
            (ap (λ (slots : List (Option Message)). slot_at slots place) next_is ∙
            (get_or-set_same new place None None (omega arith) ∙ sym
            (dropped_by test (slot_at old place) dropped)));
        left = λ origin more. apart origin (λ e. omega arith) ∙ swept.left origin (omega arith);
        lost = below_next (λ packet. slot_at then_after packet
            ≡ fate_lost (loses_kept test (slot_at old packet)) event (slot_at before packet)) place
            (λ packet less. elsewhere packet (λ e. omega arith) ∙ swept.lost packet less)
            (ap (λ (slots : List (Option Fate)). slot_at slots place) after_is
            ∙ (own (has_such (λ (message : Message). is_some message.packet) (slot_at new place)) (omega arith)
            (swept.same place (omega arith))
            ∙ ap (λ b. fate_lost b event (slot_at before place))
            (ap (has_such (λ (message : Message). is_some message.packet)) here ∙ sym
            (some_lost test (slot_at old place) dropped))));
        same = λ packet more. elsewhere packet (λ e. omega arith) ∙ swept.same packet (omega arith);
      }
    where
      long : (b : Bool) → length (if b then slice_set after place (Some (Lost event)) else after) ≡ length after
      long true = length-set after place (Some (Lost event))
      long false = refl

      own : (b : Bool) → place < length after → slot_at after place ≡ slot_at before place →
          slot_at (if b then slice_set after place (Some (Lost event)) else after) place
          ≡ fate_lost b event (slot_at before place)
      own true room stays = get_or-set_same after place (Some (Lost event)) None room
      own false room stays = stays

      elsewhere : (packet : ℕ) → packet ≢ place → slot_at then_after packet ≡ slot_at after packet
      elsewhere packet differs =
          ap (λ (slots : List (Option Fate)). slot_at slots packet) after_is ∙ other
          (has_such (λ (message : Message). is_some message.packet) (slot_at new place))
        where
          other : (b : Bool) → slot_at (if b then slice_set after place (Some (Lost event)) else after) packet
              ≡ slot_at after packet
          other true = get_or-set_other after place packet (Some (Lost event)) None differs
          other false = refl
