-- Packets that undone visits dropped are lost, one visit after another.
use Rattle.std.proofs.Common.{◌≡◌, ℕ, ◌+◌, ◌<◌, ◌==◌, ◌&&◌, ◌||◌, if◌then◌else◌, Bool, true, false, List, [], ◌∷◌, ◌++◌}
use Rattle.std.proofs.Common.{take, length, get_or, Option, Some, None, inl, inr, refl, sym, ◌∙◌, ap, subst, slice_set}
use Rattle.std.proofs.Common.{get_or-set_same, get_or-set_other, eqb-true, eq-eqb}
use Rattle.std.specs.Option.{option_map_or}
use Rattle.std.proofs.lemmas.Bool.{true≢false, cases_eq, cases_lt, ne_eqb}
use Rattle.std.proofs.lemmas.List.{take_more, get_or_past}
use Rattle.ftc_base.proofs.Bools.{or_without}
use Rattle.ftc_journal.specs.declared.event.VisitName.{VisitName}
use Rattle.ftc_serial.specs.Trace.{names}
use Rattle.ftc_protocol.specs.declared.fate.Fate.{Fate}
use Rattle.ftc_protocol.specs.declared.fate.Fate.TheVariants.{Filtered, Inside, Lost, Released}
use Rattle.ftc_machine.specs.Represents.{fate_in}
use Rattle.ftc_machine.specs.LostPackets.{was_filtered}
use Rattle.ftc_protocol.specs.Next.{is_undone_drop}
use Rattle.ftc_machine.specs.Slots.{slot_at, has_such}
use Rattle.ftc_protocol.proofs.UndoneList.{any_name}

drop_more : (undone : List VisitName) (name : VisitName) (packet : ℕ) (fate : Fate)
    → is_undone_drop (undone ++ name ∷ []) packet fate
    ≡ (is_undone_drop undone packet fate || (was_filtered name.server fate && (name.packet == packet)))
drop_more undone name packet (Filtered by) =
    any_name by packet undone (name ∷ []) ∙ ap (λ b. names undone by packet
    || b) (or_without ((name.server == by) && (name.packet == packet)) false refl)
drop_more undone name packet (Lost event) = refl
drop_more undone name packet Released = refl
drop_more undone name packet Inside = refl

seen : (server : ℕ) (slot : Option Fate) →
    has_such (was_filtered server) slot ≡ was_filtered server (option_map_or (λ (fate : Fate). fate) slot Inside)
seen server None = refl
seen server (Some fate) = refl

-- what was dropped there is lost already, or stays
stays_by : (u w q : Bool) (event : ℕ) (fate now : Fate) → now ≡ (if u then Lost event else fate) →
    (u ≡ false → q ≡ true → w ≡ false) → now ≡ (if u || (w && q) then Lost event else fate)
stays_by true w q event fate now is none_there = is
stays_by false true true event fate now is none_there = absurd (true≢false (none_there refl refl))
stays_by false true false event fate now is none_there = is
stays_by false false q event fate now is none_there = is

lost_by : (u w q : Bool) (event : ℕ) (fate : Fate) → q ≡ true → (u ≡ false → w ≡ true) →
    Lost event ≡ (if u || (w && q) then Lost event else fate)
lost_by true w q event fate here there = refl
lost_by false true true event fate here there = refl
lost_by false true false event fate here there = absurd (true≢false (sym here))
lost_by false false q event fate here there = absurd (true≢false (sym (there refl)))

module _ (undone : List VisitName) (i : ℕ) (name : VisitName) (within : i < length undone) (is : get_or undone i name
    ≡ name) (event : ℕ) (old now : List (Option Fate))
    (so_far : (packet : ℕ) → fate_in now packet ≡ (if is_undone_drop (take i undone) packet (fate_in old packet) then
    Lost event else fate_in old packet)) where
  more : (packet : ℕ) → is_undone_drop (take (i + 1) undone) packet (fate_in old packet)
      ≡ (is_undone_drop (take i undone) packet (fate_in old packet)
      || (was_filtered name.server (fate_in old packet) && (name.packet == packet)))
  more packet =
      ap (λ (list : List VisitName). is_undone_drop list packet (fate_in old packet))
      (take_more undone i name within ∙ ap (λ (last : VisitName). take i undone ++ last ∷ []) is)
      ∙ drop_more (take i undone) name packet (fate_in old packet)

  -- what the test says of the packet of that visit
  tested : (b : Bool) → has_such (was_filtered name.server) (slot_at now name.packet) ≡ b → (packet : ℕ) →
      (name.packet == packet) ≡ true → is_undone_drop (take i undone) packet (fate_in old packet) ≡ false
      → was_filtered name.server (fate_in old packet) ≡ b
  tested b says packet here before =
      let fate : fate_in now packet ≡ fate_in old packet =
      so_far packet ∙ ap (λ u. if u then Lost event else fate_in old packet) before in
      let same : name.packet ≡ packet = eqb-true name.packet packet here in
      ap (was_filtered name.server) (sym fate) ∙
      (sym (seen name.server (slot_at now packet)) ∙
      (ap (λ p. has_such (was_filtered name.server) (slot_at now p)) (sym same) ∙ says))

  pub filter_keeps : has_such (was_filtered name.server) (slot_at now name.packet) ≡ false → (packet : ℕ)
      → fate_in now packet ≡ (if is_undone_drop (take (i + 1) undone) packet (fate_in old packet) then Lost event
      else fate_in old packet)
  filter_keeps stays packet =
      stays_by (is_undone_drop (take i undone) packet (fate_in old packet))
      (was_filtered name.server (fate_in old packet)) (name.packet == packet) event (fate_in old packet)
      (fate_in now packet) (so_far packet)
      (λ before here. tested false stays packet here before)
      ∙ ap (λ u. if u then Lost event else fate_in old packet) (sym (more packet))

  pub filter_drops : has_such (was_filtered name.server) (slot_at now name.packet) ≡ true →
      (next : List (Option Fate)) → next ≡ slice_set now name.packet (Some (Lost event)) → (packet : ℕ)
      → fate_in next packet ≡ (if is_undone_drop (take (i + 1) undone) packet (fate_in old packet) then Lost event
      else fate_in old packet)
  filter_drops goes next next_is packet = elim (cases_eq name.packet packet) [
    | inl same ↦
        let at : (name.packet == packet) ≡ true = eq-eqb name.packet packet same in
        ap (λ (slots : List (Option Fate)). fate_in slots packet) next_is
        ∙ (subst (λ p. fate_in (slice_set now name.packet (Some (Lost event))) p ≡ Lost event) same
        (ap (λ (slot : Option Fate). option_map_or (λ (fate : Fate). fate) slot Inside)
        (get_or-set_same now name.packet (Some (Lost event)) None room))
        ∙ (lost_by (is_undone_drop (take i undone) packet (fate_in old packet))
        (was_filtered name.server (fate_in old packet)) (name.packet == packet) event (fate_in old packet) at
        (λ before. tested true goes packet at before)
        ∙ ap (λ u. if u then Lost event else fate_in old packet) (sym (more packet))))
    | inr differs ↦
        let apart : (name.packet == packet) ≡ false = ne_eqb name.packet packet differs in
        ap (λ (slots : List (Option Fate)). fate_in slots packet) next_is
        ∙ (ap (λ (slot : Option Fate). option_map_or (λ (fate : Fate). fate) slot Inside)
        (get_or-set_other now name.packet packet (Some (Lost event)) None (λ e. differs (sym e)))
        ∙ (stays_by (is_undone_drop (take i undone) packet (fate_in old packet))
        (was_filtered name.server (fate_in old packet)) (name.packet == packet) event (fate_in old packet)
        (fate_in now packet) (so_far packet)
        (λ _ here. absurd (true≢false (sym here ∙ apart)))
        ∙ ap (λ u. if u then Lost event else fate_in old packet) (sym (more packet))))
  ]
    where
      room : name.packet < length now
      room = elim (cases_lt name.packet (length now)) [
        | inl less ↦ less
        | inr past ↦ absurd (true≢false
            (sym goes ∙ ap (has_such (was_filtered name.server)) (get_or_past now name.packet None past)))
      ]
