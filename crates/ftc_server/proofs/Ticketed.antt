-- Held messages beside the origins of their tickets.
use Rattle.std.proofs.Common.{◌≡◌, ◌∙◌, ◌&&◌, ℕ, Bool, true, false, List, [], ◌∷◌, ◌++◌, Some, None, refl, sym, ap}
use Rattle.std.proofs.Common.{below_more, cond, get_or, set, suc, zero, length, not, ◌<◌, ◌≤◌, ◌+◌, arith}
use Rattle.std.specs.Prelude.{option_map, slice_get, slice_index}
use Rattle.std.specs.List.{find, filter, position, remove}
use Rattle.std.proofs.lemmas.List.{get_or_default}
use Rattle.ftc_server.specs.declared.held.HeldMessage.{HeldMessage}
use Rattle.ftc_server.specs.Holding.{is_awake, is_of, origins_of, rests}
use Rattle.ftc_server.specs.Tickets.{is_same, places_of}
use Rattle.ftc_server.proofs.Ascending.{position_here, position_behind}
use Rattle.ftc_server.proofs.Finding.{first_at, found_first}
use Rattle.std.proofs.lemmas.Bool.{eqb-true}

abbrev Held : Type 0
Held = HeldMessage

pub same_position : (origin : ℕ) (items : List Held)
    → position (is_same origin) (origins_of items) ≡ position (is_of origin) items
same_position origin [] = refl
same_position origin (x ∷ items) =
    elim (is_of origin x) as (λ t. is_of origin x ≡ t
    → position (is_same origin) (origins_of (x ∷ items)) ≡ position (is_of origin) (x ∷ items)) [
      | true ↦ λ is. position_here (is_same origin) x.message.origin (origins_of items) is
          ∙ sym (position_here (is_of origin) x items is)
      | false ↦ λ isnt. position_behind (is_same origin) x.message.origin (origins_of items) isnt
          ∙ ap (option_map (λ (p : ℕ). p + 1)) (same_position origin items)
          ∙ sym (position_behind (is_of origin) x items isnt)
    ] refl

pub origins_more : (items : List Held) (held : Held)
    → origins_of (items ++ held ∷ []) ≡ origins_of items ++ held.message.origin ∷ []
origins_more [] held = refl
origins_more (x ∷ items) held = ap (λ (rest : List ℕ). x.message.origin ∷ rest) (origins_more items held)

pub origins_changed : (items : List Held) (place : ℕ) (held changed : Held) → place < length items
    → held ≡ get_or items place held → changed.message.origin ≡ held.message.origin
    → origins_of (set items place changed) ≡ origins_of items
origins_changed [] place held changed within is same = absurd (omega arith)
origins_changed (x ∷ items) zero held changed within is same =
    ap (λ (origin : ℕ). origin ∷ origins_of items) (same ∙ ap (λ (h : Held). h.message.origin) is)
origins_changed (x ∷ items) (suc place) held changed within is same =
    ap (λ (rest : List ℕ). x.message.origin ∷ rest) (origins_changed items place held changed (omega arith) is same)

pub origins_left : (items : List Held) (place : ℕ) → place < length items
    → origins_of (remove items place) ≡ remove (origins_of items) place
origins_left [] place within = absurd (omega arith)
origins_left (x ∷ items) zero within = refl
origins_left (x ∷ items) (suc place) within =
    ap (λ (rest : List ℕ). x.message.origin ∷ rest) (origins_left items place (omega arith))

pub count_held : (items : List Held) → length (origins_of items) ≡ length items
count_held [] = refl
count_held (x ∷ items) = let rest = count_held items in omega arith

pub origin_of_at : (items : List Held) (place : ℕ) (held : Held)
    → get_or (origins_of items) place held.message.origin ≡ (get_or items place held).message.origin
origin_of_at [] place held = refl
origin_of_at (x ∷ items) zero held = refl
origin_of_at (x ∷ items) (suc place) held = origin_of_at items place held

-- ---- those that pass, by their places

pub places_same : (passes : ℕ → Bool) (place : ℕ) (items : List Held)
    → places_of passes place (origins_of items) ≡ places_of (λ (held : Held). passes held.message.origin) place items
places_same passes place [] = refl
places_same passes place (x ∷ items) =
    ap (λ (places : List ℕ). cond (passes x.message.origin) (place ∷ places) places)
    (places_same passes (place + 1) items)

pub count_places : (passes : Held → Bool) (place : ℕ) (items : List Held)
    → length (places_of passes place items) ≡ length (filter passes items)
count_places passes place [] = refl
count_places passes place (x ∷ items) =
    let rest = count_places passes (place + 1) items in
    elim (passes x) as (λ t. length (cond t (place ∷ places_of passes (place + 1) items)
    (places_of passes (place + 1) items)) ≡ length (cond t (x ∷ filter passes items) (filter passes items))) [
      | true ↦ omega arith
      | false ↦ rest
    ]

-- what stands at the place of one that passes, so many behind the start
pub record StandsThere (items passed : List Held) (start nth place : ℕ) (d : Held) : Type 0 where
  pub behind : ℕ
  pub at : place ≡ start + behind
  pub within : behind < length items
  pub same : get_or passed nth d ≡ get_or items behind d

there_later : (x : Held) (items passed : List Held) (start nth place : ℕ) (d : Held)
    → StandsThere items passed (start + 1) nth place d → StandsThere (x ∷ items) passed start nth place d
there_later x items passed start nth place d there = record {
  behind = suc there.behind;
  at = let at = there.at in omega arith;
  within = let within = there.within in omega arith;
  same = there.same;
}

-- of the first, and of the others
there_either : (x : Held) (items passed : List Held) (places : List ℕ) (start nth place : ℕ) (d : Held)
    → ((n : ℕ) → slice_get places n ≡ Some place → StandsThere items passed (start + 1) n place d)
    → slice_get (start ∷ places) nth ≡ Some place → StandsThere (x ∷ items) (x ∷ passed) start nth place d
there_either x items passed places start zero place d later there = record {
  behind = 0;
  at = let e : start ≡ place = cc in omega arith;
  within = omega arith;
  same = refl;
}
there_either x items passed places start (suc nth) place d later there =
    let rest = later nth there in
    record {
      behind = suc rest.behind;
      at = let at = rest.at in omega arith;
      within = let within = rest.within in omega arith;
      same = rest.same;
    }

pub passes_there : (passes : Held → Bool) (start : ℕ) (items : List Held) (nth place : ℕ) (d : Held)
    → slice_get (places_of passes start items) nth ≡ Some place
    → StandsThere items (filter passes items) start nth place d
passes_there passes start [] nth place d there = absurd cc
passes_there passes start (x ∷ items) nth place d there =
    elim (passes x) as (λ t. slice_get (cond t (start ∷ places_of passes (start + 1) items)
    (places_of passes (start + 1) items)) nth ≡ Some place
    → StandsThere (x ∷ items) (cond t (x ∷ filter passes items) (filter passes items)) start nth place d) [
      | true ↦ λ here. there_either x items (filter passes items) (places_of passes (start + 1) items) start nth place d
          (λ n later. passes_there passes (start + 1) items n place d later) here
      | false ↦ λ later. there_later x items (filter passes items) start nth place d
          (passes_there passes (start + 1) items nth place d later)
    ] there

-- the first of those that pass that has something
pub first_that : (passes has : Held → Bool) (items : List Held)
    → find (λ held. passes held && has held) items ≡ find has (filter passes items)
first_that passes has [] = refl
first_that passes has (x ∷ items) =
    let rest = first_that passes has items in
    elim (passes x) as (λ t. cond (t && has x) (Some x) (find (λ held. passes held && has held) items)
    ≡ find has (cond t (x ∷ filter passes items) (filter passes items))) [
      | true ↦ ap (cond (has x) (Some x)) rest
      | false ↦ rest
    ]

pub none_that : (has : Held → Bool) (items : List Held)
    → ((k : ℕ) (d : Held) → k < length items → has (get_or items k d) ≡ false) → find has items ≡ None
none_that has [] none = refl
none_that has (x ∷ items) none =
    ap (λ (t : Bool). cond t (Some x) (find has items)) (none 0 x (omega arith))
    ∙ none_that has items (λ k d within. none (suc k) d (omega arith))

-- ---- the first that doesn't rest and has work

-- the places of those that don't rest, by the origins of their tickets
abbrev pub awake_from : List ℕ → List ℕ → List ℕ
awake_from resting ticketed = places_of (λ origin. not (rests origin resting)) 0 ticketed

awake_same : (items : List Held) (resting ticketed : List ℕ) → ticketed ≡ origins_of items
    → awake_from resting ticketed ≡ places_of (is_awake resting) 0 items
awake_same items resting ticketed origins =
    ap (awake_from resting) origins ∙ places_same (λ origin. not (rests origin resting)) 0 items

pub awake_count : (items : List Held) (resting ticketed : List ℕ) → ticketed ≡ origins_of items
    → length (awake_from resting ticketed) ≡ length (filter (is_awake resting) items)
awake_count items resting ticketed origins =
    ap length (awake_same items resting ticketed origins) ∙ count_places (is_awake resting) 0 items

pub stands : (items : List Held) (resting ticketed : List ℕ) (nth place : ℕ) (d : Held) → ticketed ≡ origins_of items
    → slice_get (awake_from resting ticketed) nth ≡ Some place
    → StandsThere items (filter (is_awake resting) items) 0 nth place d
stands items resting ticketed nth place d origins there =
    passes_there (is_awake resting) 0 items nth place d
    (sym (ap (λ (places : List ℕ). slice_get places nth) (awake_same items resting ticketed origins)) ∙ there)

-- the message at the place is that one of those that don't rest
pub message_is : (items : List Held) (resting ticketed : List ℕ) (nth place : ℕ) (held d : Held)
    → ticketed ≡ origins_of items → slice_get (awake_from resting ticketed) nth ≡ Some place
    → held ≡ get_or items place held → get_or (filter (is_awake resting) items) nth d ≡ held
message_is items resting ticketed nth place held d origins there is =
    let at = stands items resting ticketed nth place d origins there in
    let same : at.behind ≡ place = let e = at.at in omega arith in
    at.same ∙ get_or_default items at.behind d held at.within ∙ ap (λ (p : ℕ). get_or items p held) same ∙ sym is

pub first_has : (items : List Held) (resting ticketed : List ℕ) (has : Held → Bool) (nth place : ℕ) (held : Held)
    → ticketed ≡ origins_of items → nth < length (awake_from resting ticketed)
    → slice_get (awake_from resting ticketed) nth ≡ Some place → held ≡ get_or items place held
    → ((k : ℕ) → k < nth → (d : Held) → has (get_or (filter (is_awake resting) items) k d) ≡ false)
    → has held ≡ true → Some held ≡ find (λ other. is_awake resting other && has other) items
first_has items resting ticketed has nth place held origins within there is none works =
    let awake = filter (is_awake resting) items in
    let here = message_is items resting ticketed nth place held held origins there is in
    let size = awake_count items resting ticketed origins in
    ap (λ (h : Held). Some h) (sym here)
    ∙ sym (found_first has awake nth held (record {
      within = omega (arith, size);
      passes = ap has here ∙ works;
      before = λ k below. none k below held;
    }))
    ∙ sym (first_that (is_awake resting) has items)

pub next_has_none : (items : List Held) (resting ticketed : List ℕ) (has : Held → Bool) (nth place : ℕ) (held : Held)
    → ticketed ≡ origins_of items → slice_get (awake_from resting ticketed) nth ≡ Some place
    → held ≡ get_or items place held
    → ((k : ℕ) → k < nth → (d : Held) → has (get_or (filter (is_awake resting) items) k d) ≡ false)
    → has held ≡ false
    → (k : ℕ) → k < nth + 1 → (d : Held) → has (get_or (filter (is_awake resting) items) k d) ≡ false
next_has_none items resting ticketed has nth place held origins there is none isnt =
    below_more (λ k. (d : Held) → has (get_or (filter (is_awake resting) items) k d) ≡ false) nth none
    (λ d. ap has (message_is items resting ticketed nth place held d origins there is) ∙ isnt)

pub all_have_none : (items : List Held) (resting ticketed : List ℕ) (has : Held → Bool) (nth : ℕ)
    → ticketed ≡ origins_of items → length (awake_from resting ticketed) ≤ nth
    → ((k : ℕ) → k < nth → (d : Held) → has (get_or (filter (is_awake resting) items) k d) ≡ false)
    → None ≡ find (λ other. is_awake resting other && has other) items
all_have_none items resting ticketed has nth origins past none =
    let size = awake_count items resting ticketed origins in
    sym (first_that (is_awake resting) has items
    ∙ none_that has (filter (is_awake resting) items) (λ k d within. none k (omega (arith, size)) d))

-- without a message to take in the place of none
within_any : (items : List Held) (passes : Held → Bool) (start nth place : ℕ)
    → slice_get (places_of passes start items) nth ≡ Some place → place < start + length items
within_any [] passes start nth place there = absurd cc
within_any (x ∷ items) passes start nth place there =
    let at = passes_there passes start (x ∷ items) nth place x there in
    let e = at.at in
    let within = at.within in
    omega arith

pub awake_within : (items : List Held) (resting ticketed : List ℕ) (nth place : ℕ) → ticketed ≡ origins_of items
    → slice_get (awake_from resting ticketed) nth ≡ Some place → place < length items
awake_within items resting ticketed nth place origins there =
    let within = within_any items (is_awake resting) 0 nth place
    (sym (ap (λ (places : List ℕ). slice_get places nth) (awake_same items resting ticketed origins)) ∙ there) in
    omega arith

-- ---- the message of an origin

-- the place is that of the ticket
pub ticketed_at : (items : List Held) (ticketed : List ℕ) (place origin : ℕ) → ticketed ≡ origins_of items
    → position (is_of origin) items ≡ Some place → (place < length ticketed) × (slice_index ticketed place ≡ origin)
ticketed_at items ticketed place origin origins there =
    let first = first_at (is_same origin) ticketed place 0
    (ap (position (is_same origin)) origins ∙ same_position origin items ∙ there) in
    (first.within, eqb-true (slice_index ticketed place) origin first.passes)

pub held_within : (items : List Held) (origin place : ℕ) → position (is_of origin) items ≡ Some place
    → place < length items
held_within items origin place there =
    let at = ticketed_at items (origins_of items) place origin refl there in
    omega (arith, count_held items, at.0)
