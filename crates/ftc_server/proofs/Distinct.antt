-- Messages of which no two have one origin.
use Rattle.std.proofs.Common.{◌≡◌, ◌≢◌, ◌∙◌, ◌||◌, not, ℕ, suc, zero, Bool, true, false, List, [], ◌∷◌, Option, Some}
use Rattle.std.proofs.Common.{refl, sym, ap, cond, take}
use Rattle.std.specs.Prelude.{is_some, slice_get}
use Rattle.std.specs.List.{list_all}
use Rattle.std.proofs.lemmas.Bool.{eqb-true, eq-eqb, false≢true, and_parts}
use Rattle.ftc_replica.specs.Held.{Held}
use Rattle.ftc_server.specs.declared.held.HeldMessage.{HeldMessage}
use Rattle.ftc_server.specs.Holding.{found, is_held, is_of, rests, origins_of}
use Rattle.ftc_server.specs.Waiting.{is_idle, is_settled}
use Rattle.ftc_server.proofs.Finding.{and_both}
use Rattle.ftc_server.specs.Tickets.{AreDistinct}
use Rattle.ftc_server.proofs.Keeping.{held_among}

-- the one at a place is held
held_at : (items : List HeldMessage) (place : ℕ) (held : HeldMessage) → slice_get items place ≡ Some held →
    is_held held.message.origin items ≡ true
held_at [] place held there = absurd cc
held_at (first ∷ items) zero held there =
    let same : first ≡ held = cc in
    ap (λ (b : Bool). is_some (cond b (Some first) (found held.message.origin items)))
    (eq-eqb first.message.origin held.message.origin (ap (λ (h : HeldMessage). h.message.origin) same))
held_at (first ∷ items) (suc place) held there =
    elim (is_of held.message.origin first) as (λ t. is_some (cond t (Some first) (found held.message.origin items))
    ≡ true) [
      | true ↦ refl
      | false ↦ held_at items place held there
    ]

differs : (origin : ℕ) (items : List HeldMessage) (place : ℕ) (held : HeldMessage) → is_held origin items ≡ false →
    slice_get items place ≡ Some held → held.message.origin ≢ origin
differs origin items place held none there = λ same. false≢true (sym none ∙ (ap (λ (o : ℕ). is_held o items) (sym same)
    ∙ held_at items place held there))

-- it is found by its origin
pub found_at : (items : List HeldMessage) (place : ℕ) (held : HeldMessage) → AreDistinct (origins_of items) →
    slice_get items place ≡ Some held → found held.message.origin items ≡ Some held
found_at [] place held distinct there = absurd cc
found_at (first ∷ items) zero held distinct there =
    let same : first ≡ held = cc in
    ap (λ (b : Bool). cond b (Some first) (found held.message.origin items))
    (eq-eqb first.message.origin held.message.origin (ap (λ (h : HeldMessage). h.message.origin) same))
    ∙ ap (λ (h : HeldMessage). Some h) same
found_at (first ∷ items) (suc place) held distinct there =
    let other = differs first.message.origin items place held (held_among items first.message.origin ∙ distinct.0)
    there in
    elim (is_of held.message.origin first) as (λ t. is_of held.message.origin first ≡ t →
    cond t (Some first) (found held.message.origin items) ≡ Some held) [
      | true ↦ λ is. absurd (other (sym (eqb-true first.message.origin held.message.origin is)))
      | false ↦ λ _. found_at items place held distinct.1 there
    ] refl

-- one more message is settled, and for the others nothing changed
settled_still : (replicas : List (Option Held)) (old new : List ℕ) (held : HeldMessage) →
    rests held.message.origin new ≡ rests held.message.origin old → is_settled replicas old held ≡ true →
    is_settled replicas new held ≡ true
settled_still replicas old new held same is =
    ap (λ (b : Bool). not b || is_idle replicas held.message.logs) same ∙ is

pub settled_step : (replicas : List (Option Held)) (old new : List ℕ) (items : List HeldMessage) (place : ℕ)
    (held : HeldMessage) → AreDistinct (origins_of items) → slice_get items place ≡ Some held →
    ((other : ℕ) → other ≢ held.message.origin → rests other new ≡ rests other old) →
    is_settled replicas new held ≡ true → list_all (is_settled replicas old) (take place items) ≡ true →
    list_all (is_settled replicas new) (take (suc place) items) ≡ true
settled_step replicas old new [] place held distinct there same is all = absurd cc
settled_step replicas old new (first ∷ items) zero held distinct there same is all =
    let e : first ≡ held = cc in
    and_both (is_settled replicas new first) true (ap (is_settled replicas new) e ∙ is) refl
settled_step replicas old new (first ∷ items) (suc place) held distinct there same is all =
    let other = differs first.message.origin items place held (held_among items first.message.origin ∙ distinct.0)
    there in
    let each = and_parts (is_settled replicas old first) (list_all (is_settled replicas old) (take place items)) all in
    and_both (is_settled replicas new first) (list_all (is_settled replicas new) (take (suc place) items))
    (settled_still replicas old new first (same first.message.origin (λ e. other (sym e))) each.0)
    (settled_step replicas old new items place held distinct.1 there same is each.1)
