-- Held messages of which no two have one origin: each is found by its origin.
use Rattle.std.proofs.Common.{◌≡◌, ◌∙◌, ◌&&◌, ◌||◌, not, ℕ, Bool, true, false, List, [], ◌∷◌, Option, Some, refl, sym}
use Rattle.std.proofs.Common.{ap, cond}
use Rattle.std.specs.Prelude.{find, is_some}
use Rattle.std.specs.List.{list_all}
use Rattle.std.proofs.lemmas.Bool.{eqb-true, eq-eqb, false≢true, and_parts}
use Rattle.ftc_replica.specs.Held.{Held}
use Rattle.ftc_replica.specs.declared.waits.Wait.{Wait}
use Rattle.ftc_server.specs.declared.held.HeldMessage.{HeldMessage}
use Rattle.ftc_server.specs.Holding.{found, is_held, is_of, are_rising, rests, origins_of}
use Rattle.ftc_server.specs.Work.{has_work}
use Rattle.ftc_server.specs.Waiting.{AreWatched, is_unreached}
use Rattle.ftc_server.proofs.Finding.{and_both, passes_found}
use Rattle.ftc_server.proofs.Lacking.{put_off_idles}
use Rattle.ftc_server.specs.Tickets.{AreDistinct}
use Rattle.ftc_server.proofs.Keeping.{held_among}

pub record IsHeldIn (items : List HeldMessage) (held : HeldMessage) : Type 0 where
  pub there : found held.message.origin items ≡ Some held

first_there : (first : HeldMessage) (items : List HeldMessage) → IsHeldIn (first ∷ items) first
first_there first items = record {
  there = ap (λ (b : Bool). cond b (Some first) (found first.message.origin items))
      (eq-eqb first.message.origin first.message.origin refl);
}

later_there : (first : HeldMessage) (items : List HeldMessage) (held : HeldMessage) →
    is_held first.message.origin items ≡ false → IsHeldIn items held → IsHeldIn (first ∷ items) held
later_there first items held none is = record {
  there = elim (is_of held.message.origin first) as (λ t. is_of held.message.origin first ≡ t →
      cond t (Some first) (found held.message.origin items) ≡ Some held) [
        | true ↦ λ same. absurd (false≢true (sym none
            ∙ (ap (λ (o : ℕ). is_held o items) (eqb-true first.message.origin held.message.origin same)
            ∙ ap (λ (h : Option HeldMessage). is_some h) is.there)))
        | false ↦ λ _. is.there
      ] refl;
}

pub each_held : (test : HeldMessage → Bool) (items : List HeldMessage) → AreDistinct (origins_of items) →
    ((held : HeldMessage) → IsHeldIn items held → test held ≡ true) → list_all test items ≡ true
each_held test [] distinct each = refl
each_held test (first ∷ items) distinct each =
    and_both (test first) (list_all test items) (each first (first_there first items))
    (each_held test items distinct.1 (λ held is. each held (later_there first items held
    (held_among items first.message.origin ∙ distinct.0) is)))

-- ---- those that rest have no work, so that the first with work is the first that doesn't rest and has work

rested : (rests' work : Bool) → not rests' || not work ≡ true → not rests' && work ≡ work
rested true true is = absurd cc
rested true false is = refl
rested false work is = refl

same_found : (first second guard : HeldMessage → Bool) (items : List HeldMessage) →
    ((held : HeldMessage) → guard held ≡ true → first held ≡ second held) → list_all guard items ≡ true →
    find first items ≡ find second items
same_found first second guard [] same all = refl
same_found first second guard (held ∷ items) same all =
    let parts = and_parts (guard held) (list_all guard items) all in
    ap (λ (b : Bool). cond b (Some held) (find first items)) (same held parts.0)
    ∙ ap (λ (rest : Option HeldMessage). cond (second held) (Some held) rest)
    (same_found first second guard items same parts.1)

or_not : (rests' work : Bool) → (rests' ≡ true → work ≡ false) → not rests' || not work ≡ true
or_not true work idle = ap not (idle refl)
or_not false work idle = refl

pub awake_first : (replicas : List (Option Held)) (items : List HeldMessage) (resting : List ℕ) (waiting : List Wait) →
    AreDistinct (origins_of items) → list_all are_rising items ≡ true → AreWatched replicas items resting waiting →
    list_all (is_unreached replicas) waiting ≡ true →
    find (λ (held : HeldMessage). not (rests held.message.origin resting) && has_work replicas held) items
    ≡ find (has_work replicas) items
awake_first replicas items resting waiting distinct rising stands unreached =
    let guard : HeldMessage → Bool = λ (held : HeldMessage).
    not (rests held.message.origin resting) || not (has_work replicas held) in
    same_found (λ (held : HeldMessage). not (rests held.message.origin resting) && has_work replicas held)
    (has_work replicas) guard items
    (λ held. rested (rests held.message.origin resting) (has_work replicas held))
    (each_held guard items distinct (λ held is.
    or_not (rests held.message.origin resting) (has_work replicas held) (λ it_rests.
    put_off_idles replicas items waiting held.message.origin held is.there refl
    (passes_found are_rising (is_of held.message.origin) items held rising is.there) stands.named unreached
    (stands.rest held.message.origin held is.there it_rests))))
