-- The visits of a trace in the order in which they were made.
use Rattle.std.proofs.Common.{◌≡◌, ℕ, ◌<◌, true, false, not, cond, List, [], ◌∷◌, ◌++◌, map, filter, inl, inr, refl}
use Rattle.std.proofs.Common.{sym, ap, subst, ◌∙◌, append-nil}
use Rattle.std.specs.List.{AllByRecursion}
use Rattle.ftc_base.proofs.EachOf.{all_push, all-weaker}
use Rattle.ftc_serial.specs.Words.{AnyOf, EachLater}
use Rattle.ftc_serial.specs.Serial.{Entry, Visited, Given}
use Rattle.ftc_serial.specs.Removal.{left_of}
use Rattle.ftc_journal.specs.declared.event.Event.{Event}
use Rattle.ftc_journal.specs.declared.event.Event.TheVariants.{Apply, Carry, Crash, Enter, Lose, Pass, Propagate, Pull}
use Rattle.ftc_journal.specs.declared.event.Event.TheVariants.{Recover, Release, Take, Visit}
use Rattle.ftc_journal.specs.declared.event.VisitName.{VisitName}
use Rattle.ftc_serial.proofs.AnyOf.{any_front, any_last, any_unmap, each_push}
use Rattle.ftc_protocol.specs.Setting.{Setting}
use Rattle.ftc_protocol.specs.State.{ChainState}
use Rattle.ftc_protocol.specs.Visits.{Visits}
use Rattle.ftc_protocol.specs.Next.{next}
use Rattle.ftc_protocol.specs.Recovery.{visits_in}
use Rattle.ftc_protocol.specs.Trace.{IsSomeVisit}
use Rattle.ftc_protocol.proofs.EarlierVisits.{visited_earlier}
use Rattle.ftc_protocol.proofs.Places.{IsSerial}
use Rattle.ftc_visits.specs.declared.visit.MadeVisit.{MadeVisit}
use Rattle.ftc_visits.specs.Made.{name_of, keeps_visits}
use Rattle.ftc_visits.proofs.Lists.{all_unmap, filter_joined}
use Rattle.ftc_visits.proofs.Passing.{Rises}

abbrev pub IsNamed : ℕ → ℕ → VisitName → Type 0
IsNamed server packet name = (name.server ≡ server) × (name.packet ≡ packet)

-- a visit that stands is among the names
pub named_in : (trace : List Entry) (server packet : ℕ) → IsSomeVisit trace server packet →
    AnyOf (IsNamed server packet) (visits_in trace)
named_in [] server packet there = absurd there
named_in (Given p b ∷ older) server packet there =
    elim there [ inl here ↦ absurd here | inr below ↦ named_in older server packet below ]
named_in (Visited k q o ∷ older) server packet there = elim there [
  | inl here ↦ any_last (IsNamed server packet) (visits_in older) (record { server = k; packet = q }) (here.0, here.1)
  | inr below ↦ any_front (IsNamed server packet) (visits_in older) (record { server = k; packet = q } ∷ [])
      (named_in older server packet below)
]

-- each of the names stands
stand_in : (trace : List Entry) →
    AllByRecursion (λ (name : VisitName). IsSomeVisit trace name.server name.packet) (visits_in trace)
stand_in [] = tt
stand_in (Given p b ∷ older) = all-weaker (λ (name : VisitName). IsSomeVisit older name.server name.packet)
    (λ (name : VisitName). IsSomeVisit (Given p b ∷ older) name.server name.packet)
    (λ name there. inr there) (visits_in older) (stand_in older)
stand_in (Visited k q o ∷ older) = all_push
    (λ (name : VisitName). IsSomeVisit (Visited k q o ∷ older) name.server name.packet) (visits_in older)
    (record { server = k; packet = q })
    (all-weaker (λ (name : VisitName). IsSomeVisit older name.server name.packet)
    (λ (name : VisitName). IsSomeVisit (Visited k q o ∷ older) name.server name.packet)
    (λ name there. inr there) (visits_in older) (stand_in older))
    (inl (refl, refl, tt))

abbrev NamesRise : VisitName → VisitName → Type 0
NamesRise earlier later = earlier.packet ≡ later.packet → earlier.server < later.server

names_rise : (c : Setting) (trace : List Entry) → IsSerial c trace → EachLater NamesRise (visits_in trace)
names_rise c [] is = tt
names_rise c (Given p b ∷ older) is = names_rise c older is.1
names_rise c (Visited k q o ∷ older) is = each_push NamesRise (visits_in older) (record { server = k; packet = q })
    (names_rise c older is.1)
    (all-weaker (λ (name : VisitName). IsSomeVisit older name.server name.packet)
    (λ (name : VisitName). NamesRise name (record { server = k; packet = q }))
    (λ name there same. visited_earlier c older k q is.0.0 is.1 is.0.1 name.server
    (subst (λ p. IsSomeVisit older name.server p) same there)) (visits_in older) (stand_in older))

each_unmap : {A B : Type 0} (R : B → B → Type 0) (f : A → B) (xs : List A) → EachLater R (map f xs) →
    EachLater (λ x y. R (f x) (f y)) xs
each_unmap R f [] each = tt
each_unmap R f (x ∷ xs) each = (all_unmap (R (f x)) f xs each.0, each_unmap R f xs each.1)

-- visits with the names of a serial run rise, packet by packet
pub made_rise : (c : Setting) (trace : List Entry) (visits : List MadeVisit) → IsSerial c trace →
    map name_of visits ≡ visits_in trace → EachLater Rises visits
made_rise c trace visits is names = each_unmap NamesRise name_of visits
    (subst (EachLater NamesRise) (sym names) (names_rise c trace is))

-- one of them is the visit that stands
pub made_of : (trace : List Entry) (visits : List MadeVisit) → map name_of visits ≡ visits_in trace →
    (server packet : ℕ) → IsSomeVisit trace server packet
    → AnyOf (λ (visit : MadeVisit). (visit.server ≡ server) × (visit.packet ≡ packet)) visits
made_of trace visits names server packet there =
    any_unmap (IsNamed server packet) name_of visits
    (subst (AnyOf (IsNamed server packet)) (sym names) (named_in trace server packet there))

-- and each of them stands
pub made_stand : (trace : List Entry) (visits : List MadeVisit) → map name_of visits ≡ visits_in trace →
    AllByRecursion (λ (visit : MadeVisit). IsSomeVisit trace visit.server visit.packet) visits
made_stand trace visits names = all_unmap
    (λ (name : VisitName). IsSomeVisit trace name.server name.packet) name_of visits
    (subst (AllByRecursion (λ (name : VisitName). IsSomeVisit trace name.server name.packet)) (sym names)
    (stand_in trace))

-- the trace without some visits
pub left_visits : (gone : Visits) (trace : List Entry) →
    visits_in (left_of gone trace) ≡ filter (λ (name : VisitName). not (gone name.server name.packet))
    (visits_in trace)
left_visits gone [] = refl
left_visits gone (Given p b ∷ older) = left_visits gone older
left_visits gone (Visited k q o ∷ older) =
    elim (gone k q) as (λ b. visits_in (cond (not b) (Visited k q o ∷ left_of gone older) (left_of gone older))
    ≡ filter (λ (name : VisitName). not (gone name.server name.packet)) (visits_in older) ++ cond (not b)
    (record { server = k; packet = q } ∷ []) []) [
      | true ↦ left_visits gone older ∙ sym
          (append-nil (filter (λ (name : VisitName). not (gone name.server name.packet)) (visits_in older)))
      | false ↦ ap (λ (l : List VisitName). l ++ record { server = k; packet = q } ∷ []) (left_visits gone older)
    ]
    ∙ sym (filter_joined (λ (name : VisitName). not (gone name.server name.packet)) (visits_in older)
    (record { server = k; packet = q } ∷ []))

-- an event that keeps the visits
module _ (c : Setting) (s : ChainState) where
  pub visits_kept : (event : Event) → keeps_visits event ≡ true → visits_in s.trace ≡ visits_in (next c s event).trace
  visits_kept (Enter p) is = refl
  visits_kept (Take l p) is = refl
  visits_kept (Apply k p j q) is = refl
  visits_kept (Visit k p w) is = cc
  visits_kept (Pass k p) is = refl
  visits_kept (Lose k p) is = refl
  visits_kept (Carry p) is = refl
  visits_kept (Crash k) is = refl
  visits_kept (Recover k undone) is = cc
  visits_kept (Pull l) is = refl
  visits_kept (Propagate p) is = refl
  visits_kept (Release p) is = refl

  pub visit_kept : (event : Event) → keeps_visits event ≡ true →
      (server packet : ℕ) → IsSomeVisit s.trace server packet → IsSomeVisit (next c s event).trace server packet
  visit_kept (Enter p) is server packet there = there
  visit_kept (Take l p) is server packet there = there
  visit_kept (Apply k p j q) is server packet there = there
  visit_kept (Visit k p w) is server packet there = inr there
  visit_kept (Pass k p) is server packet there = there
  visit_kept (Lose k p) is server packet there = there
  visit_kept (Carry p) is server packet there = there
  visit_kept (Crash k) is server packet there = there
  visit_kept (Recover k undone) is server packet there = cc
  visit_kept (Pull l) is server packet there = there
  visit_kept (Propagate p) is server packet there = there
  visit_kept (Release p) is server packet there = inr there
