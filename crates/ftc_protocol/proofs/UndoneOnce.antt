-- The list of undone visits: those of the trace in its order, each once. The packet of each is lost.
use Rattle.std.proofs.Common.{◌≡◌, ◌≢◌, ℕ, ◌<◌, ◌≤◌, Bool, true, false, cond, None, List, [], ◌∷◌, ◌++◌, filter, refl}
use Rattle.std.proofs.Common.{sym, ap, subst, ◌∙◌, arith, inl, inr}
use Rattle.std.specs.List.{AllByRecursion}
use Rattle.std.proofs.lemmas.Bool.{true≢false, false_from_ne_true}
use Rattle.std.proofs.lemmas.List.Elements.{filter-append}
use Rattle.ftc_base.proofs.EachOf.{all_push, all-weaker}
use Rattle.ftc_journal.specs.declared.event.Event.TheVariants.{Recover}
use Rattle.ftc_journal.specs.declared.event.VisitName.{VisitName}
use Rattle.ftc_serial.specs.Words.{EachLater}
use Rattle.ftc_serial.specs.Serial.{Entry, Visited, Given}
use Rattle.ftc_serial.specs.Trace.{names}
use Rattle.ftc_serial.specs.Removal.{left_of}
use Rattle.ftc_serial.proofs.AnyOf.{each_push}
use Rattle.ftc_protocol.specs.declared.fate.Fate.TheVariants.{Released, Filtered, Lost, Inside}
use Rattle.ftc_protocol.specs.Setting.{Setting}
use Rattle.ftc_protocol.specs.Visits.{Visits, In}
use Rattle.ftc_protocol.specs.Trace.{IsSomeVisit}
use Rattle.ftc_protocol.specs.State.{ChainState}
use Rattle.ftc_protocol.specs.Recovery.{in_order, is_undone, undone_visits, visits_in, previous_live, following_live}
use Rattle.ftc_protocol.specs.Legal.{MayHappen}
use Rattle.ftc_protocol.specs.Front.{AreApart}
use Rattle.ftc_protocol.specs.Next.{next}
use Rattle.ftc_protocol.specs.Run.{IsRunState}
use Rattle.ftc_protocol.proofs.StatesOfRuns.{counted_of, reached_of}
use Rattle.ftc_protocol.proofs.AcceptedSettings.{is_good}
use Rattle.ftc_protocol.proofs.TraceLemmas.{stands_map, visit_stood}
use Rattle.ftc_protocol.proofs.ListStores.{stands_below}
use Rattle.ftc_protocol.proofs.UndoneList.{in_order_says, in_order_has}
use Rattle.ftc_protocol.proofs.Soundness.{given_all}
use Rattle.ftc_protocol.proofs.JournalTrace.{undone_outside}
use Rattle.ftc_protocol.proofs.OrderlyStates.{undoes}
use Rattle.ftc_protocol.proofs.Fronts.{are_apart}
use Rattle.ftc_protocol.proofs.Complete.{IsReached, keeps_reached}
use Rattle.ftc_protocol.proofs.SettledPlaces.{bytes_given, dropped_filtered, visited_until}

-- ---- lists

filter_same : {A : Type 0} (f g : A → Bool) (xs : List A) → AllByRecursion (λ x. f x ≡ g x) xs
    → filter f xs ≡ filter g xs
filter_same f g [] all = refl
filter_same f g (x ∷ xs) all = ap (λ b. cond b (x ∷ filter f xs) (filter f xs)) all.0
    ∙ ap (λ l. cond (g x) (x ∷ l) l) (filter_same f g xs all.1)

-- ---- the order

abbrev test : Visits → VisitName → Bool
test visits name = visits name.server name.packet

-- each stands in the trace
abbrev Stand : List Entry → VisitName → Type 0
Stand trace name = IsSomeVisit trace name.server name.packet

by_filter : (visits : Visits) (trace : List Entry) → in_order visits trace ≡ filter (test visits) (visits_in trace)
by_filter visits [] = refl
by_filter visits (Given p bytes ∷ older) = by_filter visits older
by_filter visits (Visited k p o ∷ older) =
    elim (visits k p) as (λ b. visits k p ≡ b → cond b (in_order visits older ++ record { server = k; packet = p }
    ∷ []) (in_order visits older)
    ≡ filter (test visits) (visits_in older) ++ cond b (record { server = k; packet = p } ∷ []) []) [
      | true ↦ λ e. ap (λ l. l ++ record { server = k; packet = p } ∷ []) (by_filter visits older)
      | false ↦ λ e. by_filter visits older ∙ sym (none (filter (test visits) (visits_in older)))
    ] refl
    ∙ sym (filter-append (test visits) (visits_in older) (record { server = k; packet = p } ∷ []))
  where
    none : (l : List VisitName) → l ++ [] ≡ l
    none [] = refl
    none (x ∷ xs) = ap (λ l. x ∷ l) (none xs)

all_stand : (trace : List Entry) → AllByRecursion (Stand trace) (visits_in trace)
all_stand [] = tt
all_stand (Given p bytes ∷ older) = all-weaker (Stand older) (Stand (Given p bytes ∷ older)) (λ x is. inr is)
    (visits_in older) (all_stand older)
all_stand (Visited k p o ∷ older) =
    all_push (Stand (Visited k p o ∷ older)) (visits_in older) (record { server = k; packet = p })
    (all-weaker (Stand older) (Stand (Visited k p o ∷ older)) (λ x is. inr is) (visits_in older) (all_stand older))
    (inl (refl, refl, tt))

pub in_trace_order : (visits : Visits) (trace : List Entry) → in_order visits trace
    ≡ filter (test (names (in_order visits trace))) (visits_in trace)
in_trace_order visits trace =
    by_filter visits trace
    ∙ filter_same (test visits) (test (names (in_order visits trace))) (visits_in trace)
    (all-weaker (Stand trace) (λ x. test visits x ≡ test (names (in_order visits trace)) x) same (visits_in trace)
    (all_stand trace))
  where
    same : (x : VisitName) → Stand trace x → test visits x ≡ test (names (in_order visits trace)) x
    same x there = elim (visits x.server x.packet) as (λ b. visits x.server x.packet ≡ b
        → b ≡ names (in_order visits trace) x.server x.packet) [
          | true ↦ λ is. sym (in_order_has visits trace x.server x.packet is there)
          | false ↦ λ isnt. sym (false_from_ne_true _ (λ named. true≢false
              (sym (in_order_says visits trace x.server x.packet named).0 ∙ isnt)))
        ] refl

pub undone_order : (c : Setting) (s : ChainState) (k : ℕ) → undone_visits c s k
    ≡ filter (λ (visit : VisitName). names (undone_visits c s k) visit.server visit.packet) (visits_in s.trace)
undone_order c s k = in_trace_order (is_undone c s (previous_live c s k) (following_live c s k)) s.trace

-- ---- each once

listed_stand : (visits : Visits) (trace : List Entry) → AllByRecursion (Stand trace) (in_order visits trace)
listed_stand visits [] = tt
listed_stand visits (Given p bytes ∷ older) = all-weaker (Stand older) (Stand (Given p bytes ∷ older)) (λ x is. inr is)
    (in_order visits older) (listed_stand visits older)
listed_stand visits (Visited k p o ∷ older) =
    let more = all-weaker (Stand older) (Stand (Visited k p o ∷ older)) (λ x is. inr is) (in_order visits older)
    (listed_stand visits older) in
    elim (visits k p) as (λ b. AllByRecursion (Stand (Visited k p o ∷ older))
    (cond b (in_order visits older ++ record { server = k; packet = p } ∷ []) (in_order visits older))) [
      | true ↦ all_push (Stand (Visited k p o ∷ older)) (in_order visits older)
          (record { server = k; packet = p }) more (inl (refl, refl, tt))
      | false ↦ more
    ]

listed_once : (partitions : ℕ) (visits : Visits) (trace : List Entry) → AreApart partitions trace
    → EachLater (λ (one other : VisitName). one ≢ other) (in_order visits trace)
listed_once partitions visits [] is = tt
listed_once partitions visits (Given p bytes ∷ older) is = listed_once partitions visits older is
listed_once partitions visits (Visited k p o ∷ older) is =
    let more = listed_once partitions visits older is.2 in
    elim (visits k p) as (λ b. EachLater (λ (one other : VisitName). one ≢ other)
    (cond b (in_order visits older ++ record { server = k; packet = p } ∷ []) (in_order visits older))) [
      | true ↦ each_push (λ (one other : VisitName). one ≢ other) (in_order visits older)
          (record { server = k; packet = p }) more
          (all-weaker (Stand older) (λ x. x ≢ record { server = k; packet = p })
          (λ x there same. is.0 (subst (Stand older) same there)) (in_order visits older)
          (listed_stand visits older))
      | false ↦ more
    ]

pub undone_once : (c : Setting) (s : ChainState) (k : ℕ) → IsRunState c s
    → EachLater (λ (one other : VisitName). one ≢ other) (undone_visits c s k)
undone_once c s k run =
    let r : IsReached c s = reached_of c s run in
    listed_once c.partitions (is_undone c s (previous_live c s k) (following_live c s k)) s.trace
    (are_apart c (is_good c run.right) s.trace r.live.inv.world.serial)

-- ---- lost

module _ (c : Setting) (s : ChainState) (run : IsRunState c s) (k : ℕ) (undone : List VisitName)
    (legal : MayHappen c s (Recover k undone)) (j p : ℕ) (is : In (names undone) j p) where
  now : IsReached c s
  now = reached_of c s run

  new : IsReached c (next c s (Recover k undone))
  new = keeps_reached c (is_good c run.right) s now (Recover k undone) legal

  gone : (i : ℕ) → In (names undone) i p → IsSomeVisit (left_of (names undone) s.trace) i p → ⊥
  gone i out there = true≢false (sym out ∙ (visit_stood (names undone) (λ o. Unit {0}) s.trace i p there).1)

  pub undone_lost : (number : ℕ) × ((next c s (Recover k undone)).fate p ≡ Lost number)
  undone_lost =
      let good = is_good c run.right in
      let h = now.live.inv in
      let h' = new.live.inv in
      let f = new.fated.fates p in
      let u = (undoes c good s h k undone legal j p).0 is in
      elim ((next c s (Recover k undone)).fate p) as (λ v. (next c s (Recover k undone)).fate p ≡ v
      → (number : ℕ) × (v ≡ Lost number)) [
        | Lost number ↦ λ e. (number, refl)
        | Inside ↦ λ e. absurd (undone_outside c good s h k undone h' new.fated j p entered is u.3 e)
        | Released ↦ λ e.
            let found = bytes_given (left_of (names undone) s.trace) p (f.released e) in
            absurd (gone j is (given_all c (left_of (names undone) s.trace) h'.world.serial p found.0 found.1 j
            (stands_below c good.some (λ o. Unit {0}) s.trace h.world.serial j p u.3)))
        | Filtered i ↦ λ e.
            let dropped = f.filtered i e in
            let there = stands_map (λ o. o.packet ≡ None) (λ o. Unit {0}) (λ o x. tt)
            (left_of (names undone) s.trace) i p dropped in
            let was = (visit_stood (names undone) (λ o. o.packet ≡ None) s.trace i p dropped).0 in
            let le : j ≤ i = visited_until c s.trace h.world.serial i p
            (dropped_filtered c s.trace h.world.serial i p was) j u.3 in
            let root : u.0 ≤ j = u.1 in
            absurd (gone i ((undoes c good s h k undone legal i p).1
            (u.0, omega arith, u.2, (visit_stood (names undone) (λ o. Unit {0}) s.trace i p there).0)) there)
      ] refl
    where
      entered : p < s.entered
      entered = let n = counted_of c s run in n.shaped.visited j p
          ((undoes c (is_good c run.right) s now.live.inv k undone legal j p).0 is).3
