-- The machine's trace is the trace of its journal.
use Rattle.std.proofs.Common.{append_assoc, append-nil}
use Rattle.std.proofs.lemmas.Grind.{flat_map-append}
use Rattle.std.proofs.lemmas.List.Elements.{filter-append}
use Rattle.std.proofs.Common.{◌≡◌, ℕ, ◌+◌, ◌<◌, ◌==◌, ◌||◌, if◌then◌else◌, Bool, true, false, not, cond, List, [], ◌∷◌}
use Rattle.std.proofs.Common.{◌++◌, filter, refl, sym, ap, subst, ◌∙◌, arith, inl, inr, Option, Some, None}
use Rattle.std.specs.List.{flat_map}
use Rattle.std.proofs.lemmas.Bool.{true≢false, false_from_ne_true, or_cases}
use Rattle.ftc_ring.specs.Ring.{next_of}
use Rattle.ftc_journal.specs.declared.event.Event.{Event}
use Rattle.ftc_journal.specs.declared.event.Event.TheVariants.{Apply, Carry, Crash, Enter, Lose, Pass, Propagate, Pull}
use Rattle.ftc_journal.specs.declared.event.Event.TheVariants.{Recover, Release, Take, Visit}
use Rattle.ftc_journal.specs.declared.event.VisitName.{VisitName}
use Rattle.ftc_serial.specs.declared.step.Step.{Step}
use Rattle.ftc_serial.specs.declared.step.Step.TheVariants as step
use Rattle.ftc_serial.specs.Serial.{Entry, Visited, Given}
use Rattle.ftc_serial.specs.Removal.{left_of}
use Rattle.ftc_serial.specs.Trace.{undone_by, names, steps_of, trace_of}
use Rattle.ftc_serial.proofs.Functions.{with_at_cases}
use Rattle.ftc_protocol.specs.declared.fate.Fate.{Fate}
use Rattle.ftc_protocol.specs.declared.fate.Fate.TheVariants.{Released, Lost, Inside}
use Rattle.ftc_protocol.specs.Setting.{Setting, servers, IsSetting}
use Rattle.ftc_protocol.specs.Visits.{In}
use Rattle.ftc_protocol.specs.State.{ChainState, Where, Held, Queued, opening}
use Rattle.ftc_protocol.specs.Trace.{IsSomeVisit}
use Rattle.ftc_protocol.specs.Recovery.{is_undone, is_dropped, previous_live, following_live}
use Rattle.ftc_protocol.specs.Legal.{MayHappen, IsLegal}
use Rattle.ftc_protocol.specs.Next.{next, fate_by, outcome_at}
use Rattle.ftc_protocol.specs.Run.{AreLegal, IsRun, state_after}
use Rattle.ftc_protocol.specs.Moment.{steps_in}
use Rattle.ftc_protocol.proofs.Premises.{IsGood}
use Rattle.ftc_protocol.proofs.AcceptedSettings.{is_good}
use Rattle.ftc_protocol.proofs.Places.{Waits, Passed, serial_of, placed}
use Rattle.ftc_protocol.proofs.TraceLemmas.{visit_stood}
use Rattle.ftc_protocol.proofs.EarlierVisits.{visited_earlier}
use Rattle.ftc_protocol.proofs.ListStores.{stands_below}
use Rattle.ftc_protocol.proofs.UndoneList.{any_name, in_order_says}
use Rattle.ftc_protocol.proofs.Soundness.{visited_before, visited_all}
use Rattle.ftc_protocol.proofs.LiveHolders.{kept_drop}
use Rattle.ftc_protocol.proofs.Invariant.{Inv, expected}
use Rattle.ftc_protocol.proofs.InsidePackets.{AreFated, are_fates}
use Rattle.ftc_protocol.proofs.FewPropagates.{IsCounted, keeps_counts, opens_counted}

-- ---- lists of steps

-- the step stays where these visits are undone
stays : List VisitName → Step → Bool
stays undone (step.Visit server packet) = not (names undone server packet)
stays undone (step.Release packet) = true

-- what is left of a trace has the steps that stay
steps_left : (undone : List VisitName) (trace : List Entry) →
    steps_in (left_of (names undone) trace) ≡ filter (stays undone) (steps_in trace)
unfolding stays
steps_left undone [] = refl
steps_left undone (Given p bytes ∷ older) =
    ap (λ l. l ++ step.Release p ∷ []) (steps_left undone older) ∙ sym
    (filter-append (stays undone) (steps_in older) (step.Release p ∷ []))
steps_left undone (Visited k p o ∷ older) =
    elim (names undone k p) as
    (λ b. steps_in (cond (not b) (Visited k p o ∷ left_of (names undone) older) (left_of (names undone) older))
    ≡ filter (stays undone) (steps_in older) ++ cond (not b) (step.Visit k p ∷ []) []) [
      | true ↦ steps_left undone older ∙ sym (append-nil (filter (stays undone) (steps_in older)))
      | false ↦ ap (λ l. l ++ step.Visit k p ∷ []) (steps_left undone older)
    ]
    ∙ sym (filter-append (stays undone) (steps_in older) (step.Visit k p ∷ []))

-- undoing more leaves the steps that stay
more_undone : (some more : List VisitName) (event : Event) →
    steps_of (some ++ more) event ≡ filter (stays more) (steps_of some event)
unfolding stays
more_undone some more (Visit k p w) =
    ap (λ b. if b then [] else step.Visit k p ∷ []) (any_name k p some more)
    ∙ (elim (names some k p) as (λ a. (if a || names more k p then [] else step.Visit k p ∷ [])
    ≡ filter (stays more) (if a then [] else step.Visit k p ∷ [])) [
      | true ↦ refl
      | false ↦ elim (names more k p) as (λ b. (if b then [] else step.Visit k p ∷ [])
          ≡ cond (not b) (step.Visit k p ∷ []) []) [ true ↦ refl | false ↦ refl ]
    ])
more_undone some more (Release p) = refl
more_undone some more (Enter p) = refl
more_undone some more (Take k p) = refl
more_undone some more (Apply k p j q) = refl
more_undone some more (Pass k p) = refl
more_undone some more (Lose k p) = refl
more_undone some more (Carry p) = refl
more_undone some more (Crash k) = refl
more_undone some more (Recover k undone) = refl
more_undone some more (Pull k) = refl
more_undone some more (Propagate p) = refl

undone_more : (some more : List VisitName) (events : List Event) →
    flat_map (steps_of (some ++ more)) events ≡ filter (stays more) (flat_map (steps_of some) events)
undone_more some more [] = refl
undone_more some more (event ∷ events) =
    ap (λ l. l ++ flat_map (steps_of (some ++ more)) events) (more_undone some more event)
    ∙ (ap (λ l. filter (stays more) (steps_of some event) ++ l) (undone_more some more events)
    ∙ sym (filter-append (stays more) (steps_of some event) (flat_map (steps_of some) events)))

-- ---- a packet that is not inside any more

outside : (b : Bool) (e : ℕ) (f : Fate) → (if b then Lost e else f) ≡ Inside → f ≡ Inside
outside true e f is = absurd (cc)
outside false e f is = is

pub inside_before : (c : Setting) (s : ChainState) (e : Event) → MayHappen c s e → (p : ℕ) → p < s.entered →
    (next c s e).fate p ≡ Inside → s.fate p ≡ Inside
inside_before c s (Enter q) legal p less is =
    with_at_cases (λ v. v ≡ Inside → s.fate p ≡ Inside) s.fate q _ p (λ same x. let at : q ≡ s.entered = legal.0 in
    absurd (omega arith)) (λ other x. x) is
inside_before c s (Take k q) legal p less is = is
inside_before c s (Apply k q a b) legal p less is = is
inside_before c s (Visit k q w) legal p less is =
    with_at_cases (λ v. v ≡ Inside →
    s.fate p ≡ Inside) s.fate q _ p (λ same x. ap s.fate same ∙ before (outcome_at c s k q).packet x)
    (λ other x. x) is
  where
    before : (o : Option (List ℕ)) → fate_by k (s.fate q) o ≡ Inside → s.fate q ≡ Inside
    before None x = absurd (cc)
    before (Some bytes) x = x
inside_before c s (Pass k q) legal p less is =
    with_at_cases (λ v. v ≡ Inside →
    s.fate p ≡ Inside) s.fate q _ p (λ same x. ap s.fate same ∙ outside _ s.events (s.fate q) x) (λ other x. x) is
inside_before c s (Lose k q) legal p less is =
    with_at_cases (λ v. v ≡ Inside →
    s.fate p ≡ Inside) s.fate q _ p (λ same x. ap s.fate same ∙ outside _ s.events (s.fate q) x) (λ other x. x) is
inside_before c s (Carry q) legal p less is = is
inside_before c s (Crash k) legal p less is = outside _ s.events (s.fate p) is
inside_before c s (Recover k undone) legal p less is = outside _ s.events (s.fate p) is
inside_before c s (Pull k) legal p less is = is
inside_before c s (Propagate q) legal p less is = is
inside_before c s (Release q) legal p less is =
    with_at_cases (λ v. v ≡ Inside → s.fate p ≡ Inside) s.fate q Released p (λ same x. absurd (cc)) (λ other x. x) is

-- ---- what is undone is not made again

module _ (c : Setting) (good : IsGood c) (s : ChainState) (h : Inv c s) (k : ℕ) (undone : List VisitName)
    (after : Inv c (next c s (Recover k undone))) where
  -- a packet whose place is the same has the same visits
  waits_same : (x : ℕ) (bytes : List ℕ) (p j : ℕ) → (serial_of c s.trace).place p ≡ Waits x bytes →
      (serial_of c (left_of (names undone) s.trace)).place p ≡ Waits x bytes → IsSomeVisit s.trace j p →
      IsSomeVisit (left_of (names undone) s.trace) j p
  waits_same x bytes p j before behind there =
      visited_before c (left_of (names undone) s.trace) after.world.serial p x bytes behind j
      (visited_earlier c s.trace x p bytes h.world.serial before j there)

  passed_same : (bytes : List ℕ) (p j : ℕ) → (serial_of c (left_of (names undone) s.trace)).place p ≡ Passed bytes →
      IsSomeVisit s.trace j p → IsSomeVisit (left_of (names undone) s.trace) j p
  passed_same bytes p j behind there =
      visited_all c (left_of (names undone) s.trace) after.world.serial p bytes behind j
      (stands_below c good.some _ s.trace h.world.serial j p there)

  under_way_same : (w : Where) (bytes : List ℕ) (p j : ℕ) →
      (serial_of c s.trace).place p ≡ expected (servers c) w bytes →
      (serial_of c (left_of (names undone) s.trace)).place p ≡ expected (servers c) w bytes
      → IsSomeVisit s.trace j p → IsSomeVisit (left_of (names undone) s.trace) j p
  under_way_same (Held x false r) bytes p j before behind there = waits_same x bytes p j before behind there
  under_way_same (Queued l) bytes p j before behind there =
      waits_same (next_of (servers c) l) bytes p j before behind there
  under_way_same (Held x true r) bytes p j before behind there =
      elim (x + 1 == servers c) as (λ b. (serial_of c s.trace).place p ≡ placed b x bytes →
      (serial_of c (left_of (names undone) s.trace)).place p ≡ placed b x bytes →
      IsSomeVisit (left_of (names undone) s.trace) j p) [
        | true ↦ λ was is. passed_same bytes p j is there
        | false ↦ λ was is. waits_same (x + 1) bytes p j was is there
      ] before behind

  -- so an undone visit's packet isn't inside any more
  pub undone_outside : AreFated c (next c s (Recover k undone)) → (j p : ℕ) → p < s.entered → In (names undone) j p →
      IsSomeVisit s.trace j p → (next c s (Recover k undone)).fate p ≡ Inside → ⊥
  undone_outside fated j p entered is there inside =
      let fates = are_fates c (next c s (Recover k undone)) fated in
      let stood : IsSomeVisit (left_of (names undone) s.trace) j p = elim ((fates.inside p entered).0 inside) [
        | inl by ↦
            let was = kept_drop (is_dropped c s (following_live c s k)) (s.message p) by.message by.there in
            under_way_same by.message.place by.bytes p j
            ((h.messages p by.message was).under_way by.bytes by.carries).place
            ((after.messages p by.message by.there).under_way by.bytes by.carries).place there
        | inr by ↦ passed_same by.withheld.bytes p j (let w = after.withheld p by.withheld by.there in w.place) there
      ] in
      true≢false (sym is ∙ (visit_stood (names undone) (λ o. Unit {0}) s.trace j p stood).1)

-- the visits that a run undid are of packets that have entered and are not inside
abbrev AreGone : ChainState → List VisitName → Type 0
AreGone s undone = (j p : ℕ) → In (names undone) j p → (p < s.entered) × (s.fate p ≡ Inside → ⊥)

pub entered_more : (c : Setting) (s : ChainState) (e : Event) (p : ℕ) → p < s.entered → p < (next c s e).entered
entered_more c s (Enter q) p less = omega arith
entered_more c s (Take k q) p less = less
entered_more c s (Apply k q a b) p less = less
entered_more c s (Visit k q w) p less = less
entered_more c s (Pass k q) p less = less
entered_more c s (Lose k q) p less = less
entered_more c s (Carry q) p less = less
entered_more c s (Crash k) p less = less
entered_more c s (Recover k undone) p less = less
entered_more c s (Pull k) p less = less
entered_more c s (Propagate q) p less = less
entered_more c s (Release q) p less = less

module _ (c : Setting) (is : IsSetting c) (s : ChainState) (n : IsCounted c s) (before : List Event)
    (same : steps_in s.trace ≡ trace_of before) (gone : AreGone s (flat_map undone_by before)) where
  open n use {reached, shaped}

  still_gone : (e : Event) → MayHappen c s e → AreGone (next c s e) (flat_map undone_by before)
  still_gone e legal j p i = let was =
      gone j p i in (entered_more c s e p was.0, λ inside. was.1 (inside_before c s e legal p was.0 inside))

  -- an event that undoes nothing
  plain : (e : Event) → IsLegal c s e → undone_by e ≡ [] →
      steps_in (next c s e).trace ≡ steps_in s.trace ++ steps_of (flat_map undone_by before) e
      → (steps_in (next c s e).trace ≡ trace_of (before ++ e ∷ []))
      × AreGone (next c s e) (flat_map undone_by (before ++ e ∷ []))
  plain e legal none_undone step_is =
      let undone : flat_map undone_by (before ++ e ∷ []) ≡ flat_map undone_by before =
      flat_map-append undone_by before (e ∷ [])
      ∙ (ap (λ l. flat_map undone_by before ++ (l ++ [])) none_undone ∙ append-nil (flat_map undone_by before)) in (
        step_is ∙ (ap (λ l. l ++ steps_of (flat_map undone_by before) e) same
            ∙ (sym (flat_map-append (steps_of (flat_map undone_by before)) before (e ∷ []) ∙ ap (λ l. trace_of before
            ++ l) (append-nil (steps_of (flat_map undone_by before) e)))
            ∙ ap (λ u. flat_map (steps_of u) (before ++ e ∷ [])) (sym undone))),
        subst (AreGone (next c s e)) (sym undone) (still_gone e legal.0),
      )

  visited_step : (k p w : ℕ) → IsLegal c s (Visit k p w) →
      steps_of (flat_map undone_by before) (Visit k p w) ≡ step.Visit k p ∷ []
  visited_step k p w legal =
      let m = legal.0.0 in
      let fates = are_fates c s reached.fated in
      let entered = reached.live.inv.entered p m legal.0.1 legal.0.3 legal.0.5 in
      let inside : s.fate p ≡ Inside =
      (fates.inside p entered).1
      (inl (record { message = m; there = legal.0.3; bytes = legal.0.1; carries = legal.0.5 })) in
      ap (λ b. if b then [] else step.Visit k p
      ∷ []) (false_from_ne_true (names (flat_map undone_by before) k p) (λ undone. (gone k p undone).1 inside))

  recovered : (k : ℕ) (undone : List VisitName) → IsLegal c s (Recover k undone)
      → (steps_in (next c s (Recover k undone)).trace ≡ trace_of (before ++ Recover k undone ∷ []))
      × AreGone (next c s (Recover k undone)) (flat_map undone_by (before ++ Recover k undone ∷ []))
  recovered k undone legal =
      let some = flat_map undone_by before in
      let all : flat_map undone_by (before ++ Recover k undone ∷ []) ≡ some ++ undone =
      flat_map-append undone_by before (Recover k undone ∷ []) ∙ ap (λ l. some ++ l) (append-nil undone) in
      let counted = keeps_counts c is s n (Recover k undone) legal in (
        steps_left undone s.trace ∙ (ap (filter (stays undone)) same ∙ (sym (undone_more some undone before)
            ∙ (sym (append-nil (flat_map (steps_of (some ++ undone)) before)) ∙
            (sym (flat_map-append (steps_of (some ++ undone)) before (Recover k undone ∷ []))
            ∙ ap (λ u. flat_map (steps_of u) (before ++ Recover k undone ∷ [])) (sym all))))),
        subst (AreGone (next c s (Recover k undone))) (sym all)
            (λ j p i. elim (or_cases (names some j p) (names undone j p) (sym (any_name j p some undone) ∙ i)) [
              | inl old ↦ still_gone (Recover k undone) legal.0 j p old
              | inr new ↦
                  let there : IsSomeVisit s.trace j p =
                  (in_order_says (is_undone c s (previous_live c s k) (following_live c s k)) s.trace j p
                  (subst (λ u. In (names u) j p) legal.0.1 new)).1 in
                  let entered = shaped.visited j p there in (
                    entered,
                    undone_outside c
                        (is_good c is) s reached.live.inv k undone counted.reached.live.inv counted.reached.fated j p
                        entered
                        new there,
                  )
            ]),
      )

  pub traces : (e : Event) → IsLegal c s e → (steps_in (next c s e).trace ≡ trace_of (before ++ e ∷ []))
      × AreGone (next c s e) (flat_map undone_by (before ++ e ∷ []))
  traces (Enter p) legal = plain (Enter p) legal refl (sym (append-nil (steps_in s.trace)))
  traces (Take k p) legal = plain (Take k p) legal refl (sym (append-nil (steps_in s.trace)))
  traces (Apply k p j q) legal = plain (Apply k p j q) legal refl (sym (append-nil (steps_in s.trace)))
  traces (Visit k p w) legal =
      plain (Visit k p w) legal refl (ap (λ l. steps_in s.trace ++ l) (sym (visited_step k p w legal)))
  traces (Pass k p) legal = plain (Pass k p) legal refl (sym (append-nil (steps_in s.trace)))
  traces (Lose k p) legal = plain (Lose k p) legal refl (sym (append-nil (steps_in s.trace)))
  traces (Carry p) legal = plain (Carry p) legal refl (sym (append-nil (steps_in s.trace)))
  traces (Crash k) legal = plain (Crash k) legal refl (sym (append-nil (steps_in s.trace)))
  traces (Recover k undone) legal = recovered k undone legal
  traces (Pull k) legal = plain (Pull k) legal refl (sym (append-nil (steps_in s.trace)))
  traces (Propagate p) legal = plain (Propagate p) legal refl (sym (append-nil (steps_in s.trace)))
  traces (Release p) legal = plain (Release p) legal refl refl

traces_on : (c : Setting) → IsSetting c → (after before : List Event) (s : ChainState) → IsCounted c s →
    steps_in s.trace ≡ trace_of before → AreGone s (flat_map undone_by before) → AreLegal c s after
    → steps_in (state_after c s after).trace ≡ trace_of (before ++ after)
traces_on c is [] before s n same gone legal = same ∙ ap trace_of (sym (append-nil before))
traces_on c is (e ∷ after) before s n same gone legal =
    let now = traces c is s n before same gone e legal.0 in
    traces_on c is after (before
    ++ e ∷ []) (next c s e) (keeps_counts c is s n e legal.0) now.0 now.1 legal.1 ∙ ap trace_of
    (append_assoc before (e ∷ []) after)

pub trace_is : (c : Setting) → IsSetting c → (journal : List Event) → IsRun c journal →
    steps_in (state_after c (opening c) journal).trace ≡ trace_of journal
trace_is c is journal run =
    traces_on c is journal [] (opening c) (opens_counted c is) refl (λ j p i. absurd (true≢false (sym i))) run
