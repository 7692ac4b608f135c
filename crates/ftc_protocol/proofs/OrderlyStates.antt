-- What else holds of every state of a run.
use Rattle.std.proofs.Common.{◌≡◌, ◌≢◌, ◌↔◌, ℕ, ◌+◌, ◌<◌, ◌≤◌, ◌&&◌, ◌==◌, Bool, true, false, not, List, [], ◌∷◌, ◌++◌}
use Rattle.std.proofs.Common.{length, refl, sym, ap, subst, ◌∙◌, arith, inl, inr, Option, Some, None, is_some}
use Rattle.std.proofs.Common.{if◌then◌else◌}
use Rattle.std.proofs.lemmas.Bool.{true≢false, and_parts, or_cases}
use Rattle.std.proofs.lemmas.Option.{same_Some}
use Rattle.ftc_journal.specs.declared.event.Event.{Event}
use Rattle.ftc_journal.specs.declared.event.Event.TheVariants.{Apply, Carry, Crash, Enter, Lose, Pass, Propagate, Pull}
use Rattle.ftc_journal.specs.declared.event.Event.TheVariants.{Recover, Release, Take, Visit}
use Rattle.ftc_serial.specs.Words.{with_at}
use Rattle.ftc_serial.proofs.Functions.{with_at_cases}
use Rattle.ftc_ring.specs.Live as live
use Rattle.ftc_protocol.specs.declared.fate.Fate.{Fate}
use Rattle.ftc_protocol.specs.declared.fate.Fate.TheVariants.{Inside, Lost, Filtered, Released}
use Rattle.ftc_protocol.specs.Setting.{Setting, servers, shape, IsSetting}
use Rattle.ftc_protocol.specs.State.{ChainState, Message, Where, Held, Queued, opening}
use Rattle.ftc_protocol.specs.Next.{next, has_packet, loses_packet, is_undone_drop, is_away, is_at, lines_behind}
use Rattle.ftc_protocol.specs.Run.{IsRun, AreLegal, state_after}
use Rattle.ftc_protocol.specs.Legal.{MayHappen, IsNextLine}
use Rattle.ftc_protocol.specs.Orderly.{aim, IsOrderly, lines_done}
use Rattle.ftc_script.specs.declared.line.ScriptLine.{ScriptLine}
use Rattle.ftc_script.specs.declared.line.ScriptLine.TheVariants as line
use Rattle.ftc_journal.specs.declared.event.VisitName.{VisitName}
use Rattle.ftc_serial.specs.declared.step.Step.{Step}
use Rattle.ftc_serial.specs.declared.position.Position.TheVariants as position
use Rattle.ftc_serial.specs.Serial.{State, serial_run, serial_opening}
use Rattle.ftc_serial.specs.Trace.{trace_of, names}
use Rattle.ftc_protocol.specs.Visits.{In, Visits}
use Rattle.ftc_protocol.specs.Recovery.{previous_live, following_live, is_dropped}
use Rattle.ftc_protocol.specs.Moment.{released_in}
use Rattle.ftc_protocol.proofs.Induction.{always}
use Rattle.ftc_protocol.proofs.AcceptedSettings.{opens_fit, is_good}
use Rattle.ftc_protocol.proofs.Places.{IsSerial, serial_of, history_of}
use Rattle.ftc_protocol.proofs.Soundness.{serial_runs, records_are}
use Rattle.ftc_protocol.proofs.JournalTrace.{trace_is}
use Rattle.ftc_protocol.proofs.PlacedFates.{filtered_dropped, released_given}
use Rattle.ftc_protocol.proofs.SettledPlaces.{given_released, dropped_filtered}
use Rattle.ftc_protocol.proofs.SmallEvents.{fit_next, fit_now}
use Rattle.ftc_protocol.proofs.RingDistances.{last_live, next_live}
use Rattle.ftc_protocol.proofs.UndoneList.{undone_listed}
use Rattle.ftc_protocol.proofs.UndoneVisits.{IsUndone}
use Rattle.ftc_protocol.proofs.Premises.{IsGood, IsAdmissible}
use Rattle.ftc_protocol.proofs.LiveHolders.{IsUp}
use Rattle.ftc_protocol.proofs.ArrivalOrder.{IsRinged}
use Rattle.ftc_protocol.proofs.Invariant.{Inv, target}
use Rattle.ftc_protocol.proofs.InsidePackets.{AreFated}
use Rattle.ftc_protocol.proofs.Complete.{IsReached, reached, keeps_reached}
use Rattle.ftc_protocol.proofs.RunLists.{first_legal, rest_legal, state_on}

ring_admissible : (c : Setting) (up : ℕ → Bool) → IsAdmissible c up → live.IsAdmissible (shape c) up
ring_admissible c up is = record {
  each = λ group below. let found = is group below in
      record { server = found.0; within = found.1; member = found.3; up = found.2 };
}

pub aim_is : (n : ℕ) (place : Where) → aim n place ≡ target n place
aim_is n (Held server visited by_ring) = refl
aim_is n (Queued link) = refl

up_at : (n : ℕ) (up : ℕ → Bool) (place : Where) → IsUp n up place → up (aim n place) ≡ true
up_at n up (Held server visited by_ring) is = is
up_at n up (Queued link) is = is

ringed_link : (n l : ℕ) (place : Where) (logs : Visits) → place ≡ Queued l → IsRinged n place logs → l < n
ringed_link n l place logs at is = subst (λ (w : Where). IsRinged n w logs) at is

ringed_first : (n k : ℕ) (v : Bool) (place : Where) (logs : Visits) → place ≡ Held k v true → IsRinged n place logs →
    k ≡ 0
ringed_first n k v place logs at is = subst (λ (w : Where). IsRinged n w logs) at is

pub orderly : (c : Setting) → IsSetting c → (journal : List Event) → IsRun c journal →
    IsOrderly c (state_after c (opening c) journal)
orderly c is journal run =
    let s : ChainState = state_after c (opening c) journal in
    let r : IsReached c s = reached c is journal run in
    let h = r.live.inv in
    record {
      admissible = ring_admissible c s.up (fit_now c s.up s.lines h.fit);
      inside = h.world.inside;
      history = history_of c s.trace h.world.serial;
      had = λ k j p i. let a = h.world.nest.member k j p i in (a.0, a.2, a.3, (h.world.lists.listed k j p i).1);
      heads = h.world.lists.heads;
      awake = λ p m e. up_at (servers c) s.up m.place (h.awake p m e);
      rides = λ p j q m e i. let a = (h.messages p m e).carried.member j q i in (
        a.0,
        subst (λ x. Rattle.ftc_ring.specs.Ring.apart (servers c) j x ≤ c.failures)
            (sym (aim_is (servers c) m.place)) a.1,
      );
      forwarded = λ j q i. (h.forward_live j q i, (h.forward.member j q i).2);
      needs = λ p j m bytes e b t. ((h.messages p m e).under_way bytes b).needs j t;
      buffered = λ p w e. let a = h.withheld p w e in (a.live, a.needs);
      clock = r.live.timed.clock;
      numbered = r.live.numbered;
      entered = r.live.timed.bounded;
      links = λ p l m e at. ringed_link (servers c) l m.place m.logs at (r.live.timed.ringed p m e);
      by_ring = λ p k v m e at. ringed_first (servers c) k v m.place m.logs at (r.live.timed.ringed p m e);
      gaps = h.gaps;
      crashes = λ a k next. let fit = fit_next c s.up s.lines (line.Crash a k) next h.fit in fit.0;
      recoveries = λ a k next. let fit = fit_next c s.up s.lines (line.Recover a k) next h.fit in (fit.0, fit.1 refl);
    }

-- ---- a lost packet stays lost, at the same event

no_both : (f : Fate) (m : ℕ) → f ≡ Lost m → f ≡ Inside → ⊥
no_both f m lost inside = absurd (cc)

loses_has : (test : Message → Bool) (o : Option Message) → loses_packet test o ≡ true → has_packet o ≡ true
loses_has test None is = absurd (true≢false (sym is))
loses_has test (Some m) is = (and_parts (test m) (is_some m.packet) is).1

keep_if : (b : Bool) (e m : ℕ) (f : Fate) → f ≡ Lost m → (b ≡ true → ⊥) → (if b then Lost e else f) ≡ Lost m
keep_if true e m f is never = absurd (never refl)
keep_if false e m f is never = is

undone_not : (undone : List Rattle.ftc_journal.specs.declared.event.VisitName.VisitName) (p m : ℕ) (f : Fate) →
    f ≡ Lost m → is_undone_drop undone p f ≡ true → ⊥
undone_not undone p m f is drop = let same = subst (λ x. is_undone_drop undone p x ≡ true) is drop in
    true≢false (sym same)

module _ (c : Setting) (s : ChainState) (f : AreFated c s) (p m : ℕ) (is : s.fate p ≡ Lost m) where
  no_packet : has_packet (s.message p) ≡ true → ⊥
  no_packet has = no_both (s.fate p) m is ((f.fates p).carried_inside has)

  no_place : is_some (s.withheld p) ≡ true → ⊥
  no_place has = no_both (s.fate p) m is ((f.fates p).held_inside has)

  not_new : s.entered ≤ p → ⊥
  not_new le = no_both (s.fate p) m is ((f.fates p).waiting le)

  left_stays : (k q : ℕ) (lost : Bool)
      → with_at s.fate q (if is_away c s k lost && not (k + 1 == servers c) && has_packet (s.message q) then
      Lost s.events else s.fate q) p ≡ Lost m
  left_stays k q lost = with_at_cases (λ v. v ≡ Lost m) s.fate q _ p
      (λ same. keep_if _ s.events m (s.fate q) (ap s.fate (sym same) ∙ is) (λ test.
      no_packet (subst (λ x. has_packet (s.message x) ≡ true) (sym same)
      (and_parts (is_away c s k lost && not (k + 1 == servers c)) (has_packet (s.message q)) test).1)))
      (λ other. is)

  pub stays : (e : Event) → MayHappen c s e → (next c s e).fate p ≡ Lost m
  stays (Enter q) legal = with_at_cases (λ v. v ≡ Lost m) s.fate q _ p (λ same. let at : q ≡ s.entered = legal.0 in
      absurd (not_new (omega arith))) (λ other. is)
  stays (Take k q) legal = is
  stays (Apply k q j x) legal = is
  stays (Visit k q w) legal = with_at_cases (λ v. v ≡ Lost m) s.fate q _ p
      (λ same. absurd (no_packet
      (subst (λ x. has_packet (s.message x) ≡ true) (sym same) (ap has_packet legal.3 ∙ ap is_some legal.5))))
      (λ other. is)
  stays (Pass k q) legal = left_stays k q false
  stays (Lose k q) legal = left_stays k q true
  stays (Carry q) legal = is
  stays (Crash k) legal = keep_if _ s.events m (s.fate p) is
      (λ test. elim (or_cases (loses_packet (λ (x : Message). is_at c k x.place) (s.message p)) ((k + 1 == servers c)
      && is_some (s.withheld p)) test) [
        | inl has ↦ no_packet (loses_has (λ (x : Message). is_at c k x.place) (s.message p) has)
        | inr held ↦ no_place (and_parts (k + 1 == servers c) (is_some (s.withheld p)) held).1
      ])
  stays (Recover k undone) legal =
      keep_if _ s.events m (s.fate p) is
      (λ test. elim (or_cases (loses_packet (is_dropped c s (following_live c s k)) (s.message p))
      (is_undone_drop undone p (s.fate p)) test) [
        | inl has ↦ no_packet (loses_has (is_dropped c s (following_live c s k)) (s.message p) has)
        | inr drop ↦ undone_not undone p m (s.fate p) is drop
      ])
  stays (Pull k) legal = is
  stays (Propagate q) legal = is
  stays (Release q) legal = with_at_cases (λ v. v ≡ Lost m) s.fate q Released p
      (λ same. absurd (no_place (subst (λ x. is_some (s.withheld x) ≡ true) (sym same) (ap is_some legal.1.0))))
      (λ other. is)

stays_on : (c : Setting) → IsGood c → (p m : ℕ) (after : List Event) (s : ChainState) → IsReached c s →
    AreLegal c s after → s.fate p ≡ Lost m → (state_after c s after).fate p ≡ Lost m
stays_on c good p m [] s r legal is = is
stays_on c good p m (e ∷ after) s r legal is =
    stays_on c good p m after (next c s e) (keeps_reached c good s r e legal.0.0) legal.1
    (stays c s r.fated p m is e legal.0.0)

pub lost_for_good : (c : Setting) → IsSetting c → (before after : List Event) → IsRun c (before ++ after) →
    (packet number : ℕ)
    → (state_after c (opening c) before).fate packet ≡ Lost number →
    (state_after c (opening c) (before ++ after)).fate packet ≡ Lost number
lost_for_good c setting before after run packet number is =
    let s : ChainState = state_after c (opening c) before in
    let kept = stays_on c (is_good c setting) packet number after s
    (reached c setting before (first_legal c before after (opening c) run))
    (rest_legal c before after (opening c) run) is in
    subst (λ (x : ChainState). x.fate packet ≡ Lost number) (sym (state_on c before after (opening c))) kept

-- ---- events are counted

pub count_on : (c : Setting) (journal : List Event) (s : ChainState) →
    (state_after c s journal).events ≡ s.events + length journal
count_on c [] s = omega arith
count_on c (e ∷ journal) s = count_on c journal (next c s e) ∙ omega arith

pub counted : (c : Setting) (journal : List Event) → (state_after c (opening c) journal).events ≡ length journal
counted c journal = let more : 0 + length journal ≡ length journal =
    omega arith in count_on c journal (opening c) ∙ more

-- ---- licence

next_line : (lines : List ScriptLine) (line : ScriptLine) → IsNextLine lines line → lines ≡ line ∷ lines_behind lines
next_line [] line is = absurd is
next_line (first ∷ lines) line is = ap (λ x. x ∷ lines) is

pub licensed : (c : Setting) (es : List Event) (s : ChainState) → AreLegal c s es →
    s.lines ≡ lines_done s.entered es ++ (state_after c s es).lines
licensed c [] s legal = refl
licensed c (Enter q ∷ es) s legal = licensed c es (next c s (Enter q)) legal.1
licensed c (Take k q ∷ es) s legal = licensed c es (next c s (Take k q)) legal.1
licensed c (Apply k q j x ∷ es) s legal = licensed c es (next c s (Apply k q j x)) legal.1
licensed c (Visit k q w ∷ es) s legal = licensed c es (next c s (Visit k q w)) legal.1
licensed c (Pass k q ∷ es) s legal = licensed c es (next c s (Pass k q)) legal.1
licensed c (Lose k q ∷ es) s legal = licensed c es (next c s (Lose k q)) legal.1
licensed c (Carry q ∷ es) s legal = licensed c es (next c s (Carry q)) legal.1
licensed c (Pull k ∷ es) s legal = licensed c es (next c s (Pull k)) legal.1
licensed c (Propagate q ∷ es) s legal = licensed c es (next c s (Propagate q)) legal.1
licensed c (Release q ∷ es) s legal = licensed c es (next c s (Release q)) legal.1
licensed c (Crash k ∷ es) s legal =
    next_line s.lines (line.Crash s.entered k) legal.0.0 ∙ ap (λ (x : List ScriptLine). line.Crash s.entered k
    ∷ x) (licensed c es (next c s (Crash k)) legal.1)
licensed c (Recover k undone ∷ es) s legal =
    next_line s.lines (line.Recover s.entered k) legal.0.0.0 ∙ ap (λ (x : List ScriptLine). line.Recover s.entered k
    ∷ x) (licensed c es (next c s (Recover k undone)) legal.1)

-- ---- the serial run of the whole trace

pub whole_run : (c : Setting) → IsSetting c → (journal : List Event) → IsRun c journal → (end : State)
    → serial_run c.rules (serial_opening c.packets) (trace_of journal) ≡ Some end →
    end ≡ serial_of c (state_after c (opening c) journal).trace
whole_run c setting journal run end is =
    let s : ChainState = state_after c (opening c) journal in
    let inv = always c (is_good c setting) (opens_fit c setting) journal run in
    same_Some end (serial_of c s.trace)
    (sym is ∙ subst (λ (steps : List Step). serial_run c.rules (serial_opening c.packets) steps
    ≡ Some (serial_of c s.trace)) (trace_is c setting journal run)
    (serial_runs c s.trace inv.world.serial))

pub whole_released : (c : Setting) → IsSetting c → (journal : List Event) → IsRun c journal → (end : State)
    → serial_run c.rules (serial_opening c.packets) (trace_of journal) ≡ Some end →
    end.released ≡ released_in (state_after c (opening c) journal).trace
whole_released c setting journal run end is =
    ap (λ (x : State). x.released) (whole_run c setting journal run end is) ∙ records_are c
    (state_after c (opening c) journal).trace

-- a packet is at its place in it exactly where it is there in the trace's
module _ (c : Setting) (setting : IsSetting c) (journal : List Event) (run : IsRun c journal) (end : State)
    (is : serial_run c.rules (serial_opening c.packets) (trace_of journal) ≡ Some end) (p : ℕ) where
  abbrev pub s : ChainState
  s = state_after c (opening c) journal

  fated : AreFated c s
  fated = let r = reached c setting journal run in r.fated

  serially : IsSerial c s.trace
  serially = let inv = always c (is_good c setting) (opens_fit c setting) journal run in inv.world.serial

  place_is : end.place p ≡ (serial_of c s.trace).place p
  place_is = ap (λ (x : State). x.place p) (whole_run c setting journal run end is)

  pub whole_given : (s.fate p ≡ Released) ↔ (end.place p ≡ Some position.Released)
  whole_given = (
    λ of. place_is ∙ given_released c s.trace serially p ((fated.fates p).released of),
    λ at. (fated.fates p).given (released_given c s.trace p (sym place_is ∙ at)),
  )

  filtered_at : (k : ℕ) → (s.fate p ≡ Filtered k) ↔ (end.place p ≡ Some (position.Filtered k))
  filtered_at k = (
    λ of. place_is ∙ dropped_filtered c s.trace serially k p ((fated.fates p).filtered k of),
    λ at. (fated.fates p).dropped k (filtered_dropped c s.trace k p (sym place_is ∙ at)),
  )

pub whole_filtered : (c : Setting) → IsSetting c → (journal : List Event) → IsRun c journal → (end : State)
    → serial_run c.rules (serial_opening c.packets) (trace_of journal) ≡ Some end → (server packet : ℕ)
    → ((state_after c (opening c) journal).fate packet ≡ Filtered server)
    ↔ (end.place packet ≡ Some (position.Filtered server))
whole_filtered c setting journal run end is server packet = filtered_at c setting journal run end is packet server

-- ---- what a recovery undoes

pub undoes : (c : Setting) → IsGood c → (s : ChainState) → Inv c s → (k : ℕ) (undone : List VisitName) →
    MayHappen c s (Recover k undone) → (j p : ℕ)
    → In (names undone) j p ↔ IsUndone c s (previous_live c s k) (following_live c s k) j p
undoes c good s h k undone legal j p =
    let n = servers c in
    let fit = fit_next c s.up s.lines (line.Recover s.entered k) legal.0 h.fit in
    let down = fit.1 refl in
    let z = fit_now c s.up s.lines h.fit k fit.0 in
    let other : z.0 ≢ k = λ e. true≢false (sym z.2 ∙ subst (λ v. s.up v ≡ false) (sym e) down) in
    let before = last_live n s.up k fit.0 z.0 z.1 z.2 other in
    let after = next_live n s.up k fit.0 z.0 z.1 z.2 other in
    undone_listed c s k undone legal.1 good.some before.below after.below h.world.serial j p
