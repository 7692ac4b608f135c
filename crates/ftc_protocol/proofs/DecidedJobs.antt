-- In each state of a run it can be decided which jobs are legal.
use Rattle.std.proofs.Common.{◌≡◌, ◌≢◌, ℕ, suc, ◌+◌, ◌-◌, ◌<◌, ◌≤◌, ◌==◌, ◌&&◌, Bool, true, false, List, [], ◌∷◌}
use Rattle.std.proofs.Common.{◌⊎◌, inl, inr, refl, sym, ap, subst, arith, eqb-true, eq-eqb, Option, Some, None}
use Rattle.std.proofs.lemmas.Bool.{and_parts, and_from}
use Rattle.std.proofs.lemmas.Option.{none-some}
use Rattle.std.specs.List.{AllByRecursion}
use Rattle.ftc_base.specs.declared.limits.TheConstants.{FINISHING_SLOT}
use Rattle.ftc_ring.specs.Ring.{next_of}
use Rattle.ftc_journal.specs.declared.event.Event.TheVariants as event
use Rattle.ftc_journal.specs.declared.job.Job.{Job}
use Rattle.ftc_journal.specs.declared.job.Job.TheVariants as job
use Rattle.ftc_script.specs.declared.line.ScriptLine.{ScriptLine}
use Rattle.ftc_script.specs.declared.line.ScriptLine.TheVariants as line
use Rattle.ftc_script.specs.Steps.{at_of}
use Rattle.ftc_serial.specs.Take.{Outcome}
use Rattle.ftc_serial.specs.Serial.{Entry, Visited, Given}
use Rattle.ftc_protocol.specs.Setting.{Setting, servers, count, IsSetting}
use Rattle.ftc_protocol.specs.State.{ChainState, Message, Withheld, Where, Held, Queued}
use Rattle.ftc_protocol.specs.Visits.{Visits, In, just}
use Rattle.ftc_protocol.specs.Changes.{is_changing, Meets, meets}
use Rattle.ftc_protocol.specs.Trace.{Has, has_each, IsVisit, IsInTrace, IsChanging, IsBefore}
use Rattle.ftc_protocol.specs.Known.{ServerHas, IsReady, IsDue, knows}
use Rattle.ftc_protocol.specs.Legal.{MayHappen, MayLeave, IsNextLine, IsStalled, is_sent}
use Rattle.ftc_protocol.specs.Measure.{most_messages}
use Rattle.ftc_protocol.specs.Jobs.{event_of, IsLegalJob}
use Rattle.ftc_protocol.specs.Drive.{IsNoneDue}
use Rattle.ftc_protocol.proofs.FinishedState.{no_due}
use Rattle.ftc_protocol.proofs.ReadyTest.{each_had, meets_true, meets_says}
use Rattle.ftc_protocol.proofs.HasEach.{each_has}
use Rattle.ftc_protocol.proofs.Sets.{in_one, one_in}
use Rattle.ftc_protocol.proofs.Places.{IsSerial}
use Rattle.ftc_protocol.proofs.TraceLemmas.{before_first}
use Rattle.ftc_protocol.proofs.VisitsPassed.{some_stands}
use Rattle.ftc_protocol.proofs.FewPropagates.{IsCounted, most}
use Rattle.ftc_protocol.proofs.BoundedSearch.{Decided, both, three, five, either, leads, same_as, equal, less, at_most}
use Rattle.ftc_protocol.proofs.BoundedSearch.{is_true, is_false, is_none, there_with, there_has, some_below, all_below}
use Rattle.ftc_protocol.proofs.BoundedSearch.{any_of, all_of}

-- ---- places

held_as : (w : Where) (k : ℕ) → Decided ((visited : Bool) × (by_ring : Bool) × (w ≡ Held k visited by_ring))
held_as (Queued l) k = inr (λ x. let e : Queued l ≡ Held k x.0 x.1 = x.2 in absurd (cc))
held_as (Held i v r) k = elim (equal i k) [
  | inl e ↦ inl (v, r, ap (λ x. Held x v r) e)
  | inr other ↦ inr (λ x. let e : Held i v r ≡ Held k x.0 x.1 = x.2 in other (cc))
]

held_so : (w : Where) (k : ℕ) (r : Bool) → Decided ((visited : Bool) × (w ≡ Held k visited r))
held_so w k r = elim (held_as w k) [
  | inr isnt ↦ inr (λ x. isnt (x.0, r, x.1))
  | inl x ↦ elim (Rattle.ftc_protocol.proofs.BoundedSearch.same_flag x.1 r) [
    | inl e ↦ inl (x.0, subst (λ b. w ≡ Held k x.0 b) e x.2)
    | inr other ↦ inr (λ y. let a : w ≡ Held k x.0 x.1 = x.2 in let b : w ≡ Held k y.0 r = y.1 in other (cc))
  ]
]

unvisited_at : (w : Where) (k : ℕ) → Decided ((by_ring : Bool) × (w ≡ Held k false by_ring))
unvisited_at w k = elim (held_as w k) [
  | inr isnt ↦ inr (λ x. isnt (false, x.0, x.1))
  | inl x ↦ elim (is_false x.0) [
    | inl e ↦ inl (x.1, subst (λ b. w ≡ Held k b x.1) e x.2)
    | inr other ↦ inr (λ y. let a : w ≡ Held k x.0 x.1 = x.2 in let b : w ≡ Held k false y.0 = y.1 in other (cc))
  ]
]

queued_on : (w : Where) (l : ℕ) → Decided (w ≡ Queued l)
queued_on (Held i v r) l = inr (λ e. absurd (cc))
queued_on (Queued k) l = elim (equal k l) [ inl e ↦ inl (ap Queued e) | inr other ↦ inr (λ e. other (cc)) ]

packet_in : (A : Type 0) (o : Option A) → Decided ((a : A) × (o ≡ Some a))
packet_in A None = inr (λ x. none-some x.0 x.1)
packet_in A (Some a) = inl (a, refl)

-- ---- lines

crash_next : (lines : List ScriptLine) (at k : ℕ) → Decided (IsNextLine lines (line.Crash at k))
crash_next [] at k = inr (λ x. x)
crash_next (line.Recover a b ∷ lines) at k = inr (λ e. absurd (cc))
crash_next (line.Crash a b ∷ lines) at k = elim (equal a at) [
  | inr other ↦ inr (λ e. other (cc))
  | inl same ↦ elim (equal b k) [ inr other ↦ inr (λ e. other (cc)) | inl too ↦ inl (cc) ]
]

recover_next : (lines : List ScriptLine) (at k : ℕ) → Decided (IsNextLine lines (line.Recover at k))
recover_next [] at k = inr (λ x. x)
recover_next (line.Crash a b ∷ lines) at k = inr (λ e. absurd (cc))
recover_next (line.Recover a b ∷ lines) at k = elim (equal a at) [
  | inr other ↦ inr (λ e. other (cc))
  | inl same ↦ elim (equal b k) [ inr other ↦ inr (λ e. other (cc)) | inl too ↦ inl (cc) ]
]

-- ---- the trace

changing_in : (part : ℕ) (trace : List Entry) (j q : ℕ) → Decided (IsChanging part trace j q)
changing_in part trace j q = any_of Entry (IsVisit (λ o. is_changing part o ≡ true) j q) each trace
  where
    each : (e : Entry) → Decided (IsVisit (λ o. is_changing part o ≡ true) j q e)
    each (Given x bytes) = inr (λ x. x)
    each (Visited k x o) = three (k ≡ j) (x ≡ q) (is_changing part o ≡ true) (equal k j) (equal x q)
        (is_true (is_changing part o))

met_in : (part : ℕ) (later : Outcome) (trace : List Entry) (j q : ℕ) →
    Decided (IsInTrace (λ earlier. Meets part earlier later) trace j q)
met_in part later trace j q = any_of Entry (IsVisit (λ earlier. Meets part earlier later) j q) each trace
  where
    each : (e : Entry) → Decided (IsVisit (λ earlier. Meets part earlier later) j q e)
    each (Given x bytes) = inr (λ x. x)
    each (Visited k x o) = three (k ≡ j) (x ≡ q) (Meets part o later) (equal k j) (equal x q)
        (same_as (meets part o later ≡ true) (Meets part o later) (meets_says part o later) (meets_true part o later)
        (is_true (meets part o later)))

before_in : (part : ℕ) (trace : List Entry) (j p q : ℕ) → Decided (IsBefore part trace j p q)
before_in part [] j p q = inr (λ x. x)
before_in part (Given x bytes ∷ older) j p q = elim (before_in part older j p q) [
  | inl there ↦ inl (inr there)
  | inr isnt ↦ inr (λ b. elim b [ inl here ↦ absurd here.0 | inr there ↦ isnt there ])
]
before_in part (Visited k x o ∷ older) j p q =
    either ((x ≡ q) × ((k ≡ j) × IsInTrace (λ earlier. Meets part earlier o) older j p)) (IsBefore part older j p q)
    (both (x ≡ q) ((k ≡ j) × IsInTrace (λ earlier. Meets part earlier o) older j p) (equal x q)
    (both (k ≡ j) (IsInTrace (λ earlier. Meets part earlier o) older j p) (equal k j) (met_in part o older j p)))
    (before_in part older j p q)

module _ (c : Setting) (is : IsSetting c) (s : ChainState) (n : IsCounted c s) where
  open n use {reached, shaped}

  serial : IsSerial c s.trace
  serial = reached.live.inv.world.serial

  -- the numbers of messages are bounded
  pub numbered : (p : ℕ) (m : Message) → s.message p ≡ Some m → p < most_messages c
  numbered p m there =
      let bound = most c is s n in
      let entered = reached.live.timed.bounded in
      elim (reached.live.numbered p m there) [ inl less ↦ omega arith | inr more ↦ let l1 = more.1 in omega arith ]

  pub visited_packet : (P : Outcome → Type 0) (j q : ℕ) → IsInTrace P s.trace j q → q < count c
  visited_packet P j q there = let low = shaped.visited j q (some_stands P s.trace j q there) in let entered =
      reached.live.timed.bounded in omega arith

  -- ---- what a server has

  all_had : (set wanted : Visits) → Decided ((j q : ℕ) → In wanted j q → Has c.partitions s.trace set j q)
  all_had set wanted = same_as (has_each c.partitions s.trace set wanted ≡ true) ((j q : ℕ) → In wanted j q →
      Has c.partitions s.trace set j q)
      (λ all j q want. each_had c.partitions set wanted j q want s.trace all)
      (λ each. each_has c set wanted s.trace serial each)
      (is_true (has_each c.partitions s.trace set wanted))

  one_had : (set : Visits) (j q : ℕ) → Decided (Has c.partitions s.trace set j q)
  one_had set j q = same_as ((i x : ℕ) → In (just j q true) i x →
      Has c.partitions s.trace set i x) (Has c.partitions s.trace set j q)
      (λ all. all j q (one_in j q true refl))
      (λ has i x it. let e = in_one j q true i x it in
      subst (λ v. Has c.partitions s.trace set v x) e.0
      (subst (λ v. Has c.partitions s.trace set j v) (sym e.1) has))
      (all_had set (just j q true))

  ready_at : (k : ℕ) (m : Message) → Decided (IsReady c s k m)
  ready_at k m = all_had (s.lists k) m.logs

  -- ---- releases

  is_due : (p : ℕ) (w : Withheld) → s.withheld p ≡ Some w → Decided (IsDue c s p w)
  is_due p w there = both (s.withheld p ≡ Some w) ((group : ℕ) → w.needs group ≡ true →
      Has c.partitions s.trace (knows c s (servers c - 1)) group p) (inl there)
      (same_as ((j q : ℕ) → In (λ group x. (x == p) && w.needs group) j q →
      Has c.partitions s.trace (knows c s (servers c - 1)) j q)
      ((group : ℕ) → w.needs group ≡ true → Has c.partitions s.trace (knows c s (servers c - 1)) group p)
      (λ all group need. all group p (and_from (p == p) (w.needs group) (eq-eqb p p refl) need))
      (λ each j q it. let parts = and_parts (q == p) (w.needs j) it in
      subst (λ v. Has c.partitions s.trace (knows c s (servers c - 1)) j v) (sym (eqb-true q p parts.0))
      (each j parts.1))
      (all_had (knows c s (servers c - 1)) (λ group x. (x == p) && w.needs group)))

  buffered_below : (p : ℕ) (w : Withheld) → s.withheld p ≡ Some w → p < count c
  buffered_below p w there = let low = reached.fated.buffered p w there in let entered = reached.live.timed.bounded in
      omega arith

  -- nothing that is due came before
  none_before : (w : Withheld) → Decided ((other : ℕ) (v : Withheld) → IsDue c s other v → w.since ≤ v.since)
  none_before w = same_as ((other : ℕ) → other < count c → (v : Withheld) → s.withheld other ≡ Some v →
      IsDue c s other v → w.since ≤ v.since) ((other : ℕ) (v : Withheld) → IsDue c s other v → w.since ≤ v.since)
      (λ all other v due. all other (buffered_below other v due.0) v due.0 due)
      (λ all other below v there due. all other v due)
      (all_below (count c) (λ other. (v : Withheld) → s.withheld other ≡ Some v → IsDue c s other v → w.since ≤ v.since)
      (λ other. there_has Withheld (s.withheld other) (λ v. IsDue c s other v →
      w.since ≤ v.since) (λ v there. leads (IsDue c s other v) (w.since ≤ v.since) (is_due other v there)
      (at_most w.since v.since))))

  releasable : (p : ℕ) → Decided (MayHappen c s (event.Release p))
  releasable p = same_as ((w : Withheld) × (s.withheld p ≡ Some w)
      × (IsDue c s p w × ((other : ℕ) (v : Withheld) → IsDue c s other v → w.since ≤ v.since)))
      (MayHappen c s (event.Release p))
      (λ x. (x.0, x.2.0, x.2.1))
      (λ x. (x.0, x.1.0, (x.1, x.2)))
      (there_with Withheld (s.withheld p) (λ w. IsDue c s p w
      × ((other : ℕ) (v : Withheld) → IsDue c s other v → w.since ≤ v.since))
      (λ w there. both (IsDue c s p w) ((other : ℕ) (v : Withheld) → IsDue c s other v →
      w.since ≤ v.since) (is_due p w there) (none_before w)))

  pub release_or_none : ((p : ℕ) × MayHappen c s (event.Release p)) ⊎ IsNoneDue c s
  release_or_none = elim (some_below (count c) (λ p. MayHappen c s (event.Release p)) releasable) [
    | inl x ↦ inl (x.0, x.2)
    | inr none ↦ inr (λ p w due. no_due c s (λ q legal. none (q, buffered_below q legal.0 legal.1.0, legal))
        (suc w.since) p w due (omega arith))
  ]

  -- ---- jobs

  no_line_at : (p : ℕ) → Decided (AllByRecursion (λ (line : ScriptLine). at_of line ≢ p) s.lines)
  no_line_at p = all_of ScriptLine (λ line. at_of line ≢ p)
      (λ line. leads (at_of line ≡ p) ⊥ (equal (at_of line) p) (inr (λ x. x))) s.lines

  oldest_on : (l : ℕ) (m : Message) →
      Decided ((other : ℕ) (queued : Message) → s.message other ≡ Some queued → queued.place ≡ Queued l →
      m.since ≤ queued.since)
  oldest_on l m = same_as ((other : ℕ) → other < most_messages c → (queued : Message) → s.message other ≡ Some queued →
      queued.place ≡ Queued l → m.since ≤ queued.since)
      ((other : ℕ) (queued : Message) → s.message other ≡ Some queued → queued.place ≡ Queued l →
      m.since ≤ queued.since)
      (λ all other queued there. all other (numbered other queued there) queued there)
      (λ all other below queued there. all other queued there)
      (all_below (most_messages c) (λ other. (queued : Message) → s.message other ≡ Some queued →
      queued.place ≡ Queued l → m.since ≤ queued.since)
      (λ other. there_has Message (s.message other) (λ queued. queued.place ≡ Queued l → m.since ≤ queued.since)
      (λ queued there. leads (queued.place ≡ Queued l) (m.since ≤ queued.since) (queued_on queued.place l)
      (at_most m.since queued.since))))

  take_may : (l p : ℕ) → Decided (MayHappen c s (event.Take l p))
  take_may l p = same_as ((m : Message) × (s.message p ≡ Some m)
      × ((m.place ≡ Queued l) × ((other : ℕ) (queued : Message) → s.message other ≡ Some queued →
      queued.place ≡ Queued l → m.since ≤ queued.since)))
      (MayHappen c s (event.Take l p))
      (λ x. (x.0, x.1, x.2.0, x.2.1))
      (λ x. (x.0, x.1, (x.2, x.3)))
      (there_with Message (s.message p) (λ m. (m.place ≡ Queued l)
      × ((other : ℕ) (queued : Message) → s.message other ≡ Some queued → queued.place ≡ Queued l →
      m.since ≤ queued.since))
      (λ m there. both (m.place ≡ Queued l) ((other : ℕ) (queued : Message) → s.message other ≡ Some queued →
      queued.place ≡ Queued l → m.since ≤ queued.since) (queued_on m.place l) (oldest_on l m)))

  earlier_had : (k j q : ℕ) →
      Decided ((earlier : ℕ) → IsBefore c.partitions s.trace j earlier q → In (s.lists k) j earlier)
  earlier_had k j q = same_as ((earlier : ℕ) → earlier < count c → IsBefore c.partitions s.trace j earlier q →
      In (s.lists k) j earlier) ((earlier : ℕ) → IsBefore c.partitions s.trace j earlier q → In (s.lists k) j earlier)
      (λ all earlier before. all earlier
      (visited_packet (λ o. is_changing c.partitions o
      ≡ true) j earlier (before_first c.partitions s.trace j earlier q before)) before)
      (λ all earlier below before. all earlier before)
      (all_below (count c) (λ earlier. IsBefore c.partitions s.trace j earlier q → In (s.lists k) j earlier)
      (λ earlier. leads (IsBefore c.partitions s.trace j earlier q) (In (s.lists k) j earlier)
      (before_in c.partitions s.trace j earlier q) (is_true (s.lists k j earlier))))

  smaller_had : (k j q : ℕ) (m : Message) →
      Decided ((smaller : ℕ) → smaller < j → In m.logs smaller q → ServerHas c s k smaller q)
  smaller_had k j q m = all_below j (λ smaller. In m.logs smaller q → ServerHas c s k smaller q)
      (λ smaller. leads (In m.logs smaller q) (ServerHas c s k smaller q) (is_true (m.logs smaller q))
      (one_had (s.lists k) smaller q))

  apply_may : (k p j q : ℕ) → Decided (MayHappen c s (event.Apply k p j q))
  apply_may k p j q =
      let Rest : Message → Type 0 = λ m. ((visited : Bool) × (by_ring : Bool) × (m.place ≡ Held k visited by_ring))
      × (In m.logs j q × (IsChanging c.partitions s.trace j q × ((s.lists k j q ≡ false)
      × (((earlier : ℕ) → IsBefore c.partitions s.trace j earlier q → In (s.lists k) j earlier)
      × ((smaller : ℕ) → smaller < j → In m.logs smaller q → ServerHas c s k smaller q))))) in
      same_as ((m : Message) × (s.message p ≡ Some m) × Rest m) (MayHappen c s (event.Apply k p j q))
      (λ x. (x.0, (x.1, x.2.0.0, x.2.0.1, x.2.0.2), x.2.1.0, x.2.1.1.0, x.2.1.1.1.0, x.2.1.1.1.1.0, x.2.1.1.1.1.1))
      (λ x. (x.0, x.1.0, ((x.1.1, x.1.2, x.1.3), (x.2, (x.3, (x.4, (x.5, x.6)))))))
      (there_with Message (s.message p) Rest
      (λ m there. both _ _ (held_as m.place k)
      (both _ _ (is_true (m.logs j q))
      (both _ _ (changing_in c.partitions s.trace j q)
      (both _ _ (is_false (s.lists k j q)) (both _ _ (earlier_had k j q) (smaller_had k j q m)))))))

  visit_may : (k p w : ℕ) → Decided (MayHappen c s (event.Visit k p w))
  visit_may k p w =
      let Rest : Message → Type 0 =
      λ m. ((by_ring : Bool) × (m.place ≡ Held k false by_ring))
      × (((bytes : List ℕ) × (m.packet ≡ Some bytes)) × IsReady c s k m) in
      same_as ((m : Message) × (s.message p ≡ Some m) × Rest m) (MayHappen c s (event.Visit k p w))
      (λ x. (x.0, x.2.1.0.0, x.2.0.0, x.1, x.2.0.1, x.2.1.0.1, x.2.1.1))
      (λ x. (x.0, x.3, ((x.2, x.4), ((x.1, x.5), x.6))))
      (there_with Message (s.message p) Rest
      (λ m there. both _ _ (unvisited_at m.place k) (both _ _ (packet_in (List ℕ) m.packet) (ready_at k m))))

  pass_may : (k p : ℕ) (P : Type 0) → Decided P → Decided ((m : Message) × MayLeave c s k p m × P)
  pass_may k p P decided =
      let Rest : Message → Type 0 =
      λ m. ((visited : Bool) × (m.place ≡ Held k visited false) × ((visited ≡ true) ⊎ (m.packet ≡ None)))
      × (IsReady c s k m × P) in
      same_as ((m : Message) × (s.message p ≡ Some m) × Rest m) ((m : Message) × MayLeave c s k p m × P)
      (λ x. (x.0, record { there = x.1; visited = x.2.0.0; held = x.2.0.1; ready = x.2.1.0; done = x.2.0.2 }, x.2.1.1))
      (λ x. (x.0, x.1.there, ((x.1.visited, x.1.held, x.1.done), (x.1.ready, x.2))))
      (there_with Message (s.message p) Rest (λ m there. both _ _ (done_at m) (both _ _ (ready_at k m) decided)))
    where
      done_at : (m : Message) → Decided ((visited : Bool) × (m.place ≡ Held k visited false)
          × ((visited ≡ true) ⊎ (m.packet ≡ None)))
      done_at m = elim (held_so m.place k false) [
        | inr isnt ↦ inr (λ x. isnt (x.0, x.1))
        | inl x ↦ elim (either (x.0 ≡ true) (m.packet ≡ None) (is_true x.0) (is_none (List ℕ) m.packet)) [
          | inl done ↦ inl (x.0, x.1, done)
          | inr isnt ↦ inr (λ y. let a : m.place ≡ Held k x.0 false = x.1 in let b : m.place ≡ Held k y.0 false = y.1 in
              let e : y.0 ≡ x.0 = cc in
              isnt (subst (λ v. (v ≡ true) ⊎ (m.packet ≡ None)) e y.2))
        ]
      ]

  carry_may : (p : ℕ) → Decided (MayHappen c s (event.Carry p))
  carry_may p =
      let Rest : Message → Type 0 = λ m. ((visited : Bool) × (m.place ≡ Held 0 visited true)) × IsReady c s 0 m in
      same_as ((m : Message) × (s.message p ≡ Some m) × Rest m) (MayHappen c s (event.Carry p))
      (λ x. (x.0, x.1, x.2.0.0, x.2.0.1, x.2.1))
      (λ x. (x.0, x.1, ((x.2, x.3), x.4)))
      (there_with Message (s.message p) Rest (λ m there. both _ _ (held_so m.place 0 true) (ready_at 0 m)))

  -- no message stands at server 0 but those from the ring
  none_begun : Decided ((other : ℕ) (m : Message) → s.message other ≡ Some m → (visited : Bool) →
      m.place ≢ Held 0 visited false)
  none_begun = same_as ((other : ℕ) → other < most_messages c → (m : Message) → s.message other ≡ Some m →
      (visited : Bool) → m.place ≢ Held 0 visited false)
      ((other : ℕ) (m : Message) → s.message other ≡ Some m → (visited : Bool) → m.place ≢ Held 0 visited false)
      (λ all other m there. all other (numbered other m there) m there)
      (λ all other below m there. all other m there)
      (all_below (most_messages c) (λ other. (m : Message) → s.message other ≡ Some m → (visited : Bool) →
      m.place ≢ Held 0 visited false)
      (λ other. there_has Message (s.message other) (λ m. (visited : Bool) → m.place ≢ Held 0 visited false)
      (λ m there. same_as (((visited : Bool) × (m.place ≡ Held 0 visited false)) → ⊥) ((visited : Bool) →
      m.place ≢ Held 0 visited false) (λ f visited e. f (visited, e)) (λ f x. f x.0 x.1)
      (leads ((visited : Bool) × (m.place ≡ Held 0 visited false)) ⊥ (held_so m.place 0 false) (inr (λ x. x))))))

  some_forwarded : Decided ((group : ℕ) × (packet : ℕ) × In s.forwarder group packet)
  some_forwarded = same_as ((group : ℕ) × (group < servers c)
      × ((packet : ℕ) × (packet < count c) × In s.forwarder group packet)) ((group : ℕ) × (packet : ℕ)
      × In s.forwarder group packet)
      (λ x. (x.0, x.2.0, x.2.2))
      (λ x. let w = reached.live.inv.forward.member x.0 x.1 x.2 in (x.0, w.0, (x.1, visited_packet _ x.0 x.1 w.2, x.2)))
      (some_below (servers c) (λ group. (packet : ℕ) × (packet < count c)
      × In s.forwarder group packet)
      (λ group. some_below (count c) (λ packet. In s.forwarder group packet)
      (λ packet. is_true (s.forwarder group packet))))

  is_stalled : Decided (IsStalled c s)
  is_stalled = same_as (((origin : ℕ) → origin < most_messages c → s.message origin ≡ None)
      × (((link : ℕ) → link < servers c → s.gap link ≡ false)
      × ((packet : ℕ) × (packet < count c) × (s.withheld packet ≢ None)))) (IsStalled c s)
      (λ x. record { messages = nowhere x.0; gaps = x.1.0; packet = x.1.1.0; withheld = x.1.1.2 })
      (λ x. (λ origin below. x.messages origin, (x.gaps, (x.packet, below x.packet x.withheld, x.withheld))))
      (both _ _ (all_below (most_messages c) (λ origin. s.message origin
      ≡ None) (λ origin. is_none Message (s.message origin)))
      (both _ _ (all_below (servers c) (λ link. s.gap link ≡ false) (λ link. is_false (s.gap link)))
      (some_below (count c) (λ packet. s.withheld packet ≢ None)
      (λ packet. leads (s.withheld packet ≡ None) ⊥ (is_none Withheld (s.withheld packet)) (inr (λ x. x))))))
    where
      nowhere : ((origin : ℕ) → origin < most_messages c → s.message origin ≡ None) → (origin : ℕ) →
          s.message origin ≡ None
      nowhere low origin = elim (s.message origin) as (λ o. s.message origin ≡ o → s.message origin ≡ None) [
        | None ↦ λ e. e
        | Some m ↦ λ e. low origin (numbered origin m e)
      ] refl

      below : (packet : ℕ) → s.withheld packet ≢ None → packet < count c
      below packet some = elim (s.withheld packet) as (λ o. s.withheld packet ≡ o → packet < count c) [
        | None ↦ λ e. absurd (some e)
        | Some w ↦ λ e. buffered_below packet w e
      ] refl

  propagate_may : (p : ℕ) → Decided (MayHappen c s (event.Propagate p))
  propagate_may p = five _ _ _ _ _ (equal s.entered (count c))
      (all_below (servers c) (λ k. s.up k ≡ true) (λ k. is_true (s.up k))) none_begun
      (either _ _ some_forwarded is_stalled) (equal p (count c + s.propagates))

  pub may : (j : Job) → Decided (MayHappen c s (event_of c s FINISHING_SLOT j))
  may (job.Enter p) = three _ _ _ (equal p s.entered) (less p (count c)) (no_line_at p)
  may (job.Take l p) = take_may l p
  may (job.Apply k p j q) = apply_may k p j q
  may (job.Visit k p) = visit_may k p FINISHING_SLOT
  may (job.Pass k p) = pass_may k p _ (either _ _ (is_false (c.loses k p)) (is_false (is_sent c k)))
  may (job.Lose k p) = same_as ((m : Message) × MayLeave c s k p m
      × ((is_sent c k ≡ true) × (c.loses k p ≡ true))) (MayHappen c s (event.Lose k p)) (λ x. (x.0, x.1, x.2.0, x.2.1))
      (λ x. (x.0, x.1, (x.2, x.3))) (pass_may k p _ (both _ _ (is_true (is_sent c k)) (is_true (c.loses k p))))
  may (job.Carry p) = carry_may p
  may (job.Crash k) = crash_next s.lines s.entered k
  may (job.Recover k) = both _ _ (recover_next s.lines s.entered k) (inl refl)
  may (job.Pull l) = three _ _ _ (is_true (s.up l)) (is_true (s.up (next_of (servers c) l))) (is_true (s.gap l))
  may (job.Propagate p) = propagate_may p

  pub is_legal : (j : Job) → Decided (IsLegalJob c s j)
  is_legal j = elim release_or_none [
    | inl r ↦ inr (λ legal. Rattle.ftc_protocol.proofs.UniqueDrive.job_none_due c s FINISHING_SLOT j legal r.0 r.1.0
        r.1.1)
    | inr none ↦ elim (may j) [ inl can ↦ inl (can, λ not_release. none) | inr cannot ↦ inr (λ legal. cannot legal.0) ]
  ]
