-- A recovery.
use Rattle.std.proofs.Common.{◌≡◌, ◌≢◌, ℕ, ◌+◌, ◌-◌, ◌<◌, ◌≤◌, ◌==◌, ◌&&◌, Bool, true, false, not, List, inl, inr, refl}
use Rattle.std.proofs.Common.{sym, subst, ◌∙◌, arith, ◌↔◌, eqb-true, Some, eq-eqb}
use Rattle.std.proofs.lemmas.Bool.{true≢false, cases_eq, cases_lt, and_from, or_cases}
use Rattle.ftc_script.specs.declared.line.ScriptLine.TheVariants as script_line
use Rattle.ftc_protocol.proofs.CarriedLogs.{AreCarried}
use Rattle.ftc_protocol.proofs.Premises.{AreFit, IsAdmissible, IsGood, ticked}
use Rattle.ftc_protocol.specs.State.{ChainState, Held, Message, Queued, Where, Withheld}
use Rattle.ftc_serial.specs.Serial.{Entry}
use Rattle.ftc_protocol.specs.Trace.{Has, IsInTrace, IsTouching, has_each}
use Rattle.ftc_protocol.specs.Visits.{In, Visits, union}
use Rattle.ftc_protocol.proofs.Invariant.{Inv, IsSafe, IsSteady, IsWithheld, expected, knows_safe, target}
use Rattle.ftc_protocol.proofs.Invariant.{under_way_moves}
use Rattle.ftc_protocol.proofs.LiveHolders.{IsAwake, IsUp, kept_some, stays_awake}
use Rattle.ftc_protocol.proofs.RecoveryBetween.{IsBetween, between_down, carried_had, first_after, member_after}
use Rattle.ftc_protocol.proofs.RingDistances.{IsLastLive, IsNextLive, apart_after, apart_cases, last_live, next_live}
use Rattle.ftc_protocol.proofs.UndoneVisits.{IsUndone}
use Rattle.ftc_protocol.proofs.GroupDistance.{IsWithin, within_recovers}
use Rattle.ftc_protocol.specs.Legal.{MayHappen}
use Rattle.ftc_serial.specs.Take.{Outcome}
use Rattle.ftc_journal.specs.declared.event.Event.TheVariants.{Recover}
use Rattle.ftc_protocol.specs.Setting.{Setting, packet_at, servers}
use Rattle.ftc_protocol.proofs.VisitsPassed.{Somehow, some_stands}
use Rattle.ftc_journal.specs.declared.event.VisitName.{VisitName}
use Rattle.ftc_protocol.proofs.TraceAndLists.{World, passed_last, place_kept, world_recovers}
use Rattle.ftc_ring.specs.Ring.{apart, next_of}
use Rattle.ftc_protocol.specs.Next.{drop_if, lines_behind, next, recovered}
use Rattle.ftc_protocol.proofs.ReadyTest.{each_had}
use Rattle.ftc_protocol.proofs.SmallEvents.{fit_next, fit_now}
use Rattle.ftc_protocol.specs.Recovery.{following_live, is_dropped, is_dropped_at, list_got, previous_live}
use Rattle.ftc_protocol.proofs.UndoneRemoval.{head_between, lacks}
use Rattle.ftc_protocol.specs.Changes.{is_changing, is_touching}
use Rattle.ftc_protocol.specs.Known.{knows}
use Rattle.ftc_serial.specs.Removal.{left_of}
use Rattle.ftc_serial.specs.Trace.{names}
use Rattle.ftc_protocol.proofs.Places.{placed, serial_of}
use Rattle.ftc_protocol.proofs.ListStores.{stands_below, touching_changing}
use Rattle.ftc_protocol.proofs.UndoneList.{undone_listed}
use Rattle.ftc_protocol.proofs.TraceLemmas.{visit_left, visit_stood}
use Rattle.ftc_protocol.proofs.EarlierVisits.{visited_earlier}
use Rattle.ftc_serial.specs.Words.{with_at}
use Rattle.ftc_serial.proofs.Functions.{with_at_cases}

module _ (c : Setting) (good : IsGood c) (s : ChainState) (h : Inv c s) (m r t : ℕ) (inside : m < (servers c))
    (down : s.up m ≡ false)
    (before : IsLastLive (servers c) s.up m r) (after : IsNextLive (servers c) s.up m t)
    (admissible : IsAdmissible c s.up)
    (gone : Visits) (exact : (j p : ℕ) → In gone j p ↔ IsUndone c s r t j p) where
  trace' : List Entry
  trace' = left_of gone s.trace

  up' : ℕ → Bool
  up' = with_at s.up m true

  has' : ℕ → Visits
  has' = with_at s.lists m (list_got c s m r t)

  ex : (j p : ℕ) → IsUndone c s r t j p → In gone j p
  ex j p = (exact j p).1

  below : (P : Outcome → Type 0) (i q : ℕ) → IsInTrace P s.trace i q → i < (servers c)
  below P i q t' = stands_below c good.some P s.trace h.world.serial i q t'

  stood : (P : Outcome → Type 0) (i q : ℕ) → IsInTrace P trace' i q → IsInTrace P s.trace i q
  unfolding trace'
  stood P i q t' = (visit_stood gone P s.trace i q t').0

  moves : (i q d : ℕ) → IsTouching trace' i q → IsWithin c s.trace s.up s.lists i q d → IsWithin c trace' up' has' i q d
  unfolding trace' up' has'
  moves i q d t' v = within_recovers c s m r t inside down before after gone ex i q d
      (below _ i q (visit_stood gone _ s.trace i q t').0) t' v

  between_of : (j p : ℕ) → IsUndone c s r t j p → IsInTrace Somehow s.trace j p → IsBetween (servers c) r t j
  between_of j p u st = head_between c s good.some good.sound h.world.lists h.world.nest h.world.serial h.world.passed
      h.world.earlier h.world.released admissible m r t inside down before after j p u st

  safe_moves : (j q : ℕ) → IsSafe c s.trace s.up s.lists j q → IsSafe c trace' up' has' j q
  unfolding trace'
  safe_moves j q safe =
      let stays : gone j q ≡ false = elim (gone j q) as (λ b. gone j q ≡ b → b ≡ false) [
        | true ↦ λ g.
            let u = (exact j q).0 g in
            let between = between_of j q u (some_stands _ s.trace j q safe.changing) in
            let jl = below _ j q safe.changing in
            let jt = apart_cases (servers c) j t jl after.below in
            let had = safe.within t after.below after.live
            (member_after c s m r t inside down before after admissible j jl between) (omega arith) in
            absurd (lacks c s good.some good.sound h.world.lists h.world.nest h.world.serial h.world.passed
            h.world.earlier h.world.released admissible m r t inside down before after j q u safe.changing
            (had.changing safe.changing))
        | false ↦ λ g. refl
      ] refl in
      let changing = visit_left gone (λ o. is_changing c.partitions o ≡ true) s.trace j q safe.changing stays in
      record {
        changing = changing;
        within = moves j q (servers c)
            (visit_left gone (λ o. is_touching o
            ≡ true) s.trace j q (touching_changing c good.sound s.trace h.world.serial j q safe.changing) stays)
            safe.within;
      }

  carried_by : (logs : Visits) (x : ℕ) →
      ((i j q : ℕ) → In logs j q → i ≤ j → IsTouching s.trace i q → IsBetween (servers c) r t i →
      Has c.partitions s.trace (s.lists t) i q)
      → AreCarried c s.trace s.up s.lists logs x → AreCarried c trace' up' has' logs x
  unfolding trace'
  carried_by logs x had a = record {
    member = λ j q is. let w = a.member j q is in (
      w.0,
      w.1,
      visit_left gone (λ o. is_touching o ≡ true) s.trace j q w.2 (elim (gone j q) as (λ b. gone j q ≡ b → b ≡ false) [
        | true ↦ λ g. let u = (exact j q).0 g in absurd (u.2.3 (had u.0 j q is u.1 u.2.0 (u.2.1, u.2.2)))
        | false ↦ λ g. refl
      ] refl),
    );
    wake = λ i j q is le t'. moves i q _ t' (a.wake i j q is le (stood _ i q t'));
    together = λ i j q is le t'. a.together i j q is le (stood _ i q t');
  }

  forward' : AreCarried c trace' up' has' s.forwarder (next_of (servers c) 0)
  forward' = carried_by s.forwarder (next_of (servers c) 0) (λ i j q is le touching between.
      let n = (servers c) in
      let w = h.forward.member j q is in
      let jl : j < n = w.0 in let il : i < n = omega arith in
      let member = member_after c s m r t inside down before after admissible i il between in
      let x = next_of n 0 in
      elim (cases_lt (apart n i t) ((j - i) + apart n j x)) [
        | inl behind ↦ h.forward.wake i j q is le touching t after.below after.live member behind
        | inr ahead ↦
            let zero' : 0 < n = good.some in
            let first : apart n i t ≤ apart n i 0 =
            first_after c s m r t inside down before after i 0 il between zero' (h.forward_live j q is) in
            elim (apart_after n 0 zero') [
              | inr alone ↦ let e : 0 ≡ m =
                  omega arith in absurd (true≢false
                  (sym (h.forward_live j q is) ∙ subst (λ v. s.up v ≡ false) (sym e) down))
              | inl step ↦
                  let st = step.0 in let small = good.small in let far : apart n j x ≤ c.failures = w.1 in
                  let it = apart_cases n i t il after.below in let i0 = apart_cases n i 0 il zero' in let ix =
                  apart_cases n i x il step.1 in let jx = apart_cases n j x jl step.1 in let j0 =
                  apart_cases n j 0 jl zero' in
                  let pos : 0 < apart n j x = h.forward_far j q is in
                  absurd (omega arith)
            ]
      ]) h.forward

  -- a message that stays is at a live server, and where that is t it is ready
  pub up_target : (w : Where) → IsUp (servers c) s.up w → s.up (target (servers c) w) ≡ true
  up_target (Held k visited by_ring) u = u
  up_target (Queued l) u = u

  pub ready_at : (logs : Visits) (w : Where) → is_dropped_at c s t logs w ≡ false → target (servers c) w ≡ t →
      (j q : ℕ) → In logs j q → Has c.partitions s.trace (s.lists t) j q
  ready_at logs (Held i visited by_ring) kept_here is j q log =
      each_had c.partitions (s.lists t) logs j q log s.trace
      (elim (has_each c.partitions s.trace (s.lists t) logs) as (λ b. (i == t) && not b ≡ false → b ≡ true) [
        | true ↦ λ e. refl
        | false ↦ λ e. absurd (true≢false (sym (and_from (i == t) true (eq-eqb i t is) refl) ∙ e))
      ] kept_here)
  ready_at logs (Queued l) kept_here is j q log = absurd (true≢false (sym (eq-eqb _ t is) ∙ kept_here))

  -- where a packet under way has been
  stands_upto : (w : Where) (bytes : (List ℕ)) (q : ℕ) → (serial_of c s.trace).place q ≡ expected (servers c) w bytes →
      (j : ℕ) → IsInTrace Somehow s.trace j q → j ≤ target (servers c) w
  stands_upto (Held k false by_ring) bytes q place j st = let less : j < k =
      visited_earlier c s.trace k q bytes h.world.serial place j st in omega arith
  stands_upto (Queued l) bytes q place j st = let less : j < next_of (servers c) l =
      visited_earlier c s.trace (next_of (servers c) l) q bytes h.world.serial place j st in omega arith
  stands_upto (Held k true by_ring) bytes q place j st =
      elim (k + 1 == (servers c)) as (λ b. k + 1 == (servers c) ≡ b →
      (serial_of c s.trace).place q ≡ (placed b k bytes) → j ≤ k) [
        | true ↦ λ e at. let jl : j < (servers c) = below Somehow j q st in let last : k + 1 ≡ (servers c) =
            eqb-true (k + 1) (servers c) e in omega arith
        | false ↦ λ e at. let less : j < k + 1 = visited_earlier c s.trace (k + 1) q bytes h.world.serial at j st in
            omega arith
      ] refl place

  way_kept : (q : ℕ) (n : Message) (bytes : (List ℕ)) → s.message q ≡ Some n → is_dropped c s t n ≡ false →
      n.packet ≡ Some bytes → (j : ℕ) → IsInTrace Somehow s.trace j q → IsUndone c s r t j q → ⊥
  way_kept q n bytes at stays packet j st u =
      let N = (servers c) in
      let way = (h.messages q n at).under_way bytes packet in
      let x = target N n.place in
      let live : s.up x ≡ true = up_target n.place (h.awake q n at) in
      let xl = h.world.inside x live in
      let i = u.0 in let root = u.2 in let le : i ≤ j = u.1 in
      let upto : j ≤ x = stands_upto n.place bytes q way.place j st in
      let il : i < N = omega arith in
      let between : IsBetween N r t i = (root.1, root.2) in
      elim (cases_eq i x) [
        | inl same ↦ true≢false (sym live ∙ between_down c s m r t inside down before after x xl
            (subst (λ v. IsBetween N r t v) same between))
        | inr other ↦
            let less : i < x = omega arith in
            let member = member_after c s m r t inside down before after admissible i il between in
            elim (cases_lt (apart N i t) (x - i)) [
              | inl near ↦ root.3 (way.within i less root.0 t after.below after.live member near)
              | inr far ↦
                  let first : apart N i t ≤ apart N i x =
                  first_after c s m r t inside down before after i x il between xl live in
                  let it = apart_cases N i t il after.below in let ix = apart_cases N i x il xl in
                  let same : x ≡ t = omega arith in
                  root.3 (ready_at n.logs n.place stays same i q (way.together i less root.0 (omega arith)))
            ]
      ]

  message_kept : (q : ℕ) (n : Message) → s.message q ≡ Some n → is_dropped c s t n ≡ false →
      IsSteady c trace' up' has' q n
  unfolding trace'
  message_kept q n at stays =
      let old = h.messages q n at in
      let live = up_target n.place (h.awake q n at) in
      record {
        carried = carried_by n.logs (target (servers c) n.place)
            (carried_had c s m r t inside down before after admissible n.logs (target (servers c) n.place)
            (h.world.inside _ live) live (ready_at n.logs n.place stays) old.carried) old.carried;
        told = λ a b is. safe_moves a b (old.told a b is);
        under_way = λ bytes is. under_way_moves c s.trace trace' s.up up' s.lists has' q n bytes
            (place_kept c s good.some good.sound h.world admissible m r t inside down before after gone exact q
            (way_kept q n bytes at stays is))
            (λ i t'. stood _ i q t') (λ i d t' v. moves i q d t' v) (old.under_way bytes is);
      }

  withheld_kept : (q : ℕ) (w : Withheld) → s.withheld q ≡ Some w → IsWithheld c trace' up' q w
  unfolding trace' up'
  withheld_kept q w is =
      let N = (servers c) in
      let old = h.withheld q w is in
      let last = passed_last c s.trace h.world.serial q w.bytes old.place in
      let lastl : last.0 + 1 ≡ N = last.1 in
      let at : last.0 ≡ N - 1 = omega arith in
      let live : s.up last.0 ≡ true = subst (λ v. s.up v ≡ true) (sym at) old.live in
      record {
        place = place_kept c s good.some good.sound h.world admissible m r t inside down before after gone exact q
            (λ j st u.
            let i = u.0 in let root = u.2 in let le : i ≤ j = u.1 in
            let jl : j < N = below Somehow j q st in let il : i < N = omega arith in
            let ll : last.0 < N = omega arith in
            let between : IsBetween N r t i = (root.1, root.2) in
            let first : apart N i t ≤ apart N i last.0 =
            first_after c s m r t inside down before after i last.0 il between ll live in
            let ix = apart_cases N i last.0 il ll in
            root.3 (h.world.passed i last.0 q (omega arith) root.0 last.2 t after.below after.live
            (member_after c s m r t inside down before after admissible i il between) (omega arith))) ∙ old.place;
        live = with_at_cases (λ b. b ≡ true) s.up m true (N - 1) (λ _. refl) (λ _. old.live);
        needs = λ i t'. old.needs i (stood _ i q t');
      }

  pub recovers : (undone : List VisitName) → gone ≡ names undone → AreFit c (with_at s.up m true) (lines_behind s.lines)
      → IsAwake c (ticked (recovered c s m undone r t)) → Inv c (ticked (recovered c s m undone r t))
  unfolding trace' up' has'
  recovers undone same fit awake =
      let P : Visits → Type 0 = λ g. World c (left_of g s.trace) (with_at s.up m true)
      (with_at s.lists m (list_got c s m r t)) in
      let Q : Visits → Type 0 = λ g. (q : ℕ) (n : Message) → s.message q ≡ Some n → is_dropped c s t n ≡ false →
      IsSteady c (left_of g s.trace) (with_at s.up m true) (with_at s.lists m (list_got c s m r t)) q n in
      let still = λ (q : ℕ) (n : Message) (e : drop_if (is_dropped c s t) (s.message q) ≡ Some n). kept_some c s t
      (s.message q) n e in
      record {
        world = subst P same (world_recovers c s good.some good.sound h.world admissible m r t inside down before after
            gone exact);
        fit = fit;
        awake = awake;
        messages = λ q n e. let k = still q n e in subst Q same message_kept q n k.0 k.1;
        entered = λ q n b e is. h.entered q n b (still q n e).0 is;
        forward = subst (λ g. AreCarried c (left_of g s.trace) (with_at s.up m true)
            (with_at s.lists m (list_got c s m r t)) s.forwarder (next_of (servers c) 0)) same forward';
        forward_live = λ j q is. with_at_cases (λ b. b ≡ true) s.up m true 0 (λ _. refl) (λ _. h.forward_live j q is);
        forward_far = h.forward_far;
        withheld = subst (λ g. (q : ℕ) (w : Withheld) → s.withheld q ≡ Some w →
            IsWithheld c (left_of g s.trace) (with_at s.up m true) q w) same withheld_kept;
        single = λ q w n is e. h.single q w n is (still q n e).0;
        unentered = λ q le few. subst (λ g. (serial_of c (left_of g s.trace)).place q
            ≡ (serial_of c s.trace).place q) same
            (place_kept c s good.some good.sound h.world admissible m r t inside down before after gone exact q
            (λ j st u. let less : j < 0 = visited_earlier c s.trace 0 q (packet_at c q) h.world.serial
            (h.unentered q le few) j st in omega arith)) ∙ h.unentered q le few;
        known = λ y a b. with_at_cases (λ (v : Visits). In v a b →
            IsSafe c (left_of (names undone) s.trace) (with_at s.up m true)
            (with_at s.lists m (list_got c s m r t)) a b) s.known m (union (knows c s r) (knows c s t)) y
            (λ e is. subst (λ g. IsSafe c (left_of g s.trace) (with_at s.up m true)
            (with_at s.lists m (list_got c s m r t)) a b) same
            (safe_moves a b (elim (or_cases (knows c s r a b) (knows c s t a b) is) [
              | inl x ↦
                  knows_safe c s h r a b x
              | inr x ↦ knows_safe c s h t a b x
            ])))
            (λ ne is. subst (λ g. IsSafe c (left_of g s.trace) (with_at s.up m true)
            (with_at s.lists m (list_got c s m r t)) a b) same (safe_moves a b (h.known y a b is)));
        gaps = λ l g e. let rl = before.below in let ne : r ≡ m → ⊥ =
            λ x. true≢false (sym before.live ∙ subst (λ v. s.up v ≡ false) (sym x) down) in absurd (ne (omega arith));
      }

module _ (c : Setting) (good : IsGood c) (s : ChainState) (h : Inv c s) where
  pub recovers_event : (k : ℕ) (undone : List VisitName) → MayHappen c s (Recover k undone) →
      Inv c (next c s (Recover k undone))
  recovers_event k undone legal =
      let fit = fit_next c s.up s.lines (script_line.Recover s.entered k) legal.0 h.fit in
      let admissible = fit_now c s.up s.lines h.fit in
      let down = fit.1 refl in
      let z = admissible k fit.0 in
      let other : z.0 ≢ k = λ e. true≢false (sym z.2 ∙ subst (λ v. s.up v ≡ false) (sym e) down) in
      recovers c good s h k (previous_live c s k) (following_live c s k) fit.0 down
      (last_live (servers c) s.up k fit.0 z.0 z.1 z.2 other)
      (next_live (servers c) s.up k fit.0 z.0 z.1 z.2 other) admissible (names undone)
      (undone_listed c s k undone legal.1 good.some (last_live (servers c) s.up k fit.0 z.0 z.1 z.2 other).below
      (next_live (servers c) s.up k fit.0 z.0 z.1 z.2 other).below h.world.serial) undone refl fit.2
      (stays_awake c good.some s (Recover k undone) legal h.awake)
