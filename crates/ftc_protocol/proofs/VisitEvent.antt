-- A visit.
use Rattle.std.proofs.Common.{◌≡◌, ℕ, ◌-◌, ◌<◌, ◌≤◌, ◌==◌, ◌&&◌, ◌||◌, nat_lt, Bool, true, false, List, ◌∷◌, inl, inr}
use Rattle.std.proofs.Common.{refl, sym, ap, subst, ◌∙◌, arith, Option, Some, None, is_some, eq-eqb, lt-ltb}
use Rattle.std.proofs.lemmas.Bool.{and_parts, and_from, or_left, or_right}
use Rattle.std.proofs.lemmas.Option.{none-some, same_Some}
use Rattle.ftc_protocol.proofs.InTransit.{after_visit}
use Rattle.ftc_protocol.proofs.CarriedLogs.{AreCarried, grows}
use Rattle.ftc_protocol.specs.State.{ChainState, Held, Message, Withheld}
use Rattle.ftc_serial.specs.Serial.{Entry, Visited}
use Rattle.ftc_protocol.specs.Trace.{Has, IsInTrace, IsTouching, content_of}
use Rattle.ftc_protocol.specs.Visits.{In, Visits, just, union}
use Rattle.ftc_protocol.proofs.Invariant.{Inv, IsSafe, IsSteady, IsUnderWay, each_message, expected, target}
use Rattle.ftc_protocol.proofs.Invariant.{under_way_moves}
use Rattle.ftc_protocol.proofs.Premises.{IsGood}
use Rattle.ftc_protocol.specs.Known.{IsReady}
use Rattle.ftc_protocol.proofs.LiveHolders.{IsUp, stays_awake}
use Rattle.ftc_protocol.proofs.GroupDistance.{IsWithin, carried_joins, within_grown, within_more}
use Rattle.ftc_serial.specs.Take.{Outcome, taken}
use Rattle.ftc_protocol.specs.Setting.{Setting, rule_at, servers}
use Rattle.ftc_protocol.proofs.VisitsPassed.{Somehow, some_stands}
use Rattle.ftc_journal.specs.declared.event.Event.TheVariants.{Visit}
use Rattle.ftc_protocol.proofs.Places.{Waits, place_after, serial_of}
use Rattle.ftc_protocol.proofs.TraceAndLists.{World, world_visit}
use Rattle.ftc_ring.specs.Ring.{apart, next_of}
use Rattle.ftc_protocol.proofs.RingDistances.{apart_cases}
use Rattle.ftc_protocol.specs.Next.{bytes_in, message_bytes, next, outcome_at, visited_at, visited_message}
use Rattle.ftc_protocol.proofs.SmallEvents.{held_target}
use Rattle.ftc_protocol.specs.Changes.{is_changing, is_touching}
use Rattle.ftc_protocol.proofs.Sets.{kept}
use Rattle.ftc_protocol.proofs.ListStores.{store_all}
use Rattle.ftc_protocol.proofs.EarlierVisits.{visited_earlier}
use Rattle.ftc_serial.specs.Words.{with_at}
use Rattle.ftc_serial.proofs.Functions.{with_at_cases}
use Rattle.ftc_protocol.proofs.CarriedLogs as carrying

module _ (c : Setting) (good : IsGood c) (s : ChainState) (h : Inv c s) (k p : ℕ) (m : Message) (bytes : (List ℕ))
    (by_ring : Bool)
    (there : s.message p ≡ Some m) (held : m.place ≡ Held k false by_ring) (packet : m.packet
    ≡ Some bytes) (ready : IsReady c s k m) where
  the_trace : List Entry
  the_trace = Visited k p (outcome_at c s k p) ∷ s.trace

  the_lists : ℕ → Visits
  the_lists = with_at s.lists k (union (s.lists k) (just k p (is_changing c.partitions (outcome_at c s k p))))

  live : s.up k ≡ true
  live = subst (IsUp (servers c) s.up) held (h.awake p m there)

  way : IsUnderWay c s.trace s.up s.lists p m bytes
  way = (h.messages p m there).under_way bytes packet

  at : target (servers c) m.place ≡ k
  at = held_target (servers c) k m.place false by_ring held

  waits : (serial_of c s.trace).place p ≡ Waits k bytes
  waits = way.place ∙ ap (λ w. expected (servers c) w bytes) held

  fresh : (j : ℕ) → IsInTrace Somehow s.trace j p → j < k
  fresh = visited_earlier c s.trace k p bytes h.world.serial waits

  within : (i : ℕ) → i < k → IsTouching s.trace i p → IsWithin c s.trace s.up s.lists i p (k - i)
  within = subst (λ x. (i : ℕ) → i < x → IsTouching s.trace i p →
      IsWithin c s.trace s.up s.lists i p (x - i)) at way.within

  together : (i : ℕ) → i < k → IsTouching s.trace i p → k - i ≤ c.failures → In m.logs i p
  together = subst (λ x. (i : ℕ) → i < x → IsTouching s.trace i p → x - i ≤ c.failures → In m.logs i p) at way.together

  all_ready : (i : ℕ) → i < k → IsTouching s.trace i p → apart (servers c) i k ≤ c.failures →
      Has c.partitions s.trace (s.lists k) i p
  all_ready i less t member =
      let kl = h.world.inside k live in let il : i < (servers c) = omega arith in let ik =
      apart_cases (servers c) i k il kl in
      ready i p (together i less t (omega arith))

  world' : World c the_trace s.up the_lists
  unfolding the_trace the_lists
  world' = world_visit c good.some good.sound s.trace s.up s.lists h.world k p (outcome_at c s k p) live (
    bytes,
    waits,
    ap (λ b. taken (rule_at c k) b (content_of s.trace (s.lists k k) k)) (ap message_bytes there ∙ ap bytes_in packet)
        ∙ ap (taken (rule_at c k) bytes)
        (store_all c good.sound s.trace h.world.serial k (s.lists k k)
        (λ q changing. h.world.lists.heads k q live changing)),
    h.world.inside k live,
  )
      within all_ready

  more : (y i x : ℕ) → In (s.lists y) i x → In (the_lists y) i x
  unfolding the_lists
  more y i x a = kept s.lists k k p (is_changing c.partitions (outcome_at c s k p)) y i x a

  moves : (i q d : ℕ) → ((k ≡ i) × (p ≡ q) → ⊥) → IsWithin c s.trace s.up s.lists i q d →
      IsWithin c the_trace s.up the_lists i q d
  unfolding the_trace
  moves i q d other v = within_more c (Visited k p (outcome_at c s k p) ∷ s.trace) s.up s.lists i q d
      (within_grown c s.trace s.up s.lists i q d v k p (outcome_at c s k p) other) the_lists more

  unseen : (P : Outcome → Type 0) (i q : ℕ) → IsInTrace P s.trace i q → (k ≡ i) × (p ≡ q) → ⊥
  unseen P i q st e = let less : i < k =
      fresh i (some_stands P s.trace i p (subst (λ v. IsInTrace P s.trace i v) (sym e.1) st)) in let same : k ≡ i =
      e.0 in omega arith

  safe_moves : (j q : ℕ) → IsSafe c s.trace s.up s.lists j q → IsSafe c the_trace s.up the_lists j q
  unfolding the_trace
  safe_moves j q safe = record {
    changing = inr safe.changing;
    within = moves j q (servers c) (unseen _ j q safe.changing) safe.within;
  }

  -- of another packet the trace has what it had
  other_touched : (q : ℕ) → (q ≡ p → ⊥) → (i : ℕ) → IsTouching the_trace i q → IsTouching s.trace i q
  unfolding the_trace
  other_touched q ne i t = elim t [ inl here ↦ absurd (ne (sym here.1)) | inr old ↦ old ]

  other_place : (q : ℕ) → (q ≡ p → ⊥) → (serial_of c the_trace).place q ≡ (serial_of c s.trace).place q
  unfolding the_trace
  other_place q ne = with_at_cases (λ v. v ≡ (serial_of c s.trace).place q) (serial_of c s.trace).place p _ q
      (λ e. absurd (ne e)) (λ _. refl)

  carried_moves : (logs : Visits) (x : ℕ) → AreCarried c s.trace s.up s.lists logs x →
      AreCarried c the_trace s.up the_lists logs x
  unfolding the_trace
  carried_moves logs x a = grows c good.small (Visited k p (outcome_at c s k p)
      ∷ s.trace) s.up s.lists the_lists logs x more
      (carrying.visited c good.small s.trace s.up s.lists logs x k p (outcome_at c s k p) fresh a)

  other_steady : (q : ℕ) → (q ≡ p → ⊥) → (n : Message) → s.message q ≡ Some n → IsSteady c the_trace s.up the_lists q n
  other_steady q ne n e = let old = h.messages q n e in record {
    carried = carried_moves n.logs (target (servers c) n.place) old.carried;
    told = λ a b is. safe_moves a b (old.told a b is);
    under_way = λ b is. under_way_moves c s.trace the_trace s.up s.up s.lists the_lists q n b (other_place q ne)
        (other_touched q ne) (λ i d t v. moves i q d (λ x. ne (sym x.1)) v) (old.under_way b is);
  }

  log : Bool
  log = is_touching (outcome_at c s k p) && nat_lt 0 c.failures

  old_touched : (i : ℕ) → i < k → IsTouching the_trace i p → IsTouching s.trace i p
  unfolding the_trace
  old_touched i less t = elim t [ inl here ↦ let same : k ≡ i = here.0 in absurd (omega arith) | inr old ↦ old ]

  here_touched : IsTouching the_trace k p → is_touching (outcome_at c s k p) ≡ true
  unfolding the_trace
  here_touched t = elim t [ inl here ↦ here.2 | inr old ↦ absurd (unseen _ k p old (refl, refl)) ]

  touched_here : is_touching (outcome_at c s k p) ≡ true → IsTouching the_trace k p
  unfolding the_trace
  touched_here e = inl (refl, refl, e)

  place_here : (serial_of c the_trace).place p ≡ place_after (servers c) k (outcome_at c s k p).packet
  unfolding the_trace
  place_here = with_at_cases (λ v. v ≡ place_after (servers c) k (outcome_at c s k p).packet)
      (serial_of c s.trace).place p _ p (λ _. refl) (λ ne. absurd (ne refl))

  needs_here : (verdict : Option (List ℕ)) (b : (List ℕ)) → verdict ≡ Some b → (i : ℕ) → IsTouching the_trace i p →
      (is_some verdict && (m.needs i || ((i == k) && is_touching (outcome_at c s k p)))) ≡ true
  unfolding the_trace
  needs_here None b e i t = absurd (none-some b e)
  needs_here (Some v) b e i t = and_from true _ refl (elim t [
    | inl here ↦ or_right (m.needs i) _ (and_from (i == k) _ (eq-eqb i k (sym here.0)) here.2)
    | inr old ↦ or_left (m.needs i) _ (way.needs i old)
  ])

  new_steady : (o : Option Message) → s.message p ≡ o → (m' : Message) →
      visited_message c k p (outcome_at c s k p) o ≡ Some m' → IsSteady c the_trace s.up the_lists p m'
  unfolding log
  new_steady None is m' e = absurd (none-some m' e)
  new_steady (Some m0) is m' e =
      let n = (servers c) in
      let kl = h.world.inside k live in
      let kk = apart_cases n k k kl kl in
      let same : m ≡ m0 = cc in
      let after = after_visit c k p (outcome_at c s k p) m in
      let new : Message = record after { place = Held k true by_ring } in
      let is_new : visited_message c k p (outcome_at c s k p) (Some m) ≡ Some new =
      ap (λ w. Some (record after { place = visited_at w })) held in
      let equal : new ≡ m' = same_Some new m'
      (sym is_new ∙ (ap (λ x. visited_message c k p (outcome_at c s k p) (Some x)) same ∙ e)) in
      subst (λ v. IsSteady c the_trace s.up the_lists p v) equal (record {
        carried = carried_joins c the_trace s.up the_lists m.logs k p log kl
            (λ b. touched_here (and_parts (is_touching (outcome_at c s k p)) (nat_lt 0 c.failures) b).0) (omega arith)
            (λ i less t. let old = old_touched i less t in
            moves i p (k - i) (λ x. let eq : k ≡ i = x.0 in omega arith) (within i less old))
            (λ i less t near. together i less (old_touched i less t) near)
            (carried_moves m.logs k (subst (λ x. AreCarried c s.trace s.up s.lists m.logs x) at
            (h.messages p m there).carried));
        told = λ a b is. safe_moves a b ((h.messages p m there).told a b is);
        under_way = λ b is. record {
          place = place_here ∙ ap (place_after n k) is;
          within = λ i less t. moves i p (k - i) (λ x. let eq : k ≡ i = x.0 in
              omega arith) (within i less (old_touched i less t));
          together = λ i less t near. or_left (m.logs i p) (just k p log i p)
              (together i less (old_touched i less t) near);
          own = λ t f. or_right (m.logs k p) (just k p log k p)
              (and_from ((k == k) && (p == p)) log (and_from (k == k) (p == p) (eq-eqb k k refl) (eq-eqb p p refl))
              (and_from (is_touching (outcome_at c s k p)) (nat_lt 0 c.failures) (here_touched t)
              (lt-ltb 0 c.failures f)));
          needs = λ i t. needs_here (outcome_at c s k p).packet b is i t;
        };
      })

  not_p : (q : ℕ) (w : Withheld) → s.withheld q ≡ Some w → q ≡ p → ⊥
  not_p q w is e = let no_packet : m.packet ≡ None = h.single p w m (subst (λ v. s.withheld v ≡ Some w) e is) there in
      none-some bytes (sym no_packet ∙ packet)

  pub visits : (w : ℕ) → Inv c (next c s (Visit k p w))
  unfolding the_trace the_lists
  visits w = record {
    world = world';
    fit = h.fit;
    awake = stays_awake c good.some s (Visit k p w) (m, bytes, by_ring, there, held, packet, ready) h.awake;
    messages = λ q. with_at_cases (λ (v : Option Message). (n : Message) → v ≡ Some n →
        IsSteady c the_trace s.up the_lists q n) s.message p
        (visited_message c k p (outcome_at c s k p) (s.message p)) q
        (λ e n is. subst (λ x. IsSteady c the_trace s.up the_lists x n) (sym e) (new_steady (s.message p) refl n is))
        (λ ne n is. other_steady q ne n is);
    entered = λ q n b e is. each_message (λ q m. (bytes : (List ℕ)) → m.packet ≡ Some bytes →
        q < s.entered) s.message p (visited_message c k p (outcome_at c s k p) (s.message p))
        (λ n e b is. h.entered p m bytes there packet) (λ q m e b is. h.entered q m b e is) q n e b is;
    forward = carried_moves s.forwarder (next_of (servers c) 0) h.forward;
    forward_live = h.forward_live;
    forward_far = h.forward_far;
    withheld = λ q v is. let x = h.withheld q v is in let ne =
        not_p q v is in record {
          place = other_place q ne ∙ x.place;
          live = x.live;
          needs = λ i t. x.needs i (other_touched q ne i t);
        };
    single = λ q v n is e. each_message (λ x n. (v : Withheld) → s.withheld x ≡ Some v →
        n.packet ≡ None) s.message p (visited_message c k p (outcome_at c s k p) (s.message p))
        (λ n e v is. absurd (not_p p v is refl)) (λ x n e v is. h.single x v n is e) q n e v is;
    unentered = λ q le few. other_place q (λ e. let less : p < s.entered = h.entered p m bytes there packet in
        omega arith) ∙ h.unentered q le few;
    known = λ y a b is. safe_moves a b (h.known y a b is);
    gaps = h.gaps;
  }
