-- What a packet needs are touching visits of its own in the trace.
use Rattle.std.proofs.Common.{◌≡◌, ℕ, ◌+◌, ◌<◌, ◌&&◌, ◌||◌, ◌==◌, Bool, true, false, not, List, [], ◌∷◌, refl, sym, ap}
use Rattle.std.proofs.Common.{subst, ◌∙◌, inl, inr, Option, Some, None, is_some, if◌then◌else◌, eqb-true}
use Rattle.std.proofs.lemmas.Bool.{true≢false, and_parts, or_cases, not-true}
use Rattle.std.proofs.lemmas.Option.{none-some, same_Some}
use Rattle.ftc_journal.specs.declared.event.Event.{Event}
use Rattle.ftc_journal.specs.declared.event.Event.TheVariants.{Apply, Carry, Crash, Enter, Lose, Pass, Propagate, Pull}
use Rattle.ftc_journal.specs.declared.event.Event.TheVariants.{Recover, Release, Take, Visit}
use Rattle.ftc_journal.specs.declared.event.VisitName.{VisitName}
use Rattle.ftc_serial.specs.declared.position.Position.TheVariants as position
use Rattle.ftc_serial.specs.Serial.{Entry, Visited}
use Rattle.ftc_serial.specs.Trace.{names}
use Rattle.ftc_serial.specs.Removal.{left_of}
use Rattle.ftc_serial.proofs.Functions.{with_at_cases}
use Rattle.ftc_protocol.specs.Setting.{Setting, servers, packet_at, IsSetting}
use Rattle.ftc_protocol.specs.State.{ChainState, Message, Withheld, Where, Held, Queued, opening}
use Rattle.ftc_protocol.specs.Changes.{is_touching}
use Rattle.ftc_protocol.specs.Trace.{IsTouching, IsSomeVisit}
use Rattle.ftc_protocol.specs.Next.{next, fresh_message, taken_message, visited_message, sent_message, sent_on, is_away}
use Rattle.ftc_protocol.specs.Next.{is_at, outcome_at, withheld_of, withheld_packet}
use Rattle.ftc_protocol.specs.Recovery.{following_live, is_dropped}
use Rattle.ftc_protocol.specs.Run.{IsRun, AreLegal, state_after}
use Rattle.ftc_protocol.specs.Legal.{MayHappen, is_sent}
use Rattle.ftc_protocol.specs.Orderly.{IsNeeding}
use Rattle.ftc_protocol.proofs.Premises.{IsGood, ticked}
use Rattle.ftc_protocol.proofs.AcceptedSettings.{is_good}
use Rattle.ftc_protocol.proofs.LiveHolders.{kept_drop}
use Rattle.ftc_protocol.proofs.Places.{Place, Passed, IsSerial, serial_of, placed}
use Rattle.ftc_protocol.proofs.EarlierVisits.{visited_earlier}
use Rattle.ftc_protocol.proofs.TraceLemmas.{visit_left, visit_stood}
use Rattle.ftc_protocol.proofs.VisitsPassed.{Somehow, some_stands}
use Rattle.ftc_protocol.proofs.ListStores.{stands_below}
use Rattle.ftc_protocol.proofs.Invariant.{Inv, expected, each_message}
use Rattle.ftc_protocol.proofs.Induction.{keeps}
use Rattle.ftc_protocol.proofs.Soundness.{visited_before, visited_all}
use Rattle.ftc_protocol.proofs.Complete.{IsReached, keeps_reached, opens_reached}

-- a packet that is under way
abbrev IsMoving : Place → Type 0
IsMoving None = ⊥
IsMoving (Some (position.Waiting k bytes)) = Unit {0}
IsMoving (Some (position.Passed bytes)) = Unit {0}
IsMoving (Some (position.Filtered k)) = ⊥
IsMoving (Some position.Released) = ⊥

moving : (n : ℕ) (place : Where) (bytes : List ℕ) → IsMoving (expected n place bytes)
moving n (Held k false by_ring) bytes = tt
moving n (Held k true by_ring) bytes =
    elim (k + 1 == n) as (λ b. IsMoving (placed b k bytes)) [ true ↦ tt | false ↦ tt ]
moving n (Queued l) bytes = tt

-- where its place is the same, so are its visits
still_visited : (c : Setting) → 0 < servers c → (trace new : List Entry) → IsSerial c trace → IsSerial c new →
    (p i : ℕ) (v : Place) → IsMoving v
    → (serial_of c trace).place p ≡ v → (serial_of c new).place p ≡ v → IsSomeVisit trace i p → IsSomeVisit new i p
still_visited c some trace new is is' p i None move = absurd move
still_visited c some trace new is is' p i (Some (position.Waiting k bytes)) move =
    λ old now there. visited_before c new is' p k bytes now i (visited_earlier c trace k p bytes is old i there)
still_visited c some trace new is is' p i (Some (position.Passed bytes)) move =
    λ old now there. visited_all c new is' p bytes now i (stands_below c some Somehow trace is i p there)
still_visited c some trace new is is' p i (Some (position.Filtered k)) move = absurd move
still_visited c some trace new is is' p i (Some position.Released) move = absurd move

module _ (c : Setting) (good : IsGood c) (s : ChainState) (h : Inv c s) (is : IsNeeding s) where
  abbrev Needs : List Entry → ℕ → Message → Type 0
  Needs trace p m = (i : ℕ) → m.needs i ≡ true → IsTouching trace i p × ((bytes : List ℕ) × (m.packet ≡ Some bytes))

  olds : (p : ℕ) (m : Message) → s.message p ≡ Some m → Needs s.trace p m
  olds p m e i need = is.carried p i m e need

  fresh : (packet : Option (List ℕ)) (p : ℕ) (m : Message) → Some (fresh_message s.events packet) ≡ Some m →
      Needs s.trace p m
  fresh packet p m e i need =
      absurd (true≢false (sym (subst (λ (x : Message). x.needs i ≡ true) (sym (same_Some _ m e)) need)))

  entering : (p : ℕ) (b : Bool) (m : Message) →
      (if b then Some (fresh_message s.events (Some (packet_at c p))) else s.message p) ≡ Some m → Needs s.trace p m
  entering p true m e = fresh (Some (packet_at c p)) p m e
  entering p false m e = olds p m e

  taking : (l p : ℕ) (o : Option Message) → s.message p ≡ o → (m : Message) → taken_message c s l o ≡ Some m →
      Needs s.trace p m
  taking l p None at m e = absurd (none-some m e)
  taking l p (Some m0) at m e = subst (λ (x : Message). Needs s.trace p x) (same_Some _ m e) (olds p m0 at)

  visiting : (k p : ℕ) (o : Option Message) → s.message p ≡ o → (m : Message) →
      visited_message c k p (outcome_at c s k p) o ≡ Some m → Needs (Visited k p (outcome_at c s k p) ∷ s.trace) p m
  visiting k p None at m e = absurd (none-some m e)
  visiting k p (Some m0) at m e =
      subst (λ (x : Message). Needs (Visited k p (outcome_at c s k p) ∷ s.trace) p x) (same_Some _ m e)
      (λ i need. by (outcome_at c s k p).packet refl i need)
    where
      by : (packet : Option (List ℕ)) → (outcome_at c s k p).packet ≡ packet → (i : ℕ) →
          (is_some packet && (m0.needs i || ((i == k) && is_touching (outcome_at c s k p)))) ≡ true
          → IsTouching (Visited k p (outcome_at c s k p) ∷ s.trace) i p
          × ((bytes : List ℕ) × ((outcome_at c s k p).packet ≡ Some bytes))
      by None is_none i need = absurd (true≢false (sym need))
      by (Some bytes) some i need = (
        elim (or_cases (m0.needs i) ((i == k) && is_touching (outcome_at c s k p)) (and_parts true _ need).1) [
          | inl old ↦ inr (olds p m0 at i old).0
          | inr here ↦ let parts = and_parts (i == k) (is_touching (outcome_at c s k p)) here in
              inl (sym (eqb-true i k parts.0), refl, parts.1)
        ],
        (bytes, some),
      )

  leaving : (k p : ℕ) (b last : Bool) (o : Option Message) → s.message p ≡ o → (m : Message) →
      k + 1 == servers c ≡ last → (if b then sent_message c s k o else None) ≡ Some m → Needs s.trace p m
  leaving k p false last o at m is_last e = absurd (none-some m e)
  leaving k p true last None at m is_last e = absurd (none-some m e)
  leaving k p true last (Some m0) at m is_last e =
      subst (λ (x : Message). Needs s.trace p x) (same_Some _ m e) (λ i need.
      let parts = and_parts (not (k + 1 == servers c)) (m0.needs i) need in
      let old = olds p m0 at i parts.1 in (
        old.0,
        (
          old.1.0,
          ap (λ (b : Bool). if b then None
              else m0.packet) (not-true (k + 1 == servers c) parts.0) ∙ old.1.1,
        ),
      ))

  withholding : (k p : ℕ) (last : Bool) (o : Option Message) → s.message p ≡ o → (w : Withheld) →
      (if last then withheld_of s o else s.withheld p) ≡ Some w → (i : ℕ) → w.needs i ≡ true → IsTouching s.trace i p
  withholding k p false o at w e i need = is.withheld p i w e need
  withholding k p true None at w e i need = absurd (none-some w e)
  withholding k p true (Some m0) at w e i need = bytes m0.packet e
    where
      bytes : (packet : Option (List ℕ)) → withheld_packet s m0 packet ≡ Some w → IsTouching s.trace i p
      bytes None e = absurd (none-some w e)
      bytes (Some b) e = (olds p m0 at i (subst (λ (x : Withheld). x.needs i ≡ true) (sym (same_Some _ w e)) need)).0

  left : (k p : ℕ) (lost : Bool) → IsNeeding (ticked (sent_on c s k p lost))
  left k p lost = record {
    carried = λ q i m e need. each_message (λ x n. Needs s.trace x n) s.message p (if is_sent c k
        && not (is_away c s k lost) then sent_message c s k (s.message p) else None)
        (λ n en. leaving k p (is_sent c k && not (is_away c s k lost)) (k + 1 == servers c)
        (s.message p) refl n refl en) olds q m e i need;
    withheld = λ q i w. with_at_cases (λ v. v ≡ Some w → w.needs i ≡ true →
        IsTouching s.trace i q) s.withheld p (if k + 1 == servers c then withheld_of s (s.message p)
        else s.withheld p) q
        (λ same e need. subst (λ x. IsTouching s.trace i x) (sym same)
        (withholding k p (k + 1 == servers c) (s.message p) refl w e i need))
        (λ other e need. is.withheld q i w e need);
  }

  crashing : (b : Bool) (q i : ℕ) (w : Withheld) → (if b then None else s.withheld q) ≡ Some w → w.needs i ≡ true →
      IsTouching s.trace i q
  crashing true q i w e need = absurd (none-some w e)
  crashing false q i w e need = is.withheld q i w e need

  stays : (undone : List VisitName) (i p : ℕ) → IsTouching s.trace i p →
      IsSomeVisit (left_of (names undone) s.trace) i p → IsTouching (left_of (names undone) s.trace) i p
  stays undone i p touching there =
      visit_left (names undone) (λ outcome. is_touching outcome ≡ true) s.trace i p touching
      (visit_stood (names undone) Somehow s.trace i p there).1

  recovers : (k : ℕ) (undone : List VisitName) → MayHappen c s (Recover k undone) →
      IsNeeding (next c s (Recover k undone))
  recovers k undone legal =
      let new = keeps c good s h (Recover k undone) legal in
      record {
        carried = λ p i m e need.
            let was : s.message p ≡ Some m = kept_drop (is_dropped c s (following_live c s k)) (s.message p) m e in
            let old = is.carried p i m was need in
            let bytes = old.1.0 in
            let there = still_visited c good.some s.trace
            (left_of (names undone) s.trace) h.world.serial new.world.serial p i
            (expected (servers c) m.place bytes) (moving (servers c) m.place bytes)
            ((h.messages p m was).under_way bytes old.1.1).place ((new.messages p m e).under_way bytes old.1.1).place
            (some_stands _ s.trace i p old.0) in
            (stays undone i p old.0 there, old.1);
        withheld = λ p i w e need.
            let old = is.withheld p i w e need in
            let there = still_visited c good.some s.trace
            (left_of (names undone) s.trace) h.world.serial new.world.serial p i (Passed w.bytes) tt
            (h.withheld p w e).place (new.withheld p w e).place (some_stands _ s.trace i p old) in
            stays undone i p old there;
      }

  pub needs_on : (e : Event) → MayHappen c s e → IsNeeding (next c s e)
  needs_on (Enter p) legal = record {
    carried = λ q i m e need. each_message (λ x n. Needs s.trace x n) s.message p _
        (entering p (s.up 0)) olds q m e i need;
    withheld = is.withheld;
  }
  needs_on (Take l p) legal = record {
    carried = λ q i m e need. each_message (λ x n. Needs s.trace x n) s.message p _
        (λ n en. taking l p (s.message p) refl n en) olds q m e i need;
    withheld = is.withheld;
  }
  needs_on (Apply k p j q) legal = record { carried = is.carried; withheld = is.withheld }
  needs_on (Visit k p w) legal = record {
    carried = λ q i m e need. each_message (λ x n. Needs (Visited k p (outcome_at c s k p) ∷ s.trace) x n) s.message p _
        (λ n en. visiting k p (s.message p) refl n en)
        (λ x n en j nd. let old = olds x n en j nd in (inr old.0, old.1)) q m e i need;
    withheld = λ q i v e need. inr (is.withheld q i v e need);
  }
  needs_on (Pass k p) legal = left k p false
  needs_on (Lose k p) legal = left k p true
  needs_on (Carry p) legal = record {
    carried = λ q i m e need. each_message (λ x n. Needs s.trace x n) s.message p None
        (λ n en. absurd (none-some n en)) olds q m e i need;
    withheld = is.withheld;
  }
  needs_on (Crash k) legal = record {
    carried = λ q i m e need. is.carried q i m (kept_drop (λ (x : Message). is_at c k x.place) (s.message q) m e) need;
    withheld = λ q i w e need. crashing (k + 1 == servers c) q i w e need;
  }
  needs_on (Recover k undone) legal = recovers k undone legal
  needs_on (Pull k) legal = record { carried = is.carried; withheld = is.withheld }
  needs_on (Propagate p) legal = record {
    carried = λ q i m e need. each_message (λ x n. Needs s.trace x n) s.message p _ (fresh None p) olds q m e i need;
    withheld = is.withheld;
  }
  needs_on (Release p) legal = record {
    carried = λ q i m e need. let old = is.carried q i m e need in (inr old.0, old.1);
    withheld = λ q i w. with_at_cases (λ v. v ≡ Some w → w.needs i ≡ true →
        IsTouching (next c s (Release p)).trace i q) s.withheld p None q
        (λ same e need. absurd (none-some w e)) (λ other e need. inr (is.withheld q i w e need));
  }

needs_along : (c : Setting) → IsGood c → (es : List Event) (s : ChainState) → IsReached c s → IsNeeding s →
    AreLegal c s es → IsNeeding (state_after c s es)
needs_along c good [] s r is legal = is
needs_along c good (e ∷ es) s r is legal =
    needs_along c good es (next c s e) (keeps_reached c good s r e legal.0.0)
    (needs_on c good s r.live.inv is e legal.0.0) legal.1

pub needing : (c : Setting) → IsSetting c → (journal : List Event) → IsRun c journal →
    IsNeeding (state_after c (opening c) journal)
needing c is journal run =
    needs_along c (is_good c is) journal (opening c) (opens_reached c is)
    (record { carried = λ p i m e. absurd (none-some m e); withheld = λ p i w e. absurd (none-some w e) }) run
