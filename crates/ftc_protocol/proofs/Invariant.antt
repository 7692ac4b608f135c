-- What holds of every state of a run, and what each event does to it.
use Rattle.std.proofs.Common.{◌≡◌, ◌≢◌, ℕ, ◌+◌, ◌-◌, ◌<◌, ◌≤◌, ◌&&◌, if◌then◌else◌, Bool, true, false, List, inl, inr}
use Rattle.std.proofs.Common.{refl, sym, ap, subst, ◌∙◌, arith, eqb-true, Option, Some, None}
use Rattle.std.proofs.lemmas.Bool.{true≢false, and_parts, or_cases}
use Rattle.std.proofs.lemmas.Option.{same_Some}
use Rattle.ftc_protocol.proofs.CarriedLogs.{AreCarried}
use Rattle.ftc_protocol.proofs.Premises.{AreFit, IsGood}
use Rattle.ftc_protocol.specs.State.{ChainState, Held, Message, Queued, Where, Withheld}
use Rattle.ftc_journal.specs.declared.event.Event.TheVariants.{Enter}
use Rattle.ftc_serial.specs.Serial.{Entry}
use Rattle.ftc_protocol.specs.Visits.{In, Visits, no_visits}
use Rattle.ftc_protocol.proofs.LiveHolders.{IsAwake, stays_awake}
use Rattle.ftc_protocol.specs.Trace.{IsChanging, IsTouching}
use Rattle.ftc_protocol.proofs.GroupDistance.{IsWithin}
use Rattle.ftc_protocol.specs.Legal.{MayHappen}
use Rattle.ftc_protocol.proofs.Places.{Passed, Place, Waits, place_after, serial_of}
use Rattle.ftc_protocol.specs.Setting.{Setting, count, is_tail, packet_at, servers}
use Rattle.ftc_protocol.proofs.TraceAndLists.{World}
use Rattle.ftc_ring.specs.Ring.{apart, next_of}
use Rattle.ftc_protocol.specs.Next.{fresh_message, next}
use Rattle.ftc_protocol.proofs.HavingVisits.{in_has}
use Rattle.ftc_protocol.specs.Known.{knows}
use Rattle.ftc_protocol.proofs.VisitsPassed.{some_stands}
use Rattle.ftc_protocol.proofs.EarlierVisits.{visited_earlier}
use Rattle.ftc_serial.specs.Words.{with_at}
use Rattle.ftc_serial.proofs.Functions.{with_at_cases}

abbrev pub target : ℕ → Where → ℕ
target n (Held k visited by_ring) = k
target n (Queued l) = next_of n l

-- the packet's place in the serial chain, by its message's
abbrev pub expected : ℕ → Where → (List ℕ) → Place
expected n (Held k false by_ring) bytes = Waits k bytes
expected n (Held k true by_ring) bytes = place_after n k (Some bytes)
expected n (Queued l) bytes = Waits (next_of n l) bytes

abbrev pub HasOwn : Setting → List Entry → ℕ → Visits → Where → Type 0
HasOwn c trace p logs (Held k true by_ring) = IsTouching trace k p → 0 < c.failures → In logs k p
HasOwn c trace p logs (Held k false by_ring) = Unit {0}
HasOwn c trace p logs (Queued l) = Unit {0}

-- every live member of its group has the changing visit
pub record IsSafe (c : Setting) (trace : List Entry) (up : ℕ → Bool) (has : ℕ → Visits) (j p : ℕ) : Type 0 where
  pub changing : IsChanging c.partitions trace j p
  pub within : IsWithin c trace up has j p (servers c)

pub record IsUnderWay (c : Setting) (trace : List Entry) (up : ℕ → Bool) (has : ℕ →
    Visits) (p : ℕ) (m : Message) (bytes : (List ℕ)) : Type 0 where
  pub place : (serial_of c trace).place p ≡ expected (servers c) m.place bytes
  pub within : (i : ℕ) → i < target (servers c) m.place → IsTouching trace i p →
      IsWithin c trace up has i p (target (servers c) m.place - i)
  pub together : (i : ℕ) → i < target (servers c) m.place → IsTouching trace i p →
      target (servers c) m.place - i ≤ c.failures → In m.logs i p
  pub own : HasOwn c trace p m.logs m.place
  pub needs : (i : ℕ) → IsTouching trace i p → m.needs i ≡ true

pub record IsSteady (c : Setting) (trace : List Entry) (up : ℕ → Bool) (has : ℕ →
    Visits) (p : ℕ) (m : Message) : Type 0 where
  pub carried : AreCarried c trace up has m.logs (target (servers c) m.place)
  pub told : (j q : ℕ) → In m.known j q → IsSafe c trace up has j q
  pub under_way : (bytes : (List ℕ)) → m.packet ≡ Some bytes → IsUnderWay c trace up has p m bytes

pub record IsWithheld (c : Setting) (trace : List Entry) (up : ℕ → Bool) (p : ℕ) (w : Withheld) : Type 0 where
  pub place : (serial_of c trace).place p ≡ Passed w.bytes
  pub live : up ((servers c) - 1) ≡ true
  pub needs : (i : ℕ) → IsTouching trace i p → w.needs i ≡ true

pub record Inv (c : Setting) (s : ChainState) : Type 0 where
  pub world : World c s.trace s.up s.lists
  pub fit : AreFit c s.up s.lines
  pub awake : IsAwake c s
  pub messages : (p : ℕ) (m : Message) → s.message p ≡ Some m → IsSteady c s.trace s.up s.lists p m
  pub entered : (p : ℕ) (m : Message) (bytes : (List ℕ)) → s.message p ≡ Some m → m.packet ≡ Some bytes → p < s.entered
  pub forward : AreCarried c s.trace s.up s.lists s.forwarder (next_of (servers c) 0)
  pub forward_live : (j q : ℕ) → In s.forwarder j q → s.up 0 ≡ true
  pub forward_far : (j q : ℕ) → In s.forwarder j q → 0 < apart (servers c) j (next_of (servers c) 0)
  pub withheld : (p : ℕ) (w : Withheld) → s.withheld p ≡ Some w → IsWithheld c s.trace s.up p w
  pub single : (p : ℕ) (w : Withheld) (m : Message) → s.withheld p ≡ Some w → s.message p ≡ Some m → m.packet ≡ None
  pub unentered : (p : ℕ) → s.entered ≤ p → p < (count c) → (serial_of c s.trace).place p ≡ Waits 0 (packet_at c p)
  pub known : (k j q : ℕ) → In (s.known k) j q → IsSafe c s.trace s.up s.lists j q
  pub gaps : (l : ℕ) → s.gap l ≡ true → (servers c) ≢ 1

-- each message, where one is changed
pub each_message : (P : ℕ → Message → Type 0) (message : ℕ → Option Message) (p : ℕ) (o : Option Message) →
    ((m : Message) → o ≡ Some m → P p m) → ((q : ℕ) (m : Message) → message q ≡ Some m → P q m)
    → (q : ℕ) (m : Message) → with_at message p o q ≡ Some m → P q m
each_message P message p o here each q =
    with_at_cases (λ v. (m : Message) → v ≡ Some m →
    P q m) message p o q (λ e. subst (λ x. (m : Message) → o ≡ Some m → P x m) (sym e) here) (λ ne. each q)

-- a message's packet in a changed world
pub under_way_moves : (c : Setting) (trace trace' : List Entry) (up up' : ℕ → Bool) (has has' : ℕ →
    Visits) (p : ℕ) (m : Message) (bytes : (List ℕ))
    → (serial_of c trace').place p ≡ (serial_of c trace).place p
    → ((i : ℕ) → IsTouching trace' i p → IsTouching trace i p)
    → ((i d : ℕ) → IsTouching trace' i p → IsWithin c trace up has i p d → IsWithin c trace' up' has' i p d)
    → IsUnderWay c trace up has p m bytes → IsUnderWay c trace' up' has' p m bytes
under_way_moves c trace trace' up up' has has' p m bytes same old more h = record {
  place = same ∙ h.place;
  within = λ i less t. more i _ t (h.within i less (old i t));
  together = λ i less t. h.together i less (old i t);
  own = own m.place h.own;
  needs = λ i t. h.needs i (old i t);
}
  where
    own : (w : Where) → HasOwn c trace p m.logs w → HasOwn c trace' p m.logs w
    own (Held k true by_ring) o = λ t f. o (old k t) f
    own (Held k false by_ring) o = tt
    own (Queued l) o = tt

-- what a server knows is safe
pub knows_safe : (c : Setting) (s : ChainState) → Inv c s → (k j q : ℕ) → In (knows c s k) j q →
    IsSafe c s.trace s.up s.lists j q
knows_safe c s h k j q is = elim (or_cases (s.known k j q) (is_tail c j k && s.lists k j q) is) [
  | inl known ↦ h.known k j q known
  | inr tail ↦
      let a = and_parts (is_tail c j k) (s.lists k j q) tail in
      let far : apart (servers c) j k ≡ c.failures = eqb-true _ _ a.0 in
      let changing = (h.world.lists.listed k j q a.1).1 in
      record {
        changing = changing;
        within = λ y lt live member near. in_has c.partitions s.trace (s.lists y) j q changing
            (h.world.nest.nested j y k q lt live (omega arith) a.1);
      }
]

pub carried_none : (c : Setting) (trace : List Entry) (up : ℕ → Bool) (has : ℕ → Visits) (x : ℕ) →
    AreCarried c trace up has no_visits x
carried_none c trace up has x = record {
  member = λ j q is. absurd (true≢false (sym is));
  wake = λ i j q is. absurd (true≢false (sym is));
  together = λ i j q is. absurd (true≢false (sym is));
}

-- a message without packet, logs and knowledge
pub empty_steady : (c : Setting) (trace : List Entry) (up : ℕ → Bool) (has : ℕ → Visits) (p : ℕ) (m : Message) →
    m.logs ≡ no_visits → m.known ≡ no_visits →
    ((bytes : (List ℕ)) → m.packet ≡ Some bytes → IsUnderWay c trace up has p m bytes) → IsSteady c trace up has p m
empty_steady c trace up has p m no_logs no_known way = record {
  carried = subst (λ l. AreCarried c trace up has l (target (servers c) m.place)) (sym no_logs)
      (carried_none c trace up has (target (servers c) m.place));
  told = λ j q is. absurd (true≢false (sym (subst (λ (l : Visits). In l j q) no_known is)));
  under_way = way;
}

module _ (c : Setting) (good : IsGood c) (s : ChainState) (h : Inv c s) where
  enter_steady : (p : ℕ) → p ≡ s.entered → p < (count c) → (b : Bool) → (m : Message) →
      (if b then Some (fresh_message s.events (Some (packet_at c p))) else s.message p) ≡ Some m →
      IsSteady c s.trace s.up s.lists p m
  enter_steady p first few true m e =
      let same : fresh_message s.events (Some (packet_at c p)) ≡ m = same_Some _ _ e in
      subst (λ v. IsSteady c s.trace s.up s.lists p v) same
      (empty_steady c s.trace s.up s.lists p _ refl refl (λ bytes is.
      let waits : (serial_of c s.trace).place p ≡ Waits 0 (packet_at c p) = h.unentered p (omega arith) few in
      record {
        place = waits ∙ ap (Waits 0) (same_Some _ _ is);
        within = λ i less. absurd (omega arith);
        together = λ i less. absurd (omega arith);
        own = tt;
        needs = λ i t. let less : i < 0 =
            visited_earlier c s.trace 0 p (packet_at c p) h.world.serial waits i (some_stands _ s.trace i p t) in
            absurd (omega arith);
      }))
  enter_steady p first few false m e = h.messages p m e

  enter_packet : (p : ℕ) → p ≡ s.entered → p < (count c) → (b : Bool) → (m : Message) →
      (if b then Some (fresh_message s.events (Some (packet_at c p))) else s.message p) ≡ Some m → (w : Withheld) →
      s.withheld p ≡ Some w → m.packet ≡ None
  enter_packet p first few b m e w is =
      let waits : (serial_of c s.trace).place p ≡ Waits 0 (packet_at c p) = h.unentered p (omega arith) few in
      let passed = (h.withheld p w is).place in absurd (cc)

  pub enters : (p : ℕ) → MayHappen c s (Enter p) → Inv c (next c s (Enter p))
  enters p legal = record {
    world = h.world;
    fit = h.fit;
    awake = stays_awake c good.some s (Enter p) legal h.awake;
    messages = each_message (λ q m. IsSteady c s.trace s.up s.lists q m) s.message p _
        (enter_steady p legal.0 legal.1 (s.up 0)) h.messages;
    entered = λ q m b e is. each_message (λ q m. (bytes : (List ℕ)) → m.packet ≡ Some bytes →
        q < s.entered + 1) s.message p _ (λ m e b is. let first : p ≡ s.entered =
        legal.0 in omega arith) (λ q m e b is. let old = h.entered q m b e is in omega arith) q m e b is;
    forward = h.forward;
    forward_live = h.forward_live;
    forward_far = h.forward_far;
    withheld = h.withheld;
    single = λ q w m is e. each_message (λ x n. (v : Withheld) → s.withheld x ≡ Some v →
        n.packet ≡ None) s.message p _ (enter_packet p legal.0 legal.1 (s.up 0))
        (λ x n e v is. h.single x v n is e) q m e w is;
    unentered = λ q le few. h.unentered q (omega arith) few;
    known = h.known;
    gaps = h.gaps;
  }
