-- What servers have and know, and what messages tell, are fronts of the trace in every state of a run.
use Rattle.std.proofs.Common.{◌≡◌, ℕ, ◌<◌, ◌&&◌, ◌||◌, if◌then◌else◌, Bool, true, false, List, [], ◌∷◌, Option, Some}
use Rattle.std.proofs.Common.{None, inl, inr, refl, sym, subst, arith}
use Rattle.std.proofs.lemmas.Bool.{true≢false, and_parts, and_from, or_cases, or_left, or_right}
use Rattle.std.proofs.lemmas.Option.{none-some, same_Some}
use Rattle.ftc_journal.specs.declared.event.Event.{Event}
use Rattle.ftc_journal.specs.declared.event.Event.TheVariants.{Apply, Carry, Crash, Enter, Lose, Pass, Propagate, Pull}
use Rattle.ftc_journal.specs.declared.event.Event.TheVariants.{Recover, Release, Take, Visit}
use Rattle.ftc_ring.specs.Ring.{next_of}
use Rattle.ftc_serial.specs.Take.{Outcome}
use Rattle.ftc_serial.specs.Serial.{Entry, Visited, Given}
use Rattle.ftc_serial.specs.Entries.{Touches}
use Rattle.ftc_serial.specs.Trace.{names}
use Rattle.ftc_serial.specs.Removal.{left_of}
use Rattle.ftc_serial.proofs.Functions.{with_at_cases}
use Rattle.ftc_protocol.specs.Setting.{Setting, IsSetting, rule_at, packet_at, is_tail, servers}
use Rattle.ftc_protocol.specs.Visits.{Visits, no_visits, union}
use Rattle.ftc_protocol.specs.Changes.{Changes, is_changing}
use Rattle.ftc_protocol.specs.Front.{AreApart, IsClosed, IsFront, AreFronts}
use Rattle.ftc_protocol.specs.Trace.{IsSomeVisit}
use Rattle.ftc_protocol.specs.State.{ChainState, Message, opening}
use Rattle.ftc_protocol.specs.Known.{knows}
use Rattle.ftc_protocol.specs.Next.{next, known_by, outcome_at, taken_message, visited_message, sent_message, drop_if}
use Rattle.ftc_protocol.specs.Next.{fresh_message}
use Rattle.ftc_protocol.specs.Recovery.{previous_live, following_live}
use Rattle.ftc_protocol.specs.Run.{IsRun, AreLegal, state_after}
use Rattle.ftc_protocol.proofs.Premises.{IsGood}
use Rattle.ftc_protocol.proofs.Places.{IsSerial, serial_of}
use Rattle.ftc_protocol.proofs.TraceLemmas.{stands_map, before_left}
use Rattle.ftc_protocol.proofs.EarlierVisits.{visited_earlier}
use Rattle.ftc_protocol.proofs.Invariant.{Inv, each_message}
use Rattle.ftc_protocol.proofs.Induction.{keeps, opens, always}
use Rattle.ftc_protocol.proofs.AcceptedSettings.{is_good, opens_fit}

-- a serial run's visits stand once, and touch what they change
pub are_apart : (c : Setting) → IsGood c → (trace : List Entry) → IsSerial c trace → AreApart c.partitions trace
are_apart c good [] serial = tt
are_apart c good (Given p b ∷ older) serial = are_apart c good older serial.1
are_apart c good (Visited k q o ∷ older) serial = (
  (λ there. let less : k < k = visited_earlier c older k q serial.0.0 serial.1 serial.0.1 k there in omega arith),
  (λ i changes. subst (λ (u : Outcome). Changes c.partitions u i → Touches c.partitions u i) (sym serial.0.2)
      (good.sound.touched (rule_at c k) serial.0.0 ((serial_of c older).maps k) i) changes),
  are_apart c good older serial.1,
)

-- ---- closed sets, as they are joined and as the trace changes

module _ (partitions g : ℕ) (older : List Entry) (set : ℕ → Bool) (is : IsClosed partitions older g set) where
  grown : (k p : ℕ) (o : Outcome) → (IsSomeVisit older k p → ⊥) → ((q : ℕ) → set q ≡ true → IsSomeVisit older g q)
      → IsClosed partitions (Visited k p o ∷ older) g set
  grown k p o fresh there = record {
    before = λ a b inside h. elim h [
      | inl here ↦ absurd (fresh (subst (λ x. IsSomeVisit older x p) (sym here.1.0)
          (subst (λ x. IsSomeVisit older g x) (sym here.0) (there b inside))))
      | inr old ↦ is.before a b inside old
    ];
  }

  given : (p : ℕ) (bytes : List ℕ) → IsClosed partitions (Given p bytes ∷ older) g set
  given p bytes =
      record { before = λ a b inside h. elim h [ inl here ↦ absurd here.0 | inr old ↦ is.before a b inside old ] }

  left : (gone : Visits) → IsClosed partitions (left_of gone older) g set
  left gone = record { before = λ a b inside h. is.before a b inside (before_left gone partitions older g a b h) }

both : (partitions g : ℕ) (trace : List Entry) (one other : ℕ → Bool) → IsClosed partitions trace g one
    → IsClosed partitions trace g other → IsClosed partitions trace g (λ q. one q || other q)
both partitions g trace one other first second = record {
  before = λ a b inside is. elim (or_cases (one b) (other b) inside) [
    | inl x ↦ or_left (one a) (other a) (first.before a b x is)
    | inr x ↦ or_right (one a) (other a) (second.before a b x is)
  ];
}

pub none_front : (c : Setting) (s : ChainState) → IsFront c s no_visits
none_front c s = record {
  closed = λ g. record { before = λ a b inside h. absurd (true≢false (sym inside)) };
  there = λ g q inside. absurd (true≢false (sym inside));
}

both_front : (c : Setting) (s : ChainState) (one other : Visits) → IsFront c s one → IsFront c s other
    → IsFront c s (union one other)
both_front c s one other first second = record {
  closed = λ g. both c.partitions g s.trace (one g) (other g) (first.closed g) (second.closed g);
  there = λ g q inside. elim
      (or_cases (one g q) (other g q) inside) [ inl a ↦ first.there g q a | inr b ↦ second.there g q b ];
}

-- what is told stays closed: the messages' and the servers' knowledge
record AreTold (c : Setting) (s : ChainState) : Type 0 where
  pub known : (k : ℕ) → IsFront c s (s.known k)
  pub told : (p : ℕ) (m : Message) → s.message p ≡ Some m → IsFront c s m.known

module _ (c : Setting) (good : IsGood c) (s : ChainState) (h : Inv c s) (t : AreTold c s) where
  list_front : (k : ℕ) → IsFront c s (s.lists k)
  list_front k = record {
    closed = λ g. record { before = λ a b inside is. h.world.lists.closed k g a b inside is };
    there = λ g q inside. (h.world.lists.listed k g q inside).1;
  }

  knows_front : (k : ℕ) → IsFront c s (knows c s k)
  knows_front k =
      let tail_front : IsFront c s (λ g q. is_tail c g k && s.lists k g q) = record {
        closed = λ g. record {
          before = λ a b inside is.
              let parts = and_parts (is_tail c g k) (s.lists k g b) inside in
              and_from (is_tail c g k) (s.lists k g a) parts.0 (h.world.lists.closed k g a b parts.1 is);
        };
        there = λ g q inside. (list_front k).there g q (and_parts (is_tail c g k) (s.lists k g q) inside).1;
      } in
      both_front c s (s.known k) (λ g q. is_tail c g k && s.lists k g q) (t.known k) tail_front

  -- what an event leaves known was a front before it
  known_after : (e : Event) (k : ℕ) → IsFront c s ((next c s e).known k)
  known_after (Enter p) k = t.known k
  known_after (Take l p) k = with_at_cases (λ (v : Visits). IsFront c s v) s.known (next_of (servers c) l) _ k
      (λ e. both_front c s (s.known (next_of (servers c) l)) (known_by (s.message p))
      (t.known (next_of (servers c) l)) (by (s.message p) refl))
      (λ ne. t.known k)
    where
      by : (o : Option Message) → s.message p ≡ o → IsFront c s (known_by o)
      by None is = none_front c s
      by (Some m) is = t.told p m is
  known_after (Apply k' p j q) k = t.known k
  known_after (Visit k' p w) k = t.known k
  known_after (Pass k' p) k = t.known k
  known_after (Lose k' p) k = t.known k
  known_after (Carry p) k = t.known k
  known_after (Crash k') k = with_at_cases (λ (v : Visits). IsFront c s v) s.known k' no_visits k
      (λ e. none_front c s) (λ ne. t.known k)
  known_after (Recover k' undone) k = with_at_cases (λ (v : Visits). IsFront c s v) s.known k' _ k
      (λ e. both_front c s (knows c s (previous_live c s k')) (knows c s (following_live c s k'))
      (knows_front (previous_live c s k')) (knows_front (following_live c s k')))
      (λ ne. t.known k)
  known_after (Pull l) k = t.known k
  known_after (Propagate p) k = t.known k
  known_after (Release p) k = t.known k

  abbrev Front : ℕ → Message → Type 0
  Front p m = IsFront c s m.known

  fresh_front : (now : ℕ) (packet : Option (List ℕ)) (m : Message) → Some (fresh_message now packet) ≡ Some m
      → IsFront c s m.known
  fresh_front now packet m e = subst (λ (x : Message). IsFront c s x.known)
      (same_Some (fresh_message now packet) m e) (none_front c s)

  sent : (k p : ℕ) (b : Bool) (m : Message) → (if b then sent_message c s k (s.message p) else None) ≡ Some m
      → IsFront c s m.known
  sent k p false m e = absurd (none-some m e)
  sent k p true m e = by (s.message p) e
    where
      by : (o : Option Message) → sent_message c s k o ≡ Some m → IsFront c s m.known
      by None is = absurd (none-some m is)
      by (Some old) is = subst (λ (x : Message). IsFront c s x.known) (same_Some _ m is) (knows_front k)

  dropped : (test : Message → Bool) (p : ℕ) (o : Option Message) → s.message p ≡ o → (m : Message)
      → drop_if test o ≡ Some m → IsFront c s m.known
  dropped test p None is m = λ e. absurd (none-some m e)
  dropped test p (Some old) is m = elim (test old) as (λ b. (if b then None else Some old) ≡ Some m
      → IsFront c s m.known) [
        | true ↦ λ e. absurd (none-some m e)
        | false ↦ λ e. subst (λ (x : Message). IsFront c s x.known) (same_Some old m e) (t.told p old is)
      ]

  told_after : (e : Event) (p : ℕ) (m : Message) → (next c s e).message p ≡ Some m → IsFront c s m.known
  told_after (Enter q) p m = each_message Front s.message q _ (entered (s.up 0)) (λ x n is. t.told x n is) p m
    where
      entered : (b : Bool) (n : Message) → (if b then Some (fresh_message s.events
          (Some (packet_at c q))) else s.message q) ≡ Some n → IsFront c s n.known
      entered true n e = fresh_front s.events (Some (packet_at c q)) n e
      entered false n e = t.told q n e
  told_after (Take l q) p m = each_message Front s.message q _ (λ n e. by (s.message q) refl n e)
      (λ x n is. t.told x n is) p m
    where
      by : (o : Option Message) → s.message q ≡ o → (n : Message) → taken_message c s l o ≡ Some n → IsFront c s n.known
      by None is n e = absurd (none-some n e)
      by (Some old) is n e = subst (λ (x : Message). IsFront c s x.known) (same_Some _ n e) (t.told q old is)
  told_after (Apply k q j x) p m = t.told p m
  told_after (Visit k q w) p m = each_message Front s.message q _ (λ n e. by (s.message q) refl n e)
      (λ x n is. t.told x n is) p m
    where
      by : (o : Option Message) → s.message q ≡ o → (n : Message)
          → visited_message c k q (outcome_at c s k q) o ≡ Some n → IsFront c s n.known
      by None is n e = absurd (none-some n e)
      by (Some old) is n e = subst (λ (x : Message). IsFront c s x.known) (same_Some _ n e) (t.told q old is)
  told_after (Pass k q) p m = each_message Front s.message q _ (λ n e. sent k q _ n e) (λ x n is. t.told x n is) p m
  told_after (Lose k q) p m = each_message Front s.message q _ (λ n e. sent k q _ n e) (λ x n is. t.told x n is) p m
  told_after (Carry q) p m = each_message Front s.message q None (λ n e. absurd (none-some n e))
      (λ x n is. t.told x n is) p m
  told_after (Crash k) p m = dropped _ p (s.message p) refl m
  told_after (Recover k undone) p m = dropped _ p (s.message p) refl m
  told_after (Pull l) p m = t.told p m
  told_after (Propagate q) p m =
      each_message Front s.message q _ (λ n e. fresh_front s.events None n e) (λ x n is. t.told x n is) p m
  told_after (Release q) p m = t.told p m

  -- each event leaves a front closed
  closed_after : (e : Event) → Inv c (next c s e) → (visits : Visits) → IsFront c s visits → (g : ℕ)
      → IsClosed c.partitions (next c s e).trace g (visits g)
  closed_after (Enter p) after visits front g = front.closed g
  closed_after (Take l p) after visits front g = front.closed g
  closed_after (Apply k p j q) after visits front g = front.closed g
  closed_after (Visit k p w) after visits front g =
      let is : AreApart c.partitions (Visited k p (outcome_at c s k p) ∷ s.trace) = are_apart c good
      (Visited k p (outcome_at c s k p) ∷ s.trace) after.world.serial in
      grown c.partitions g s.trace (visits g) (front.closed g) k p (outcome_at c s k p) is.0
      (λ q inside. stands_map (λ o. is_changing c.partitions o ≡ true) (λ o. Unit {0}) (λ o u. tt) s.trace g q
      (front.there g q inside))
  closed_after (Pass k p) after visits front g = front.closed g
  closed_after (Lose k p) after visits front g = front.closed g
  closed_after (Carry p) after visits front g = front.closed g
  closed_after (Crash k) after visits front g = front.closed g
  closed_after (Recover k undone) after visits front g =
      left c.partitions g s.trace (visits g) (front.closed g) (names undone)
  closed_after (Pull l) after visits front g = front.closed g
  closed_after (Propagate p) after visits front g = front.closed g
  closed_after (Release p) after visits front g = given c.partitions g s.trace (visits g) (front.closed g) p _

  told_keeps : (e : Event) → Inv c (next c s e) → AreTold c (next c s e)
  told_keeps e after = record {
    known = λ k. record {
      closed = closed_after e after ((next c s e).known k)
          (known_after e k);
      there = λ g q inside. (after.known k g q inside).changing;
    };
    told = λ p m is. record {
      closed = closed_after e after m.known (told_after e p m is);
      there = λ g q inside.
          ((after.messages p m is).told g q inside).changing;
    };
  }

told_runs : (c : Setting) → IsGood c → (es : List Event) (s : ChainState) → Inv c s → AreTold c s → AreLegal c s es
    → AreTold c (state_after c s es)
told_runs c good [] s h t legal = t
told_runs c good (e ∷ es) s h t legal =
    let after = keeps c good s h e legal.0.0 in
    told_runs c good es (next c s e) after (told_keeps c good s h t e after) legal.1

pub fronts : (c : Setting) → IsSetting c → (journal : List Event) → IsRun c journal
    → AreFronts c (state_after c (opening c) journal)
fronts c is journal run =
    let good = is_good c is in
    let s = state_after c (opening c) journal in
    let h = always c good (opens_fit c is) journal run in
    let t = told_runs c good journal (opening c) (opens c good (opens_fit c is))
    (record { known = λ k. none_front c (opening c); told = λ p m e. absurd (none-some m e) }) run in
    record {
      visits = are_apart c good s.trace h.world.serial;
      lists = list_front c good s h t;
      known = t.known;
      knows = knows_front c good s h t;
      told = t.told;
    }
