-- What is not yet everywhere is on its way, and messages keep their numbers.
use Rattle.std.proofs.Common.{◌≡◌, ◌≢◌, ℕ, ◌+◌, ◌<◌, ◌≤◌, ◌==◌, ◌&&◌, ◌||◌, not, nat_lt, is_some, if◌then◌else◌}
use Rattle.std.proofs.Common.{true, false, ◌⊎◌, inl, inr, refl, sym, ap, subst, ◌∙◌, arith, Option, Some, None}
use Rattle.std.proofs.lemmas.Option.{none-some}
use Rattle.ftc_journal.specs.declared.event.Event.TheVariants.{Apply, Carry, Crash, Enter, Lose, Pass, Propagate, Pull}
use Rattle.ftc_journal.specs.declared.event.Event.TheVariants.{Recover, Release, Take, Visit}
use Rattle.ftc_protocol.specs.State.{ChainState, Held, Message, Queued, Where}
use Rattle.ftc_journal.specs.declared.event.Event.{Event}
use Rattle.ftc_protocol.specs.Visits.{In, Visits, union, just}
use Rattle.ftc_protocol.specs.Changes.{is_touching}
use Rattle.ftc_protocol.specs.Known.{knows}
use Rattle.ftc_serial.specs.Take.{Outcome}
use Rattle.ftc_protocol.specs.Legal.{MayHappen}
use Rattle.ftc_protocol.specs.Setting.{Setting, count, packet_at, servers}
use Rattle.ftc_ring.specs.Ring.{apart, next_of}
use Rattle.ftc_protocol.specs.Next.{drop_if, fresh_message, is_at, logs_sent, next, visited_at}
use Rattle.ftc_protocol.specs.Recovery.{following_live, is_dropped}
use Rattle.ftc_serial.specs.Words.{with_at}
use Rattle.ftc_serial.proofs.Functions.{with_at_cases}

-- what a message becomes by a visit at server k, and where server k sends it on
abbrev pub after_visit : Setting → ℕ → ℕ → Outcome → Message → Message
after_visit c k p o m = record {
  place = visited_at m.place;
  since = m.since;
  packet = o.packet;
  logs = union m.logs (just k p (is_touching o && nat_lt 0 c.failures));
  needs = λ group. is_some o.packet && (m.needs group || ((group == k) && is_touching o));
  known = m.known;
}

abbrev pub after_sending : Setting → ChainState → ℕ → Message → Message
after_sending c s k m = record {
  place = Queued k;
  since = s.events;
  packet = if k + 1 == servers c then None else m.packet;
  logs = logs_sent c s k m;
  needs = λ group. not (k + 1 == servers c) && m.needs group;
  known = knows c s k;
}

-- a log at server y or the next, or on the link between them
abbrev pub IsNear : ℕ → ℕ → Where → Type 0
IsNear n y (Held k visited by_ring) = (k ≡ y) ⊎ (k ≡ next_of n y)
IsNear n y (Queued l) = l ≡ y

pub record IsCarriedBy (c : Setting) (message : ℕ → Option Message) (y j q : ℕ) : Type 0 where
  pub origin : ℕ
  pub by : Message
  pub there : message origin ≡ Some by
  pub log : In by.logs j q
  pub near : IsNear (servers c) y by.place

abbrev pub IsOnWay : Setting → (ℕ → Option Message) → Visits → ℕ → ℕ → ℕ → Type 0
IsOnWay c message forwarder y j q = IsCarriedBy c message y j q ⊎ ((y ≡ 0) × In forwarder j q)

-- What a member has, the next has too, or it is on its way there, or the link between them has a gap.
abbrev pub IsPending : Setting → ChainState → Type 0
IsPending c s = (y j q : ℕ) → In (s.lists y) j q → apart (servers c) j y < c.failures →
    s.up (next_of (servers c) y) ≡ true → s.gap y ≡ false
    → In (s.lists (next_of (servers c) y)) j q ⊎ IsOnWay c s.message s.forwarder y j q

-- messages have the numbers of packets that have entered, or of propagates
abbrev pub AreNumbered : Setting → ChainState → Type 0
AreNumbered c s = (p : ℕ) (m : Message) → s.message p ≡ Some m →
    (p < s.entered) ⊎ (((count c) ≤ p) × (p < (count c) + s.propagates))

-- messages keep their numbers
module _ (c : Setting) (s : ChainState) (numbered : AreNumbered c s) where
  kept_number : (p : ℕ) (o : Option Message) → ((m : Message) → o ≡ Some m → (n : Message) × (s.message p ≡ Some n)) →
      (x : ℕ) (m : Message) → with_at s.message p o x ≡ Some m →
      (x < s.entered) ⊎ (((count c) ≤ x) × (x < (count c) + s.propagates))
  kept_number p o was x m = with_at_cases (λ v. v ≡ Some m →
      (x < s.entered) ⊎ (((count c) ≤ x) × (x < (count c) + s.propagates))) s.message p o x
      (λ e is. let n = was m is in
      subst (λ v. (v < s.entered) ⊎ (((count c) ≤ v) × (v < (count c) + s.propagates))) (sym e)
      (numbered p n.0 n.1))
      (λ ne is. numbered x m is)

  was_there : (o o' : Option Message) → (o ≡ None → o' ≡ None) → (m : Message) → o' ≡ Some m →
      (n : Message) × (o ≡ Some n)
  was_there None o' none_then m e = absurd (none-some m (sym (none_then refl) ∙ e))
  was_there (Some n) o' none_then m e = (n, refl)

  pub keeps_numbers : (e : Event) → MayHappen c s e → AreNumbered c (next c s e)
  keeps_numbers (Enter p) legal =
      λ x m. with_at_cases (λ v. v ≡ Some m →
      (x < s.entered + 1) ⊎ (((count c) ≤ x) × (x < (count c) + s.propagates))) s.message p (if s.up 0 then
      Some (fresh_message s.events (Some (packet_at c p))) else s.message p) x
      (λ e is. let e1 : p ≡ s.entered = legal.0 in inl (omega arith))
      (λ ne is. elim (numbered x m is) [ inl a ↦ inl (omega arith) | inr b ↦ inr b ])
  keeps_numbers (Take l p) legal = kept_number p _ (λ m e. (legal.0, legal.1))
  keeps_numbers (Apply k p j q) legal = numbered
  keeps_numbers (Visit k p w) legal = kept_number p _ (λ m e. (legal.0, legal.3))
  keeps_numbers (Pass k p) legal = kept_number p _ (λ m e. (legal.0, legal.1.there))
  keeps_numbers (Lose k p) legal = kept_number p _ (λ m e. (legal.0, legal.1.there))
  keeps_numbers (Carry p) legal = kept_number p _ (λ m e. (legal.0, legal.1))
  keeps_numbers (Crash k) legal = λ x m e. let w =
      was_there (s.message x) (drop_if (λ (x : Message). is_at c k x.place) (s.message x))
      (λ i. ap (drop_if (λ (x : Message). is_at c k x.place)) i) m e in numbered x w.0 w.1
  keeps_numbers (Recover k undone) legal = λ x m e. let t = following_live c s k in let w =
      was_there (s.message x) (drop_if (is_dropped c s t) (s.message x)) (λ i. ap (drop_if (is_dropped c s t)) i) m e in
      numbered x w.0 w.1
  keeps_numbers (Pull l) legal = numbered
  keeps_numbers (Propagate p) legal =
      λ x m. with_at_cases (λ v. v ≡ Some m →
      (x < s.entered) ⊎ (((count c) ≤ x) × (x < (count c) + (s.propagates + 1)))) s.message p
      (Some (fresh_message s.events None)) x
      (λ e is. let e1 : p ≡ (count c) + s.propagates = legal.4 in inr (omega arith, omega arith))
      (λ ne is. elim (numbered x m is) [
        | inl a ↦ inl a
        | inr b ↦ let b0 = b.0 in let b1 = b.1 in
            inr (omega arith, omega arith)
      ])
  keeps_numbers (Release p) legal = numbered
