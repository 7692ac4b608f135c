-- Every message is held by a live server, or queued to one.
use Rattle.std.proofs.Common.{◌≡◌, ℕ, ◌<◌, ◌&&◌, Bool, true, false, not, refl, sym, ap, subst, ◌∙◌}
use Rattle.std.proofs.Common.{eq-eqb, Option, Some, None, if◌then◌else◌}
use Rattle.std.proofs.lemmas.Bool.{true≢false, and_parts, or_parts, not-true}
use Rattle.std.proofs.lemmas.Option.{none-some, same_Some}
use Rattle.ftc_journal.specs.declared.event.Event.TheVariants.{Apply, Carry, Crash, Enter, Lose, Pass, Propagate, Pull}
use Rattle.ftc_journal.specs.declared.event.Event.TheVariants.{Recover, Release, Take, Visit}
use Rattle.ftc_protocol.specs.State.{ChainState, Held, Message, Queued, Where}
use Rattle.ftc_journal.specs.declared.event.Event.{Event}
use Rattle.ftc_protocol.specs.Legal.{MayHappen, is_sent}
use Rattle.ftc_protocol.specs.Setting.{Setting, packet_at, servers}
use Rattle.ftc_protocol.specs.Next.{drop_if, fresh_message, is_at, is_away, next, outcome_at, sent_message}
use Rattle.ftc_protocol.specs.Next.{taken_message, visited_at, visited_message}
use Rattle.ftc_protocol.specs.Recovery.{is_dropped}
use Rattle.ftc_ring.specs.Ring.{next_of}
use Rattle.ftc_serial.specs.Words.{with_at}
use Rattle.ftc_serial.proofs.Functions.{with_at_cases}

abbrev pub IsUp : ℕ → (ℕ → Bool) → Where → Type 0
IsUp n up (Held k visited by_ring) = up k ≡ true
IsUp n up (Queued l) = up (next_of n l) ≡ true

abbrev pub IsAwake : Setting → ChainState → Type 0
IsAwake c s = (p : ℕ) (m : Message) → s.message p ≡ Some m → IsUp (servers c) s.up m.place

-- `if b then None else Some m` is Some only of m, and where b is false
pub unless_some : (b : Bool) (m m' : Message) → (if b then None else Some m) ≡ Some m' → (b ≡ false) × (m ≡ m')
unless_some true m m' e = cc
unless_some false m m' e = (refl, cc)

visited_up : (c : Setting) (n : ℕ) (up : ℕ → Bool) (w : Where) → IsUp n up w → IsUp n up (visited_at w)
visited_up c n up (Held k visited by_ring) h = h
visited_up c n up (Queued l) h = h

-- up at the place still, where k alone went down and the place isn't k's
still_up : (c : Setting) (up : ℕ → Bool) (k : ℕ) (w : Where) → is_at c k w ≡ false → IsUp (servers c) up w →
    IsUp (servers c) (with_at up k false) w
still_up c up k (Held i visited by_ring) away h =
    with_at_cases (λ b. b ≡ true) up k false i (λ e. absurd (true≢false (sym (eq-eqb i k e) ∙ away))) (λ ne. h)
still_up c up k (Queued l) away h =
    with_at_cases (λ b. b ≡ true) up k false (next_of (servers c) l)
    (λ e. absurd (true≢false (sym (eq-eqb _ k e) ∙ away))) (λ ne. h)

more_up : (c : Setting) (up : ℕ → Bool) (k : ℕ) (w : Where) → IsUp (servers c) up w →
    IsUp (servers c) (with_at up k true) w
more_up c up k (Held i visited by_ring) h = with_at_cases (λ b. b ≡ true) up k true i (λ e. refl) (λ ne. h)
more_up c up k (Queued l) h = with_at_cases (λ b. b ≡ true) up k true (next_of (servers c) l) (λ e. refl) (λ ne. h)

pub lost_some : (c : Setting) (k : ℕ) (o : Option Message) (m : Message) →
    drop_if (λ (x : Message). is_at c k x.place) o ≡ Some m → (o ≡ Some m) × (is_at c k m.place ≡ false)
lost_some c k None m e = cc
lost_some c k (Some m') m e = let r = unless_some (is_at c k m'.place) m' m e in
    (ap Some r.1, subst (λ (x : Message). is_at c k x.place ≡ false) r.1 r.0)

pub kept_drop : (test : Message → Bool) (o : Option Message) (m : Message) → drop_if test o ≡ Some m → o ≡ Some m
kept_drop test None m e = absurd (none-some m e)
kept_drop test (Some n) m e =
    elim (test n) as (λ b. (if b then None else Some n) ≡ Some m →
    Some n ≡ Some m) [ true ↦ λ x. absurd (none-some m x) | false ↦ λ x. x ] e

pub kept_some : (c : Setting) (s : ChainState) (t : ℕ) (o : Option Message) (m : Message) →
    drop_if (is_dropped c s t) o ≡ Some m → (o ≡ Some m) × (is_dropped c s t m ≡ false)
kept_some c s t None m e = cc
kept_some c s t (Some m') m e = let r = unless_some (is_dropped c s t m') m' m e in
    (ap Some r.1, subst (λ (x : Message). is_dropped c s t x ≡ false) r.1 r.0)

module _ (c : Setting) where
  -- at a changed place and elsewhere
  changed : (s : ChainState) (p : ℕ) (o : Option Message) →
      ((m : Message) → o ≡ Some m → IsUp (servers c) s.up m.place) → IsAwake c s
      → (q : ℕ) (m : Message) → with_at s.message p o q ≡ Some m → IsUp (servers c) s.up m.place
  changed s p o here h q = with_at_cases (λ v. (m : Message) → v ≡ Some m →
      IsUp (servers c) s.up m.place) s.message p o q (λ e. here) (λ ne. h q)

  enters : (s : ChainState) (p : ℕ) → IsAwake c s → (b : Bool) → s.up 0 ≡ b → (o : Option Message) → o ≡ s.message p →
      (m : Message) → (if b then Some (fresh_message s.events (Some (packet_at c p))) else o) ≡ Some m →
      IsUp (servers c) s.up m.place
  enters s p h true is o at m e = subst (λ (x : Message). IsUp (servers c) s.up x.place) (same_Some _ _ e) is
  enters s p h false is o at m e = h p m (sym at ∙ e)

  takes : (s : ChainState) (l p : ℕ) (m : Message) → IsAwake c s → s.message p ≡ Some m → m.place ≡ Queued l →
      (o : Option Message) → s.message p ≡ o → (m' : Message) → taken_message c s l o ≡ Some m' →
      IsUp (servers c) s.up m'.place
  takes s l p m h at place None is m' e = absurd (none-some m' e)
  takes s l p m h at place (Some m0) is m' e =
      let up : s.up (next_of (servers c) l) ≡ true = subst (IsUp (servers c) s.up) place (h p m at) in
      subst (λ (x : Message). IsUp (servers c) s.up x.place) (same_Some _ _ e) up

  visits : (s : ChainState) (k p : ℕ) → IsAwake c s → (u : _) → (o : Option Message) → s.message p ≡ o → (m : Message) →
      visited_message c k p u o ≡ Some m → IsUp (servers c) s.up m.place
  visits s k p h u None is m e = absurd (none-some m e)
  visits s k p h u (Some m0) is m e =
      subst (λ (x : Message). IsUp (servers c) s.up x.place) (same_Some _ _ e)
      (visited_up c (servers c) s.up m0.place (h p m0 is))

  sends : (s : ChainState) (k : ℕ) (o : Option Message) (m : Message) → s.up (next_of (servers c) k) ≡ true →
      sent_message c s k o ≡ Some m → IsUp (servers c) s.up m.place
  sends s k None m up e = absurd (none-some m e)
  sends s k (Some m0) m up e = subst (λ (x : Message). IsUp (servers c) s.up x.place) (same_Some _ _ e) up

  leaves : (s : ChainState) (k p : ℕ) (lost : Bool) (m : Message) (b : Bool) →
      is_sent c k && not (is_away c s k lost) ≡ b → (if b then sent_message c s k (s.message p) else None) ≡ Some m →
      IsUp (servers c) s.up m.place
  leaves s k p lost m true is e =
      let away : is_away c s k lost ≡ false = not-true _ (and_parts _ _ is).1 in
      let down : not (s.up (next_of (servers c) k)) ≡ false = (or_parts _ _ away).1 in
      sends s k (s.message p) m (elim (s.up (next_of (servers c) k)) as (λ b. not b ≡ false →
      b ≡ true) [ true ↦ λ e. refl | false ↦ λ e. cc ] down) e
  leaves s k p lost m false is e = absurd (none-some m e)

  pub stays_awake : 0 < (servers c) → (s : ChainState) (e : Event) → MayHappen c s e → IsAwake c s →
      IsAwake c (next c s e)
  stays_awake some s (Enter p) legal h = changed s p _ (enters s p h (s.up 0) refl (s.message p) refl) h
  stays_awake some s (Take l p) legal h = changed s p _ (takes s l p legal.0 h legal.1 legal.2 (s.message p) refl) h
  stays_awake some s (Apply k p j q) legal h = h
  stays_awake some s (Visit k p w) legal h = changed s p _ (visits s k p h (outcome_at c s k p) (s.message p) refl) h
  stays_awake some s (Pass k p) legal h = changed s p _ (λ m. leaves s k p false m _ refl) h
  stays_awake some s (Lose k p) legal h = changed s p _ (λ m. leaves s k p true m _ refl) h
  stays_awake some s (Carry p) legal h = changed s p None (λ m e. absurd (none-some m e)) h
  stays_awake some s (Crash k) legal h = λ q m e. let r = lost_some c k (s.message q) m e in
      still_up c s.up k m.place r.1 (h q m r.0)
  stays_awake some s (Recover k undone) legal h =
      λ q m e. more_up c s.up k m.place (h q m (kept_some c s _ (s.message q) m e).0)
  stays_awake some s (Pull l) legal h = h
  stays_awake some s (Propagate p) legal h =
      changed s p _ (λ m e. subst (λ (x : Message). IsUp (servers c) s.up x.place) (same_Some _ _ e) (legal.1 0 some)) h
  stays_awake some s (Release p) legal h = h

pub lost_some_message : (c : Setting) (k : ℕ) (o : Option Message) (m : Message) →
    drop_if (λ (x : Message). is_at c k x.place) o ≡ Some m → o ≡ Some m
lost_some_message c k o m e = (lost_some c k o m e).0
