-- A visit that is had by each live member of its group up to some distance from its head.
use Rattle.std.proofs.Common.{◌≡◌, ◌≢◌, ℕ, ◌-◌, ◌<◌, ◌≤◌, ◌&&◌, Bool, true, false, List, ◌∷◌, inl, inr, sym, subst}
use Rattle.std.proofs.Common.{arith}
use Rattle.std.proofs.lemmas.Bool.{true≢false, eqb-false, cases_lt, and_parts, or_left, or_right, and_from, not-true}
use Rattle.ftc_protocol.proofs.CarriedLogs.{AreCarried, has_grown, has_left, has_more}
use Rattle.ftc_protocol.specs.State.{ChainState}
use Rattle.ftc_serial.specs.Serial.{Entry, Given, Visited, after}
use Rattle.ftc_protocol.specs.Trace.{Has, IsTouching}
use Rattle.ftc_protocol.specs.Visits.{In, Visits, just, no_visits, union}
use Rattle.ftc_protocol.proofs.RingDistances.{IsLastLive, IsNextLive, apart_after, apart_cases}
use Rattle.ftc_protocol.proofs.UndoneVisits.{IsUndone}
use Rattle.ftc_serial.specs.Take.{Outcome}
use Rattle.ftc_protocol.specs.Setting.{Setting, servers}
use Rattle.ftc_ring.specs.Ring.{apart, next_of}
use Rattle.ftc_protocol.proofs.HavingVisits.{between_by, has_given, left_had, pull_has, recover_has}
use Rattle.ftc_protocol.proofs.Sets.{in_both, in_one}
use Rattle.ftc_serial.specs.Removal.{left_of}
use Rattle.ftc_protocol.specs.Recovery.{list_got}
use Rattle.ftc_protocol.specs.Next.{pulled_list}
use Rattle.ftc_serial.specs.Words.{with_at}
use Rattle.ftc_serial.proofs.Functions.{with_at_cases}

abbrev pub IsWithin : Setting → List Entry → (ℕ → Bool) → (ℕ → Visits) → ℕ → ℕ → ℕ → Type 0
IsWithin c trace up has i p d = (y : ℕ) → y < (servers c) → up y ≡ true → apart (servers c) i y ≤ c.failures →
    apart (servers c) i y < d → Has c.partitions trace (has y) i p

module _ (c : Setting) (trace : List Entry) (up : ℕ → Bool) (has : ℕ →
    Visits) (i p d : ℕ) (h : IsWithin c trace up has i p d) where
  pub within_more : (new : ℕ → Visits) → ((k j q : ℕ) → In (has k) j q → In (new k) j q) → IsWithin c trace up new i p d
  within_more new more y lt live member near =
      has_more c.partitions trace (has y) (new y) i p (more y i) (h y lt live member near)

  pub within_grown : (k q : ℕ) (o : Outcome) → ((k ≡ i) × (q ≡ p) → ⊥) → IsWithin c (Visited k q o ∷ trace) up has i p d
  within_grown k q o other y lt live member near =
      has_grown c.partitions trace k q o (has y) i p other (h y lt live member near)

  pub within_given : (x : ℕ) (bytes : (List ℕ)) → IsWithin c (Given x bytes ∷ trace) up has i p d
  within_given x bytes y lt live member near =
      has_given c.partitions trace x bytes (has y) i p (h y lt live member near)

  pub within_down : (k : ℕ) → IsWithin c trace (with_at up k false) (with_at has k no_visits) i p d
  within_down k y lt = with_at_cases (λ (b : Bool). b ≡ true → apart (servers c) i y ≤ c.failures →
      apart (servers c) i y < d → Has c.partitions trace (with_at has k no_visits y) i p) up k false y
      (λ e live. absurd (true≢false (sym live)))
      (λ ne live member near. with_at_cases (λ (v : Visits). Has c.partitions trace v i p) has k no_visits y
      (λ e. absurd (ne e)) (λ _. h y lt live member near))

module _ (c : Setting) (s : ChainState) where
  pub within_pulls : (servers c) ≢ 1 → (l : ℕ) → l < (servers c) → s.up l ≡ true → (i p d : ℕ) → i < (servers c) →
      IsWithin c s.trace s.up s.lists i p d
      → IsWithin c s.trace s.up
      (with_at s.lists (next_of (servers c) l) (pulled_list c s l (next_of (servers c) l))) i p d
  within_pulls several l lt live_l i p d il h y yl live member near =
      let n = (servers c) in let m = next_of n l in
      with_at_cases (λ (v : Visits). Has c.partitions s.trace v i p) s.lists m (pulled_list c s l m) y
      (λ e. pull_has c s s.trace l m i p
      (λ is. elim (apart_after n l lt) [
        | inr just ↦ absurd (several just)
        | inl step ↦
            let im = apart_cases n i m il step.1 in let il' = apart_cases n i l il lt in let st = step.0 in
            let own : i ≢ m = eqb-false i m (not-true _ (and_parts _ _ is).1) in
            let far : apart n i m < d = subst (λ v. apart n i v < d) e near in
            let mem : apart n i m ≤ c.failures = subst (λ v. apart n i v ≤ c.failures) e member in
            h l lt live_l (omega arith) (omega arith)
      ])
      (λ _. subst (λ v. Has c.partitions s.trace (s.lists v) i p) e (h y yl live member near)))
      (λ ne. h y yl live member near)

  pub within_recovers : (m r t : ℕ) → m < (servers c) → s.up m ≡ false → IsLastLive (servers c) s.up m r →
      IsNextLive (servers c) s.up m t
      → (gone : Visits) → ((j p : ℕ) → IsUndone c s r t j p → In gone j p)
      → (i p d : ℕ) → i < (servers c) → IsTouching (left_of gone s.trace) i p → IsWithin c s.trace s.up s.lists i p d
      → IsWithin c (left_of gone s.trace) (with_at s.up m true) (with_at s.lists m (list_got c s m r t)) i p d
  within_recovers m r t inside down before after gone exact i p d il touching h y yl =
      let n = (servers c) in
      with_at_cases (λ (b : Bool). b ≡ true → apart n i y ≤ c.failures → apart n i y < d →
      Has c.partitions (left_of gone s.trace) (with_at s.lists m (list_got c s m r t) y) i p) s.up m true y
      (λ e u member near.
      let im_member : apart n i m ≤ c.failures = subst (λ v. apart n i v ≤ c.failures) e member in
      let im_near : apart n i m < d = subst (λ v. apart n i v < d) e near in
      let im = apart_cases n i m il inside in let ir = apart_cases n i r il before.below in let rm =
      apart_cases n r m before.below inside in
      let got : Has c.partitions s.trace (list_got c s m r t) i p =
      recover_has c s m r t inside down before after i p im_member
      (λ head. h r before.below before.live (omega arith) (omega arith))
      (λ head. left_had c s m r t inside down before after gone exact i p touching
      (between_by c s m r t inside down before after i il head)) in
      has_left c.partitions s.trace gone _ i p
      (with_at_cases (λ (v : Visits). Has c.partitions s.trace v i p) s.lists m (list_got c s m r t) y (λ _. got)
      (λ ne. absurd (ne e))))
      (λ ne live member near. has_left c.partitions s.trace gone _ i p
      (with_at_cases (λ (v : Visits). Has c.partitions s.trace v i p) s.lists m (list_got c s m r t) y
      (λ e. absurd (ne e)) (λ _. h y yl live member near)))

-- Logs on their way, at the other events.
module _ (c : Setting) where
  pub carried_given : (trace : List Entry) (up : ℕ → Bool) (has : ℕ →
      Visits) (logs : Visits) (x q : ℕ) (bytes : (List ℕ)) → AreCarried c trace up has logs x →
      AreCarried c (Given q bytes ∷ trace) up has logs x
  carried_given trace up has logs x q bytes h =
      let old : (i p : ℕ) → IsTouching (Given q bytes ∷ trace) i p → IsTouching trace i p =
      λ i p t. elim t [ inl here ↦ absurd here | inr there ↦ there ] in
      record {
        member = λ j p is. let w = h.member j p is in (w.0, w.1, inr w.2);
        wake = λ i j p is le t. within_given c trace up has i p _ (h.wake i j p is le (old i p t)) q bytes;
        together = λ i j p is le t. h.together i j p is le (old i p t);
      }

  pub carried_down : (trace : List Entry) (up : ℕ → Bool) (has : ℕ → Visits) (logs : Visits) (x k : ℕ) →
      AreCarried c trace up has logs x → AreCarried c trace (with_at up k false) (with_at has k no_visits) logs x
  carried_down trace up has logs x k h = record {
    member = h.member;
    wake = λ i j p is le t. within_down c trace up has i p _ (h.wake i j p is le t) k;
    together = h.together;
  }

  pub carried_pulls : (s : ChainState) → (servers c) ≢ 1 → (l : ℕ) → l < (servers c) → s.up l ≡ true →
      (logs : Visits) (x : ℕ) → AreCarried c s.trace s.up s.lists logs x
      → AreCarried c s.trace s.up
      (with_at s.lists (next_of (servers c) l) (pulled_list c s l (next_of (servers c) l))) logs x
  carried_pulls s several l lt live logs x h = record {
    member = h.member;
    wake = λ i j p is le t. let jl =
        (h.member j p is).0 in within_pulls c s several l lt live i p _ (omega arith) (h.wake i j p is le t);
    together = h.together;
  }

  -- the log of a visit that was just made joins
  pub carried_joins : (trace : List Entry) (up : ℕ → Bool) (has : ℕ → Visits) (logs : Visits) (k p : ℕ) (b : Bool) →
      k < (servers c) → (b ≡ true → IsTouching trace k p) → apart (servers c) k k ≡ 0
      → ((i : ℕ) → i < k → IsTouching trace i p → IsWithin c trace up has i p (k - i))
      → ((i : ℕ) → i < k → IsTouching trace i p → k - i ≤ c.failures → In logs i p)
      → AreCarried c trace up has logs k → AreCarried c trace up has (union logs (just k p b)) k
  carried_joins trace up has logs k p b kl touched here within together h = record {
    member = λ j q is. elim (in_both logs (just k p b) j q is) [
      | inl old ↦ h.member j q old
      | inr new ↦ let e = in_one k p b j q new in
          subst (λ v. (v < (servers c)) × (apart (servers c) v k ≤ c.failures) × IsTouching trace v q) e.0 (
            kl,
            omega arith,
            subst (λ v. IsTouching trace k v) (sym e.1) (touched e.2),
          )
    ];
    wake = λ i j q is le t y lt live member near. elim (in_both logs (just k p b) j q is) [
      | inl old ↦ h.wake i j q old le t y lt live member near
      | inr new ↦ let e = in_one k p b j q new in let ej = e.0 in let zero' : apart (servers c) j k ≡ 0 =
          subst (λ v. apart (servers c) v k ≡ 0) e.0 here in
          elim (cases_lt i k) [
            | inl less ↦ subst (λ v. Has c.partitions trace (has y) i v) (sym e.1)
                (within i less (subst (λ v. IsTouching trace i v) e.1 t) y lt live member (omega arith))
            | inr more ↦ absurd (omega arith)
          ]
    ];
    together = λ i j q is le t near. elim (in_both logs (just k p b) j q is) [
      | inl old ↦ or_left (logs i q) (just k p b i q) (h.together i j q old le t near)
      | inr new ↦ let e = in_one k p b j q new in let ej = e.0 in let zero' : apart (servers c) j k ≡ 0 =
          subst (λ v. apart (servers c) v k ≡ 0) e.0 here in
          elim (cases_lt i k) [
            | inl less ↦ or_left (logs i q) (just k p b i q)
                (subst (λ v. In logs i v) (sym e.1)
                (together i less (subst (λ v. IsTouching trace i v) e.1 t) (omega arith)))
            | inr more ↦ let same : j ≡ i =
                omega arith in or_right (logs i q) (just k p b i q) (subst (λ v. In (just k p b) v q) same new)
          ]
    ];
  }

  pub carried_both : (trace : List Entry) (up : ℕ → Bool) (has : ℕ → Visits) (a b : Visits) (x : ℕ) →
      AreCarried c trace up has a x → AreCarried c trace up has b x → AreCarried c trace up has (union a b) x
  carried_both trace up has a b x ha hb = record {
    member = λ j q is. elim (in_both a b j q is) [ inl l ↦ ha.member j q l | inr r ↦ hb.member j q r ];
    wake = λ i j q is le t. elim (in_both a b j q is) [ inl l ↦ ha.wake i j q l le t | inr r ↦ hb.wake i j q r le t ];
    together = λ i j q is le t near. elim (in_both a b j q is) [
      | inl l ↦
          or_left (a i q) (b i q) (ha.together i j q l le t near)
      | inr r ↦
          or_right (a i q) (b i q) (hb.together i j q r le t near)
    ];
  }

  pub carried_if : (trace : List Entry) (up : ℕ → Bool) (has : ℕ → Visits) (b : Bool) (logs : Visits) (x : ℕ) →
      (b ≡ true → AreCarried c trace up has logs x) → AreCarried c trace up has (λ j q. b && logs j q) x
  carried_if trace up has b logs x h = record {
    member = λ j q is. let a = and_parts b _ is in (h a.0).member j q a.1;
    wake = λ i j q is le t. let a = and_parts b _ is in (h a.0).wake i j q a.1 le t;
    together = λ i j q is le t near. let a =
        and_parts b _ is in and_from b _ a.0 ((h a.0).together i j q a.1 le t near);
  }
