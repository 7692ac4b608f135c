-- What a message carries: where its logs have been, each live member has what they say, and the logs of one packet go
-- together.
use Rattle.std.proofs.Common.{◌≡◌, ◌≢◌, ℕ, ◌+◌, ◌-◌, ◌<◌, ◌≤◌, ◌==◌, ◌&&◌, Bool, true, false, not, List, ◌∷◌, inl, inr}
use Rattle.std.proofs.Common.{refl, sym, subst, arith, eqb-true}
use Rattle.std.proofs.lemmas.Bool.{eqb-false, cases_lt, and_parts, and_from, not-true, not_from_false}
use Rattle.ftc_serial.specs.Serial.{Entry, Visited}
use Rattle.ftc_protocol.specs.Trace.{Has, IsInTrace, IsTouching}
use Rattle.ftc_protocol.specs.Visits.{In, Visits, just}
use Rattle.ftc_serial.specs.Take.{Outcome}
use Rattle.ftc_protocol.specs.Setting.{Setting, is_tail, servers}
use Rattle.ftc_ring.specs.Ring.{apart, next_of}
use Rattle.ftc_protocol.proofs.RingDistances.{apart_after, apart_cases}
use Rattle.ftc_protocol.proofs.TraceLemmas.{before_last, before_left, stands_map, visit_left, visit_stood}
use Rattle.ftc_protocol.specs.Changes.{is_changing}
use Rattle.ftc_serial.specs.Removal.{left_of}

-- more in the set
pub has_more : (part : ℕ) (trace : List Entry) (a b : Visits) (j p : ℕ) → ((q : ℕ) → In a j q → In b j q) →
    Has part trace a j p → Has part trace b j p
has_more part trace a b j p more h =
    record {
      changing = λ is. more p (h.changing is);
      other = λ not_changing q before. more q (h.other not_changing q before);
    }

-- fewer in the trace
pub has_left : (part : ℕ) (trace : List Entry) (gone set : Visits) (j p : ℕ) → Has part trace set j p →
    Has part (left_of gone trace) set j p
has_left part trace gone set j p h = record {
  changing = λ is. h.changing (visit_stood gone (λ o. is_changing part o ≡ true) trace j p is).0;
  other = λ not_changing q before.
      let stays : gone j p ≡ false =
      (visit_stood gone (λ o. Unit {0}) trace j p (before_last part (left_of gone trace) j q p before)).1 in
      h.other (λ is. not_changing (visit_left gone (λ o. is_changing part o ≡ true) trace j p is stays)) q
      (before_left gone part trace j q p before);
}

-- another visit in the trace
pub has_grown : (part : ℕ) (trace : List Entry) (k q : ℕ) (o : Outcome) (set : Visits) (j p : ℕ) →
    ((k ≡ j) × (q ≡ p) → ⊥) → Has part trace set j p → Has part (Visited k q o ∷ trace) set j p
has_grown part trace k q o set j p other h = record {
  changing = λ is. elim is [ inl here ↦ absurd (other (here.0, here.1)) | inr there ↦ h.changing there ];
  other = λ not_changing x before. elim before [
    | inl here ↦ absurd (other (here.1.0, here.0))
    | inr there ↦ h.other (λ is. not_changing (inr is)) x there
  ];
}

-- Logs that are on their way to server x.
pub record AreCarried (c : Setting) (trace : List Entry) (up : ℕ → Bool) (has : ℕ →
    Visits) (logs : Visits) (x : ℕ) : Type 0 where
  pub member : (j q : ℕ) → In logs j q → (j < (servers c)) × (apart (servers c) j x ≤ c.failures) × IsTouching trace j q
  -- each live member behind has the visit, and the packet's earlier ones
  pub wake : (i j q : ℕ) → In logs j q → i ≤ j → IsTouching trace i q → (y : ℕ) → y < (servers c) → up y ≡ true →
      apart (servers c) i y ≤ c.failures
      → apart (servers c) i y < (j - i) + apart (servers c) j x → Has c.partitions trace (has y) i q
  -- the packet's earlier ones are carried too, as far as their group reaches
  pub together : (i j q : ℕ) → In logs j q → i ≤ j → IsTouching trace i q →
      (j - i) + apart (servers c) j x ≤ c.failures → In logs i q

module _ (c : Setting) (small : c.failures < (servers c)) where
  -- the members hold more than before
  pub grows : (trace : List Entry) (up : ℕ → Bool) (has new : ℕ → Visits) (logs : Visits) (x : ℕ) →
      ((k j p : ℕ) → In (has k) j p → In (new k) j p)
      → AreCarried c trace up has logs x → AreCarried c trace up new logs x
  grows trace up has new logs x more h = record {
    member = h.member;
    wake = λ i j q is le t y below live m less. has_more c.partitions trace (has y) (new y) i q (more y i)
        (h.wake i j q is le t y below live m less);
    together = h.together;
  }

  -- another visit, of a packet that has no later one
  pub visited : (trace : List Entry) (up : ℕ → Bool) (has : ℕ → Visits) (logs : Visits) (x k p : ℕ) (o : Outcome)
      → ((j : ℕ) → IsInTrace (λ o. Unit {0}) trace j p → j < k)
      → AreCarried c trace up has logs x → AreCarried c (Visited k p o ∷ trace) up has logs x
  visited trace up has logs x k p o earlier h =
      let old : (i j q : ℕ) → In logs j q → i ≤ j → IsTouching (Visited k p o ∷ trace) i q →
      IsTouching trace i q × ((k ≡ i) × (p ≡ q) → ⊥) = λ i j q is le t.
      let not_new : (k ≡ i) × (p ≡ q) → ⊥ = λ e.
      let stands : IsInTrace (λ o. Unit {0}) trace j p =
      stands_map _ (λ o. Unit {0}) (λ o t. tt) trace j p
      (subst (λ v. IsTouching trace j v) (sym e.1) (h.member j q is).2) in
      let below : j < k = earlier j stands in
      let same : k ≡ i = e.0 in omega arith in
      (elim t [ inl here ↦ absurd (not_new (here.0, here.1)) | inr there ↦ there ], not_new) in
      record {
        member = λ j q is. let m = h.member j q is in (m.0, m.1, inr m.2);
        wake = λ i j q is le t y below live m less. let w =
            old i j q is le t in has_grown c.partitions trace k p o (has y) i q w.1
            (h.wake i j q is le w.0 y below live m less);
        together = λ i j q is le t near. h.together i j q is le (old i j q is le t).0 near;
      }

  -- a log that goes on from server k has come one server further from its head
  pub passes_far : (trace : List Entry) (up : ℕ → Bool) (has : ℕ → Visits) (logs : Visits) (k : ℕ) → k < (servers c) →
      AreCarried c trace up has logs k
      → (j q : ℕ) → In (λ j q. logs j q && not (is_tail c j k)) j q →
      apart (servers c) j (next_of (servers c) k) ≡ apart (servers c) j k + 1
  passes_far trace up has logs k below h j q is =
      let n = (servers c) in let m = next_of n k in
      let a = and_parts _ _ is in let w = h.member j q a.0 in
      let no_tail : apart n j k ≢ c.failures = eqb-false _ _ (not-true _ a.1) in
      let less : apart n j k < c.failures = omega (arith, w.1) in
      elim (apart_after n k below) [
        | inr just ↦ absurd (omega arith)
        | inl step ↦ let jk = apart_cases n j k w.0 below in let jm = apart_cases n j m w.0 step.1 in let s =
            step.0 in omega arith
      ]

  -- The message goes on from server k, which has all its logs: the logs of groups whose tail it is stay behind.
  pub passes : (trace : List Entry) (up : ℕ → Bool) (has : ℕ → Visits) (logs : Visits) (k : ℕ) → k < (servers c)
      → ((j q : ℕ) → In logs j q → Has c.partitions trace (has k) j q)
      → AreCarried c trace up has logs k →
      AreCarried c trace up has (λ j q. logs j q && not (is_tail c j k)) (next_of (servers c) k)
  passes trace up has logs k below ready h =
      let n = (servers c) in let f = c.failures in let m = next_of n k in
      let parts : (j q : ℕ) → In (λ j q. logs j q && not (is_tail c j k)) j q →
      In logs j q × (j < n) × (apart n j k < f) × IsTouching trace j q × (apart n j m ≡ apart n j k + 1) =
      λ j q is. let a = and_parts _ _ is in let w = h.member j q a.0 in
      let no_tail : apart n j k ≢ f = eqb-false _ _ (not-true _ a.1) in
      let less : apart n j k < f = omega (arith, w.1) in
      (a.0, w.0, less, w.2, passes_far trace up has logs k below h j q is) in
      record {
        member = λ j q is. let w = parts j q is in (w.1, omega (arith, w.2, w.4), w.3);
        wake = λ i j q is le t y lt live member less.
            let w = parts j q is in
            let jb : j < n = w.1 in let iy = apart_cases n i y (omega arith) lt in let ik =
            apart_cases n i k (omega arith) below in let jk = apart_cases n j k jb below in
            let far : apart n j m ≡ apart n j k + 1 = w.4 in
            elim (cases_lt (apart n i y) ((j - i) + apart n j k)) [
              | inl behind ↦ h.wake i j q w.0 le t y lt live member behind
              | inr here ↦
                  let same : y ≡ k = omega arith in
                  subst (λ v. Has c.partitions trace (has v) i q) (sym same)
                  (ready i q (h.together i j q w.0 le t (omega arith)))
            ];
        together = λ i j q is le t near.
            let w = parts j q is in let jb : j < n = w.1 in let far : apart n j m ≡ apart n j k + 1 = w.4 in
            let ik = apart_cases n i k (omega arith) below in let jk = apart_cases n j k jb below in
            let no_tail : apart n i k ≢ f = omega arith in
            and_from _ _ (h.together i j q w.0 le t (omega arith))
            (not_from_false _ (false_from_ne (apart n i k) f no_tail));
      }
    where
      false_from_ne : (a b : ℕ) → a ≢ b → (a == b) ≡ false
      false_from_ne a b ne = elim (a == b) as (λ t. a == b ≡ t →
          t ≡ false) [ true ↦ λ is. absurd (ne (eqb-true a b is)) | false ↦ λ is. refl ] refl
