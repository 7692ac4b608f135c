-- By which events packets are lost.
use Rattle.std.proofs.Common.{◌≡◌, ℕ, ◌+◌, ◌==◌, ◌&&◌, ◌⊎◌, if◌then◌else◌, Bool, true, false, not, inl, inr, refl}
use Rattle.std.proofs.Common.{sym, ap, ◌∙◌, Option, Some, None}
use Rattle.std.proofs.lemmas.Bool.{true≢false, not-true}
use Rattle.ftc_ring.specs.Ring.{next_of}
use Rattle.ftc_journal.specs.declared.event.Event.{Event}
use Rattle.ftc_journal.specs.declared.event.Event.TheVariants.{Apply, Carry, Crash, Enter, Lose, Pass, Propagate, Pull}
use Rattle.ftc_journal.specs.declared.event.Event.TheVariants.{Recover, Release, Take, Visit}
use Rattle.ftc_serial.proofs.Functions.{with_at_cases}
use Rattle.ftc_protocol.specs.declared.fate.Fate.{Fate}
use Rattle.ftc_protocol.specs.declared.fate.Fate.TheVariants.{Released, Lost}
use Rattle.ftc_protocol.specs.Setting.{Setting, servers}
use Rattle.ftc_protocol.specs.State.{ChainState}
use Rattle.ftc_protocol.specs.Next.{next, has_packet, is_away, fate_by, outcome_at}
use Rattle.ftc_protocol.specs.Fates.{MayLose}

same_event : (e number : ℕ) → Lost e ≡ Lost number → number ≡ e
same_event e number is = cc

-- an event's number, or the fate from before
by_test : (b : Bool) (e number : ℕ) (f : Fate) → (if b then Lost e else f) ≡ Lost number →
    (f ≡ Lost number) ⊎ ((number ≡ e) × (b ≡ true))
by_test true e number f is = inr (same_event e number is, refl)
by_test false e number f is = inl is

left : (c : Setting) (s : ChainState) (k p packet number : ℕ) (lost : Bool)
    → Rattle.ftc_serial.specs.Words.with_at s.fate p (if is_away c s k lost && not (k + 1 == servers c)
    && has_packet (s.message p) then Lost s.events else s.fate p) packet ≡ Lost number
    → (s.fate packet ≡ Lost number) ⊎ ((number ≡ s.events) × (is_away c s k lost ≡ true))
left c s k p packet number lost =
    with_at_cases (λ v. v ≡ Lost number → (s.fate packet ≡ Lost number)
    ⊎ ((number ≡ s.events) × (is_away c s k lost ≡ true))) s.fate p _ packet
    (λ same is. elim (by_test (is_away c s k lost && not (k + 1 == servers c)
    && has_packet (s.message p)) s.events number (s.fate p) is) [
      | inl old ↦ inl (ap s.fate same ∙ old)
      | inr new ↦ inr (new.0, first (is_away c s k lost) (not (k + 1 == servers c)) (has_packet (s.message p)) new.1)
    ])
    (λ other is. inl is)
  where
    first : (a b d : Bool) → (a && b && d) ≡ true → a ≡ true
    first true b d is = refl
    first false b d is = absurd (true≢false (sym is))

pub lost_by : (c : Setting) (s : ChainState) (e : Event) (packet number : ℕ) → (next c s e).fate packet ≡ Lost number
    → (s.fate packet ≡ Lost number) ⊎ ((number ≡ s.events) × MayLose c s e)
lost_by c s (Enter p) packet number is =
    with_at_cases (λ v. v ≡ Lost number → (s.fate packet ≡ Lost number)
    ⊎ ((number ≡ s.events) × (s.up 0 ≡ false))) s.fate p _ packet
    (λ same is. elim (s.up 0) as (λ b. (if b then s.fate p else Lost s.events) ≡ Lost number →
    (s.fate packet ≡ Lost number) ⊎ ((number ≡ s.events) × (b ≡ false))) [
      | true ↦ λ old. inl (ap s.fate same ∙ old)
      | false ↦ λ new. inr (same_event s.events number new, refl)
    ] is)
    (λ other is. inl is) is
lost_by c s (Take k p) packet number is = inl is
lost_by c s (Apply k p j q) packet number is = inl is
lost_by c s (Visit k p w) packet number is =
    with_at_cases (λ v. v ≡ Lost number → (s.fate packet ≡ Lost number)
    ⊎ ((number ≡ s.events) × MayLose c s (Visit k p w))) s.fate p _ packet
    (λ same is. inl (ap s.fate same ∙ before (outcome_at c s k p).packet is)) (λ other is. inl is) is
  where
    before : (o : Option (Rattle.std.proofs.Common.List ℕ)) → fate_by k (s.fate p) o ≡ Lost number →
        s.fate p ≡ Lost number
    before None is = absurd (cc)
    before (Some bytes) is = is
lost_by c s (Pass k p) packet number is = elim (left c s k p packet number false is) [
  | inl old ↦ inl old
  | inr new ↦ inr (new.0, not-true (s.up (next_of (servers c) k)) new.1)
]
lost_by c s (Lose k p) packet number is =
    elim (left c s k p packet number true is) [ inl old ↦ inl old | inr new ↦ inr (new.0, tt) ]
lost_by c s (Carry p) packet number is = inl is
lost_by c s (Crash k) packet number is =
    elim (by_test _ s.events number (s.fate packet) is) [ inl old ↦ inl old | inr new ↦ inr (new.0, tt) ]
lost_by c s (Recover k undone) packet number is =
    elim (by_test _ s.events number (s.fate packet) is) [ inl old ↦ inl old | inr new ↦ inr (new.0, tt) ]
lost_by c s (Pull k) packet number is = inl is
lost_by c s (Propagate p) packet number is = inl is
lost_by c s (Release p) packet number is =
    with_at_cases (λ v. v ≡ Lost number → (s.fate packet ≡ Lost number)
    ⊎ ((number ≡ s.events) × MayLose c s (Release p))) s.fate p Released packet
    (λ same is. absurd (cc)) (λ other is. inl is) is
