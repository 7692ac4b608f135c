-- The parts of a run.
use Rattle.std.proofs.Common.{◌≡◌, ℕ, List, [], ◌∷◌, ◌++◌, false, inl, inr, sym, subst, ap}
use Rattle.ftc_journal.specs.declared.event.Event.{Event}
use Rattle.ftc_journal.specs.declared.event.Event.TheVariants as event
use Rattle.ftc_serial.specs.Words.{AnyOf}
use Rattle.ftc_serial.specs.Serial.{Entry, Given}
use Rattle.ftc_serial.specs.Trace.{names}
use Rattle.ftc_serial.specs.Removal.{Taken, is_taken, left_of}
use Rattle.ftc_protocol.specs.Setting.{Setting, IsSetting}
use Rattle.ftc_protocol.specs.State.{ChainState, opening}
use Rattle.ftc_protocol.specs.Trace.{IsSomeVisit}
use Rattle.ftc_protocol.specs.Next.{next}
use Rattle.ftc_protocol.specs.Run.{AreLegal, IsRun, state_after}
use Rattle.ftc_protocol.specs.Moment.{IsSound}
use Rattle.ftc_protocol.proofs.Premises.{IsGood}
use Rattle.ftc_protocol.proofs.AcceptedSettings.{is_good, opens_fit}
use Rattle.ftc_protocol.proofs.RunLists.{first_legal, rest_legal, state_on}
use Rattle.ftc_protocol.proofs.TraceLemmas.{stands_left}
use Rattle.ftc_protocol.proofs.Invariant.{Inv}
use Rattle.ftc_protocol.proofs.Induction.{keeps, always}
use Rattle.ftc_protocol.proofs.ReleasedForGood.{kept_forever}
use Rattle.ftc_protocol.proofs.Soundness.{sound}

pub sound_before : (c : Setting) → IsSetting c → (before after : List Event) → IsRun c (before ++ after) →
    IsSound c (state_after c (opening c) before)
sound_before c is before after run =
    sound c (is_good c is) is.ring (opens_fit c is) before (first_legal c before after (opening c) run)

-- no event takes a release from the trace
given_left : (out : Taken) (trace : List Entry) (packet : ℕ) (bytes : List ℕ) →
    AnyOf (λ entry. entry ≡ Given packet bytes) trace → AnyOf (λ entry. entry ≡ Given packet bytes) (left_of out trace)
given_left out trace packet bytes any = stands_left out (λ entry. entry ≡ Given packet bytes) trace (untaken trace any)
  where
    untaken : (entries : List Entry) → AnyOf (λ entry. entry ≡ Given packet bytes) entries →
        AnyOf (λ entry. (entry ≡ Given packet bytes) × (is_taken out entry ≡ false)) entries
    untaken [] there = absurd there
    untaken (entry ∷ older) there =
        elim there [ inl here ↦ inl (here, ap (is_taken out) here) | inr more ↦ inr (untaken older more) ]

given_kept : (c : Setting) (s : ChainState) (e : Event) (packet : ℕ) (bytes : List ℕ) →
    AnyOf (λ entry. entry ≡ Given packet bytes) s.trace → AnyOf (λ entry. entry ≡ Given packet bytes) (next c s e).trace
given_kept c s (event.Enter q) packet bytes any = any
given_kept c s (event.Take l q) packet bytes any = any
given_kept c s (event.Apply k q a b) packet bytes any = any
given_kept c s (event.Visit k q w) packet bytes any = inr any
given_kept c s (event.Pass k q) packet bytes any = any
given_kept c s (event.Lose k q) packet bytes any = any
given_kept c s (event.Carry q) packet bytes any = any
given_kept c s (event.Crash k) packet bytes any = any
given_kept c s (event.Recover k undone) packet bytes any = given_left (names undone) s.trace packet bytes any
given_kept c s (event.Pull l) packet bytes any = any
given_kept c s (event.Propagate q) packet bytes any = any
given_kept c s (event.Release q) packet bytes any = inr any

pub record IsKept (before after : List Entry) (packet : ℕ) (bytes : List ℕ) : Type 0 where
  pub given : AnyOf (λ entry. entry ≡ Given packet bytes) after
  pub visits : (server : ℕ) → IsSomeVisit before server packet → IsSomeVisit after server packet

kept_after : (c : Setting) → IsGood c → (packet : ℕ) (bytes : List ℕ) (after : List Event) (s : ChainState) → Inv c s →
    AreLegal c s after
    → AnyOf (λ entry. entry ≡ Given packet bytes) s.trace → IsKept s.trace (state_after c s after).trace packet bytes
kept_after c good packet bytes [] s h legal given = record { given = given; visits = λ server is. is }
kept_after c good packet bytes (e ∷ after) s h legal given =
    let more = kept_after c good packet bytes after (next c s e) (keeps c good s h e legal.0.0) legal.1
    (given_kept c s e packet bytes given) in
    record {
      given = more.given;
      visits = λ server is. more.visits server (kept_forever c good s h e legal.0.0 packet bytes given server is);
    }

pub kept_on : (c : Setting) → IsSetting c → (before after : List Event) → IsRun c (before ++ after) →
    (packet : ℕ) (bytes : List ℕ)
    → AnyOf (λ entry. entry ≡ Given packet bytes) (state_after c (opening c) before).trace
    → AnyOf (λ entry. entry ≡ Given packet bytes) (state_after c (opening c) (before ++ after)).trace
    × ((server : ℕ) → IsSomeVisit (state_after c (opening c) before).trace server packet →
    IsSomeVisit (state_after c (opening c) (before ++ after)).trace server packet)
kept_on c is before after run packet bytes given =
    let good = is_good c is in
    let reached = state_after c (opening c) before in
    let kept = kept_after c good packet bytes after reached
    (always c good (opens_fit c is) before (first_legal c before after (opening c) run))
    (rest_legal c before after (opening c) run) given in
    let on : (state_after c reached after).trace ≡ (state_after c (opening c) (before ++ after)).trace =
    ap (λ (s : ChainState). s.trace) (sym (state_on c before after (opening c))) in (
      subst (λ t. AnyOf (λ entry. entry ≡ Given packet bytes) t) on kept.given,
      λ server there. subst (λ t. IsSomeVisit t server packet) on (kept.visits server there),
    )
