-- A packet's visit of a middlebox is made once in a run.
use Rattle.std.proofs.Common.{◌≡◌, ℕ, ◌<◌, ◌⊎◌, List, [], ◌∷◌, ◌++◌, refl, subst, arith, inl, inr}
use Rattle.std.proofs.lemmas.Bool.{cases_Bool}
use Rattle.ftc_journal.specs.declared.event.Event.{Event}
use Rattle.ftc_journal.specs.declared.event.Event.TheVariants.{Apply, Carry, Crash, Enter, Lose, Pass, Propagate, Pull}
use Rattle.ftc_journal.specs.declared.event.Event.TheVariants.{Recover, Release, Take, Visit}
use Rattle.ftc_serial.specs.Trace.{names}
use Rattle.ftc_protocol.specs.declared.fate.Fate.TheVariants.{Inside}
use Rattle.ftc_protocol.specs.Setting.{Setting, servers, IsSetting}
use Rattle.ftc_protocol.specs.State.{ChainState, opening}
use Rattle.ftc_protocol.specs.Trace.{IsSomeVisit}
use Rattle.ftc_protocol.specs.Legal.{MayHappen}
use Rattle.ftc_protocol.specs.Next.{next}
use Rattle.ftc_protocol.specs.Run.{AreLegal, IsRun, state_after}
use Rattle.ftc_protocol.proofs.Premises.{IsGood}
use Rattle.ftc_protocol.proofs.AcceptedSettings.{is_good}
use Rattle.ftc_protocol.proofs.Places.{Waits, serial_of}
use Rattle.ftc_protocol.proofs.TraceLemmas.{visit_left}
use Rattle.ftc_protocol.proofs.EarlierVisits.{visited_earlier}
use Rattle.ftc_protocol.proofs.Invariant.{expected}
use Rattle.ftc_protocol.proofs.InsidePackets.{are_fates}
use Rattle.ftc_protocol.proofs.Complete.{IsReached, reached, keeps_reached, reached_on}
use Rattle.ftc_protocol.proofs.JournalTrace.{inside_before, entered_more, undone_outside}
use Rattle.ftc_protocol.proofs.RunLists.{first_legal, rest_legal}

-- the visit was made: it stands in the trace, or its packet isn't inside any more
record IsMade (s : ChainState) (j p : ℕ) : Type 0 where
  entered : p < s.entered
  made : IsSomeVisit s.trace j p ⊎ (s.fate p ≡ Inside → ⊥)

module _ (c : Setting) (good : IsGood c) (j p : ℕ) where
  -- an event that takes no visit from the trace
  still : (s : ChainState) (e : Event) → MayHappen c s e → (IsSomeVisit s.trace j p
      → IsSomeVisit (next c s e).trace j p) → IsMade s j p → IsMade (next c s e) j p
  still s e legal more is = record {
    entered = entered_more c s e p is.entered;
    made = elim (is.made) [
      | inl there ↦ inl (more there)
      | inr out ↦ inr (λ inside. out (inside_before c s e legal p is.entered inside))
    ];
  }

  made_on : (s : ChainState) → IsReached c s → (e : Event) → MayHappen c s e → IsMade s j p → IsMade (next c s e) j p
  made_on s r (Enter q) legal is = still s (Enter q) legal (λ there. there) is
  made_on s r (Take l q) legal is = still s (Take l q) legal (λ there. there) is
  made_on s r (Apply k q x y) legal is = still s (Apply k q x y) legal (λ there. there) is
  made_on s r (Visit k q w) legal is = still s (Visit k q w) legal (λ there. inr there) is
  made_on s r (Pass k q) legal is = still s (Pass k q) legal (λ there. there) is
  made_on s r (Lose k q) legal is = still s (Lose k q) legal (λ there. there) is
  made_on s r (Carry q) legal is = still s (Carry q) legal (λ there. there) is
  made_on s r (Crash k) legal is = still s (Crash k) legal (λ there. there) is
  made_on s r (Pull l) legal is = still s (Pull l) legal (λ there. there) is
  made_on s r (Propagate q) legal is = still s (Propagate q) legal (λ there. there) is
  made_on s r (Release q) legal is = still s (Release q) legal (λ there. inr there) is
  made_on s r (Recover k undone) legal is = record {
    entered = is.entered;
    made = elim (is.made) [
      | inl there ↦ elim (cases_Bool (names undone j p)) [
        | inl out ↦ let new = keeps_reached c good s r (Recover k undone) legal in
            inr (undone_outside c good s r.live.inv k undone new.live.inv new.fated j p is.entered out there)
        | inr stays ↦ inl (visit_left (names undone) (λ o. Unit {0}) s.trace j p there stays)
      ]
      | inr out ↦ inr (λ inside. out (inside_before c s (Recover k undone) legal p is.entered inside))
    ];
  }

  all_made : (es : List Event) (s : ChainState) → IsReached c s → AreLegal c s es → IsMade s j p
      → IsMade (state_after c s es) j p
  all_made [] s r legal is = is
  all_made (e ∷ es) s r legal is = all_made es (next c s e) (keeps_reached c good s r e legal.0.0) legal.1
      (made_on s r e legal.0.0 is)

  -- so it isn't made again
  not_again : (s : ChainState) → IsReached c s → (w : ℕ) → MayHappen c s (Visit j p w) → IsMade s j p → ⊥
  not_again s r w legal is =
      let m = legal.0 in
      let bytes = legal.1 in
      elim (is.made) [
        | inl there ↦
            let way = (r.live.inv.messages p m legal.3).under_way bytes legal.5 in
            let waits : (serial_of c s.trace).place p ≡ Waits j bytes = subst
            (λ v. (serial_of c s.trace).place p ≡ expected (servers c) v bytes) legal.4 way.place in
            let less : j < j = visited_earlier c s.trace j p bytes r.live.inv.world.serial waits j there in omega arith
        | inr out ↦
            let fates = are_fates c s r.fated in
            out ((fates.inside p is.entered).1
            (inl (record { message = m; there = legal.3; bytes = bytes; carries = legal.5 })))
      ]

  made_first : (s : ChainState) → IsReached c s → (w : ℕ) → MayHappen c s (Visit j p w)
      → IsMade (next c s (Visit j p w)) j p
  made_first s r w legal = record {
    entered = r.live.inv.entered p legal.0 legal.1 legal.3 legal.5;
    made = inl
        (inl (refl, refl, tt));
  }

pub made_once : (c : Setting) → IsSetting c → (before middle after : List Event) (j p w x : ℕ)
    → IsRun c (before ++ Visit j p w ∷ (middle ++ Visit j p x ∷ after)) → ⊥
made_once c is before middle after j p w x run =
    let good = is_good c is in
    let s : ChainState = state_after c (opening c) before in
    let rest = rest_legal c before (Visit j p w ∷ (middle ++ Visit j p x ∷ after)) (opening c) run in
    let r : IsReached c s = reached c is before (first_legal c before
    (Visit j p w ∷ (middle ++ Visit j p x ∷ after)) (opening c) run) in
    let s1 : ChainState = next c s (Visit j p w) in
    let r1 : IsReached c s1 = keeps_reached c good s r (Visit j p w) rest.0.0 in
    let along = first_legal c middle (Visit j p x ∷ after) s1 rest.1 in
    let last = rest_legal c middle (Visit j p x ∷ after) s1 rest.1 in
    not_again c good j p (state_after c s1 middle) (reached_on c good middle s1 r1 along) x last.0.0
    (all_made c good j p middle s1 r1 along (made_first c good j p s r w rest.0.0))
