-- Where no server crashes and no link loses anything, all servers stay up, there is never a gap, and nothing is lost.
use Rattle.std.proofs.Common.{◌≡◌, ℕ, ◌<◌, ◌&&◌, ◌⊎◌, true, false, not, List, [], ◌∷◌, inl, inr, refl, sym}
use Rattle.std.proofs.Common.{ap, subst, ◌∙◌, arith, lt-ltb}
use Rattle.std.specs.List.{AllByRecursion}
use Rattle.std.proofs.lemmas.Bool.{true≢false, and_right, or_from}
use Rattle.ftc_ring.specs.Ring.{next_of}
use Rattle.ftc_ring.proofs.Geometry.{next_within}
use Rattle.ftc_journal.specs.declared.event.Event.{Event}
use Rattle.ftc_journal.specs.declared.event.Event.TheVariants.{Apply, Carry, Crash, Enter, Lose, Pass, Propagate, Pull}
use Rattle.ftc_journal.specs.declared.event.Event.TheVariants.{Recover, Release, Take, Visit}
use Rattle.ftc_serial.proofs.Functions.{with_at_cases}
use Rattle.ftc_protocol.specs.declared.fate.Fate.{Fate}
use Rattle.ftc_protocol.specs.declared.fate.Fate.TheVariants.{Released, Filtered, Lost, Inside}
use Rattle.ftc_protocol.specs.Setting.{Setting, servers, IsSetting}
use Rattle.ftc_protocol.specs.State.{ChainState, Message, opening}
use Rattle.ftc_protocol.specs.Legal.{MayHappen, MayLeave, IsNextLine, is_sent}
use Rattle.ftc_protocol.specs.Next.{next, is_away}
use Rattle.ftc_protocol.specs.Run.{AreLegal, IsRun, IsFinished, state_after}
use Rattle.ftc_protocol.specs.Fates.{MayLose}
use Rattle.ftc_protocol.specs.Quiet.{IsQuiet, IsQuietEvent, AreDone}
use Rattle.ftc_protocol.proofs.Premises.{IsGood}
use Rattle.ftc_protocol.proofs.AcceptedSettings.{is_good}
use Rattle.ftc_protocol.proofs.RingDistances.{apart_after}
use Rattle.ftc_protocol.proofs.LiveHolders.{IsUp}
use Rattle.ftc_protocol.proofs.LossEvents.{lost_by}
use Rattle.ftc_protocol.proofs.Complete.{IsReached, keeps_reached, opens_reached, completes}

pub record IsCalm (c : Setting) (s : ChainState) : Type 0 where
  pub lines : s.lines ≡ []
  pub up : (server : ℕ) → server < servers c → s.up server ≡ true
  pub gap : (link : ℕ) → s.gap link ≡ false
  pub kept : (packet number : ℕ) → s.fate packet ≡ Lost number → ⊥

module _ (c : Setting) (good : IsGood c) (quiet : IsQuiet c) (s : ChainState) (r : IsReached c s)
    (calm : IsCalm c s) where
  no_line : (line : Rattle.ftc_script.specs.declared.line.ScriptLine.ScriptLine) → IsNextLine s.lines line → ⊥
  no_line line is = subst (λ l. IsNextLine l line) calm.lines is

  here : (k p : ℕ) (m : Message) → MayLeave c s k p m → k < servers c
  here k p m leaves = r.live.inv.world.inside k
      (subst (IsUp (servers c) s.up) leaves.held (r.live.inv.awake p m leaves.there))

  stays : (k : ℕ) → k < servers c → is_away c s k false ≡ false
  stays k below = ap not (calm.up (next_of (servers c) k) (next_within (servers c) k below))

  pub quiet_event : (e : Event) → MayHappen c s e → IsQuietEvent e
  quiet_event (Enter p) legal = tt
  quiet_event (Take k p) legal = tt
  quiet_event (Apply k p j q) legal = tt
  quiet_event (Visit k p w) legal = tt
  quiet_event (Pass k p) legal = tt
  quiet_event (Lose k p) legal = true≢false (sym legal.3 ∙ quiet.loses k p)
  quiet_event (Carry p) legal = tt
  quiet_event (Crash k) legal = tt
  quiet_event (Recover k undone) legal = tt
  quiet_event (Pull k) legal = true≢false (sym legal.2 ∙ calm.gap k)
  quiet_event (Propagate p) legal = tt
  quiet_event (Release p) legal = tt

  may_not_lose : (e : Event) → MayHappen c s e → MayLose c s e → ⊥
  may_not_lose (Enter p) legal lose = true≢false (sym (calm.up 0 good.some) ∙ lose)
  may_not_lose (Take k p) legal lose = lose
  may_not_lose (Apply k p j q) legal lose = lose
  may_not_lose (Visit k p w) legal lose = lose
  may_not_lose (Pass k p) legal lose =
      true≢false (sym (calm.up (next_of (servers c) k) (next_within (servers c) k (here k p legal.0 legal.1))) ∙ lose)
  may_not_lose (Lose k p) legal lose = true≢false (sym legal.3 ∙ quiet.loses k p)
  may_not_lose (Carry p) legal lose = lose
  may_not_lose (Crash k) legal lose = no_line _ legal
  may_not_lose (Recover k undone) legal lose = no_line _ legal.0
  may_not_lose (Pull k) legal lose = lose
  may_not_lose (Propagate p) legal lose = lose
  may_not_lose (Release p) legal lose = lose

  none_lost : (e : Event) → MayHappen c s e → (packet number : ℕ) → (next c s e).fate packet ≡ Lost number → ⊥
  none_lost e legal packet number is =
      elim (lost_by c s e packet number is) [
        | inl old ↦ calm.kept packet number old
        | inr new ↦
            may_not_lose e legal new.1
      ]

  pub keeps_calm : (e : Event) → MayHappen c s e → IsCalm c (next c s e)
  keeps_calm (Enter p) legal =
      record { lines = calm.lines; up = calm.up; gap = calm.gap; kept = none_lost (Enter p) legal }
  keeps_calm (Take k p) legal = record { lines = calm.lines; up = calm.up; gap = calm.gap; kept = calm.kept }
  keeps_calm (Apply k p j q) legal = record { lines = calm.lines; up = calm.up; gap = calm.gap; kept = calm.kept }
  keeps_calm (Visit k p w) legal =
      record { lines = calm.lines; up = calm.up; gap = calm.gap; kept = none_lost (Visit k p w) legal }
  keeps_calm (Pass k p) legal = record {
    lines = calm.lines;
    up = calm.up;
    kept = none_lost (Pass k p) legal;
    gap = λ l. with_at_cases (λ v. v ≡ false) s.gap k _ l
        (λ same. or_from (s.gap k) (is_sent c k && is_away c s k false) (calm.gap k)
        (and_right (is_sent c k) (is_away c s k false) (stays k (here k p legal.0 legal.1))))
        (λ other. calm.gap l);
  }
  keeps_calm (Lose k p) legal = absurd (true≢false (sym legal.3 ∙ quiet.loses k p))
  keeps_calm (Carry p) legal = record { lines = calm.lines; up = calm.up; gap = calm.gap; kept = calm.kept }
  keeps_calm (Crash k) legal = absurd (no_line _ legal)
  keeps_calm (Recover k undone) legal = absurd (no_line _ legal.0)
  keeps_calm (Pull k) legal = absurd (true≢false (sym legal.2 ∙ calm.gap k))
  keeps_calm (Propagate p) legal = record { lines = calm.lines; up = calm.up; gap = calm.gap; kept = calm.kept }
  keeps_calm (Release p) legal =
      record { lines = calm.lines; up = calm.up; gap = calm.gap; kept = none_lost (Release p) legal }

pub calm_on : (c : Setting) → IsGood c → IsQuiet c → (journal : List Event) (s : ChainState) → IsReached c s →
    IsCalm c s → AreLegal c s journal
    → AllByRecursion IsQuietEvent journal × IsCalm c (state_after c s journal)
calm_on c good quiet [] s r calm legal = (tt, calm)
calm_on c good quiet (e ∷ journal) s r calm legal =
    let more = calm_on c good quiet journal (next c s e) (keeps_reached c good s r e legal.0.0)
    (keeps_calm c good quiet s r calm e legal.0.0) legal.1 in
    ((quiet_event c good quiet s r calm e legal.0.0, more.0), more.1)

pub opens_calm : (c : Setting) → IsQuiet c → IsCalm c (opening c)
opens_calm c quiet = record {
  lines = quiet.lines;
  up = λ server below. lt-ltb server (servers c) below;
  gap = λ link. refl;
  kept = λ packet number is. absurd (cc);
}

pub stays_quiet : (c : Setting) → IsSetting c → IsQuiet c → (journal : List Event) → IsRun c journal →
    AllByRecursion IsQuietEvent journal
stays_quiet c is quiet journal run =
    (calm_on c (is_good c is) quiet journal (opening c) (opens_reached c is) (opens_calm c quiet) run).0

pub all_done : (c : Setting) → IsSetting c → IsQuiet c → (journal : List Event) → IsRun c journal →
    IsFinished c (state_after c (opening c) journal) → AreDone c (state_after c (opening c) journal)
all_done c is quiet journal run finished packet below =
    let calm = (calm_on c (is_good c is) quiet journal (opening c) (opens_reached c is) (opens_calm c quiet) run).1 in
    let done = completes c is journal run finished in
    by_fate ((state_after c (opening c) journal).fate packet) (calm.kept packet) (done.fates packet below)
  where
    by_fate : (fate : Fate) → ((number : ℕ) → fate ≡ Lost number → ⊥) → (fate ≡ Inside → ⊥) →
        (fate ≡ Released) ⊎ ((server : ℕ) × (fate ≡ Filtered server))
    by_fate Released not_lost not_inside = inl refl
    by_fate (Filtered server) not_lost not_inside = inr (server, refl)
    by_fate (Lost number) not_lost not_inside = absurd (not_lost number refl)
    by_fate Inside not_lost not_inside = absurd (not_inside refl)
