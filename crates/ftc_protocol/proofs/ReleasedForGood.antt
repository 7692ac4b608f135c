-- What was released stays, and a run goes on.
use Rattle.std.proofs.Common.{◌≡◌, ◌≢◌, ℕ, ◌<◌, ◌≤◌, false, List, inr, refl, sym, subst, ◌∙◌, arith}
use Rattle.std.proofs.lemmas.Bool.{true≢false, false_from_ne_true}
use Rattle.ftc_script.specs.declared.line.ScriptLine.TheVariants as script_line
use Rattle.ftc_serial.specs.Words.{AnyOf}
use Rattle.ftc_journal.specs.declared.event.Event.TheVariants.{Apply, Carry, Crash, Enter, Lose, Pass, Propagate, Pull}
use Rattle.ftc_journal.specs.declared.event.Event.TheVariants.{Recover, Release, Take, Visit}
use Rattle.ftc_protocol.specs.State.{ChainState}
use Rattle.ftc_journal.specs.declared.event.Event.{Event}
use Rattle.ftc_serial.specs.Serial.{Given}
use Rattle.ftc_protocol.proofs.Invariant.{Inv}
use Rattle.ftc_protocol.proofs.Premises.{IsGood}
use Rattle.ftc_protocol.specs.Trace.{IsInTrace}
use Rattle.ftc_protocol.specs.Legal.{MayHappen}
use Rattle.ftc_protocol.specs.Setting.{Setting, servers}
use Rattle.ftc_protocol.proofs.VisitsPassed.{Somehow}
use Rattle.ftc_protocol.proofs.RingDistances.{apart_cases, last_live, next_live}
use Rattle.ftc_protocol.proofs.SmallEvents.{fit_next, fit_now}
use Rattle.ftc_protocol.proofs.RecoveryBetween.{member_after}
use Rattle.ftc_serial.specs.Trace.{names}
use Rattle.ftc_protocol.specs.Next.{next}
use Rattle.ftc_protocol.proofs.ListStores.{stands_below}
use Rattle.ftc_protocol.proofs.TraceLemmas.{visit_left}
use Rattle.ftc_protocol.specs.Recovery.{previous_live, following_live}
use Rattle.ftc_protocol.proofs.UndoneList.{undone_listed}

-- no event undoes a visit of a released packet
pub kept_forever : (c : Setting) → IsGood c → (s : ChainState) → Inv c s → (e : Event) → MayHappen c s e →
    (p : ℕ) (bytes : (List ℕ)) → AnyOf (λ e. e ≡ Given p bytes) s.trace
    → (j : ℕ) → IsInTrace Somehow s.trace j p → IsInTrace Somehow (next c s e).trace j p
kept_forever c good s h (Enter q) legal p bytes given j st = st
kept_forever c good s h (Take l q) legal p bytes given j st = st
kept_forever c good s h (Apply k q a b) legal p bytes given j st = st
kept_forever c good s h (Visit k q w) legal p bytes given j st = inr st
kept_forever c good s h (Pass k q) legal p bytes given j st = st
kept_forever c good s h (Lose k q) legal p bytes given j st = st
kept_forever c good s h (Carry q) legal p bytes given j st = st
kept_forever c good s h (Crash k) legal p bytes given j st = st
kept_forever c good s h (Pull l) legal p bytes given j st = st
kept_forever c good s h (Propagate q) legal p bytes given j st = st
kept_forever c good s h (Release q) legal p bytes given j st = inr st
kept_forever c good s h (Recover k undone) legal p bytes given j st =
    let n = (servers c) in
    let fit = fit_next c s.up s.lines (script_line.Recover s.entered k) legal.0 h.fit in
    let admissible = fit_now c s.up s.lines h.fit in
    let down = fit.1 refl in
    let z = admissible k fit.0 in
    let other : z.0 ≢ k = λ e. true≢false (sym z.2 ∙ subst (λ v. s.up v ≡ false) (sym e) down) in
    let before = last_live n s.up k fit.0 z.0 z.1 z.2 other in let after = next_live n s.up k fit.0 z.0 z.1 z.2 other in
    let t = following_live c s k in let r = previous_live c s k in
    let exact = undone_listed c s k undone legal.1 good.some before.below after.below h.world.serial in
    visit_left (names undone) Somehow s.trace j p st (false_from_ne_true (names undone j p) (λ g.
    let u = (exact j p).0 g in
    let jl : j < n = stands_below c good.some Somehow s.trace h.world.serial j p st in
    let i = u.0 in let le : i ≤ j = u.1 in let il : i < n = omega arith in
    let it = apart_cases n i t il after.below in
    u.2.3 (h.world.released p bytes given i u.2.0 t after.below after.live
    (member_after c s k r t fit.0 down before after admissible i il (u.2.1, u.2.2)) (omega arith))))
