-- The crashes and recoveries that are still to come may be made one after another: each crash is of a server that is
-- up.
use Rattle.std.proofs.Common.{◌≡◌, ◌∙◌, ℕ, ◌<◌, Bool, true, false, List, [], ◌∷◌, refl, subst, lt-ltb}
use Rattle.ftc_journal.specs.declared.event.Event.{Event}
use Rattle.ftc_journal.specs.declared.event.Event.TheVariants.{Apply, Carry, Enter, Lose, Pass, Propagate, Pull}
use Rattle.ftc_journal.specs.declared.event.Event.TheVariants.{Release, Take, Visit}
use Rattle.ftc_journal.specs.declared.event.Event.TheVariants as event
use Rattle.ftc_ring.specs.Ring.{RingShape}
use Rattle.ftc_script.specs.declared.line.ScriptLine.{ScriptLine}
use Rattle.ftc_script.specs.declared.line.ScriptLine.TheVariants.{Crash, Recover}
use Rattle.ftc_script.specs.Steps.{all_live, at_of, live_after, IsStep, AreSteps}
use Rattle.ftc_serial.specs.Words.{with_at}
use Rattle.ftc_serial.proofs.Functions.{with_at_both}
use Rattle.ftc_protocol.specs.Setting.{Setting, servers, shape, count, IsSetting}
use Rattle.ftc_protocol.specs.State.{ChainState, opening}
use Rattle.ftc_protocol.specs.Legal.{IsNextLine, MayHappen}
use Rattle.ftc_protocol.specs.Next.{lines_behind, next}
use Rattle.ftc_protocol.specs.Run.{IsRunState}
use Rattle.ftc_refinement.proofs.AlongRuns.{in_each_state}

-- the lines that are left may be done one after another where the servers are up that are
pub record AreToCome (setting : Setting) (state : ChainState) : Type 0 where
  pub live : ℕ → Bool
  pub last : ℕ
  pub same : (server : ℕ) → server < servers setting → state.up server ≡ live server
  pub steps : AreSteps (shape setting) (count setting) last live state.lines

-- the next one, and those behind it
next_step : (ring : RingShape) (packets last : ℕ) (live : ℕ → Bool) (lines : List ScriptLine) (line : ScriptLine) →
    IsNextLine lines line → AreSteps ring packets last live lines →
    IsStep ring packets last live line × AreSteps ring packets (at_of line) (live_after live line) (lines_behind lines)
next_step ring packets last live [] line is steps = absurd is
next_step ring packets last live (first ∷ lines) line is steps =
    subst (λ l. IsStep ring packets last live l × AreSteps ring packets (at_of l) (live_after live l) lines) is steps

module _ (setting : Setting) (state : ChainState) (to_come : AreToCome setting state) where
  step_of : (line : ScriptLine) → IsNextLine state.lines line →
      IsStep (shape setting) (count setting) to_come.last to_come.live line
      × AreSteps (shape setting) (count setting) (at_of line) (live_after to_come.live line) (lines_behind state.lines)
  step_of line is = next_step (shape setting)
      (count setting) to_come.last to_come.live state.lines line is to_come.steps

  changed : (server : ℕ) (value : Bool) (other : ℕ) → other < servers setting →
      with_at state.up server value other ≡ with_at to_come.live server value other
  changed server value other within =
      with_at_both (λ (a b : Bool). a ≡ b) state.up to_come.live server value value other (λ e. refl)
      (λ differs. to_come.same other within)

  -- a crash is of a server that is up
  pub crash_up : (entered server : ℕ) → IsNextLine state.lines (Crash entered server) →
      (server < servers setting) × (state.up server ≡ true)
  crash_up entered server is =
      let step = (step_of (Crash entered server) is).0 in
      (step.0.within, to_come.same server step.0.within ∙ step.1.up)

  keeps : (happens : Event) → MayHappen setting state happens → AreToCome setting (next setting state happens)
  keeps (Enter packet) may =
      record { live = to_come.live; last = to_come.last; same = to_come.same; steps = to_come.steps }
  keeps (Take link origin) may =
      record { live = to_come.live; last = to_come.last; same = to_come.same; steps = to_come.steps }
  keeps (Apply server origin group packet) may =
      record { live = to_come.live; last = to_come.last; same = to_come.same; steps = to_come.steps }
  keeps (Visit server packet worker) may =
      record { live = to_come.live; last = to_come.last; same = to_come.same; steps = to_come.steps }
  keeps (Pass server origin) may =
      record { live = to_come.live; last = to_come.last; same = to_come.same; steps = to_come.steps }
  keeps (Lose server origin) may =
      record { live = to_come.live; last = to_come.last; same = to_come.same; steps = to_come.steps }
  keeps (Carry origin) may =
      record { live = to_come.live; last = to_come.last; same = to_come.same; steps = to_come.steps }
  keeps (event.Crash server) may = record {
    live = with_at to_come.live server false;
    last = state.entered;
    same = changed server false;
    steps = (step_of (Crash state.entered server) may).1;
  }
  keeps (event.Recover server undone) may = record {
    live = with_at to_come.live server true;
    last = state.entered;
    same = changed server true;
    steps = (step_of (Recover state.entered server) may.0).1;
  }
  keeps (Pull link) may = record {
    live = to_come.live;
    last = to_come.last;
    same = to_come.same;
    steps = to_come.steps;
  }
  keeps (Propagate origin) may =
      record { live = to_come.live; last = to_come.last; same = to_come.same; steps = to_come.steps }
  keeps (Release packet) may =
      record { live = to_come.live; last = to_come.last; same = to_come.same; steps = to_come.steps }

opens : (setting : Setting) → IsSetting setting → AreToCome setting (opening setting)
opens setting is = record {
  live = all_live;
  last = 0;
  same = λ server within. lt-ltb server (servers setting) within;
  steps = is.lines;
}

pub are_to_come : (setting : Setting) (state : ChainState) → IsRunState setting state → AreToCome setting state
are_to_come setting state run =
    in_each_state setting (AreToCome setting)
    (λ before happens to_come may. keeps setting before to_come happens may) state run
    (opens setting run.right)
