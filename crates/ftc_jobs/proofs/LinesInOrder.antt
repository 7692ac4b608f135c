-- The lines that are left are for as many packets as have entered or more, one after another.
use Rattle.std.proofs.Common.{◌≡◌, ◌≢◌, ◌∙◌, ◌+◌, ◌≤◌, ℕ, List, [], ◌∷◌, refl, ap, subst, arith}
use Rattle.std.specs.List.{AllByRecursion}
use Rattle.ftc_journal.specs.declared.event.Event.{Event}
use Rattle.ftc_journal.specs.declared.event.Event.TheVariants as event
use Rattle.ftc_ring.specs.Ring.{RingShape}
use Rattle.ftc_script.specs.declared.line.ScriptLine.{ScriptLine}
use Rattle.ftc_script.specs.declared.line.ScriptLine.TheVariants.{Crash, Recover}
use Rattle.ftc_script.specs.Steps.{all_live, at_of, live_after, AreSteps}
use Rattle.ftc_protocol.specs.Setting.{Setting, count, shape}
use Rattle.ftc_protocol.specs.State.{ChainState, opening}
use Rattle.ftc_protocol.specs.Legal.{IsNextLine, MayHappen}
use Rattle.ftc_protocol.specs.Next.{lines_behind, next}
use Rattle.ftc_protocol.specs.Run.{AreLegal, IsRunState, state_after}

abbrev pub AreFrom : ℕ → List ScriptLine → Type 0
AreFrom entered [] = Unit {0}
AreFrom entered (line ∷ lines) = (entered ≤ at_of line) × AreFrom (at_of line) lines

one_more : (lines : List ScriptLine) (entered packet : ℕ) → packet ≡ entered →
    AllByRecursion (λ (line : ScriptLine). at_of line ≢ packet) lines → AreFrom entered lines →
    AreFrom (entered + 1) lines
one_more [] entered packet same others order = tt
one_more (line ∷ lines) entered packet same others order =
    let first : entered ≤ at_of line = order.0 in
    let other : at_of line ≢ packet = others.0 in
    (omega (arith, first, other, same), order.1)

behind : (lines : List ScriptLine) (entered : ℕ) (line : ScriptLine) → at_of line ≡ entered → IsNextLine lines line →
    AreFrom entered lines → AreFrom entered (lines_behind lines)
behind [] entered line at is order = absurd is
behind (first ∷ lines) entered line at is order = subst (λ (n : ℕ). AreFrom n lines) (ap at_of is ∙ at) order.1

AreLeft : ChainState → Type 0
AreLeft state = AreFrom state.entered state.lines

keeps : (setting : Setting) (state : ChainState) (event : Event) → MayHappen setting state event → AreLeft state →
    AreLeft (next setting state event)
unfolding AreLeft
keeps setting state (event.Enter packet) may order = one_more state.lines state.entered packet may.0 may.2 order
keeps setting state (event.Take link origin) may order = order
keeps setting state (event.Apply server origin group packet) may order = order
keeps setting state (event.Visit server packet worker) may order = order
keeps setting state (event.Pass server origin) may order = order
keeps setting state (event.Lose server origin) may order = order
keeps setting state (event.Carry origin) may order = order
keeps setting state (event.Crash server) may order =
    behind state.lines state.entered (Crash state.entered server) refl may order
keeps setting state (event.Recover server undone) may order =
    behind state.lines state.entered (Recover state.entered server) refl may.0 order
keeps setting state (event.Pull link) may order = order
keeps setting state (event.Propagate origin) may order = order
keeps setting state (event.Release packet) may order = order

steps_from : (ring : RingShape) (most last : ℕ) (live : ℕ → Rattle.std.proofs.Common.Bool) (lines : List ScriptLine) →
    AreSteps ring most last live lines → AreFrom last lines
steps_from ring most last live [] all = tt
steps_from ring most last live (Crash at server ∷ lines) all =
    (all.0.0.ordered, steps_from ring most at (live_after live (Crash at server)) lines all.1)
steps_from ring most last live (Recover at server ∷ lines) all =
    (all.0.0.ordered, steps_from ring most at (live_after live (Recover at server)) lines all.1)

along : (setting : Setting) (journal : List Event) (state : ChainState) → AreLegal setting state journal →
    AreLeft state →
    AreLeft (state_after setting state journal)
along setting [] state legal order = order
along setting (event ∷ journal) state legal order =
    along setting journal (next setting state event) legal.1 (keeps setting state event legal.0.0 order)

pub lines_left : (setting : Setting) (state : ChainState) → IsRunState setting state → AreFrom state.entered state.lines
unfolding AreLeft
lines_left setting state run = subst AreLeft run.reaches
    (along setting run.journal (opening setting) run.run
    (steps_from (shape setting) (count setting) 0 all_live setting.lines run.right.lines))
