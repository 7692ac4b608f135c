-- The lines that are still to be done.
use Rattle.std.proofs.Common.{◌≡◌, ◌≢◌, ℕ, ◌+◌, ◌<◌, ◌≤◌, Bool, true, false, List, [], ◌∷◌, refl, ap, subst, ◌∙◌, arith}
use Rattle.std.proofs.Common.{lt-ltb}
use Rattle.std.specs.List.{AllByRecursion}
use Rattle.ftc_ring.specs.Ring.{RingShape}
use Rattle.ftc_journal.specs.declared.event.Event.{Event}
use Rattle.ftc_journal.specs.declared.event.Event.TheVariants.{Apply, Carry, Enter, Lose, Pass, Propagate, Pull}
use Rattle.ftc_journal.specs.declared.event.Event.TheVariants.{Release, Take, Visit}
use Rattle.ftc_journal.specs.declared.event.Event.TheVariants as event
use Rattle.ftc_script.specs.declared.line.ScriptLine.{ScriptLine}
use Rattle.ftc_script.specs.declared.line.ScriptLine.TheVariants.{Crash, Recover}
use Rattle.ftc_script.specs.Steps.{all_live, at_of, live_after, live_after_all, AreSteps}
use Rattle.ftc_serial.specs.Words.{with_at}
use Rattle.ftc_serial.proofs.Functions.{with_at_both}
use Rattle.ftc_protocol.specs.Setting.{Setting, servers, shape, count, IsSetting}
use Rattle.ftc_protocol.specs.State.{ChainState, opening}
use Rattle.ftc_protocol.specs.Legal.{IsNextLine, MayHappen}
use Rattle.ftc_protocol.specs.Next.{lines_behind, next}

-- the lines are for so many packets or more, up to so many, one after another
abbrev pub AreInOrder : ℕ → ℕ → List ScriptLine → Type 0
AreInOrder entered most [] = Unit {0}
AreInOrder entered most (line ∷ lines) =
    (entered ≤ at_of line) × (at_of line ≤ most) × AreInOrder (at_of line) most lines

pub record IsLined (c : Setting) (s : ChainState) : Type 0 where
  pub order : AreInOrder s.entered (count c) s.lines
  pub ends : (server : ℕ) → server < servers c → live_after_all s.up s.lines server ≡ true

pub all_later : (lines : List ScriptLine) (entered most at : ℕ) → entered < at → AreInOrder at most lines →
    AllByRecursion (λ (line : ScriptLine). at_of line ≢ entered) lines
all_later [] entered most at less order = tt
all_later (line ∷ lines) entered most at less order =
    let first : at ≤ at_of line =
    order.0 in ((λ e. omega arith), all_later lines entered most (at_of line) (omega arith) order.2)

one_more : (lines : List ScriptLine) (entered most packet : ℕ) → packet ≡ entered →
    AllByRecursion (λ (line : ScriptLine). at_of line ≢ packet) lines → AreInOrder entered most lines →
    AreInOrder (entered + 1) most lines
one_more [] entered most packet same others order = tt
one_more (line ∷ lines) entered most packet same others order =
    let first : entered ≤ at_of line = order.0 in let ne : at_of line ≢ packet =
    others.0 in (omega arith, order.1, order.2)

behind : (lines : List ScriptLine) (entered most : ℕ) (line : ScriptLine) → at_of line ≡ entered →
    IsNextLine lines line → AreInOrder entered most lines → AreInOrder entered most (lines_behind lines)
behind [] entered most line at is order = absurd is
behind (first ∷ lines) entered most line at is order = subst (λ n. AreInOrder n most lines) (ap at_of is ∙ at) order.2

live_behind : (lines : List ScriptLine) (up : ℕ → Bool) (line : ScriptLine) → IsNextLine lines line → (server : ℕ) →
    live_after_all up lines server ≡ true → live_after_all (live_after up line) (lines_behind lines) server ≡ true
live_behind [] up line is server live = absurd is
live_behind (first ∷ lines) up line is server live =
    subst (λ l. live_after_all (live_after up l) lines server ≡ true) is live

pub keeps_lines : (c : Setting) (s : ChainState) → IsLined c s → (e : Event) → MayHappen c s e → IsLined c (next c s e)
keeps_lines c s l (Enter p) legal =
    record { order = one_more s.lines s.entered (count c) p legal.0 legal.2 l.order; ends = l.ends }
keeps_lines c s l (Take k p) legal = record { order = l.order; ends = l.ends }
keeps_lines c s l (Apply k p j q) legal = record { order = l.order; ends = l.ends }
keeps_lines c s l (Visit k p w) legal = record { order = l.order; ends = l.ends }
keeps_lines c s l (Pass k p) legal = record { order = l.order; ends = l.ends }
keeps_lines c s l (Lose k p) legal = record { order = l.order; ends = l.ends }
keeps_lines c s l (Carry p) legal = record { order = l.order; ends = l.ends }
keeps_lines c s l (event.Crash k) legal = record {
  order = behind s.lines s.entered (count c) (Crash s.entered k) refl legal l.order;
  ends = λ server below. live_behind s.lines s.up (Crash s.entered k) legal server (l.ends server below);
}
keeps_lines c s l (event.Recover k undone) legal = record {
  order = behind s.lines s.entered (count c) (Recover s.entered k) refl legal.0 l.order;
  ends = λ server below. live_behind s.lines s.up (Recover s.entered k) legal.0 server (l.ends server below);
}
keeps_lines c s l (Pull k) legal = record { order = l.order; ends = l.ends }
keeps_lines c s l (Propagate p) legal = record { order = l.order; ends = l.ends }
keeps_lines c s l (Release p) legal = record { order = l.order; ends = l.ends }

steps_order : (ring : RingShape) (most last : ℕ) (live : ℕ → Bool) (lines : List ScriptLine) →
    AreSteps ring most last live lines → AreInOrder last most lines
steps_order ring most last live [] all = tt
steps_order ring most last live (Crash at k ∷ lines) all =
    (all.0.0.ordered, all.0.0.entered, steps_order ring most at (live_after live (Crash at k)) lines all.1)
steps_order ring most last live (Recover at k ∷ lines) all =
    (all.0.0.ordered, all.0.0.entered, steps_order ring most at (live_after live (Recover at k)) lines all.1)

-- which servers are live in the end hangs for each server on whether it was live
same_end : (n : ℕ) (lines : List ScriptLine) (up live : ℕ → Bool) →
    ((server : ℕ) → server < n → up server ≡ live server) → (server : ℕ) → server < n →
    live_after_all up lines server ≡ live_after_all live lines server
same_end n [] up live same server below = same server below
same_end n (Crash at k ∷ lines) up live same server below =
    same_end n lines (with_at up k false) (with_at live k false)
    (λ x xl. with_at_both (λ (a b : Bool). a ≡ b) up live k false false x (λ e. refl) (λ ne. same x xl)) server below
same_end n (Recover at k ∷ lines) up live same server below =
    same_end n lines (with_at up k true) (with_at live k true)
    (λ x xl. with_at_both (λ (a b : Bool). a ≡ b) up live k true true x (λ e. refl) (λ ne. same x xl)) server below

pub opens_lined : (c : Setting) → IsSetting c → IsLined c (opening c)
opens_lined c is = record {
  order = steps_order (shape c) (count c) 0 all_live c.lines is.lines;
  ends = λ server below. same_end (servers c) c.lines (opening c).up all_live
      (λ x xl. lt-ltb x (servers c) xl) server below ∙ is.ends server below;
}
