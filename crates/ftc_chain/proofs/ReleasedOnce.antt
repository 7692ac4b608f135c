-- Each packet is released once at most, so there are no more records than packets.
use Rattle.std.proofs.Common.{◌≡◌, ◌∙◌, ◌++◌, ◌<◌, ◌≤◌, ℕ, List, [], ◌∷◌, map, length, inl, inr, refl, sym, ap, subst}
use Rattle.std.proofs.Common.{arith}
use Rattle.std.proofs.lemmas.Bool.{cases_lt}
use Rattle.std.proofs.lemmas.List.{length-map}
use Rattle.ftc_base.specs.declared.released.Released.{Released}
use Rattle.ftc_journal.specs.declared.event.Event.{Event}
use Rattle.ftc_journal.specs.declared.event.Event.TheVariants.{Enter, Take, Apply, Visit, Pass, Lose, Carry, Crash}
use Rattle.ftc_journal.specs.declared.event.Event.TheVariants.{Recover, Pull, Propagate, Release}
use Rattle.ftc_serial.specs.Serial.{Entry, Visited, Given}
use Rattle.ftc_serial.proofs.AnyOf.{any_either}
use Rattle.ftc_protocol.specs.declared.fate.Fate.{Fate}
use Rattle.ftc_protocol.specs.declared.fate.Fate.TheVariants as became
use Rattle.ftc_protocol.specs.Fates.{AreFates, IsGiven}
use Rattle.ftc_protocol.specs.Legal.{IsLegal}
use Rattle.ftc_protocol.specs.Moment.{released_in}
use Rattle.ftc_protocol.specs.Next.{next, bytes_withheld}
use Rattle.ftc_protocol.specs.Orderly.{IsOrderly}
use Rattle.ftc_protocol.specs.Run.{IsRun, IsRunState, AreLegal, state_after}
use Rattle.ftc_protocol.specs.Setting.{Setting, IsSetting, count}
use Rattle.ftc_protocol.specs.State.{ChainState, opening}
use Rattle.ftc_jobs.proofs.Joined.{once_both}
use Rattle.ftc_chain.specs.declared.course.Course.{Course}
use Rattle.ftc_chain.specs.declared.given.Given.{Given as GivenInputs}
use Rattle.ftc_chain.specs.Course.{IsCourseResting, state_by}
use Rattle.ftc_chain.specs.Doing.{setting_by}
use Rattle.ftc_chain.proofs.Outlets.{released_kept}
use Rattle.ftc_chain.proofs.Releases.{is_run_state}
use Rattle.ftc_chain.proofs.UnderWay.{IsIn, AreOnce, few_numbers, all_in}

abbrev packets_in : List Entry → List ℕ
packets_in trace = map (λ (one : Released). one.packet) (released_in trace)

packets_more : (older : List Released) (one : Released) →
    map (λ (r : Released). r.packet) (older ++ one ∷ []) ≡ map (λ (r : Released). r.packet) older ++ one.packet ∷ []
packets_more [] one = refl
packets_more (first ∷ older) one = ap (λ (list : List ℕ). first.packet ∷ list) (packets_more older one)

-- a record is of a release of the trace
given_of : (trace : List Entry) (packet : ℕ) → IsIn (packets_in trace) packet → IsGiven trace packet
given_of [] packet is = absurd is
given_of (Visited server passed outcome ∷ older) packet is = inr (given_of older packet is)
given_of (Given own bytes ∷ older) packet is =
    elim (any_either _ (packets_in older) (own ∷ [])
    (subst (λ (list : List ℕ). IsIn list packet)
    (packets_more (released_in older) (record { packet = own; bytes = bytes })) is)) [
      | inl before ↦ inr (given_of older packet before)
      | inr last ↦ elim last [ inl same ↦ inl same | inr none ↦ absurd none ]
    ]

not_both : (fate : Fate) → fate ≡ became.Released → fate ≡ became.Inside → ⊥
not_both fate released inside = let same : became.Released ≡ became.Inside = sym released ∙ inside in cc

module _ (setting : Setting) (fates : (state : ChainState) → IsRunState setting state → AreFates state)
    (order : (state : ChainState) → IsRunState setting state → IsOrderly setting state)
    (runs_on : (state : ChainState) (event : Event) → IsRunState setting state → IsLegal setting state event →
    IsRunState setting (next setting state event)) where
  -- a packet that is released isn't released yet
  not_yet : (state : ChainState) (packet : ℕ) → IsRunState setting state → IsLegal setting state (Release packet) →
      IsGiven state.trace packet → ⊥
  not_yet state packet run legal given =
      let fated = fates state run in
      let released = (fated.released packet).1 given in
      elim (cases_lt packet state.entered) [
        | inl below ↦ not_both (state.fate packet) released
            ((fated.inside packet below).1 (inr (record { withheld = legal.0.0; there = legal.0.1.0 })))
        | inr outside ↦ not_both (state.fate packet) released (fated.waiting packet outside)
      ]

  -- a packet that is released has entered
  entered_of : (state : ChainState) (packet : ℕ) → IsRunState setting state → IsGiven state.trace packet →
      packet < state.entered
  entered_of state packet run given = elim (cases_lt packet state.entered) [
    | inl below ↦ below
    | inr outside ↦
        let fated = fates state run in
        absurd (not_both (state.fate packet) ((fated.released packet).1 given) (fated.waiting packet outside))
  ]

  one_on : (state : ChainState) (event : Event) → IsRunState setting state → IsLegal setting state event →
      AreOnce (packets_in state.trace) → AreOnce (packets_in (next setting state event).trace)
  one_on state (Release packet) run legal once =
      let one : Released = record { packet = packet; bytes = bytes_withheld (state.withheld packet) } in
      subst AreOnce (sym (packets_more (released_in state.trace) one))
      (once_both (packets_in state.trace) (packet ∷ []) once (tt, tt) (λ number before last.
      elim last [
        | inl same ↦ not_yet state packet run legal
            (given_of state.trace packet (subst (IsIn (packets_in state.trace)) (sym same) before))
        | inr none ↦ none
      ]))
  one_on state (Enter packet) run legal once = once
  one_on state (Take link origin) run legal once = once
  one_on state (Apply server origin group packet) run legal once = once
  one_on state (Visit server packet worker) run legal once = once
  one_on state (Pass server origin) run legal once = once
  one_on state (Lose server origin) run legal once = once
  one_on state (Carry origin) run legal once = once
  one_on state (Crash server) run legal once = once
  one_on state (Recover server undone) run legal once =
      subst (λ (list : List Released). AreOnce (map (λ (r : Released). r.packet) list))
      (sym (released_kept setting state (Recover server undone) refl)) once
  one_on state (Pull link) run legal once = once
  one_on state (Propagate origin) run legal once = once

  once_on : (state : ChainState) (events : List Event) → IsRunState setting state → AreLegal setting state events →
      AreOnce (packets_in state.trace) → AreOnce (packets_in (state_after setting state events).trace)
  once_on state [] run legal once = once
  once_on state (event ∷ events) run legal once =
      once_on (next setting state event) events (runs_on state event run legal.0) legal.1
      (one_on state event run legal.0 once)

  pub no_more_than_packets : (journal : List Event) → IsRunState setting (opening setting) → IsRun setting journal →
      IsRunState setting (state_by setting journal) →
      length (released_in (state_by setting journal).trace) ≤ count setting
  no_more_than_packets journal opens run reached =
      let state : ChainState = state_by setting journal in
      let few = few_numbers (count setting) (packets_in state.trace) (once_on (opening setting) journal opens run tt)
      (all_in (λ (n : ℕ). n < count setting) (packets_in state.trace) (λ packet is.
      let below = entered_of state packet reached (given_of state.trace packet is) in
      let all = (order state reached).entered in omega (arith, below, all))) in
      let size = length-map (released_in state.trace) (λ (one : Released). one.packet) in
      omega (arith, few, size)

-- the same of a chain between two calls
pub fewer_than_packets : (given : GivenInputs) (course : Course) →
    ((setting : Setting) → IsSetting setting → (journal : List Event) → IsRun setting journal →
    AreFates (state_after setting (opening setting) journal)) →
    ((setting : Setting) (state : ChainState) → IsRunState setting state → IsOrderly setting state) →
    ((setting : Setting) → IsSetting setting → IsRunState setting (opening setting)) →
    ((setting : Setting) (state : ChainState) (event : Event) → IsRunState setting state → IsLegal setting state event →
    IsRunState setting (next setting state event)) →
    IsCourseResting (setting_by given) course →
    length (released_in (state_by (setting_by given) course.journal.items).trace) ≤ count (setting_by given)
fewer_than_packets given course fates order opens runs_on rest =
    let setting : Setting = setting_by given in
    no_more_than_packets setting
    (λ state run. subst AreFates run.reaches (fates setting run.right run.journal run.run)) (order setting)
    (runs_on setting)
    course.journal.items (opens setting rest.course_is.right) rest.course_is.run
    (is_run_state setting course rest.course_is)
