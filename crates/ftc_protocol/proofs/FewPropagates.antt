-- A run has few messages without a packet.
use Rattle.std.proofs.Common.{◌≡◌, ◌≢◌, ℕ, ◌+◌, ◌<◌, ◌≤◌, ◌&&◌, if◌then◌else◌, Bool, true, false, List, [], ◌∷◌, length}
use Rattle.std.proofs.Common.{refl, sym, ap, subst, ◌∙◌, arith, inl, inr, eq-eqb, Some, None}
use Rattle.std.proofs.lemmas.Bool.{true≢false, cases_Bool, and_from, or_right}
use Rattle.std.proofs.lemmas.Option.{none-some, same_Some}
use Rattle.ftc_ring.specs.Ring.{apart}
use Rattle.ftc_journal.specs.declared.event.VisitName.{VisitName}
use Rattle.ftc_journal.specs.declared.event.Event.{Event}
use Rattle.ftc_journal.specs.declared.event.Event.TheVariants.{Apply, Carry, Crash, Enter, Lose, Pass, Propagate, Pull}
use Rattle.ftc_journal.specs.declared.event.Event.TheVariants.{Recover, Release, Take, Visit}
use Rattle.ftc_script.specs.declared.line.ScriptLine.{ScriptLine}
use Rattle.ftc_script.specs.declared.line.ScriptLine.TheVariants as script_line
use Rattle.ftc_serial.proofs.Functions.{with_at_cases, with_at_here}
use Rattle.ftc_protocol.specs.Setting.{Setting, servers, count, is_tail, IsSetting}
use Rattle.ftc_protocol.specs.Visits.{In}
use Rattle.ftc_protocol.specs.State.{ChainState, Message, opening}
use Rattle.ftc_protocol.specs.Legal.{IsNextLine, MayHappen, IsLegal, IsStalled}
use Rattle.ftc_protocol.specs.Next.{next, fresh_message, lines_behind}
use Rattle.ftc_protocol.specs.Run.{AreLegal, IsRun, state_after}
use Rattle.ftc_protocol.specs.Counts.{propagates_in, AreFew}
use Rattle.ftc_protocol.proofs.Premises.{IsGood}
use Rattle.ftc_protocol.proofs.AcceptedSettings.{is_good}
use Rattle.ftc_protocol.proofs.Invariant.{each_message}
use Rattle.ftc_protocol.proofs.ListStores.{stands_below}
use Rattle.ftc_protocol.proofs.FullLists.{full}
use Rattle.ftc_protocol.proofs.Complete.{IsReached, keeps_reached, opens_reached}
use Rattle.ftc_protocol.proofs.LogShapes.{AreShaped, keeps_shapes, opens_shaped}
use Rattle.ftc_protocol.proofs.EndedMessages.{ended_most}
use Rattle.ftc_protocol.proofs.PropagateCounts.{ArePaid, pays, one_begun, none_begun, none_forwarded}
use Rattle.ftc_protocol.proofs.TellingMessage.{IsStill, keeps_still, not_stalled}

-- so many were begun for logs of the forwarder, and so many while nothing was under way
pub record IsCounted (c : Setting) (s : ChainState) : Type 0 where
  pub reached : IsReached c s
  pub shaped : AreShaped c s
  pub begun : ℕ
  pub quiet : ℕ
  pub both : s.propagates ≡ begun + quiet
  pub paid : ArePaid c s begun
  pub still : Bool
  pub spare : quiet + length s.lines ≤ length c.lines + (if still then 1 else 0)
  pub is_still : still ≡ true → IsStill c s

pub fewer_lines : (lines : List ScriptLine) (line : ScriptLine) → IsNextLine lines line →
    length (lines_behind lines) + 1 ≡ length lines
fewer_lines [] line is = absurd is
fewer_lines (first ∷ lines) line is = omega arith

module _ (c : Setting) (is : IsSetting c) (s : ChainState) (n : IsCounted c s) where
  open n use {reached, shaped}

  good : IsGood c
  good = is_good c is

  stalled_still : (p : ℕ) → MayHappen c s (Propagate p) → ((j q : ℕ) → s.forwarder j q ≡ false) → IsStalled c s →
      IsStill c (next c s (Propagate p))
  stalled_still p legal empty stalled =
      let new = fresh_message s.events None in
      let number : p ≡ count c + s.propagates = legal.4 in
      let all = full c s reached.live legal.1 stalled.messages stalled.gaps empty in
      record {
        up = legal.1;
        entered = legal.0;
        gaps = stalled.gaps;
        forwarder = empty;
        full = all;
        bare = each_message (λ q m. (m.packet ≡ None) × ((j x : ℕ) → In m.logs j x → ⊥)
            × (count c ≤ q)) s.message p (Some new)
            (λ m e. subst (λ (y : Message). (y.packet ≡ None) × ((j x : ℕ) → In y.logs j x → ⊥)
            × (count c ≤ p)) (same_Some new m e) (refl, (λ j x log. true≢false (sym log)), omega arith))
            (λ q m e. absurd (none-some m (sym (stalled.messages q) ∙ e)));
        single = λ q r m x e e'. only q m e ∙ sym (only r x e');
        told = λ packet w held. record {
          origin = p;
          message = new;
          there = with_at_here s.message p (Some new);
          tells = λ group x tail changing le far.
              let first : tail ≡ 0 = omega arith in
              let below : group < servers c =
              stands_below c good.some _ s.trace reached.live.inv.world.serial group x changing in
              let at : apart (servers c) group 0 ≡ c.failures = ap (apart (servers c) group) (sym first) ∙ far in
              or_right (s.known 0 group x) (is_tail c group 0 && s.lists 0 group x)
              (and_from (is_tail c group 0) (s.lists 0 group x) (eq-eqb (apart (servers c) group 0) c.failures at)
              (all group 0 x good.some below (omega arith) changing));
        };
      }
    where
      only : (q : ℕ) (m : Message) →
          Rattle.ftc_serial.specs.Words.with_at s.message p (Some (fresh_message s.events None)) q ≡ Some m → q ≡ p
      only q m = with_at_cases (λ v. v ≡ Some m →
          q ≡ p) s.message p (Some (fresh_message s.events None)) q (λ e x. e)
          (λ ne there. absurd (none-some m (sym (stalled.messages q) ∙ there)))

  not_still : (p : ℕ) → MayHappen c s (Propagate p) → n.still ≡ true → ⊥
  not_still p legal yes_still =
      let at = n.is_still yes_still in
      elim legal.3 [
        | inl log ↦ true≢false (sym log.2 ∙ at.forwarder log.0 log.1)
        | inr stalled ↦ not_stalled c good is s reached.live.inv at stalled
      ]

  isnt_still : (p : ℕ) → MayHappen c s (Propagate p) → n.still ≡ false
  isnt_still p legal = elim (cases_Bool n.still) [ inr isnt ↦ isnt | inl at ↦ absurd (not_still p legal at) ]

  propagate_counted : (p : ℕ) → MayHappen c s (Propagate p) → IsCounted c (next c s (Propagate p))
  propagate_counted p legal =
      let spare : n.quiet + length s.lines ≤ length c.lines = let old =
      subst (λ b. n.quiet + length s.lines ≤ length c.lines + (if b then 1 else 0)) (isnt_still p legal) n.spare in
      omega arith in
      let live = reached.live in
      elim (cases_Bool n.paid.busy) [
        | inl busy ↦ record {
          reached = keeps_reached c good s reached (Propagate p) legal;
          shaped = keeps_shapes c good s live.inv live.timed reached.fated shaped (Propagate p) legal;
          begun = n.begun + 1;
          quiet = n.quiet;
          both = let was = n.both in omega arith;
          paid = one_begun c good s live.inv live.timed live.numbered reached.fated shaped n.begun n.paid p legal busy;
          still = false;
          spare = omega arith;
          is_still = λ wrong. absurd (true≢false (sym wrong));
        }
        | inr free ↦
            let empty = none_forwarded c good s live.inv live.timed live.numbered reached.fated shaped n.begun n.paid p
            legal free in
            elim legal.3 [
              | inl log ↦ absurd (true≢false (sym log.2 ∙ empty log.0 log.1))
              | inr stalled ↦ record {
                reached = keeps_reached c good s reached (Propagate p) legal;
                shaped = keeps_shapes c good s live.inv live.timed reached.fated shaped (Propagate p) legal;
                begun = n.begun;
                quiet = n.quiet + 1;
                both = let was = n.both in omega arith;
                paid = none_begun c good s live.inv live.timed live.numbered reached.fated shaped n.begun n.paid p legal
                    empty;
                still = true;
                spare = omega arith;
                is_still = λ _. stalled_still p legal empty stalled;
              }
            ]
      ]

  line_counted : (e : Event) → MayHappen c s e → (e ≢ Propagate (count c + s.propagates)) →
      (next c s e).propagates ≡ s.propagates → length (next c s e).lines + 1 ≡ length s.lines → IsCounted c (next c s e)
  line_counted e legal other same lines = record {
    reached = keeps_reached c good s reached e legal;
    shaped = keeps_shapes c good s reached.live.inv reached.live.timed reached.fated shaped e legal;
    begun = n.begun;
    quiet = n.quiet;
    both = same ∙ n.both;
    paid = pays c good s reached.live.inv reached.live.timed reached.live.numbered reached.fated shaped n.begun n.paid e
        legal other;
    still = false;
    spare = let one : (if n.still then 1 else 0) ≤ 1 =
        elim n.still as (λ b. (if b then 1 else 0) ≤ 1) [ true ↦ omega arith | false ↦ omega arith ] in let old =
        n.spare in omega arith;
    is_still = λ wrong. absurd (true≢false (sym wrong));
  }

  same_counted : (e : Event) → IsLegal c s e → (e ≢ Propagate (count c + s.propagates)) → ((k : ℕ) → e ≢ Crash k) →
      ((k : ℕ) (undone : List VisitName) → e ≢ Recover k undone)
      → (next c s e).propagates ≡ s.propagates → (next c s e).lines ≡ s.lines → IsCounted c (next c s e)
  same_counted e legal other no_crash no_recover same lines = record {
    reached = keeps_reached c good s reached e legal.0;
    shaped = keeps_shapes c good s reached.live.inv reached.live.timed reached.fated shaped e legal.0;
    begun = n.begun;
    quiet = n.quiet;
    both = same ∙ n.both;
    paid = pays c good s reached.live.inv reached.live.timed reached.live.numbered reached.fated shaped n.begun n.paid e
        legal.0 other;
    still = n.still;
    spare = subst (λ l. n.quiet + length l ≤ length c.lines + (if n.still then 1 else 0)) (sym lines) n.spare;
    is_still = λ at. keeps_still c good is s reached.live.inv
        (n.is_still at) e legal.0 legal.1 no_crash no_recover other;
  }

  pub keeps_counts : (e : Event) → IsLegal c s e → IsCounted c (next c s e)
  keeps_counts (Enter p) legal = same_counted (Enter p) legal (λ x. cc) (λ k x. cc) (λ k u x. cc) refl refl
  keeps_counts (Take k p) legal = same_counted (Take k p) legal (λ x. cc) (λ k x. cc) (λ k u x. cc) refl refl
  keeps_counts (Apply k p j q) legal = same_counted (Apply k p j q) legal (λ x. cc) (λ k x. cc) (λ k u x. cc) refl refl
  keeps_counts (Visit k p w) legal = same_counted (Visit k p w) legal (λ x. cc) (λ k x. cc) (λ k u x. cc) refl refl
  keeps_counts (Pass k p) legal = same_counted (Pass k p) legal (λ x. cc) (λ k x. cc) (λ k u x. cc) refl refl
  keeps_counts (Lose k p) legal = same_counted (Lose k p) legal (λ x. cc) (λ k x. cc) (λ k u x. cc) refl refl
  keeps_counts (Carry p) legal = same_counted (Carry p) legal (λ x. cc) (λ k x. cc) (λ k u x. cc) refl refl
  keeps_counts (Crash k) legal =
      line_counted (Crash k) legal.0 (λ x. cc) refl (fewer_lines s.lines (script_line.Crash s.entered k) legal.0)
  keeps_counts (Recover k undone) legal =
      line_counted (Recover k undone) legal.0 (λ x. cc) refl
      (fewer_lines s.lines (script_line.Recover s.entered k) legal.0.0)
  keeps_counts (Pull k) legal = same_counted (Pull k) legal (λ x. cc) (λ k x. cc) (λ k u x. cc) refl refl
  keeps_counts (Propagate p) legal = propagate_counted p legal.0
  keeps_counts (Release p) legal = same_counted (Release p) legal (λ x. cc) (λ k x. cc) (λ k u x. cc) refl refl

  pub most : s.propagates ≤ count c + length c.lines + 1
  most =
      let paid = n.paid.paid in
      let ends = ended_most s.entered s.message in
      let entered = reached.live.timed.bounded in
      let spare = n.spare in let both = n.both in
      let one : (if n.still then 1 else 0) ≤ 1 =
      elim n.still as (λ b. (if b then 1 else 0) ≤ 1) [ true ↦ omega arith | false ↦ omega arith ] in
      omega arith

pub opens_counted : (c : Setting) → IsSetting c → IsCounted c (opening c)
opens_counted c is = record {
  reached = opens_reached c is;
  shaped = opens_shaped c;
  begun = 0;
  quiet = 0;
  both = refl;
  paid = record { busy = false; paid = omega arith; idle = λ _. inl (λ j q. refl) };
  still = false;
  spare = omega arith;
  is_still = λ wrong. absurd (true≢false (sym wrong));
}

pub counted_on : (c : Setting) → IsSetting c → (journal : List Event) (s : ChainState) → IsCounted c s →
    AreLegal c s journal → IsCounted c (state_after c s journal)
counted_on c is [] s n legal = n
counted_on c is (e ∷ journal) s n legal = counted_on c is journal (next c s e) (keeps_counts c is s n e legal.0) legal.1

-- the state counts the events
pub count_is : (c : Setting) (journal : List Event) (s : ChainState) →
    (state_after c s journal).propagates ≡ s.propagates + propagates_in journal
count_is c [] s = omega arith
count_is c (Propagate p ∷ journal) s = let rest = count_is c journal (next c s (Propagate p)) in omega arith
count_is c (Enter p ∷ journal) s = count_is c journal (next c s (Enter p))
count_is c (Take k p ∷ journal) s = count_is c journal (next c s (Take k p))
count_is c (Apply k p j q ∷ journal) s = count_is c journal (next c s (Apply k p j q))
count_is c (Visit k p w ∷ journal) s = count_is c journal (next c s (Visit k p w))
count_is c (Pass k p ∷ journal) s = count_is c journal (next c s (Pass k p))
count_is c (Lose k p ∷ journal) s = count_is c journal (next c s (Lose k p))
count_is c (Carry p ∷ journal) s = count_is c journal (next c s (Carry p))
count_is c (Crash k ∷ journal) s = count_is c journal (next c s (Crash k))
count_is c (Recover k undone ∷ journal) s = count_is c journal (next c s (Recover k undone))
count_is c (Pull k ∷ journal) s = count_is c journal (next c s (Pull k))
count_is c (Release p ∷ journal) s = count_is c journal (next c s (Release p))

pub are_few : (c : Setting) → IsSetting c → (journal : List Event) → IsRun c journal → AreFew c journal
are_few c is journal run =
    let counts = count_is c journal (opening c) in
    let bound = most c is (state_after c (opening c) journal)
    (counted_on c is journal (opening c) (opens_counted c is) run) in
    omega arith
