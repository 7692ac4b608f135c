-- A release, and a crash.
use Rattle.std.proofs.Common.{◌≡◌, ◌≢◌, ℕ, ◌+◌, ◌-◌, ◌==◌, if◌then◌else◌, true, false, not, List, ◌∷◌, inl, inr, refl}
use Rattle.std.proofs.Common.{sym, ap, subst, ◌∙◌, arith, Option, Some, None}
use Rattle.std.proofs.lemmas.Bool.{true≢false, eqb-false, and_parts, not-true}
use Rattle.std.proofs.lemmas.Option.{none-some}
use Rattle.ftc_script.specs.declared.line.ScriptLine.TheVariants as script_line
use Rattle.ftc_protocol.specs.State.{ChainState, Message, Withheld}
use Rattle.ftc_journal.specs.declared.event.Event.TheVariants.{Crash, Release}
use Rattle.ftc_serial.specs.Serial.{Entry, Given}
use Rattle.ftc_protocol.specs.Trace.{Has, IsInTrace, IsTouching}
use Rattle.ftc_protocol.specs.Visits.{In, Visits, no_visits}
use Rattle.ftc_protocol.proofs.Invariant.{Inv, IsSafe, IsWithheld, knows_safe, under_way_moves}
use Rattle.ftc_protocol.specs.Known.{IsDue, knows}
use Rattle.ftc_protocol.proofs.Premises.{IsGood}
use Rattle.ftc_protocol.proofs.GroupDistance.{IsWithin, carried_down, carried_given, carried_if, within_down}
use Rattle.ftc_protocol.proofs.GroupDistance.{within_given}
use Rattle.ftc_protocol.specs.Legal.{MayHappen}
use Rattle.ftc_serial.specs.Take.{Outcome}
use Rattle.ftc_protocol.proofs.Places.{Passed, Released, serial_of}
use Rattle.ftc_protocol.specs.Setting.{Setting, servers}
use Rattle.ftc_protocol.specs.Next.{bytes_withheld, drop_if, is_at, next}
use Rattle.ftc_protocol.proofs.SmallEvents.{fit_next}
use Rattle.ftc_protocol.proofs.LiveHolders.{lost_some_message, stays_awake}
use Rattle.ftc_ring.specs.Ring.{next_of}
use Rattle.ftc_serial.specs.Words.{with_at}
use Rattle.ftc_serial.proofs.Functions.{with_at_cases}
use Rattle.ftc_protocol.proofs.TraceAndLists.{world_down, world_given}

module _ (c : Setting) (good : IsGood c) (s : ChainState) (h : Inv c s) where
  -- a packet whose needs are all known is safe
  due_safe : (p : ℕ) (w : Withheld) → IsDue c s p w → (i : ℕ) → IsTouching s.trace i p →
      IsWithin c s.trace s.up s.lists i p (servers c)
  due_safe p w due i touching y lt live member near =
      let has : Has c.partitions s.trace (knows c s ((servers c) - 1)) i p =
      due.1 i ((h.withheld p w due.0).needs i touching) in
      record {
        changing = λ is. ((knows_safe c s h ((servers c) - 1) i p
            (has.changing is)).within y lt live member near).changing is;
        other = λ not_changing q before.
            let safe = knows_safe c s h ((servers c) - 1) i q (has.other not_changing q before) in
            (safe.within y lt live member near).changing safe.changing;
      }

  pub releases : (p : ℕ) → MayHappen c s (Release p) → Inv c (next c s (Release p))
  releases p legal =
      let n = (servers c) in let w = legal.0 in let due = legal.1 in
      let trace' : List Entry = Given p (bytes_withheld (s.withheld p)) ∷ s.trace in
      let here : (serial_of c s.trace).place p ≡ Passed (bytes_withheld (s.withheld p)) =
      (h.withheld p w due.0).place ∙ ap (λ o. Passed (bytes_withheld o)) (sym due.0) in
      let world = world_given c good.some good.sound s.trace s.up s.lists h.world p (bytes_withheld (s.withheld p)) here
      (due_safe p w due) in
      let old : (P : Outcome → Type 0) (i q : ℕ) → IsInTrace P trace' i q → IsInTrace P s.trace i q =
      λ P i q t. elim t [ inl at ↦ absurd at | inr there ↦ there ] in
      let place : (q : ℕ) → ((q ≡ p) → ⊥) → (serial_of c trace').place q ≡ (serial_of c s.trace).place q =
      λ q ne. with_at_cases (λ v. v ≡ (serial_of c s.trace).place q) (serial_of c s.trace).place p Released q
      (λ e. absurd (ne e)) (λ _. refl) in
      let moves : (i q d : ℕ) → IsWithin c s.trace s.up s.lists i q d → IsWithin c trace' s.up s.lists i q d =
      λ i q d v. within_given c s.trace s.up s.lists i q d v p (bytes_withheld (s.withheld p)) in
      record {
        world = world;
        fit = h.fit;
        awake = h.awake;
        messages = λ q m e'. let m_old = h.messages q m e' in record {
          carried = carried_given c s.trace s.up s.lists m.logs _ p _ m_old.carried;
          told = λ a b is. let safe =
              m_old.told a b is in record { changing = inr safe.changing; within = moves a b n safe.within };
          under_way = λ bytes is. under_way_moves c s.trace trace' s.up s.up s.lists s.lists q m bytes
              (place q (λ e. none-some bytes
              (sym (h.single p w m due.0 (subst (λ x. s.message x ≡ Some m) e e')) ∙ is)))
              (λ i t. old _ i q t) (λ i d t v. moves i q d v) (m_old.under_way bytes is);
        };
        entered = h.entered;
        forward = carried_given c s.trace s.up s.lists s.forwarder _ p _ h.forward;
        forward_live = h.forward_live;
        forward_far = h.forward_far;
        withheld = λ q v. with_at_cases (λ (o : Option Withheld). o ≡ Some v →
            IsWithheld c trace' s.up q v) s.withheld p None q (λ e is. absurd (none-some v is))
            (λ ne is. let x = h.withheld q v is in
            record { place = place q ne ∙ x.place; live = x.live; needs = λ i t. x.needs i (old _ i q t) });
        single = λ q v m. with_at_cases (λ (o : Option Withheld). o ≡ Some v → s.message q ≡ Some m →
            m.packet ≡ None) s.withheld p None q (λ e is. absurd (none-some v is)) (λ ne is. h.single q v m is);
        unentered = λ q le few. place q (λ e. let waits = h.unentered q le few in
            let passed : (serial_of c s.trace).place q ≡ Passed w.bytes =
            subst (λ x. (serial_of c s.trace).place x ≡ Passed w.bytes) (sym e) (h.withheld p w due.0).place in
            absurd (cc)) ∙ h.unentered q le few;
        known = λ y a b is. let safe =
            h.known y a b is in record { changing = inr safe.changing; within = moves a b n safe.within };
        gaps = h.gaps;
      }

  pub crashes : (k : ℕ) → MayHappen c s (Crash k) → Inv c (next c s (Crash k))
  crashes k legal =
      let n = (servers c) in
      let fit = fit_next c s.up s.lines (script_line.Crash s.entered k) legal h.fit in
      let up' = with_at s.up k false in let has' = with_at s.lists k no_visits in
      let moves : (i q d : ℕ) → IsWithin c s.trace s.up s.lists i q d → IsWithin c s.trace up' has' i q d =
      λ i q d v. within_down c s.trace s.up s.lists i q d v k in
      let still : (q : ℕ) (m : Message) → drop_if (λ (x : Message). is_at c k x.place) (s.message q) ≡ Some m →
      s.message q ≡ Some m = λ q m e. lost_some_message c k (s.message q) m e in
      record {
        world = world_down c good.some good.sound s.trace s.up s.lists h.world k;
        fit = fit.2;
        awake = stays_awake c good.some s (Crash k) legal h.awake;
        messages = λ q m e. let m_old = h.messages q m (still q m e) in record {
          carried = carried_down c s.trace s.up s.lists m.logs _ k m_old.carried;
          told = λ a b is. let safe =
              m_old.told a b is in record { changing = safe.changing; within = moves a b n safe.within };
          under_way = λ bytes is. under_way_moves c s.trace s.trace s.up up' s.lists has' q m bytes refl (λ i t. t)
              (λ i d t v. moves i q d v) (m_old.under_way bytes is);
        };
        entered = λ q m b e is. h.entered q m b (still q m e) is;
        forward = carried_if c s.trace up' has' (not (k == 0)) s.forwarder (next_of n 0)
            (λ b. carried_down c s.trace s.up s.lists s.forwarder _ k h.forward);
        forward_live = λ j q is. let a = and_parts (not (k == 0)) (s.forwarder j q) is in
            with_at_cases (λ b. b ≡ true) s.up k false 0 (λ e. absurd (eqb-false k 0 (not-true _ a.0) (sym e)))
            (λ ne. h.forward_live j q a.1);
        forward_far = λ j q is. h.forward_far j q (and_parts (not (k == 0)) (s.forwarder j q) is).1;
        withheld = λ q w. elim (k + 1 == n) as (λ b. k + 1 == n ≡ b → (if b then None else s.withheld q) ≡ Some w →
            IsWithheld c s.trace up' q w) [
              | true ↦ λ t is. absurd (none-some w is)
              | false ↦ λ t is. let x = h.withheld q w is in record {
                place = x.place;
                live = with_at_cases (λ b. b ≡ true) s.up k false (n - 1) (λ e. let ne : k + 1 ≢ n = eqb-false _ _ t in
                    let some' = good.some in absurd (ne (omega arith))) (λ ne. x.live);
                needs = x.needs;
              }
            ] refl;
        single = λ q w m. elim (k + 1 == n) as (λ b. (if b then None else s.withheld q) ≡ Some w →
            drop_if (λ (x : Message). is_at c k x.place) (s.message q) ≡ Some m → m.packet ≡ None) [
              | true ↦ λ is e. absurd (none-some w is)
              | false ↦ λ is e. h.single q w m is (still q m e)
            ];
        unentered = h.unentered;
        known = λ y a b. with_at_cases (λ (v : Visits). In v a b →
            IsSafe c s.trace up' has' a b) s.known k no_visits y (λ e is. absurd (true≢false (sym is)))
            (λ ne is. let safe = h.known y a b is in
            record { changing = safe.changing; within = moves a b n safe.within });
        gaps = h.gaps;
      }
