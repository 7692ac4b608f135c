-- The whole invariant, and what a finished state has.
use Rattle.std.proofs.Common.{◌≡◌, ◌≢◌, ℕ, suc, ◌+◌, ◌<◌, ◌==◌, ◌&&◌, if◌then◌else◌, Bool, true, false, not, List, []}
use Rattle.std.proofs.Common.{◌⊎◌, inl, inr, refl, sym, ap, subst, ◌∙◌, arith, Option, Some, None, zero, zero-le}
use Rattle.std.proofs.lemmas.Bool.{true≢false, eqb-false, cases_lt, cases_Bool, and_parts, not-true, ne_eqb}
use Rattle.std.proofs.lemmas.Option.{none-some, same_Some}
use Rattle.ftc_script.specs.declared.line.ScriptLine.TheVariants as script_line
use Rattle.ftc_journal.specs.declared.event.Event.TheVariants.{Apply, Carry, Crash, Enter, Lose, Pass, Propagate, Pull}
use Rattle.ftc_journal.specs.declared.event.Event.TheVariants.{Recover, Release, Take, Visit}
use Rattle.ftc_protocol.proofs.Premises.{AreFit, IsGood, ticked}
use Rattle.ftc_protocol.proofs.InTransit.{AreNumbered, IsPending, keeps_numbers}
use Rattle.ftc_protocol.proofs.ArrivalOrder.{AreSeen, From, IsSeenAt, IsTimed, crash_seen, keeps_time, left_seen}
use Rattle.ftc_protocol.proofs.ArrivalOrder.{recover_seen, seen_by, seen_given, seen_grow, take_seen, visit_seen}
use Rattle.ftc_protocol.specs.State.{ChainState, Message, Withheld, opening}
use Rattle.ftc_journal.specs.declared.event.Event.{Event}
use Rattle.ftc_protocol.specs.Visits.{In, Visits, no_visits}
use Rattle.ftc_protocol.proofs.Invariant.{Inv, each_message, target}
use Rattle.ftc_protocol.specs.Known.{IsDue}
use Rattle.ftc_protocol.specs.Legal.{IsLegal, MayHappen, MayLeave, is_sent}
use Rattle.ftc_protocol.proofs.MessageOrder.{IsSoonAll, apply_soon, carry_soon, crash_soon, fresh_soon, left_soon}
use Rattle.ftc_protocol.proofs.MessageOrder.{pull_soon, recover_soon, soon_pends, take_soon, visit_soon}
use Rattle.ftc_protocol.specs.Setting.{Setting, count, is_member, packet_at, servers}
use Rattle.ftc_protocol.proofs.RingDistances.{apart_after, apart_cases, last_live, next_live}
use Rattle.ftc_protocol.proofs.SmallEvents.{fit_next, fit_now}
use Rattle.ftc_protocol.specs.Recovery.{following_live, previous_live}
use Rattle.ftc_protocol.specs.Next.{fresh_message, is_away, next, pulled_list, sent_message, sent_on, taken_message}
use Rattle.ftc_protocol.proofs.Induction.{keeps, opens}
use Rattle.ftc_protocol.proofs.Sets.{kept}
use Rattle.ftc_protocol.proofs.LiveHolders.{kept_some}
use Rattle.ftc_serial.specs.Trace.{names}
use Rattle.ftc_ring.specs.Ring.{next_of}
use Rattle.ftc_protocol.proofs.Quiescence.{no_message}
use Rattle.ftc_protocol.proofs.UndoneList.{undone_listed}
use Rattle.ftc_serial.specs.Words.{with_at}
use Rattle.ftc_serial.proofs.Functions.{with_at_cases, with_at_here, with_at_elsewhere}

pub record IsLive (c : Setting) (s : ChainState) : Type 0 where
  pub inv : Inv c s
  pub timed : IsTimed c s
  pub numbered : AreNumbered c s
  pub pending : IsPending c s
  pub seen : ℕ → Visits
  pub ok : AreSeen c s seen
  pub soon : IsSoonAll c s seen

module _ (c : Setting) (good : IsGood c) (s : ChainState) (l : IsLive c s) where
  open l use {inv, timed, numbered, seen, ok, soon}

  new_number : (p : ℕ) → (p ≡ s.entered) × (p < (count c)) ⊎ (p ≡ (count c) + s.propagates) × (s.entered ≡ (count c)) →
      (m : Message) → s.message p ≡ Some m → ⊥
  new_number p how m e = let n = numbered p m e in elim how [
    | inl a ↦ let e1 : p ≡ s.entered = a.0 in let e2 : p < (count c) =
        a.1 in elim n [ inl x ↦ omega arith | inr x ↦ omega arith ]
    | inr b ↦ let e1 : p ≡ (count c) + s.propagates = b.0 in let e2 : s.entered ≡ (count c) =
        b.1 in elim n [ inl x ↦ omega arith | inr x ↦ omega arith ]
  ]

  -- a new message comes from nowhere
  fresh_from : (packet : Option (List ℕ)) (m : Message) → Some (fresh_message s.events packet) ≡ Some m → (y : ℕ) →
      From (servers c) m.place y → ⊥
  fresh_from packet m e y from =
      let f = subst (λ (x : Message). From (servers c) x.place y) (sym (same_Some _ m e)) from in
      elim f.2 [ inl a ↦ true≢false (sym a) | inr b ↦ b refl ]

  enter_from : (p : ℕ) → ((m : Message) → s.message p ≡ Some m → ⊥) → (b : Bool) (m : Message) →
      (if b then Some (fresh_message s.events (Some (packet_at c p))) else s.message p) ≡ Some m → (y : ℕ) →
      From (servers c) m.place y → ⊥
  enter_from p none_there true m e = fresh_from _ m e
  enter_from p none_there false m e = λ y from. none_there m e

  seen_fresh : (p : ℕ) (o : Option Message) → ((m : Message) → o ≡ Some m → (y : ℕ) → From (servers c) m.place y → ⊥)
      → (q : ℕ) (m : Message) → with_at s.message p o q ≡ Some m → (y : ℕ) → From (servers c) m.place y →
      IsSeenAt c s.trace s.up s.lists y (target (servers c) m.place) m.logs (seen q)
  seen_fresh p o no_from = each_message (λ q m. (y : ℕ) → From (servers c) m.place y →
      IsSeenAt c s.trace s.up s.lists y (target (servers c) m.place) m.logs (seen q)) s.message p o
      (λ m e y from. absurd (no_from m e y from)) ok

  pub pull_more : (k : ℕ) → MayHappen c s (Pull k) → (x j q : ℕ) → In (s.lists x) j q →
      In (with_at s.lists (next_of (servers c) k) (pulled_list c s k (next_of (servers c) k)) x) j q
  pull_more k legal x j q i =
      let n = (servers c) in let m = next_of n k in
      with_at_cases (λ (v : Visits). In v j q) s.lists m (pulled_list c s k m) x
      (λ e.
      let i_m : In (s.lists m) j q = subst (λ v. In (s.lists v) j q) e i in
      let kl = inv.world.inside k legal.0 in
      elim (cases_Bool (is_member c j k && is_member c j m && not (j == m))) [
        | inr f ↦ ap (λ b. if b then s.lists k j q else s.lists m j q) f ∙ i_m
        | inl t' ↦
            let w = inv.world.nest.member m j q i_m in
            let own : j ≢ m = eqb-false j m (not-true _ (and_parts _ _ t').1) in
            let in_k : In (s.lists k) j q = elim (apart_after n k kl) [
              | inr alone ↦ absurd (inv.gaps k legal.2 alone)
              | inl step ↦ let st = step.0 in let jm = apart_cases n j m w.2 step.1 in let jk =
                  apart_cases n j k w.2 kl in inv.world.nest.nested j k m q kl legal.0 (omega arith) i_m
            ] in
            ap (λ b. if b then s.lists k j q else s.lists m j q) t' ∙ in_k
      ])
      (λ ne. i)

  left_both : (k p : ℕ) (lost : Bool) (m : Message) → MayLeave c s k p m →
      AreSeen c (ticked (sent_on c s k p lost)) (with_at seen p (s.lists k))
  left_both k p lost m leaves q m' =
      with_at_cases (λ v. v ≡ Some m' → (y : ℕ) → From (servers c) m'.place y →
      IsSeenAt c s.trace s.up s.lists y (target (servers c) m'.place) m'.logs
      (with_at seen p (s.lists k) q)) s.message p (if is_sent c k && not (is_away c s k lost) then
      sent_message c s k (s.message p) else None) q
      (λ e is y from. subst (λ v. IsSeenAt c s.trace s.up s.lists y (target (servers c) m'.place) m'.logs
      (with_at seen p (s.lists k) v)) (sym e)
      (subst (λ v. IsSeenAt c s.trace s.up s.lists y (target (servers c) m'.place) m'.logs v)
      (sym (with_at_here seen p (s.lists k)))
      (left_seen c good s inv timed seen ok k p m leaves _ (s.message p) refl m' is y from)))
      (λ ne is y from. subst (λ v. IsSeenAt c s.trace s.up s.lists y (target (servers c) m'.place) m'.logs v)
      (sym (with_at_elsewhere seen p (s.lists k) q ne)) (ok q m' is y from))

  with_parts : (e : Event) → MayHappen c s e → (seen' : ℕ → Visits) → AreSeen c (next c s e) seen' →
      IsSoonAll c (next c s e) seen' → IsLive c (next c s e)
  with_parts e legal seen' ok' soon' = record {
    inv = keeps c good s inv e legal;
    timed = keeps_time c good s inv timed e legal;
    numbered = keeps_numbers c s numbered e legal;
    pending = soon_pends c (next c s e) seen' soon';
    seen = seen';
    ok = ok';
    soon = soon';
  }

  pub keeps_live : (e : Event) → MayHappen c s e → IsLive c (next c s e)
  keeps_live (Enter p) legal = let no_message = new_number p (inl (legal.0, legal.1)) in
      with_parts (Enter p) legal seen (seen_fresh p _ (enter_from p no_message (s.up 0)))
      (fresh_soon c good s inv timed seen ok soon p _ no_message (enter_from p no_message (s.up 0)))
  keeps_live (Take k p) legal = with_parts (Take k p) legal seen
      (each_message (λ q m. (y : ℕ) → From (servers c) m.place y →
      IsSeenAt c s.trace s.up s.lists y (target (servers c) m.place) m.logs (seen q)) s.message p
      (taken_message c s k (s.message p)) (take_seen c good s inv timed seen ok k p legal (s.message p) refl) ok)
      (take_soon c good s inv timed seen ok soon k p legal)
  keeps_live (Apply k p j q) legal =
      with_parts (Apply k p j q) legal seen
      (seen_grow c good s inv timed seen ok _ (λ x a b i. kept s.lists k j q true x a b i))
      (apply_soon c good s inv timed seen ok soon k p j q legal)
  keeps_live (Visit k p w) legal =
      with_parts (Visit k p w) legal seen (visit_seen c good s inv timed seen ok k p w legal)
      (visit_soon c good s inv timed seen ok soon k p w legal)
  keeps_live (Pass k p) legal =
      with_parts (Pass k p) legal (with_at seen p (s.lists k)) (left_both k p false legal.0 legal.1)
      (left_soon c good s inv timed seen ok soon k p false legal.0 legal.1)
  keeps_live (Lose k p) legal =
      with_parts (Lose k p) legal (with_at seen p (s.lists k)) (left_both k p true legal.0 legal.1)
      (left_soon c good s inv timed seen ok soon k p true legal.0 legal.1)
  keeps_live (Carry p) legal =
      with_parts (Carry p) legal seen (seen_fresh p None (λ m e. absurd (none-some m e)))
      (carry_soon c good s inv timed seen ok soon p legal)
  keeps_live (Crash k) legal =
      with_parts (Crash k) legal seen (crash_seen c good s inv timed seen ok k)
      (crash_soon c good s inv timed seen ok soon k)
  keeps_live (Pull k) legal =
      with_parts (Pull k) legal seen (seen_grow c good s inv timed seen ok _ (pull_more k legal))
      (pull_soon c good s inv timed seen ok soon k legal)
  keeps_live (Propagate p) legal = let no_message = new_number p (inr (legal.4, legal.0)) in
      with_parts (Propagate p) legal seen (seen_fresh p _ (fresh_from None))
      (fresh_soon c good s inv timed seen ok soon p _ no_message (fresh_from None))
  keeps_live (Release p) legal =
      with_parts (Release p) legal seen
      (λ q m e y from. seen_given c good s inv timed seen ok p _ y (target (servers c) m.place) m.logs (seen q)
      (ok q m e y from)) soon
  keeps_live (Recover k undone) legal =
      let fit = fit_next c s.up s.lines (script_line.Recover s.entered k) legal.0 inv.fit in
      let admissible = fit_now c s.up s.lines inv.fit in
      let down = fit.1 refl in
      let z = admissible k fit.0 in
      let other : z.0 ≢ k = λ e. true≢false (sym z.2 ∙ subst (λ v. s.up v ≡ false) (sym e) down) in
      let before = last_live (servers c) s.up k fit.0 z.0 z.1 z.2 other in let after =
      next_live (servers c) s.up k fit.0 z.0 z.1 z.2 other in
      let r = previous_live c s k in let t = following_live c s k in
      let exact = undone_listed c s k undone legal.1 good.some before.below after.below inv.world.serial in
      let by = seen_by c good s inv seen ok k r t fit.0 down before after admissible (names undone) exact in
      let seen' : ℕ → Visits = λ x. by (s.message x) (seen x) in
      with_parts (Recover k undone) legal seen'
      (λ q m e y from. let w = kept_some c s t (s.message q) m e in
      recover_seen c good s inv seen ok k r t fit.0 down before after admissible
      (names undone) exact q m w.0 w.1 y from)
      (recover_soon c good s inv timed seen ok soon k undone r t seen' (λ x m e away j q i.
      let i' : In (by (Some m) (seen x)) j q = subst (λ v. In (by v (seen x)) j q) e i in
      (and_parts (seen x j q) (not (names undone j q)) (ap (λ b. if b then s.lists t j q
      else (seen x j q && not (names undone j q))) (sym (ne_eqb (target (servers c) m.place) t away)) ∙ i')).0))

pub live_opens : (c : Setting) → IsGood c → AreFit c (opening c).up c.lines → IsLive c (opening c)
live_opens c good fit = record {
  inv = opens c good fit;
  timed = record {
    ringed = λ p m e. absurd (none-some m e);
    clock = λ p m e. absurd (none-some m e);
    bounded = zero-le;
  };
  numbered = λ p m e. absurd (none-some m e);
  pending = λ y j q is. absurd (true≢false (sym is));
  seen = λ p. no_visits;
  ok = λ p m e. absurd (none-some m e);
  soon = λ y j q is. absurd (true≢false (sym is));
}

-- where no release may happen none is due
pub no_due : (c : Setting) (s : ChainState) → ((p : ℕ) → MayHappen c s (Release p) → ⊥) → (b p : ℕ) (w : Withheld) →
    IsDue c s p w → w.since < b → ⊥
no_due c s none zero p w due less = absurd (omega arith)
no_due c s none (suc b) p w due less =
    none p (
      w,
      due,
      λ q v other. elim (cases_lt v.since w.since) [
        | inl sooner ↦ absurd (no_due c s none b q v other (omega arith))
        | inr more ↦ more
      ],
    )

-- a finished state has nothing due, and nothing may happen
pub stuck : (c : Setting) (s : ChainState) → ((e : Event) → IsLegal c s e → ⊥) → (e : Event) → MayHappen c s e → ⊥
stuck c s finished e legal = finished e (
  legal,
  λ _ p w due. no_due c s (λ q may. finished (Release q) (may, λ x. absurd (true≢false x))) (suc w.since) p w due
      (omega arith),
)

-- with all servers up and no line left it has no message and no gap
module _ (c : Setting) (good : IsGood c) (s : ChainState) (l : IsLive c s) (all_up : (k : ℕ) → k < (servers c) →
    s.up k ≡ true) (no_lines : s.lines ≡ []) (finished : (e : Event) → IsLegal c s e → ⊥) where
  pub no_messages : (p : ℕ) → s.message p ≡ None
  no_messages p = elim (s.message p) as (λ o. s.message p ≡ o → o ≡ None) [
    | None ↦ λ e. refl
    | Some m ↦
        λ e. absurd (no_message c good s l.inv l.timed l.seen l.ok l.soon all_up no_lines
        (stuck c s finished) p m e)
  ] refl

  pub quiet_gaps : (k : ℕ) → k < (servers c) → s.gap k ≡ false
  quiet_gaps k kl = elim (cases_Bool (s.gap k)) [
    | inr g ↦ g
    | inl g ↦ absurd (elim (apart_after (servers c) k kl) [
      | inr alone ↦ l.inv.gaps k g alone
      | inl step ↦ stuck c s finished (Pull k) (all_up k kl, all_up (next_of (servers c) k) step.1, g)
    ])
  ]
