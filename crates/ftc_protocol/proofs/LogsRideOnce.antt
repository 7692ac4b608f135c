-- Each log rides on one message at most.
use Rattle.std.proofs.Common.{◌≡◌, ℕ, ◌<◌, ◌&&◌, ◌==◌, Bool, true, false, not, nat_lt, List, [], ◌∷◌, refl, sym, ap}
use Rattle.std.proofs.Common.{subst, ◌∙◌, arith, inl, inr, ◌⊎◌, Option, Some, None, if◌then◌else◌}
use Rattle.std.proofs.lemmas.Bool.{true≢false, and_parts, or_cases}
use Rattle.std.proofs.lemmas.Option.{none-some, same_Some}
use Rattle.ftc_journal.specs.declared.event.Event.{Event}
use Rattle.ftc_journal.specs.declared.event.Event.TheVariants.{Apply, Carry, Crash, Enter, Lose, Pass, Propagate, Pull}
use Rattle.ftc_journal.specs.declared.event.Event.TheVariants.{Recover, Release, Take, Visit}
use Rattle.ftc_serial.specs.Words.{with_at}
use Rattle.ftc_serial.proofs.Functions.{with_at_cases}
use Rattle.ftc_protocol.specs.Setting.{Setting, servers, is_tail, IsSetting}
use Rattle.ftc_protocol.specs.Visits.{Visits, In, just}
use Rattle.ftc_protocol.specs.State.{ChainState, Message, opening}
use Rattle.ftc_protocol.specs.Next.{next, fresh_message, taken_message, visited_message, sent_message, sent_on, is_away}
use Rattle.ftc_protocol.specs.Next.{is_at, outcome_at, drop_if, logs_of}
use Rattle.ftc_protocol.specs.Recovery.{following_live, is_dropped}
use Rattle.ftc_protocol.specs.Run.{IsRun, AreLegal, state_after}
use Rattle.ftc_protocol.specs.Legal.{MayHappen, is_sent}
use Rattle.ftc_protocol.specs.Changes.{is_touching}
use Rattle.ftc_protocol.specs.Orderly.{IsRiding}
use Rattle.ftc_protocol.proofs.Premises.{IsGood, ticked}
use Rattle.ftc_protocol.proofs.AcceptedSettings.{is_good}
use Rattle.ftc_protocol.proofs.Sets.{in_one}
use Rattle.ftc_protocol.proofs.LiveHolders.{kept_drop}
use Rattle.ftc_protocol.proofs.Places.{Waits, serial_of}
use Rattle.ftc_protocol.proofs.EarlierVisits.{visited_earlier}
use Rattle.ftc_protocol.proofs.VisitsPassed.{some_stands}
use Rattle.ftc_protocol.proofs.Invariant.{Inv, expected}
use Rattle.ftc_protocol.proofs.Complete.{IsReached, keeps_reached, opens_reached}

module _ (c : Setting) (good : IsGood c) (s : ChainState) (h : Inv c s) (is : IsRiding s) where
  abbrev NoMessage : ℕ → ℕ → Type 0
  NoMessage j q = (r : ℕ) (n : Message) → s.message r ≡ Some n → In n.logs j q → ⊥

  abbrev Own : ℕ → ℕ → ℕ → Type 0
  Own p j q = (m : Message) × (s.message p ≡ Some m) × In m.logs j q

  -- message p is changed, and the forwarder loses logs
  changed : (p : ℕ) (o : Option Message) (forwarder : Visits) (s' : ChainState) → s'.message ≡ with_at s.message p o →
      s'.forwarder ≡ forwarder
      → ((j q : ℕ) → In forwarder j q → In s.forwarder j q)
      → ((m : Message) → o ≡ Some m → (j q : ℕ) → In m.logs j q → Own p j q ⊎ (NoMessage j q × (In forwarder j q → ⊥)))
      → IsRiding s'
  changed p o forwarder s' messages forwards fewer new =
      let at : (r : ℕ) → s'.message r ≡ with_at s.message p o r = λ r. ap (λ (f : ℕ → Option Message). f r) messages in
      record {
        once = λ j q r t m n er et im inn. two j q r t m n (sym (at r) ∙ er) (sym (at t) ∙ et) im inn;
        away = λ j q r m f er im. one j q r m (subst (λ (v : Visits). In v j q) forwards f) (sym (at r) ∙ er) im;
      }
    where
      one : (j q r : ℕ) (m : Message) → In forwarder j q → with_at s.message p o r ≡ Some m → In m.logs j q → ⊥
      one j q r m f = with_at_cases (λ v. v ≡ Some m → In m.logs j q → ⊥) s.message p o r
          (λ same e im. elim (new m e j q im) [
            | inl own ↦ is.away j q p own.0 (fewer j q f) own.1 own.2
            | inr nowhere ↦
                nowhere.1 f
          ])
          (λ other e im. is.away j q r m (fewer j q f) e im)

      two : (j q r t : ℕ) (m n : Message) → with_at s.message p o r ≡ Some m → with_at s.message p o t ≡ Some n →
          In m.logs j q → In n.logs j q → r ≡ t
      two j q r t m n = with_at_cases (λ v. v ≡ Some m → with_at s.message p o t ≡ Some n → In m.logs j q →
          In n.logs j q → r ≡ t) s.message p o r
          (λ rp em. with_at_cases (λ v. v ≡ Some n → In m.logs j q → In n.logs j q → r ≡ t) s.message p o t
          (λ tp en im inn. rp ∙ sym tp)
          (λ tn en im inn. elim (new m em j q im) [
            | inl own ↦
                absurd (tn (sym (is.once j q p t own.0 n own.1 en own.2 inn)))
            | inr nowhere ↦
                absurd (nowhere.0 t n en inn)
          ]))
          (λ rn em. with_at_cases (λ v. v ≡ Some n → In m.logs j q → In n.logs j q → r ≡ t) s.message p o t
          (λ tp en im inn. elim (new n en j q inn) [
            | inl own ↦
                absurd (rn (is.once j q r p m own.0 em own.1 im own.2))
            | inr nowhere ↦ absurd (nowhere.0 r m em im)
          ])
          (λ tn en im inn. is.once j q r t m n em en im inn))

  -- messages go away
  dropped : (test : Message → Bool) (forwarder : Visits) (s' : ChainState) →
      s'.message ≡ (λ origin. drop_if test (s.message origin)) → s'.forwarder ≡ forwarder →
      ((j q : ℕ) → In forwarder j q → In s.forwarder j q) → IsRiding s'
  dropped test forwarder s' messages forwards fewer =
      let at : (r : ℕ) → s'.message r ≡ drop_if test (s.message r) =
      λ r. ap (λ (f : ℕ → Option Message). f r) messages in
      record {
        once = λ j q r t m n er et im inn. is.once j q r t m n (kept_drop test (s.message r) m (sym (at r) ∙ er))
            (kept_drop test (s.message t) n (sym (at t) ∙ et)) im inn;
        away = λ j q r m f er im. is.away j q r m (fewer j q (subst (λ (v : Visits). In v j q) forwards f))
            (kept_drop test (s.message r) m (sym (at r) ∙ er)) im;
      }

  fresh : (p : ℕ) (packet : Option (List ℕ)) (m : Message) → Some (fresh_message s.events packet) ≡ Some m → (j q : ℕ) →
      In m.logs j q → ⊥
  fresh p packet m e j q im = true≢false (sym (subst (λ (x : Message). In x.logs j q) (sym (same_Some _ m e)) im))

  entering : (p : ℕ) (b : Bool) (m : Message) →
      (if b then Some (fresh_message s.events (Some (Rattle.ftc_protocol.specs.Setting.packet_at c p)))
      else s.message p) ≡ Some m → (j q : ℕ) → In m.logs j q → Own p j q ⊎ (NoMessage j q × (In s.forwarder j q → ⊥))
  entering p true m e j q im = absurd (fresh p (Some (Rattle.ftc_protocol.specs.Setting.packet_at c p)) m e j q im)
  entering p false m e j q im = inl (m, e, im)

  taking : (l p : ℕ) (o : Option Message) → s.message p ≡ o → (m : Message) → taken_message c s l o ≡ Some m →
      (j q : ℕ) → In m.logs j q → Own p j q
  taking l p None at m e j q im = absurd (none-some m e)
  taking l p (Some m0) at m e j q im = (m0, at, subst (λ (x : Message). In x.logs j q) (sym (same_Some _ m e)) im)

  visiting : (k p w : ℕ) → MayHappen c s (Visit k p w) → (o : Option Message) → s.message p ≡ o → (m : Message) →
      visited_message c k p (outcome_at c s k p) o ≡ Some m → (j q : ℕ) → In m.logs j q
      → Own p j q ⊎ (NoMessage j q × (In s.forwarder j q → ⊥))
  visiting k p w legal None at m e j q im = absurd (none-some m e)
  visiting k p w legal (Some m0) at m e j q im =
      let in_new = subst (λ (x : Message). In x.logs j q) (sym (same_Some _ m e)) im in
      elim (or_cases (m0.logs j q) (just k p (is_touching (outcome_at c s k p) && nat_lt 0 c.failures) j q) in_new) [
        | inl old ↦ inl (m0, at, old)
        | inr own ↦
            let names = in_one k p (is_touching (outcome_at c s k p) && nat_lt 0 c.failures) j q own in
            let waits : (serial_of c s.trace).place p ≡ Waits k legal.1 =
            ((h.messages p legal.0 legal.3).under_way legal.1 legal.5).place ∙ ap
            (λ place. expected (servers c) place legal.1) legal.4 in
            let new : Rattle.ftc_protocol.specs.Trace.IsTouching s.trace j q → ⊥ = λ t.
            let less : k < k = visited_earlier c s.trace k p legal.1 h.world.serial waits k
            (subst (λ x. Rattle.ftc_protocol.specs.Trace.IsSomeVisit s.trace x p) (sym names.0)
            (subst (λ x. Rattle.ftc_protocol.specs.Trace.IsSomeVisit s.trace j x) names.1
            (some_stands _ s.trace j q t))) in omega arith in
            inr (
              (λ r n er inn. new ((h.messages r n er).carried.member j q inn).2),
              λ f. new (h.forward.member j q f).2,
            )
      ]

  leaving : (k p : ℕ) (lost : Bool) (b : Bool) (o : Option Message) → s.message p ≡ o → (m : Message) →
      (if b then sent_message c s k o else None) ≡ Some m → (j q : ℕ) → In m.logs j q
      → Own p j q ⊎ (NoMessage j q × ((not (k == 0) && s.forwarder j q) ≡ true → ⊥))
  leaving k p lost false o at m e j q im = absurd (none-some m e)
  leaving k p lost true None at m e j q im = absurd (none-some m e)
  leaving k p lost true (Some m0) at m e j q im =
      let sent = subst (λ (x : Message). In x.logs j q) (sym (same_Some _ m e)) im in
      elim (or_cases (m0.logs j q && not (is_tail c j k)) ((k == 0) && s.forwarder j q) sent) [
        | inl own ↦ inl (m0, at, (and_parts (m0.logs j q) (not (is_tail c j k)) own).0)
        | inr from ↦
            let parts = and_parts (k == 0) (s.forwarder j q) from in
            inr (
              (λ r n er inn. is.away j q r n parts.1 er inn),
              λ kept. true≢false (sym (and_parts (not (k == 0)) (s.forwarder j q) kept).0 ∙ ap not parts.0),
            )
      ]

  left : (k p : ℕ) (lost : Bool) → IsRiding (ticked (sent_on c s k p lost))
  left k p lost = changed p (if is_sent c k && not (is_away c s k lost) then sent_message c s k (s.message p)
      else None) (λ j q. not (k == 0) && s.forwarder j q) (ticked (sent_on c s k p lost)) refl refl
      (λ j q f. (and_parts (not (k == 0)) (s.forwarder j q) f).1)
      (leaving k p lost (is_sent c k && not (is_away c s k lost)) (s.message p) refl)

  carries : (p : ℕ) → MayHappen c s (Carry p) → IsRiding (next c s (Carry p))
  carries p legal = record {
    once = λ j q r t m n. with_at_cases (λ v. v ≡ Some m → with_at s.message p None t ≡ Some n → In m.logs j q →
        In n.logs j q → r ≡ t) s.message p None r
        (λ rp em. absurd (none-some m em))
        (λ rn em. with_at_cases (λ v. v ≡ Some n → In m.logs j q → In n.logs j q →
        r ≡ t) s.message p None t (λ tp en. absurd (none-some n en))
        (λ tn en im inn. is.once j q r t m n em en im inn));
    away = λ j q r m f. with_at_cases (λ v. v ≡ Some m → In m.logs j q → ⊥) s.message p None r
        (λ rp em. absurd (none-some m em))
        (λ rn em im. elim (or_cases (s.forwarder j q) (logs_of (s.message p) j q && not (is_tail c j 0)) f) [
          | inl old ↦ is.away j q r m old em im
          | inr new ↦
              let own : In legal.0.logs j q =
              subst (λ (x : Option Message). In (logs_of x) j q) legal.1
              (and_parts (logs_of (s.message p) j q) (not (is_tail c j 0)) new).0 in
              rn (is.once j q r p m legal.0 em legal.1 im own)
        ]);
  }

  pub rides_on : (e : Event) → MayHappen c s e → IsRiding (next c s e)
  rides_on (Enter p) legal =
      changed p (if s.up 0 then Some (fresh_message s.events (Some (Rattle.ftc_protocol.specs.Setting.packet_at c p)))
      else s.message p) s.forwarder (next c s (Enter p)) refl refl (λ j q f. f) (entering p (s.up 0))
  rides_on (Take l p) legal =
      changed p (taken_message c s l (s.message p)) s.forwarder (next c s (Take l p)) refl refl (λ j q f. f)
      (λ m e j q im. inl (taking l p (s.message p) refl m e j q im))
  rides_on (Apply k p j q) legal = record { once = is.once; away = is.away }
  rides_on (Visit k p w) legal =
      changed p (visited_message c k p (outcome_at c s k p) (s.message p)) s.forwarder
      (next c s (Visit k p w)) refl refl (λ j q f. f) (visiting k p w legal (s.message p) refl)
  rides_on (Pass k p) legal = left k p false
  rides_on (Lose k p) legal = left k p true
  rides_on (Carry p) legal = carries p legal
  rides_on (Crash k) legal =
      dropped (λ (x : Message). is_at c k x.place) (λ j q. not (k == 0)
      && s.forwarder j q) (next c s (Crash k)) refl refl (λ j q f. (and_parts (not (k == 0)) (s.forwarder j q) f).1)
  rides_on (Recover k undone) legal =
      dropped (is_dropped c s (following_live c s k)) s.forwarder (next c s (Recover k undone)) refl refl (λ j q f. f)
  rides_on (Pull k) legal = record { once = is.once; away = is.away }
  rides_on (Propagate p) legal =
      changed p (Some (fresh_message s.events None)) s.forwarder (next c s (Propagate p)) refl refl (λ j q f. f)
      (λ m e j q im. absurd (fresh p None m e j q im))
  rides_on (Release p) legal = record { once = is.once; away = is.away }

rides_along : (c : Setting) → IsGood c → (es : List Event) (s : ChainState) → IsReached c s → IsRiding s →
    AreLegal c s es → IsRiding (state_after c s es)
rides_along c good [] s r is legal = is
rides_along c good (e ∷ es) s r is legal =
    rides_along c good es (next c s e) (keeps_reached c good s r e legal.0.0)
    (rides_on c good s r.live.inv is e legal.0.0) legal.1

pub riding : (c : Setting) → IsSetting c → (journal : List Event) → IsRun c journal →
    IsRiding (state_after c (opening c) journal)
riding c is journal run = rides_along c (is_good c is) journal (opening c) (opens_reached c is)
    (record { once = λ j q p r m n e. absurd (none-some m e); away = λ j q p m f. absurd (true≢false (sym f)) }) run
