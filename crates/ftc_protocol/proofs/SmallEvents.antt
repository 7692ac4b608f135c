-- The events that change little.
use Rattle.std.proofs.Common.{◌≡◌, ◌≢◌, ℕ, ◌+◌, ◌-◌, ◌<◌, ◌≤◌, ◌==◌, ◌&&◌, Bool, true, false, not, List, [], ◌∷◌, inl}
use Rattle.std.proofs.Common.{inr, refl, sym, ap, subst, ◌∙◌, arith, Option, Some, None}
use Rattle.std.proofs.lemmas.Bool.{true≢false, cases_lt, or_cases}
use Rattle.std.proofs.lemmas.Option.{none-some, same_Some}
use Rattle.ftc_journal.specs.declared.event.Event.TheVariants.{Apply, Carry, Propagate, Pull, Take}
use Rattle.ftc_protocol.proofs.CarriedLogs.{AreCarried, grows, passes, passes_far}
use Rattle.ftc_protocol.proofs.Premises.{AreFit, IsAdmissible, IsGood, is_crash, server_of}
use Rattle.ftc_protocol.specs.State.{ChainState, Held, Message, Queued, Where, Withheld}
use Rattle.ftc_protocol.specs.Visits.{In, Visits, just, union}
use Rattle.ftc_protocol.proofs.Invariant.{Inv, IsSafe, IsSteady, each_message, empty_steady, expected, target}
use Rattle.ftc_protocol.proofs.Invariant.{under_way_moves}
use Rattle.ftc_protocol.specs.Trace.{IsInTrace, IsTouching}
use Rattle.ftc_protocol.specs.Legal.{IsNextLine, MayHappen}
use Rattle.ftc_protocol.proofs.LiveHolders.{IsUp, stays_awake}
use Rattle.ftc_protocol.proofs.GroupDistance.{IsWithin, carried_both, carried_pulls, within_more, within_pulls}
use Rattle.ftc_serial.specs.Take.{Outcome}
use Rattle.ftc_script.specs.declared.line.ScriptLine.{ScriptLine}
use Rattle.ftc_protocol.specs.Setting.{Setting, is_tail, servers}
use Rattle.ftc_ring.specs.Ring.{apart, next_of}
use Rattle.ftc_protocol.proofs.RingDistances.{apart_cases}
use Rattle.ftc_protocol.specs.Next.{fresh_message, known_by, lines_behind, logs_of, next, pulled_list, taken_message}
use Rattle.ftc_protocol.proofs.Sets.{kept}
use Rattle.ftc_protocol.proofs.ListStores.{stands_below}
use Rattle.ftc_serial.specs.Words.{with_at}
use Rattle.ftc_serial.proofs.Functions.{with_at_cases}
use Rattle.ftc_protocol.proofs.TraceAndLists.{world_apply, world_pulls}

pub fit_now : (c : Setting) (up : ℕ → Bool) (lines : List ScriptLine) → AreFit c up lines → IsAdmissible c up
fit_now c up [] h = h
fit_now c up (line ∷ lines) h = h.0

-- the next line
pub fit_next : (c : Setting) (up : ℕ → Bool) (lines : List ScriptLine) (line : ScriptLine) → IsNextLine lines line →
    AreFit c up lines
    → (server_of line < (servers c)) × (is_crash line ≡ false → up (server_of line) ≡ false)
    × AreFit c (with_at up (server_of line) (not (is_crash line))) (lines_behind lines)
fit_next c up [] line next fit = absurd next
fit_next c up (first ∷ lines) line next fit =
    subst (λ (l : ScriptLine). (server_of l < (servers c)) × (is_crash l ≡ false → up (server_of l) ≡ false)
    × AreFit c (with_at up (server_of l) (not (is_crash l))) lines) next (fit.1, fit.2, fit.3)

pub held_target : (n k : ℕ) (w : Where) (visited by_ring : Bool) → w ≡ Held k visited by_ring → target n w ≡ k
held_target n k w visited by_ring e = ap (target n) e

module _ (c : Setting) (good : IsGood c) (s : ChainState) (h : Inv c s) where
  take_steady : (l p : ℕ) (m : Message) → s.message p ≡ Some m → m.place ≡ Queued l → (o : Option Message) →
      s.message p ≡ o → (m' : Message) → taken_message c s l o ≡ Some m' → IsSteady c s.trace s.up s.lists p m'
  take_steady l p m at place None is m' e = absurd (none-some m' e)
  take_steady l p m at place (Some m0) is m' e =
      let same : m ≡ m0 = cc in
      let queued : m0.place ≡ Queued l = subst (λ (x : Message). x.place ≡ Queued l) same place in
      let old = h.messages p m0 is in
      let n = (servers c) in
      let at_target : target n m0.place ≡ next_of n l = ap (target n) queued in
      let new : Message = record m0 { place = Held (next_of n l) false (l + 1 == n); since = s.events } in
      subst (λ v. IsSteady c s.trace s.up s.lists p v) (same_Some new m' e) (record {
        carried = subst (λ x. AreCarried c s.trace s.up s.lists m0.logs x) at_target old.carried;
        told = old.told;
        under_way = λ bytes is. let u = old.under_way bytes is in record {
          place = u.place ∙ ap (λ w. expected n w bytes) queued;
          within = subst (λ x. (i : ℕ) → i < x → IsTouching s.trace i p →
              IsWithin c s.trace s.up s.lists i p (x - i)) at_target u.within;
          together = subst (λ x. (i : ℕ) → i < x → IsTouching s.trace i p → x - i ≤ c.failures →
              In m0.logs i p) at_target u.together;
          own = tt;
          needs = u.needs;
        };
      })

  take_same : (l p : ℕ) (o : Option Message) (m' : Message) → taken_message c s l o ≡ Some m' →
      (m : Message) × (o ≡ Some m) × (m.packet ≡ m'.packet) × (m.known ≡ m'.known)
  take_same l p None m' e = absurd (none-some m' e)
  take_same l p (Some m) m' e = let same =
      same_Some _ m' e in (m, refl, ap (λ (x : Message). x.packet) same, ap (λ (x : Message). x.known) same)

  known_safe : (p : ℕ) (o : Option Message) → s.message p ≡ o → (j q : ℕ) → In (known_by o) j q →
      IsSafe c s.trace s.up s.lists j q
  known_safe p None is j q i = absurd (true≢false (sym i))
  known_safe p (Some m) is j q i = (h.messages p m is).told j q i

  pub takes : (l p : ℕ) → MayHappen c s (Take l p) → Inv c (next c s (Take l p))
  takes l p legal = record {
    world = h.world;
    fit = h.fit;
    awake = stays_awake c good.some s (Take l p) legal h.awake;
    messages = each_message (λ q m. IsSteady c s.trace s.up s.lists q m) s.message p _
        (take_steady l p legal.0 legal.1 legal.2 (s.message p) refl) h.messages;
    entered = λ q m b e is. each_message (λ q m. (bytes : (List ℕ)) → m.packet ≡ Some bytes →
        q < s.entered) s.message p _
        (λ m e b is. let t = take_same l p (s.message p) m e in
        h.entered p t.0 b t.1 (t.2 ∙ is)) (λ q m e b is. h.entered q m b e is) q m e b is;
    forward = h.forward;
    forward_live = h.forward_live;
    forward_far = h.forward_far;
    withheld = h.withheld;
    single = λ q w m is e. each_message (λ x n. (v : Withheld) → s.withheld x ≡ Some v → n.packet ≡ None) s.message p _
        (λ m e v is. let t = take_same l p (s.message p) m e in
        sym t.2 ∙ h.single p v t.0 is t.1) (λ x n e v is. h.single x v n is e) q m e w is;
    unentered = h.unentered;
    known = λ k j q. with_at_cases (λ (v : Visits). In v j q →
        IsSafe c s.trace s.up s.lists j q) s.known (next_of (servers c) l) _ k
        (λ e i. elim (or_cases _ _ i) [
          | inl old ↦ h.known (next_of (servers c) l) j q old
          | inr new ↦
              known_safe p (s.message p) refl j q new
        ])
        (λ ne. h.known k j q);
    gaps = h.gaps;
  }

  pub applies : (k p j q : ℕ) → MayHappen c s (Apply k p j q) → Inv c (next c s (Apply k p j q))
  applies k p j q legal =
      let n = (servers c) in
      let m = legal.0 in let held = legal.1 in let log = legal.2 in let changing = legal.3 in
      let at : target n m.place ≡ k = held_target n k m.place held.1 held.2 held.3 in
      let live : s.up k ≡ true = subst (IsUp n s.up) held.3 (h.awake p m held.0) in
      let kl = h.world.inside k live in
      let carried = subst (λ x. AreCarried c s.trace s.up s.lists m.logs x) at (h.messages p m held.0).carried in
      let jl = (carried.member j q log).0 in
      let touching : IsTouching s.trace j q = (carried.member j q log).2 in
      let more : (y i x : ℕ) → In (s.lists y) i x → In (with_at s.lists k (union (s.lists k) (just j q true)) y) i x =
      λ y i x a. kept s.lists k j q true y i x a in
      let world = world_apply c good.some good.sound s.trace s.up s.lists h.world k j q live changing
      (carried.member j q log).1 legal.5
      (λ i il u less. (carried.wake j j q log (omega arith) touching i il u (omega (arith, (carried.member j q log).1))
      (omega arith)).changing changing)
      (λ i less t member. let il : i < n = omega arith in let ik = apart_cases n i k il kl in
      let jk = apart_cases n j k jl kl in
      elim (cases_lt (apart n i k) ((j - i) + apart n j k)) [
        | inl behind ↦ carried.wake i j q log (omega arith) t k kl live member behind
        | inr ahead ↦ legal.6 i less (carried.together i j q log (omega arith) t (omega arith))
      ]) in
      record {
        world = world;
        fit = h.fit;
        awake = h.awake;
        messages = λ x w e. let old = h.messages x w e in record {
          carried = grows c good.small s.trace s.up s.lists _ w.logs _ more old.carried;
          told = λ a b is. let safe =
              old.told a b is in record {
                changing = safe.changing;
                within = within_more c s.trace s.up s.lists a b n safe.within _ more;
              };
          under_way = λ bytes is. under_way_moves c s.trace s.trace s.up s.up s.lists _ x w bytes refl (λ i t. t)
              (λ i d t v. within_more c s.trace s.up s.lists i x d v _ more) (old.under_way bytes is);
        };
        entered = h.entered;
        forward = grows c good.small s.trace s.up s.lists _ s.forwarder _ more h.forward;
        forward_live = h.forward_live;
        forward_far = h.forward_far;
        withheld = h.withheld;
        single = h.single;
        unentered = h.unentered;
        known = λ y a b is. let safe =
            h.known y a b is in record {
              changing = safe.changing;
              within = within_more c s.trace s.up s.lists a b n safe.within _ more;
            };
        gaps = h.gaps;
      }

  pub carries : (p : ℕ) → MayHappen c s (Carry p) → Inv c (next c s (Carry p))
  carries p legal =
      let n = (servers c) in let m = legal.0 in
      let at : target n m.place ≡ 0 = held_target n 0 m.place legal.2 true legal.3 in
      let live : s.up 0 ≡ true = subst (IsUp n s.up) legal.3 (h.awake p m legal.1) in
      let carried = subst (λ x. AreCarried c s.trace s.up s.lists m.logs x) at (h.messages p m legal.1).carried in
      let logs : (λ j q. logs_of (s.message p) j q && not (is_tail c j 0))
      ≡ (λ j q. m.logs j q && not (is_tail c j 0)) =
      ap (λ o. λ j q. logs_of o j q && not (is_tail c j 0)) legal.1 in
      let joined : Visits = λ j q. logs_of (s.message p) j q && not (is_tail c j 0) in
      let went : AreCarried c s.trace s.up s.lists joined (next_of n 0) =
      subst (λ l. AreCarried c s.trace s.up s.lists l (next_of n 0)) (sym logs)
      (passes c good.small s.trace s.up s.lists m.logs 0 good.some legal.4 carried) in
      record {
        world = h.world;
        fit = h.fit;
        awake = stays_awake c good.some s (Carry p) legal h.awake;
        messages = each_message (λ q m. IsSteady c s.trace s.up s.lists q m) s.message p None
            (λ m e. absurd (none-some m e)) h.messages;
        entered = λ q m b e is. each_message (λ q m. (bytes : (List ℕ)) → m.packet ≡ Some bytes →
            q < s.entered) s.message p None (λ m e. absurd (none-some m e))
            (λ q m e b is. h.entered q m b e is) q m e b is;
        forward = carried_both c s.trace s.up s.lists s.forwarder joined (next_of n 0) h.forward went;
        forward_live = λ j q is. live;
        forward_far = λ j q is. elim (or_cases (s.forwarder j q) (joined j q) is) [
          | inl old ↦
              h.forward_far j q old
          | inr new ↦ let e =
              passes_far c good.small s.trace s.up s.lists m.logs 0 good.some carried j q
              (subst (λ (l : Visits). In l j q) logs new) in omega arith
        ];
        withheld = h.withheld;
        single = λ q w m is e. each_message (λ x n. (v : Withheld) → s.withheld x ≡ Some v →
            n.packet ≡ None) s.message p None (λ m e. absurd (none-some m e))
            (λ x n e v is. h.single x v n is e) q m e w is;
        unentered = h.unentered;
        known = h.known;
        gaps = h.gaps;
      }

  pub propagates : (p : ℕ) → MayHappen c s (Propagate p) → Inv c (next c s (Propagate p))
  propagates p legal =
      let fresh = fresh_message s.events None in
      record {
        world = h.world;
        fit = h.fit;
        awake = stays_awake c good.some s (Propagate p) legal h.awake;
        messages = each_message (λ q m. IsSteady c s.trace s.up s.lists q m) s.message p (Some fresh)
            (λ m e. subst (λ v. IsSteady c s.trace s.up s.lists p v) (same_Some fresh m e)
            (empty_steady c s.trace s.up s.lists p fresh refl refl
            (λ bytes is. absurd (none-some bytes is)))) h.messages;
        entered = λ q m b e is. each_message (λ q m. (bytes : (List ℕ)) → m.packet ≡ Some bytes →
            q < s.entered) s.message p (Some fresh)
            (λ m e b is. absurd (none-some b (ap (λ (x : Message). x.packet) (same_Some fresh m e) ∙ is)))
            (λ q m e b is. h.entered q m b e is) q m e b is;
        forward = h.forward;
        forward_live = h.forward_live;
        forward_far = h.forward_far;
        withheld = h.withheld;
        single = λ q w m is e. each_message (λ x n. (v : Withheld) → s.withheld x ≡ Some v →
            n.packet ≡ None) s.message p (Some fresh)
            (λ m e v is. sym (ap (λ (x : Message). x.packet) (same_Some fresh m e)))
            (λ x n e v is. h.single x v n is e) q m e w is;
        unentered = h.unentered;
        known = h.known;
        gaps = h.gaps;
      }

  pub pulls : (l : ℕ) → MayHappen c s (Pull l) → Inv c (next c s (Pull l))
  pulls l legal =
      let n = (servers c) in
      let several : n ≢ 1 = h.gaps l legal.2 in
      let ll = h.world.inside l legal.0 in
      let below : (P : Outcome → Type 0) (i q : ℕ) → IsInTrace P s.trace i q → i < n =
      λ P i q t. stands_below c good.some P s.trace h.world.serial i q t in
      let moves : (i q d : ℕ) → i < n → IsWithin c s.trace s.up s.lists i q d →
      IsWithin c s.trace s.up (with_at s.lists (next_of n l) (pulled_list c s l (next_of n l))) i q d =
      λ i q d il v. within_pulls c s several l ll legal.0 i q d il v in
      record {
        world = world_pulls c s h.world several l legal.0 legal.1;
        fit = h.fit;
        awake = h.awake;
        messages = λ x w e. let old = h.messages x w e in record {
          carried = carried_pulls c s several l ll legal.0 w.logs _ old.carried;
          told = λ a b is. let safe =
              old.told a b is in record {
                changing = safe.changing;
                within = moves a b n (below _ a b safe.changing) safe.within;
              };
          under_way = λ bytes is. under_way_moves c s.trace s.trace s.up s.up s.lists _ x w bytes refl (λ i t. t)
              (λ i d t v. moves i x d (below _ i x t) v) (old.under_way bytes is);
        };
        entered = h.entered;
        forward = carried_pulls c s several l ll legal.0 s.forwarder _ h.forward;
        forward_live = h.forward_live;
        forward_far = h.forward_far;
        withheld = h.withheld;
        single = h.single;
        unentered = h.unentered;
        known = λ y a b is. let safe =
            h.known y a b is in record {
              changing = safe.changing;
              within = moves a b n (below _ a b safe.changing) safe.within;
            };
        gaps = λ i g. several;
      }
