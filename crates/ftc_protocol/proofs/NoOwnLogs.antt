-- A message that its server is still to visit has no log and no need of that server's own middlebox.
use Rattle.std.proofs.Common.{◌≡◌, ℕ, ◌+◌, ◌<◌, ◌==◌, ◌&&◌, if◌then◌else◌, Bool, true, false, not, List, [], ◌∷◌}
use Rattle.std.proofs.Common.{Option, Some, None, inl, inr, refl, sym, subst, ◌∙◌, arith, eqb-true}
use Rattle.std.proofs.lemmas.Bool.{true≢false, and_parts, or_cases}
use Rattle.std.proofs.lemmas.Option.{none-some, same_Some}
use Rattle.ftc_journal.specs.declared.event.Event.{Event}
use Rattle.ftc_journal.specs.declared.event.Event.TheVariants.{Apply, Carry, Crash, Enter, Lose, Pass, Propagate, Pull}
use Rattle.ftc_journal.specs.declared.event.Event.TheVariants.{Recover, Release, Take, Visit}
use Rattle.ftc_serial.specs.Words.{with_at}
use Rattle.ftc_ring.specs.Ring.{apart, next_of}
use Rattle.ftc_protocol.specs.Setting.{Setting, IsSetting, is_tail, packet_at, servers}
use Rattle.ftc_protocol.specs.State.{ChainState, Message, Where, Held, Queued, opening}
use Rattle.ftc_protocol.specs.Visits.{In}
use Rattle.ftc_protocol.specs.Changes.{is_touching}
use Rattle.ftc_protocol.specs.Orderly.{IsUnvisited, AreAhead}
use Rattle.ftc_protocol.specs.Legal.{MayHappen, MayLeave}
use Rattle.ftc_protocol.specs.Next.{next, outcome_at, taken_message, visited_at, visited_message, sent_message}
use Rattle.ftc_protocol.specs.Next.{fresh_message, is_at}
use Rattle.ftc_protocol.specs.Recovery.{is_dropped, following_live}
use Rattle.ftc_protocol.specs.Run.{IsRun, AreLegal, state_after}
use Rattle.ftc_protocol.proofs.Premises.{IsGood}
use Rattle.ftc_protocol.proofs.CarriedLogs.{AreCarried, passes_far}
use Rattle.ftc_protocol.proofs.SmallEvents.{held_target}
use Rattle.ftc_protocol.proofs.LiveHolders.{IsUp, kept_drop}
use Rattle.ftc_protocol.proofs.Invariant.{Inv, each_message, expected, target}
use Rattle.ftc_protocol.proofs.Induction.{keeps, opens, runs}
use Rattle.ftc_protocol.proofs.AcceptedSettings.{is_good, opens_fit}
use Rattle.ftc_protocol.proofs.RingDistances.{apart_cases}
use Rattle.ftc_protocol.proofs.TraceLemmas.{stands_map}
use Rattle.ftc_protocol.proofs.EarlierVisits.{visited_earlier}
use Rattle.ftc_protocol.proofs.Places.{Waits}
use Rattle.ftc_protocol.proofs.OrderlyStates.{aim_is}
use Rattle.ftc_protocol.proofs.PacketNeeds.{needing}

-- it is still to be visited: so its logs are of groups behind which it is
abbrev IsFar : Setting → Message → Type 0
IsFar c m = IsUnvisited m.place → (j q : ℕ) → In m.logs j q → 0 < apart (servers c) j (target (servers c) m.place)

abbrev AreFar : Setting → ChainState → Type 0
AreFar c s = (p : ℕ) (m : Message) → s.message p ≡ Some m → IsFar c m

module _ (c : Setting) (good : IsGood c) (s : ChainState) (h : Inv c s) (far : AreFar c s) where
  fresh_far : (now : ℕ) (packet : Option (List ℕ)) (m : Message) → Some (fresh_message now packet) ≡ Some m → IsFar c m
  fresh_far now packet m e = subst (λ (x : Message). IsFar c x) (same_Some _ m e)
      (λ un j q inside. absurd (true≢false (sym inside)))

  taken_far : (l p : ℕ) (o : Option Message) → s.message p ≡ o
      → ((old : Message) → o ≡ Some old → old.place ≡ Queued l) → (m : Message) → taken_message c s l o ≡ Some m
      → IsFar c m
  taken_far l p None at queued m e = absurd (none-some m e)
  taken_far l p (Some old) at queued m e = subst (λ (x : Message). IsFar c x) (same_Some _ m e) (λ un j q inside.
      let place = queued old refl in
      subst (λ (w : Where). 0 < apart (servers c) j (target (servers c) w)) place
      (far p old at (subst IsUnvisited (sym place) tt) j q inside))

  visited_far : (k p : ℕ) (by_ring : Bool) (o : Option Message)
      → ((old : Message) → o ≡ Some old → old.place ≡ Held k false by_ring) → (m : Message)
      → visited_message c k p (outcome_at c s k p) o ≡ Some m → IsFar c m
  visited_far k p by_ring None held m e = absurd (none-some m e)
  visited_far k p by_ring (Some old) held m e = subst (λ (x : Message). IsFar c x) (same_Some _ m e) (λ un j q inside.
      absurd (true≢false (subst (λ (w : Where). IsUnvisited (visited_at w)) (held old refl) un)))

  -- what a server sends
  sent_far : (k p : ℕ) (message : Message) → MayLeave c s k p message → (b : Bool) (o : Option Message)
      → s.message p ≡ o → (m : Message) → (if b then sent_message c s k o else None) ≡ Some m → IsFar c m
  sent_far k p message leaves false o at m e = absurd (none-some m e)
  sent_far k p message leaves true None at m e = absurd (none-some m e)
  sent_far k p message leaves true (Some old) at m e = subst (λ (x : Message). IsFar c x) (same_Some _ m e)
      (λ un j q inside.
      let n = servers c in
      let same : message ≡ old = same_Some message old (sym leaves.there ∙ at) in
      let held : old.place ≡ Held k leaves.visited false = subst
      (λ (x : Message). x.place ≡ Held k leaves.visited false) same leaves.held in
      let live : s.up k ≡ true = subst (IsUp n s.up) held (h.awake p old at) in
      let kl : k < n = h.world.inside k live in
      let carried = subst (λ x. AreCarried c s.trace s.up s.lists old.logs x)
      (held_target n k old.place leaves.visited false held) (h.messages p old at).carried in
      elim (or_cases (old.logs j q && not (is_tail c j k)) ((k == 0) && s.forwarder j q) inside) [
        | inl own ↦ let step : apart n j (next_of n k)
            ≡ apart n j k + 1 =
            passes_far c good.small s.trace s.up s.lists old.logs k kl carried j q own in omega arith
        | inr gained ↦
            let parts = and_parts (k == 0) (s.forwarder j q) gained in
            subst (λ x. 0 < apart n j (next_of n x)) (sym (eqb-true k 0 parts.0)) (h.forward_far j q parts.1)
      ])

  each_far : (p : ℕ) (o : Option Message) → ((m : Message) → o ≡ Some m → IsFar c m) → (q : ℕ) (m : Message)
      → with_at s.message p o q ≡ Some m → IsFar c m
  each_far p o here = each_message (λ q m. IsFar c m) s.message p o here (λ q m is. far q m is)

  entered_far : (p : ℕ) (b : Bool) (m : Message) → (if b then Some
      (fresh_message s.events (Some (packet_at c p))) else s.message p) ≡ Some m → IsFar c m
  entered_far p true m e = fresh_far s.events (Some (packet_at c p)) m e
  entered_far p false m e = far p m e

  far_keeps : (e : Event) → MayHappen c s e → AreFar c (next c s e)
  far_keeps (Enter p) legal = each_far p _ (entered_far p (s.up 0))
  far_keeps (Take l p) legal = each_far p _ (λ m e. taken_far l p (s.message p) refl
      (λ old is. subst (λ (x : Message). x.place ≡ Queued l) (same_Some legal.0 old (sym legal.1 ∙ is)) legal.2) m e)
  far_keeps (Apply k p j q) legal = far
  far_keeps (Visit k p w) legal = each_far p _ (λ m e. visited_far k p legal.2 (s.message p)
      (λ old is. subst (λ (x : Message). x.place ≡ Held k false legal.2)
      (same_Some legal.0 old (sym legal.3 ∙ is)) legal.4) m e)
  far_keeps (Pass k p) legal = each_far p _ (λ m e. sent_far k p legal.0 legal.1 _ (s.message p) refl m e)
  far_keeps (Lose k p) legal = each_far p _ (λ m e. sent_far k p legal.0 legal.1 _ (s.message p) refl m e)
  far_keeps (Carry p) legal = each_far p None (λ m e. absurd (none-some m e))
  far_keeps (Crash k) legal = λ q m is. far q m (kept_drop (λ (x : Message). is_at c k x.place) (s.message q) m is)
  far_keeps (Recover k undone) legal = λ q m is. far q m (kept_drop (is_dropped c s (following_live c s k))
      (s.message q) m is)
  far_keeps (Pull l) legal = far
  far_keeps (Propagate p) legal = each_far p _ (λ m e. fresh_far s.events None m e)
  far_keeps (Release p) legal = far

far_runs : (c : Setting) → IsGood c → (es : List Event) (s : ChainState) → Inv c s → AreFar c s → AreLegal c s es
    → AreFar c (state_after c s es)
far_runs c good [] s h far legal = far
far_runs c good (e ∷ es) s h far legal = far_runs c good es (next c s e) (keeps c good s h e legal.0.0)
    (far_keeps c good s h far e legal.0.0) legal.1

-- where a message is still to be visited its packet waits
waiting : (n : ℕ) (w : Where) (bytes : List ℕ) → IsUnvisited w → expected n w bytes ≡ Waits (target n w) bytes
waiting n (Held k true by_ring) bytes un = absurd (true≢false un)
waiting n (Held k false by_ring) bytes un = refl
waiting n (Queued l) bytes un = refl

pub ahead : (c : Setting) → IsSetting c → (journal : List Event) → IsRun c journal
    → AreAhead c (state_after c (opening c) journal)
ahead c is journal run =
    let good = is_good c is in
    let n = servers c in
    let s : ChainState = state_after c (opening c) journal in
    let start = opens c good (opens_fit c is) in
    let h = runs c good journal (opening c) start run in
    let far = far_runs c good journal (opening c) start (λ p m e. absurd (none-some m e)) run in
    let needed = needing c is journal run in
    record {
      logs = λ p j q m at un inside same.
          let jl : j < n = ((h.messages p m at).carried.member j q inside).0 in
          let here : j ≡ target n m.place = same ∙ aim_is n m.place in
          let some : 0 < apart n j j = subst (λ x. 0 < apart n j x) (sym here) (far p m at un j q inside) in
          let own = apart_cases n j j jl jl in omega arith;
      needs = λ p j m at un need.
          let old = needed.carried p j m at need in
          let way = (h.messages p m at).under_way old.1.0 old.1.1 in
          subst (λ x. j < x) (sym (aim_is n m.place)) (visited_earlier c s.trace
          (target n m.place) p old.1.0 h.world.serial (way.place ∙ waiting n m.place old.1.0 un) j
          (stands_map (λ o. is_touching o ≡ true) (λ o. Unit {0}) (λ o u. tt) s.trace j p old.0));
    }
