-- A message that is begun while nothing is under way tells the last server, on its way, of all changes.
use Rattle.std.proofs.Common.{◌≡◌, ◌≢◌, ℕ, ◌+◌, ◌-◌, ◌<◌, ◌≤◌, ◌==◌, ◌&&◌, if◌then◌else◌, nat_lt, Bool, true}
use Rattle.std.proofs.Common.{false, not, List, refl, sym, ap, subst, ◌∙◌, arith, inl, inr, eqb-true, eq-eqb, Option}
use Rattle.std.proofs.Common.{Some, None}
use Rattle.std.proofs.lemmas.Bool.{and_right, and_left, or_from, or_cases, false_from_ne_true}
use Rattle.std.proofs.lemmas.Bool.{true≢false, cases_eq, cases_lt, eqb-false, and_from, and_parts, or_left, or_right}
use Rattle.std.proofs.lemmas.Option.{none-some, same_Some}
use Rattle.ftc_ring.specs.Ring.{apart, next_of}
use Rattle.ftc_ring.proofs.Geometry.{next_within}
use Rattle.ftc_journal.specs.declared.event.Event.{Event}
use Rattle.ftc_journal.specs.declared.event.Event.TheVariants.{Apply, Carry, Crash, Enter, Lose, Pass, Propagate, Pull}
use Rattle.ftc_journal.specs.declared.event.Event.TheVariants.{Recover, Release, Take, Visit}
use Rattle.ftc_serial.specs.Words.{with_at}
use Rattle.ftc_serial.specs.Serial.{Entry}
use Rattle.ftc_serial.proofs.Functions.{with_at_cases, with_at_here}
use Rattle.ftc_protocol.specs.Setting.{Setting, servers, count, is_tail, IsSetting}
use Rattle.ftc_protocol.specs.Visits.{Visits, In, union}
use Rattle.ftc_protocol.specs.State.{ChainState, Message, Where, Held, Queued, Withheld}
use Rattle.ftc_protocol.specs.Trace.{IsChanging}
use Rattle.ftc_protocol.specs.Known.{knows, IsDue}
use Rattle.ftc_protocol.specs.Legal.{MayHappen, MayLeave, IsStalled, is_sent, is_release}
use Rattle.ftc_protocol.specs.Next.{next, sent_on, is_away, taken_message, sent_message, logs_of, known_by}
use Rattle.ftc_protocol.specs.Next.{withheld_of, withheld_packet}
use Rattle.ftc_protocol.proofs.Premises.{IsGood, ticked}
use Rattle.ftc_protocol.proofs.Invariant.{Inv, each_message}
use Rattle.ftc_protocol.proofs.RingDistances.{apart_cases}
use Rattle.ftc_protocol.proofs.InTransit.{after_sending}
use Rattle.ftc_protocol.proofs.TraceLemmas.{before_first}
use Rattle.ftc_protocol.proofs.ListStores.{stands_below}

-- the visits of each group whose tail stands no farther than that server
abbrev pub TellsUpTo : Setting → List Entry → ℕ → Visits → Type 0
TellsUpTo c trace k known = (group packet tail : ℕ) → IsChanging c.partitions trace group packet → tail ≤ k →
    apart (servers c) group tail ≡ c.failures → In known group packet

abbrev pub Tells : Setting → ChainState → Where → Visits → Type 0
Tells c s (Held k visited true) known = ⊥
Tells c s (Held k visited false) known = TellsUpTo c s.trace k (knows c s k)
Tells c s (Queued l) known = (l + 1 < servers c) × TellsUpTo c s.trace l known

pub record IsTold (c : Setting) (s : ChainState) : Type 0 where
  pub origin : ℕ
  pub message : Message
  pub there : s.message origin ≡ Some message
  pub tells : Tells c s message.place message.known

pub record IsStill (c : Setting) (s : ChainState) : Type 0 where
  pub up : (server : ℕ) → server < servers c → s.up server ≡ true
  pub entered : s.entered ≡ count c
  pub gaps : (link : ℕ) → link < servers c → s.gap link ≡ false
  pub forwarder : (j q : ℕ) → s.forwarder j q ≡ false
  pub bare : (p : ℕ) (m : Message) → s.message p ≡ Some m → (m.packet ≡ None) × ((j q : ℕ) → In m.logs j q → ⊥)
      × (count c ≤ p)
  pub single : (p q : ℕ) (m n : Message) → s.message p ≡ Some m → s.message q ≡ Some n → p ≡ q
  pub full : (group server packet : ℕ) → server < servers c → group < servers c →
      apart (servers c) group server ≤ c.failures → IsChanging c.partitions s.trace group packet →
      In (s.lists server) group packet
  pub told : (packet : ℕ) (w : Withheld) → s.withheld packet ≡ Some w → IsTold c s

-- each group has a tail
tail_there : (n f j : ℕ) → f < n → j < n → (tail : ℕ) × (tail < n) × (apart n j tail ≡ f)
tail_there n f j small below = elim (cases_lt (j + f) n) [
  | inl within ↦ let cases = apart_cases n j (j + f) below within in (j + f, within, omega arith)
  | inr over ↦ let less : j + f - n < n = omega arith in let cases = apart_cases n j (j + f - n) below less in
      (j + f - n, less, omega arith)
]

module _ (c : Setting) (good : IsGood c) (is : IsSetting c) (s : ChainState) (h : Inv c s) (still : IsStill c s) where
  -- where the only message is changed
  bare_at : (p : ℕ) (o : Option Message) →
      ((m : Message) → o ≡ Some m → (m.packet ≡ None) × ((j q : ℕ) → In m.logs j q → ⊥) × (count c ≤ p))
      → (q : ℕ) (m : Message) → with_at s.message p o q ≡ Some m → (m.packet ≡ None) × ((j x : ℕ) → In m.logs j x → ⊥)
      × (count c ≤ q)
  bare_at p o new = each_message (λ q m. (m.packet ≡ None) × ((j x : ℕ) → In m.logs j x → ⊥)
      × (count c ≤ q)) s.message p o new still.bare

  single_at : (p : ℕ) (x : Message) → s.message p ≡ Some x → (o : Option Message) → (q r : ℕ) (m n : Message) →
      with_at s.message p o q ≡ Some m → with_at s.message p o r ≡ Some n → q ≡ r
  single_at p x there o q r m n =
      with_at_cases (λ v. v ≡ Some m → with_at s.message p o r ≡ Some n → q ≡ r) s.message p o q
      (λ q_is _. with_at_cases (λ v. v ≡ Some n →
      q ≡ r) s.message p o r (λ r_is _. q_is ∙ sym r_is)
      (λ r_other e. absurd (r_other (still.single r p n x e there))))
      (λ q_other e. absurd (q_other (still.single q p m x e there)))

  -- the message that tells is the only one
  teller : (p : ℕ) (x : Message) → s.message p ≡ Some x → (packet : ℕ) (w : Withheld) → s.withheld packet ≡ Some w →
      Tells c s x.place x.known
  teller p x there packet w held =
      let told = still.told packet w held in
      let same : told.origin ≡ p = still.single told.origin p told.message x told.there there in
      let e : told.message ≡ x = same_Some told.message x (sym told.there ∙ (ap s.message same ∙ there)) in
      subst (λ (m : Message). Tells c s m.place m.known) e told.tells

  take_still : (l p : ℕ) → MayHappen c s (Take l p) → IsStill c (next c s (Take l p))
  take_still l p legal =
      let m = legal.0 in let there = legal.1 in
      let new : Message = record m {
        place = Held (next_of (servers c) l) false (l + 1 == servers c);
        since = s.events;
      } in
      let o : Option Message = taken_message c s l (s.message p) in
      let o_is : o ≡ Some new = ap (taken_message c s l) there in
      record {
        up = still.up;
        entered = still.entered;
        gaps = still.gaps;
        forwarder = still.forwarder;
        full = still.full;
        bare = bare_at p o (λ n e. subst (λ (y : Message). (y.packet ≡ None) × ((j q : ℕ) → In y.logs j q → ⊥)
            × (count c ≤ p)) (same_Some new n (sym o_is ∙ e)) (still.bare p m there));
        single = single_at p m there o;
        told = λ packet w held.
            let tells : Tells c s (Queued l) m.known =
            subst (λ x. Tells c s x m.known) legal.2 (teller p m there packet w held) in
            record {
              origin = p;
              message = new;
              there = with_at_here s.message p o ∙ o_is;
              tells = taken l m.known (s.message p) (ap known_by there) tells.0 (l + 1 == servers c) refl tells.1;
            };
      }
    where
      taken : (l : ℕ) (known : Visits) (o : Option Message) → known_by o ≡ known → l + 1 < servers c → (b : Bool) →
          (l + 1 == servers c) ≡ b → TellsUpTo c s.trace l known
          → Tells c (record s {
            message = with_at s.message p (taken_message c s l (s.message p));
            known = with_at s.known (next_of (servers c) l) (union (s.known (next_of (servers c) l)) (known_by o));
            events = s.events + 1;
          }) (Held (next_of (servers c) l) false b) known
      taken l known o known_is less true last tells = let e : l + 1 ≡ servers c = eqb-true (l + 1) (servers c) last in
          omega arith
      taken l known o known_is less false isnt tells = λ group packet tail changing le far.
          let k = next_of (servers c) l in
          let next_is : k ≡ l + 1 = ap (λ b. if b then 0 else l + 1) isnt in
          let kl : k < servers c = omega arith in
          let group_below : group < servers c =
          stands_below c good.some _ s.trace h.world.serial group packet changing in
          elim (cases_eq tail k) [
            | inl same ↦
                let tail_is : is_tail c group k ≡ true =
                eq-eqb (apart (servers c) group k) c.failures (ap (apart (servers c) group) (sym same) ∙ far) in
                or_right (with_at s.known k (union (s.known k) (known_by o)) k group packet) (is_tail c group k
                && s.lists k group packet)
                (and_from (is_tail c group k) (s.lists k group packet) tail_is
                (still.full group k packet kl group_below
                (let at = eqb-true (apart (servers c) group k) c.failures tail_is in omega arith) changing))
            | inr other ↦
                let tail_before : tail ≤ l = omega arith in
                or_left (with_at s.known k (union (s.known k) (known_by o)) k group packet) (is_tail c group k
                && s.lists k group packet)
                (ap (λ (v : Visits). v group packet) (with_at_here s.known k (union (s.known k) (known_by o)))
                ∙ or_right (s.known k group packet) (known_by o group packet)
                (ap (λ (v : Visits). v group packet) known_is ∙ tells group packet tail changing tail_before far))
          ]

  -- where the last server knows all, each packet of the buffer is due
  due : (k : ℕ) → k + 1 ≡ servers c → TellsUpTo c s.trace k (knows c s k) → (packet : ℕ) (w : Withheld) →
      s.withheld packet ≡ Some w → IsDue c s packet w
  due k last tells packet w held = (
    held,
    λ group need. record {
      changing = λ changing. known group packet changing;
      other = λ not_changing earlier before. known group earlier
          (before_first c.partitions s.trace group earlier packet before);
    },
  )
    where
      known : (group q : ℕ) → IsChanging c.partitions s.trace group q → In (knows c s (servers c - 1)) group q
      known group q changing =
          let below : group < servers c = stands_below c good.some _ s.trace h.world.serial group q changing in
          let tail = tail_there (servers c) c.failures group good.small below in
          let tail_below : tail.0 < servers c = tail.1 in
          let same : k ≡ servers c - 1 = omega arith in
          subst (λ x. In (knows c s x) group q) same (tells group q tail.0 changing (omega arith) tail.2)

  left_still : (k p : ℕ) (m : Message) → MayLeave c s k p m →
      (nothing_due : (packet : ℕ) (w : Withheld) → IsDue c s packet w → ⊥) → IsStill c (ticked (sent_on c s k p false))
  left_still k p m leaves nothing_due =
      let there = leaves.there in
      let kl : k < servers c = h.world.inside k
      (subst (Rattle.ftc_protocol.proofs.LiveHolders.IsUp (servers c) s.up) leaves.held (h.awake p m there)) in
      let up_next : s.up (next_of (servers c) k) ≡ true =
      still.up (next_of (servers c) k) (next_within (servers c) k kl) in
      let stays : is_away c s k false ≡ false = ap not up_next in
      let o : Option Message = if is_sent c k && not (is_away c s k false) then sent_message c s k (s.message p)
      else None in
      let o_is : o ≡ (if is_sent c k then sent_message c s k (Some m) else None) =
      ap (λ b. if is_sent c k && not b then sent_message c s k (s.message p)
      else None) stays ∙ (simple (is_sent c k) (sent_message c s k (s.message p)) ∙ ap (λ x. if is_sent c k then
      sent_message c s k x else None) there) in
      record {
        up = still.up;
        entered = still.entered;
        full = still.full;
        gaps = λ link below. with_at_cases (λ v. v ≡ false) s.gap k _ link
            (λ e. or_from (s.gap k) (is_sent c k && is_away c s k false) (still.gaps k kl)
            (and_right (is_sent c k) (is_away c s k false) stays))
            (λ other. still.gaps link below);
        forwarder = λ j q. and_right (not (k == 0)) (s.forwarder j q) (still.forwarder j q);
        bare = bare_at p o (λ n e. bare_sent k p m leaves (is_sent c k) n (sym o_is ∙ e));
        single = single_at p m there o;
        told = λ packet w held. with_at_cases (λ (v : Option Withheld). v ≡ Some w →
            IsTold c (ticked (sent_on c s k p false))) s.withheld p (if k + 1 == servers c then
            withheld_of s (s.message p) else s.withheld p) packet
            (λ same e. still_told k p m leaves kl (k + 1 == servers c) refl o o_is p w e)
            (λ other e. told_on k p m leaves kl (k + 1 == servers c) refl o o_is packet w e) held;
      }
    where
      simple : {A : Type 0} (b : Bool) (x : Option A) → (if b && true then x else None) ≡ (if b then x else None)
      simple true x = refl
      simple false x = refl

      bare_sent : (k p : ℕ) (m : Message) → MayLeave c s k p m → (b : Bool) (n : Message) →
          (if b then sent_message c s k (Some m) else None) ≡ Some n →
          (n.packet ≡ None) × ((j q : ℕ) → In n.logs j q → ⊥) × (count c ≤ p)
      bare_sent k p m leaves false n e = absurd (none-some n e)
      bare_sent k p m leaves true n e =
          let old = still.bare p m leaves.there in
          subst (λ (y : Message). (y.packet ≡ None) × ((j q : ℕ) → In y.logs j q → ⊥)
          × (count c ≤ p)) (same_Some _ n e) (
            none_if (k + 1 == servers c) m.packet old.0,
            (λ j q log. elim (or_cases (m.logs j q && not (is_tail c j k)) ((k == 0) && s.forwarder j q) log) [
              | inl own ↦ old.1 j q (and_parts (m.logs j q) _ own).0
              | inr forwarded ↦ true≢false
                  (sym (and_parts (k == 0) (s.forwarder j q) forwarded).1 ∙ still.forwarder j q)
            ]),
            old.2,
          )
        where
          none_if : (b : Bool) (v : Option (List ℕ)) → v ≡ None → (if b then None else v) ≡ None
          none_if true v e = refl
          none_if false v e = e

      -- behind the last server nothing is withheld, and before it the message tells what the server knew
      told_on : (k p : ℕ) (m : Message) → MayLeave c s k p m → k < servers c → (last : Bool) →
          (k + 1 == servers c) ≡ last → (o : Option Message) →
          o ≡ (if is_sent c k then sent_message c s k (Some m) else None)
          → (packet : ℕ) (w : Withheld) → s.withheld packet ≡ Some w
          → IsTold c (ticked (record (sent_on c s k p false) { message = with_at s.message p o }))
      told_on k p m leaves kl true is_last o o_is packet w held =
          let tells : Tells c s (Held k leaves.visited false) m.known =
          subst (λ x. Tells c s x m.known) leaves.held (teller p m leaves.there packet w held) in
          absurd (nothing_due packet w (due k (eqb-true (k + 1) (servers c) is_last) tells packet w held))
      told_on k p m leaves kl false isnt_last o o_is packet w held =
          let tells : Tells c s (Held k leaves.visited false) m.known =
          subst (λ x. Tells c s x m.known) leaves.held (teller p m leaves.there packet w held) in
          let sends : is_sent c k ≡ true =
          or_left (not (k + 1 == servers c)) (nat_lt 0 c.failures) (ap not isnt_last) in
          let more : k + 1 < servers c = let ne : k + 1 ≢ servers c = eqb-false (k + 1) (servers c) isnt_last in
          omega arith in
          record {
            origin = p;
            message = after_sending c s k m;
            there = with_at_here s.message p o ∙ (o_is ∙ ap (λ b. if b then sent_message c s k (Some m)
                else None) sends);
            tells = (more, tells);
          }

      still_told : (k p : ℕ) (m : Message) → MayLeave c s k p m → k < servers c → (last : Bool) →
          (k + 1 == servers c) ≡ last → (o : Option Message) →
          o ≡ (if is_sent c k then sent_message c s k (Some m) else None)
          → (packet : ℕ) (w : Withheld) → (if last then withheld_of s (s.message packet) else s.withheld packet)
          ≡ Some w
          → IsTold c (ticked (record (sent_on c s k p false) { message = with_at s.message p o }))
      still_told k p m leaves kl false isnt_last o o_is packet w held =
          told_on k p m leaves kl false isnt_last o o_is packet w held
      still_told k p m leaves kl true is_last o o_is packet w held =
          absurd (none-some w (sym (nothing packet (s.message packet) refl) ∙ held))
        where
          nothing : (packet : ℕ) (x : Option Message) → s.message packet ≡ x → withheld_of s x ≡ None
          nothing packet None e = refl
          nothing packet (Some y) e = ap (withheld_packet s y) (still.bare packet y e).0

  carry_still : (p : ℕ) → MayHappen c s (Carry p) → IsStill c (next c s (Carry p))
  carry_still p legal =
      let m = legal.0 in let there = legal.1 in
      record {
        up = still.up;
        entered = still.entered;
        gaps = still.gaps;
        full = still.full;
        forwarder = λ j q. or_from (s.forwarder j q) (logs_of (s.message p) j q && not (is_tail c j 0))
            (still.forwarder j q) (and_left (logs_of (s.message p) j q) (not (is_tail c j 0))
            (false_from_ne_true (logs_of (s.message p) j q)
            (λ log. (still.bare p m there).1 j q (ap (λ o. logs_of o j q) (sym there) ∙ log))));
        bare = bare_at p None (λ n e. absurd (none-some n e));
        single = single_at p m there None;
        told = λ packet w held. absurd (subst (λ x. Tells c s x m.known) legal.3 (teller p m there packet w held));
      }

  release_still : (p : ℕ) → MayHappen c s (Release p) → IsStill c (next c s (Release p))
  release_still p legal = record {
    up = still.up;
    entered = still.entered;
    gaps = still.gaps;
    forwarder = still.forwarder;
    bare = still.bare;
    single = still.single;
    full = λ group server packet below group_below member changing. still.full group server packet below group_below
        member (older group packet changing);
    told = λ packet w held. with_at_cases (λ (v : Option Withheld). v ≡ Some w →
        IsTold c (next c s (Release p))) s.withheld p None packet
        (λ same e. absurd (none-some w e))
        (λ other e. let told = still.told packet w e in
        record {
          origin = told.origin;
          message = told.message;
          there = told.there;
          tells = on told.message.place told.message.known told.tells;
        }) held;
  }
    where
      older : (group packet : ℕ) → IsChanging c.partitions (next c s (Release p)).trace group packet →
          IsChanging c.partitions s.trace group packet
      older group packet changing = elim changing [ inl here ↦ absurd here | inr there ↦ there ]

      on : (w : Where) (known : Visits) → Tells c s w known → Tells c (next c s (Release p)) w known
      on (Held k visited true) known tells = tells
      on (Held k visited false) known tells =
          λ group packet tail changing. tells group packet tail (older group packet changing)
      on (Queued l) known tells =
          (tells.0, λ group packet tail changing. tells.1 group packet tail (older group packet changing))

  -- what may happen then, but for crashes and recoveries
  pub keeps_still : (e : Event) → MayHappen c s e →
      (is_release e ≡ false → (packet : ℕ) (w : Withheld) → IsDue c s packet w → ⊥)
      → ((k : ℕ) → e ≢ Crash k) → ((k : ℕ) (undone : List Rattle.ftc_journal.specs.declared.event.VisitName.VisitName) →
      e ≢ Recover k undone)
      → (e ≢ Propagate (count c + s.propagates)) → IsStill c (next c s e)
  keeps_still (Enter p) legal free no_crash no_recover other = let same : p ≡ s.entered =
      legal.0 in let less : p < count c = legal.1 in let all_in = still.entered in absurd (omega arith)
  keeps_still (Take l p) legal free no_crash no_recover other = take_still l p legal
  keeps_still (Apply k p j q) legal free no_crash no_recover other =
      absurd ((still.bare p legal.0 legal.1.0).1 j q legal.2)
  keeps_still (Visit k p w) legal free no_crash no_recover other =
      absurd (none-some legal.1 (sym (still.bare p legal.0 legal.3).0 ∙ legal.5))
  keeps_still (Pass k p) legal free no_crash no_recover other = left_still k p legal.0 legal.1 (free refl)
  keeps_still (Lose k p) legal free no_crash no_recover other =
      let packet : p < count c = is.loses k p legal.3 in
      let behind : count c ≤ p = (still.bare p legal.0 (let l = legal.1 in l.there)).2 in
      absurd (omega arith)
  keeps_still (Carry p) legal free no_crash no_recover other = carry_still p legal
  keeps_still (Crash k) legal free no_crash no_recover other = absurd (no_crash k refl)
  keeps_still (Recover k undone) legal free no_crash no_recover other = absurd (no_recover k undone refl)
  keeps_still (Pull k) legal free no_crash no_recover other =
      absurd (true≢false (sym legal.2 ∙ still.gaps k (h.world.inside k legal.0)))
  keeps_still (Propagate p) legal free no_crash no_recover other = absurd (other (ap Propagate legal.4))
  keeps_still (Release p) legal free no_crash no_recover other = release_still p legal

  -- nothing is stalled
  pub not_stalled : IsStalled c s → ⊥
  not_stalled stalled = stalled.withheld (none_held (s.withheld stalled.packet) refl)
    where
      none_held : (o : Option Withheld) → s.withheld stalled.packet ≡ o → s.withheld stalled.packet ≡ None
      none_held None e = e
      none_held (Some w) e = let told = still.told stalled.packet w e in
          absurd (none-some told.message (sym (stalled.messages told.origin) ∙ told.there))
