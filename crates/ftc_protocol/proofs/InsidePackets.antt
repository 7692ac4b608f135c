-- Where a packet is that is inside.
use Rattle.std.proofs.Common.{◌≡◌, ℕ, ◌+◌, ◌<◌, ◌≤◌, ◌==◌, ◌&&◌, ◌||◌, ◌⊎◌, if◌then◌else◌, nat_lt, Bool, true, false}
use Rattle.std.proofs.Common.{not, List, [], ◌∷◌, refl, sym, ap, subst, ◌∙◌, arith, inl, inr, eqb-true, eq-eqb, Option}
use Rattle.std.proofs.Common.{Some, None, is_some}
use Rattle.std.proofs.lemmas.Bool.{true≢false, cases_Bool, cases_lt, eqb-false, and_parts, or_left, false_from_ne_true}
use Rattle.std.proofs.lemmas.Option.{none-some, same_Some}
use Rattle.ftc_ring.specs.Ring.{next_of}
use Rattle.ftc_journal.specs.declared.event.VisitName.{VisitName}
use Rattle.ftc_journal.specs.declared.event.Event.{Event}
use Rattle.ftc_journal.specs.declared.event.Event.TheVariants.{Apply, Carry, Crash, Enter, Lose, Pass, Propagate, Pull}
use Rattle.ftc_journal.specs.declared.event.Event.TheVariants.{Recover, Release, Take, Visit}
use Rattle.ftc_serial.specs.Words.{with_at, AnyOf}
use Rattle.ftc_serial.specs.Serial.{Entry, Given, Visited}
use Rattle.ftc_serial.specs.Trace.{names}
use Rattle.ftc_serial.specs.Removal.{is_taken, left_of}
use Rattle.ftc_protocol.proofs.TraceLemmas.{left_stood, stands_left, visit_left, visit_stood}
use Rattle.ftc_protocol.specs.Fates.{IsDropped, IsGiven, IsRelease, AreFates}
use Rattle.ftc_serial.specs.Take.{Outcome}
use Rattle.ftc_serial.proofs.Functions.{with_at_cases}
use Rattle.ftc_protocol.specs.declared.fate.Fate.{Fate}
use Rattle.ftc_protocol.specs.declared.fate.Fate.TheVariants.{Released, Filtered, Lost, Inside}
use Rattle.ftc_protocol.specs.Setting.{Setting, servers, count, packet_at}
use Rattle.ftc_protocol.specs.State.{ChainState, Message, Held, Queued, Withheld, opening}
use Rattle.ftc_protocol.specs.Legal.{MayHappen, MayLeave, is_sent}
use Rattle.ftc_protocol.specs.Recovery.{is_dropped, following_live}
use Rattle.ftc_protocol.specs.Next.{next, sent_on, is_away, has_packet, loses_packet, is_at, is_undone_drop, drop_if}
use Rattle.ftc_protocol.specs.Next.{fresh_message, taken_message, visited_message, visited_at, sent_message}
use Rattle.ftc_protocol.specs.Next.{withheld_of, withheld_packet, outcome_at, fate_by}
use Rattle.ftc_protocol.proofs.Premises.{IsGood, ticked}
use Rattle.ftc_protocol.proofs.LiveHolders.{kept_drop}
use Rattle.ftc_protocol.proofs.Invariant.{Inv, each_message}
use Rattle.ftc_protocol.proofs.ArrivalOrder.{IsTimed}
pub use Rattle.ftc_protocol.specs.Orderly.{IsPast}

-- What a packet's fate says: inside and entered, it is carried by a message or held in the buffer; filtered, a visit of
-- the trace dropped it; released, the trace has its release.
pub record IsFate (trace : List Entry) (entered p : ℕ) (fate : Fate) (carried held : Bool) : Type 0 where
  pub inside : p < entered → fate ≡ Inside → (carried ≡ true) ⊎ (held ≡ true)
  pub carried_inside : carried ≡ true → fate ≡ Inside
  pub held_inside : held ≡ true → fate ≡ Inside
  pub waiting : entered ≤ p → fate ≡ Inside
  pub filtered : (k : ℕ) → fate ≡ Filtered k → IsDropped trace k p
  pub dropped : (k : ℕ) → IsDropped trace k p → fate ≡ Filtered k
  pub released : fate ≡ Released → IsGiven trace p
  pub given : IsGiven trace p → fate ≡ Released

pub record AreFated (c : Setting) (s : ChainState) : Type 0 where
  pub fates : (p : ℕ) → IsFate s.trace s.entered p (s.fate p) (has_packet (s.message p)) (is_some (s.withheld p))
  -- what is past the buffer has no packet, and a message whose packet is in the buffer is past it
  pub bare : (p : ℕ) (m : Message) → s.message p ≡ Some m → IsPast (servers c) m.place → m.packet ≡ None
  pub past : (p : ℕ) (w : Withheld) (m : Message) → s.withheld p ≡ Some w → s.message p ≡ Some m →
      IsPast (servers c) m.place
  pub buffered : (p : ℕ) (w : Withheld) → s.withheld p ≡ Some w → p < s.entered

carries : (o : Option Message) (m : Message) (bytes : List ℕ) → o ≡ Some m → m.packet ≡ Some bytes → has_packet o ≡ true
carries o m bytes there packet = ap has_packet there ∙ ap is_some packet

some_withheld : (o : Option Withheld) (w : Withheld) → o ≡ Some w → is_some o ≡ true
some_withheld o w there = ap is_some there

packet_there : (o : Option Message) → has_packet o ≡ true → (m : Message) × (bytes : List ℕ) × (o ≡ Some m)
    × (m.packet ≡ Some bytes)
packet_there None is = absurd (true≢false (sym is))
packet_there (Some m) is =
    elim (m.packet) as (λ v. m.packet ≡ v → (n : Message) × (bytes : List ℕ) × (Some m ≡ Some n)
    × (n.packet ≡ Some bytes)) [
      | None ↦ λ e. absurd (true≢false (sym is ∙ ap is_some e))
      | Some bytes ↦ λ e. (m, bytes, refl, e)
    ] refl

withheld_there : (o : Option Withheld) → is_some o ≡ true → (w : Withheld) × (o ≡ Some w)
withheld_there None is = absurd (true≢false (sym is))
withheld_there (Some w) is = (w, refl)

-- a fate that an event leaves as it is, where the message and the buffer have the packet or not as before
fate_kept : (trace : List Entry) (entered entered' p : ℕ) (fate : Fate) (carried carried' held : Bool) →
    (p < entered' → p < entered) → (entered' ≤ p → entered ≤ p) → carried' ≡ carried
    → IsFate trace entered p fate carried held → IsFate trace entered' p fate carried' held
fate_kept trace entered entered' p fate carried carried' held less more same f = record {
  inside = λ pl is. elim (f.inside (less pl) is) [ inl x ↦ inl (same ∙ x) | inr x ↦ inr x ];
  carried_inside = λ x. f.carried_inside (sym same ∙ x);
  held_inside = f.held_inside;
  waiting = λ le. f.waiting (more le);
  filtered = f.filtered;
  dropped = f.dropped;
  released = f.released;
  given = f.given;
}

-- the packet was neither dropped nor released
abbrev IsOpen : List Entry → ℕ → Type 0
IsOpen trace p = ((k : ℕ) → IsDropped trace k p → ⊥) × (IsGiven trace p → ⊥)

inside_open : (trace : List Entry) (entered p : ℕ) (fate : Fate) (carried held : Bool) → fate ≡ Inside →
    IsFate trace entered p fate carried held → IsOpen trace p
inside_open trace entered p fate carried held inside f =
    ((λ k is. let e1 = f.dropped k is in absurd (cc)), (λ is. let e1 = f.given is in absurd (cc)))

-- it has entered, and is inside or lost
fate_inside : (trace : List Entry) (entered p : ℕ) (fate : Fate) (carried held : Bool) → p < entered → fate ≡ Inside →
    (carried ≡ true) ⊎ (held ≡ true) → IsOpen trace p → IsFate trace entered p fate carried held
fate_inside trace entered p fate carried held pl inside there none = record {
  inside = λ l is. there;
  carried_inside = λ x. inside;
  held_inside = λ x. inside;
  waiting = λ le. absurd (omega arith);
  filtered = λ k is. absurd (cc);
  dropped = λ k is. absurd (none.0 k is);
  released = λ is. absurd (cc);
  given = λ is. absurd (none.1 is);
}

fate_gone : (trace : List Entry) (entered p e : ℕ) (carried held : Bool) → p < entered → carried ≡ false →
    held ≡ false → IsOpen trace p → IsFate trace entered p (Lost e) carried held
fate_gone trace entered p e carried held pl no_carried no_held none = record {
  inside = λ _ is. absurd (cc);
  carried_inside = λ x. absurd (true≢false (sym x ∙ no_carried));
  held_inside = λ x. absurd (true≢false (sym x ∙ no_held));
  waiting = λ le. absurd (omega arith);
  filtered = λ k is. absurd (cc);
  dropped = λ k is. absurd (none.0 k is);
  released = λ is. absurd (cc);
  given = λ is. absurd (none.1 is);
}

module _ (c : Setting) (good : IsGood c) (s : ChainState) (h : Inv c s) (t : IsTimed c s) (f : AreFated c s) where
  -- a packet that a message carries isn't withheld
  not_held : (p : ℕ) (m : Message) (bytes : List ℕ) → s.message p ≡ Some m → m.packet ≡ Some bytes →
      is_some (s.withheld p) ≡ false
  not_held p m bytes there packet = elim (cases_Bool (is_some (s.withheld p))) [
    | inr isnt ↦ isnt
    | inl held ↦
        let v = withheld_there (s.withheld p) held in
        absurd (none-some bytes (sym (h.single p v.0 m v.1 there) ∙ packet))
  ]

  -- a packet that is inside
  open_here : (p : ℕ) → s.fate p ≡ Inside → IsOpen s.trace p
  open_here p inside =
      inside_open s.trace s.entered p (s.fate p) (has_packet (s.message p)) (is_some (s.withheld p)) inside (f.fates p)

  -- a packet that has not entered is nowhere
  nowhere : (p : ℕ) → s.entered ≤ p → (m : Message) → s.message p ≡ Some m → m.packet ≡ None
  nowhere p le m there = elim (m.packet) as (λ v. m.packet ≡ v → v ≡ None) [
    | None ↦ λ e. refl
    | Some bytes ↦
        λ e. let less = h.entered p m bytes there e in absurd (omega arith)
  ] refl

  not_withheld : (p : ℕ) → s.entered ≤ p → s.withheld p ≡ None
  not_withheld p le = elim (s.withheld p) as (λ v. s.withheld p ≡ v → v ≡ None) [
    | None ↦ λ e. refl
    | Some w ↦
        λ e. let less = f.buffered p w e in absurd (omega arith)
  ] refl

  not_carried : (p : ℕ) → s.entered ≤ p → has_packet (s.message p) ≡ false
  not_carried p le = elim (cases_Bool (has_packet (s.message p))) [
    | inr isnt ↦ isnt
    | inl has ↦ let is = packet_there (s.message p) has in absurd (none-some is.1 (sym (nowhere p le is.0 is.2) ∙ is.3))
  ]

  -- where nothing is done to fates, packets and places
  still : (message' : ℕ → Option Message) → ((q : ℕ) → has_packet (message' q) ≡ has_packet (s.message q)) → (q : ℕ)
      → IsFate s.trace s.entered q (s.fate q) (has_packet (message' q)) (is_some (s.withheld q))
  still message' same q = fate_kept s.trace s.entered s.entered q (s.fate q) (has_packet (s.message q))
      (has_packet (message' q)) (is_some (s.withheld q)) (λ l. l) (λ l. l) (same q) (f.fates q)

  at_same : (p : ℕ) (o : Option Message) → has_packet o ≡ has_packet (s.message p) → (q : ℕ) →
      has_packet (with_at s.message p o q) ≡ has_packet (s.message q)
  at_same p o same q = with_at_cases (λ v. has_packet v ≡ has_packet (s.message q)) s.message p o q
      (λ e. same ∙ ap (λ x. has_packet (s.message x)) (sym e)) (λ ne. refl)

  -- a message that isn't there or has no packet comes or goes
  no_packet : (m : Message) → m.packet ≡ None → has_packet (Some m) ≡ false
  no_packet m none_there = ap is_some none_there

  take_fated : (k p : ℕ) → MayHappen c s (Take k p) → AreFated c (next c s (Take k p))
  take_fated k p legal =
      let moved : (m : Message) → taken_message c s k (s.message p) ≡ Some m → IsPast (servers c) m.place →
      IsPast (servers c) legal.0.place = λ m e is.
      let same : record legal.0 { place = Held (next_of (servers c) k) false (k + 1 == servers c); since = s.events }
      ≡ m = same_Some _ m (sym (ap (taken_message c s k) legal.1) ∙ e) in
      let ring : (k + 1 == servers c) ≡ true = subst (λ (x : Message). IsPast (servers c) x.place) (sym same) is in
      subst (λ w. IsPast (servers c) w) (sym legal.2) (eqb-true (k + 1) (servers c) ring) in
      let packet : (m : Message) → taken_message c s k (s.message p) ≡ Some m → m.packet ≡ legal.0.packet =
      λ m e. ap (λ (x : Message). x.packet) (sym (same_Some _ m (sym (ap (taken_message c s k) legal.1) ∙ e))) in
      record {
        fates = still (with_at s.message p (taken_message c s k (s.message p)))
            (at_same p (taken_message c s k (s.message p)) (taken (s.message p)));
        bare = each_message (λ q m. IsPast (servers c) m.place →
            m.packet ≡ None) s.message p (taken_message c s k (s.message p))
            (λ m e is. packet m e ∙ f.bare p legal.0 legal.1 (moved m e is)) f.bare;
        past = λ q w m held there'. each_message (λ x m. (v : Withheld) → s.withheld x ≡ Some v →
            IsPast (servers c) m.place) s.message p (taken_message c s k (s.message p))
            (λ m e v held. let was = subst (λ x. IsPast (servers c) x) legal.2 (f.past p v legal.0 held legal.1) in
            subst (λ (x : Message). IsPast (servers c) x.place)
            (same_Some _ m (sym (ap (taken_message c s k) legal.1) ∙ e)) (eq-eqb (k + 1) (servers c) was))
            (λ x m there v held. f.past x v m held there) q m there' w held;
        buffered = f.buffered;
      }
    where
      taken : (o : Option Message) → has_packet (taken_message c s k o) ≡ has_packet o
      taken None = refl
      taken (Some m) = refl

  carry_fated : (p : ℕ) → MayHappen c s (Carry p) → AreFated c (next c s (Carry p))
  carry_fated p legal =
      let bare : legal.0.packet ≡ None =
      f.bare p legal.0 legal.1 (subst (λ x. IsPast (servers c) x) (sym legal.3) refl) in
      record {
        fates = still (with_at s.message p None)
            (at_same p None (sym (ap has_packet legal.1 ∙ no_packet legal.0 bare)));
        bare = each_message (λ q m. IsPast (servers c) m.place →
            m.packet ≡ None) s.message p None (λ m e. absurd (none-some m e)) f.bare;
        past = λ q w m held there'. each_message (λ x m. (v : Withheld) → s.withheld x ≡ Some v →
            IsPast (servers c) m.place) s.message p None (λ m e. absurd (none-some m e))
            (λ x m there v held. f.past x v m held there) q m there' w held;
        buffered = f.buffered;
      }

  propagate_fated : (p : ℕ) → MayHappen c s (Propagate p) → AreFated c (next c s (Propagate p))
  propagate_fated p legal =
      let far : s.entered ≤ p = let e0 : s.entered ≡ count c = legal.0 in let e1 : p ≡ count c + s.propagates =
      legal.4 in omega arith in
      let new = fresh_message s.events None in
      record {
        fates = still (with_at s.message p (Some new)) (at_same p (Some new) (sym (not_carried p far)));
        bare = each_message (λ q m. IsPast (servers c) m.place →
            m.packet ≡ None) s.message p (Some new)
            (λ m e is. ap (λ (x : Message). x.packet) (sym (same_Some new m e))) f.bare;
        past = λ q w m held there'. each_message (λ x m. (v : Withheld) → s.withheld x ≡ Some v →
            IsPast (servers c) m.place) s.message p (Some new)
            (λ m e v held. absurd (none-some v (sym (not_withheld p far) ∙ held)))
            (λ x m there v held. f.past x v m held there) q m there' w held;
        buffered = f.buffered;
      }

  enter_fated : (p : ℕ) → MayHappen c s (Enter p) → AreFated c (next c s (Enter p))
  enter_fated p legal =
      let far : s.entered ≤ p = let e0 : p ≡ s.entered = legal.0 in omega arith in
      let new : Message = fresh_message s.events (Some (packet_at c p)) in
      let o : Option Message = if s.up 0 then Some new else s.message p in
      let is_new : (m : Message) → o ≡ Some m → IsPast (servers c) m.place → m.packet ≡ None = λ m.
      elim (s.up 0) as (λ b. (if b then Some new else s.message p) ≡ Some m → IsPast (servers c) m.place →
      m.packet ≡ None) [
        | true ↦ λ e is. let wrong : false ≡ true =
            subst (λ (x : Message). IsPast (servers c) x.place) (sym (same_Some new m e)) is in
            absurd (true≢false (sym wrong))
        | false ↦ λ e is. nowhere p far m e
      ] in
      record {
        fates = λ q. elim (q == p) as (λ b. q == p ≡ b →
            IsFate s.trace (s.entered + 1) q (if b then (if s.up 0 then s.fate p else Lost s.events)
            else s.fate q) (has_packet (if b then o else s.message q)) (is_some (s.withheld q))) [
              | true ↦ λ e. let same : q ≡ p = eqb-true q p e in let at : q ≡ s.entered =
                  same ∙ legal.0 in entering q p same at far (f.fates q) (not_withheld p far)
              | false ↦ λ e. let ne = eqb-false q p e in let e0 : p ≡ s.entered = legal.0 in
                  fate_kept s.trace s.entered (s.entered + 1) q (s.fate q) (has_packet (s.message q))
                  (has_packet (s.message q)) (is_some (s.withheld q)) (λ l. omega arith) (λ l. omega arith) refl
                  (f.fates q)
            ] refl;
        bare = each_message (λ q m. IsPast (servers c) m.place → m.packet ≡ None) s.message p o is_new f.bare;
        past = λ q w m held there'. each_message (λ x m. (v : Withheld) → s.withheld x ≡ Some v →
            IsPast (servers c) m.place) s.message p o
            (λ m e v held. absurd (none-some v (sym (not_withheld p far) ∙ held)))
            (λ x m there v held. f.past x v m held there) q m there' w held;
        buffered = λ q w held. let less = f.buffered q w held in omega arith;
      }
    where
      entering : (q p : ℕ) → q ≡ p → q ≡ s.entered → s.entered ≤ p →
          IsFate s.trace s.entered q (s.fate q) (has_packet (s.message q)) (is_some (s.withheld q)) →
          s.withheld p ≡ None
          → IsFate s.trace (s.entered + 1) q (if s.up 0 then s.fate p
          else Lost s.events) (has_packet (if s.up 0 then Some (fresh_message s.events (Some (packet_at c p)))
          else s.message p)) (is_some (s.withheld q))
      entering q p same at far old no_held =
          let was : s.fate q ≡ Inside = old.waiting (omega arith) in
          let held : is_some (s.withheld q) ≡ false = ap is_some (ap s.withheld same ∙ no_held) in
          elim (s.up 0) as (λ b. IsFate s.trace (s.entered + 1) q (if b then s.fate p
          else Lost s.events) (has_packet (if b then Some (fresh_message s.events (Some (packet_at c p)))
          else s.message p)) (is_some (s.withheld q))) [
            | true ↦ subst (λ x. IsFate s.trace (s.entered + 1) q (s.fate x) true (is_some (s.withheld q))) same
                (fate_inside s.trace (s.entered + 1) q (s.fate q) true (is_some (s.withheld q)) (omega arith) was
                (inl refl) (open_here q was))
            | false ↦
                fate_gone s.trace (s.entered + 1) q s.events (has_packet (s.message p)) (is_some (s.withheld q))
                (omega arith) (not_carried p far) held (open_here q was)
          ]

  release_fated : (p : ℕ) → MayHappen c s (Release p) → AreFated c (next c s (Release p))
  release_fated p legal =
      let w = legal.0 in let there : s.withheld p ≡ Some w = legal.1.0 in
      let was : s.fate p ≡ Inside = (f.fates p).held_inside (some_withheld (s.withheld p) w there) in
      let bytes = Rattle.ftc_protocol.specs.Next.bytes_withheld (s.withheld p) in
      record {
        fates = λ q. elim (q == p) as (λ b. q == p ≡ b →
            IsFate (Given p bytes ∷ s.trace) s.entered q (if b then Released
            else s.fate q) (has_packet (s.message q)) (is_some (if b then None else s.withheld q))) [
              | true ↦ λ e. let same : q ≡ p = eqb-true q p e in
                  let old = f.fates q in let inside : s.fate q ≡ Inside = ap s.fate same ∙ was in
                  let entered = f.buffered p w there in
                  record {
                    inside = λ l is. absurd (cc);
                    carried_inside = λ x. let is = packet_there (s.message q) x in
                        absurd (none-some is.1 (sym (h.single q w is.0 (ap s.withheld same ∙ there) is.2) ∙ is.3));
                    held_inside = λ x. absurd (true≢false (sym x));
                    waiting = λ le. absurd (omega arith);
                    filtered = λ k is. absurd (cc);
                    dropped = λ k is. elim is [
                      | inl none_here ↦ absurd none_here
                      | inr more ↦
                          let e1 = old.dropped k more in absurd (cc)
                    ];
                    released = λ is. inl (sym same);
                    given = λ is. refl;
                  }
              | false ↦ λ e. let ne = eqb-false q p e in let old = f.fates q in record {
                inside = old.inside;
                carried_inside = old.carried_inside;
                held_inside = old.held_inside;
                waiting = old.waiting;
                filtered = λ k is. inr (old.filtered k is);
                dropped = λ k is. elim is [ inl none_here ↦ absurd none_here | inr more ↦ old.dropped k more ];
                released = λ is. inr (old.released is);
                given = λ is. elim is [ inl here ↦ absurd (ne (sym here)) | inr more ↦ old.given more ];
              }
            ] refl;
        bare = f.bare;
        past = λ q v m held there'. with_at_cases (λ x. x ≡ Some v →
            IsPast (servers c) m.place) s.withheld p None q (λ e gone. absurd (none-some v gone))
            (λ ne is. f.past q v m is there') held;
        buffered = λ q v held. with_at_cases (λ x. x ≡ Some v →
            q < s.entered) s.withheld p None q (λ e gone. absurd (none-some v gone)) (λ ne is. f.buffered q v is) held;
      }

  -- ---- visit

  visit_fated : (k p w : ℕ) → MayHappen c s (Visit k p w) → AreFated c (next c s (Visit k p w))
  visit_fated k p w legal =
      let m = legal.0 in let there = legal.3 in let bytes = legal.5 in
      let o = outcome_at c s k p in
      let was : s.fate p ≡ Inside = (f.fates p).carried_inside (carries (s.message p) m legal.1 there bytes) in
      let new = visited_message c k p o (s.message p) in
      let is_new : (n : Message) → new ≡ Some n → (n.place ≡ visited_at m.place) × (n.packet ≡ o.packet) = λ n e.
      let same = same_Some _ n (sym (ap (visited_message c k p o) there) ∙ e) in
      (ap (λ (x : Message). x.place) (sym same), ap (λ (x : Message). x.packet) (sym same)) in
      let not_past : (n : Message) → new ≡ Some n → IsPast (servers c) n.place → ⊥ = λ n e is.
      let at : IsPast (servers c) (visited_at (Held k false legal.2)) =
      subst (λ x. IsPast (servers c) x) ((is_new n e).0 ∙ ap visited_at legal.4) is in
      none-some legal.1 (sym (f.bare p m there (subst (λ x. IsPast (servers c) x) (sym legal.4) at)) ∙ bytes) in
      let entered : p < s.entered = h.entered p m legal.1 there bytes in
      let held : is_some (s.withheld p) ≡ false = not_held p m legal.1 there bytes in
      record {
        fates = λ q. elim (q == p) as (λ b. q == p ≡ b →
            IsFate (Visited k p o ∷ s.trace) s.entered q (if b then fate_by k (s.fate p) o.packet
            else s.fate q) (has_packet (if b then new else s.message q)) (is_some (s.withheld q))) [
              | true ↦ λ e. let same : q ≡ p =
                  eqb-true q p e in visited q k p o same entered was (ap (λ x. is_some (s.withheld x)) same ∙ held)
                  (ap has_packet (ap (visited_message c k p o) there))
              | false ↦ λ e. let ne = eqb-false q p e in let old = f.fates q in record {
                inside = old.inside;
                carried_inside = old.carried_inside;
                held_inside = old.held_inside;
                waiting = old.waiting;
                filtered = λ j is. inr (old.filtered j is);
                dropped = λ j is. elim is [ inl here ↦ absurd (ne (sym here.1)) | inr more ↦ old.dropped j more ];
                released = λ is. inr (old.released is);
                given = λ is. elim is [ inl none_here ↦ absurd none_here | inr more ↦ old.given more ];
              }
            ] refl;
        bare = each_message (λ q n. IsPast (servers c) n.place →
            n.packet ≡ None) s.message p new (λ n e is. absurd (not_past n e is)) f.bare;
        past = λ q v n held' there'. each_message (λ x n. (v : Withheld) → s.withheld x ≡ Some v →
            IsPast (servers c) n.place) s.message p new
            (λ n e v is. absurd (none-some legal.1 (sym (h.single p v m is there) ∙ bytes)))
            (λ x n there v is. f.past x v n is there) q n there' v held';
        buffered = f.buffered;
      }
    where
      visited : (q k p : ℕ) (o : Outcome) → q ≡ p → p < s.entered → s.fate p ≡ Inside → is_some (s.withheld q) ≡ false →
          has_packet (visited_message c k p o (s.message p)) ≡ is_some o.packet
          → IsFate (Visited k p o ∷ s.trace) s.entered q (fate_by k (s.fate p) o.packet)
          (has_packet (visited_message c k p o (s.message p))) (is_some (s.withheld q))
      visited q k p o same entered was no_held packet =
          let old = f.fates q in let inside : s.fate q ≡ Inside = ap s.fate same ∙ was in
          let carried' = has_packet (visited_message c k p o (s.message p)) in
          elim (o.packet) as (λ v. o.packet ≡ v → carried' ≡ is_some v →
          IsFate (Visited k p o ∷ s.trace) s.entered q (fate_by k (s.fate p) v) carried' (is_some (s.withheld q))) [
            | None ↦ λ e no_packet. record {
              inside = λ l is. absurd (cc);
              carried_inside = λ x. absurd (true≢false (sym x ∙ no_packet));
              held_inside = λ x. absurd (true≢false (sym x ∙ no_held));
              waiting = λ le. absurd (omega arith);
              filtered = λ j is. inl ((cc), sym same, e);
              dropped = λ j is. elim is [
                | inl here ↦ ap Filtered here.0
                | inr more ↦ let e1 = old.dropped j more in
                    absurd (cc)
              ];
              released = λ is. absurd (cc);
              given = λ is. elim is [
                | inl none_here ↦ absurd none_here
                | inr more ↦ let e1 = old.given more in
                    absurd (cc)
              ];
            }
            | Some bytes ↦ λ e packet. fate_inside (Visited k p o ∷ s.trace) s.entered q (s.fate p) carried'
                (is_some (s.withheld q)) (omega arith) was (inl packet) (
                  (λ j is. elim is [
                    | inl here ↦ none-some bytes (sym here.2 ∙ e)
                    | inr more ↦ (open_here q inside).0 j more
                  ]),
                  (λ is. elim is [ inl none_here ↦ none_here | inr more ↦ (open_here q inside).1 more ]),
                )
          ] refl packet

  -- ---- pass and lose

  left_fated : (k p : ℕ) (lost : Bool) (m : Message) → MayLeave c s k p m → AreFated c (ticked (sent_on c s k p lost))
  left_fated k p lost m leaves =
      let there = leaves.there in
      let last = k + 1 == servers c in
      let away = is_away c s k lost in
      let sends = is_sent c k && not away in
      let o : Option Message = if sends then sent_message c s k (s.message p) else None in
      let o_is : o ≡ (if sends then sent_message c s k (Some m) else None) =
      ap (λ x. if sends then sent_message c s k x else None) there in
      let not_past : IsPast (servers c) m.place → ⊥ =
      λ is. true≢false (sym (subst (λ x. IsPast (servers c) x) leaves.held is)) in
      let no_held : s.withheld p ≡ None =
      elim (s.withheld p) as (λ v. s.withheld p ≡ v → v ≡ None) [
        | None ↦ λ e. refl
        | Some w ↦
            λ e. absurd (not_past (f.past p w m e there))
      ] refl in
      let x : Fate = if away && not last && has_packet (s.message p) then Lost s.events else s.fate p in
      let held' : Option Withheld = if last then withheld_of s (s.message p) else s.withheld p in
      let sent_is : (n : Message) → o ≡ Some n → (n.place ≡ Queued k) × (n.packet ≡ (if last then None else m.packet)) =
      λ n e.
      by_sent k last sends m n (sym o_is ∙ e) in
      record {
        fates = λ q. elim (q == p) as (λ b. q == p ≡ b →
            IsFate s.trace s.entered q (if b then x
            else s.fate q) (has_packet (if b then o else s.message q)) (is_some (if b then held' else s.withheld q))) [
              | true ↦ λ e. let same : q ≡ p =
                  eqb-true q p e in subst (λ y. IsFate s.trace s.entered y x (has_packet o) (is_some held')) (sym same)
                  (subst (λ y. IsFate s.trace s.entered p x y (is_some held')) (ap has_packet (sym o_is))
                  (subst (λ (y : Option Message). IsFate s.trace s.entered p (if away && not last && has_packet y then
                  Lost s.events else s.fate p) (has_packet (if sends then sent_message c s k (Some m)
                  else None)) (is_some (if last then withheld_of s y else s.withheld p))) (sym there)
                  (gone k p m last (is_sent c k) away refl refl there no_held)))
              | false ↦ λ e. f.fates q
            ] refl;
        bare = each_message (λ q n. IsPast (servers c) n.place → n.packet ≡ None) s.message p o (λ n e is.
            let at : k + 1 ≡ servers c = subst (λ y. IsPast (servers c) y) (sent_is n e).0 is in
            (sent_is n e).1 ∙ ap (λ (b : Bool). if b then None else m.packet) (eq-eqb (k + 1) (servers c) at)) f.bare;
        past = λ q v n held there'. pasts k p m o held' (λ n e. (sent_is n e).0)
            (λ v e. is_last k last p m refl there no_held v e) q v n held there';
        buffered = λ q v held. with_at_cases (λ (y : Option Withheld). y ≡ Some v → q < s.entered) s.withheld p held' q
            (λ e is. let was = carried_last k last p m refl there no_held v is in
            let less = h.entered p m was.0 there was.1 in let same : q ≡ p =
            e in omega arith) (λ ne is. f.buffered q v is) held;
      }
    where
      by_sent : (k : ℕ) (last sends : Bool) (m n : Message) →
          (if sends then sent_message c s k (Some m) else None) ≡ Some n →
          (n.place ≡ Queued k) × (n.packet ≡ (if k + 1 == servers c then None else m.packet))
      by_sent k last true m n e = let same =
          same_Some _ n e in (ap (λ (y : Message). y.place) (sym same), ap (λ (y : Message). y.packet) (sym same))
      by_sent k last false m n e = absurd (none-some n e)

      carried_last : (k : ℕ) (last : Bool) (p : ℕ) (m : Message) → (k + 1 == servers c) ≡ last → s.message p ≡ Some m →
          s.withheld p ≡ None → (v : Withheld) → (if last then withheld_of s (s.message p) else s.withheld p) ≡ Some v →
          (bytes : List ℕ) × (m.packet ≡ Some bytes)
      carried_last k true p m is there no_held v e =
          elim (m.packet) as (λ y. m.packet ≡ y → withheld_packet s m y ≡ Some v →
          (bytes : List ℕ) × (m.packet ≡ Some bytes)) [
            | None ↦ λ e1 e2. absurd (none-some v e2)
            | Some bytes ↦ λ e1 e2. (bytes, e1)
          ] refl (sym (ap (withheld_of s) there) ∙ e)
      carried_last k false p m is there no_held v e = absurd (none-some v (sym no_held ∙ e))

      is_last : (k : ℕ) (last : Bool) (p : ℕ) (m : Message) → (k + 1 == servers c) ≡ last → s.message p ≡ Some m →
          s.withheld p ≡ None → (v : Withheld) → (if last then withheld_of s (s.message p) else s.withheld p) ≡ Some v →
          k + 1 ≡ servers c
      is_last k true p m is there no_held v e = eqb-true (k + 1) (servers c) is
      is_last k false p m is there no_held v e = absurd (none-some v (sym no_held ∙ e))

      pasts : (k p : ℕ) (m : Message) (o : Option Message) (held' : Option Withheld) →
          ((n : Message) → o ≡ Some n → n.place ≡ Queued k) → ((v : Withheld) → held' ≡ Some v → k + 1 ≡ servers c)
          → (q : ℕ) (v : Withheld) (n : Message) → with_at s.withheld p held' q ≡ Some v →
          with_at s.message p o q ≡ Some n → IsPast (servers c) n.place
      pasts k p m o held' place last q v n =
          elim (q == p) as (λ b. (if b then held' else s.withheld q) ≡ Some v →
          (if b then o else s.message q) ≡ Some n → IsPast (servers c) n.place) [
            | true ↦ λ held e. subst (λ y. IsPast (servers c) y) (sym (place n e)) (last v held)
            | false ↦ λ held e. f.past q v n held e
          ]

      gone : (k p : ℕ) (m : Message) (last sent away : Bool) → (k + 1 == servers c) ≡ last → is_sent c k ≡ sent →
          s.message p ≡ Some m → s.withheld p ≡ None
          → IsFate s.trace s.entered p (if away && not last && is_some m.packet then Lost s.events
          else s.fate p) (has_packet (if sent && not away then sent_message c s k (Some m)
          else None)) (is_some (if last then withheld_packet s m m.packet else s.withheld p))
      gone k p m last sent away last_is sent_is there no_held = elim (m.packet) as (λ v. m.packet ≡ v
          → IsFate s.trace s.entered p (if away && not last && is_some v then Lost s.events
          else s.fate p) (has_packet (if sent && not away then sent_message c s k (Some m)
          else None)) (is_some (if last then withheld_packet s m v else s.withheld p))) [
            | None ↦ λ none_there. bare last away sent none_there
            | Some bytes ↦ λ packet. with_bytes bytes packet last away sent last_is sent_is
          ] refl
        where
          sent_none : (v : Option (List ℕ)) (b : Bool) → v ≡ None → is_some (if b then None else v) ≡ false
          sent_none v true e = refl
          sent_none v false e = ap is_some e

          bare : (last away sent : Bool) → m.packet ≡ None →
              IsFate s.trace s.entered p (if away && not last && false then Lost s.events
              else s.fate p) (has_packet (if sent && not away then sent_message c s k (Some m)
              else None)) (is_some (if last then None else s.withheld p))
          bare last away sent none_there =
              let carried_none : has_packet (s.message p) ≡ false = ap has_packet there ∙ ap is_some none_there in
              let old = subst (λ x. IsFate s.trace s.entered p (s.fate p) x (is_some (s.withheld p))) carried_none
              (f.fates p) in
              let old' = subst (λ x. IsFate s.trace s.entered p (s.fate p) false x) (ap is_some no_held) old in
              let b1 : has_packet (if sent && not away then sent_message c s k (Some m) else None) ≡ false =
              sends_none (sent && not away) none_there in
              let b2 : is_some (if last then None else s.withheld p) ≡ false = holds_none last in
              let b3 : (if away && not last && false then Lost s.events else s.fate p) ≡ s.fate p =
              not_lost away last in
              subst (λ x. IsFate s.trace s.entered p x (has_packet (if sent && not away then sent_message c s k (Some m)
              else None)) (is_some (if last then None else s.withheld p))) (sym b3)
              (subst (λ x. IsFate s.trace s.entered p (s.fate p) x (is_some (if last then None else s.withheld p)))
              (sym b1) (subst (λ x. IsFate s.trace s.entered p (s.fate p) false x) (sym b2) old'))
            where
              sends_none : (b : Bool) → m.packet ≡ None →
                  has_packet (if b then sent_message c s k (Some m) else None) ≡ false
              sends_none true e = sent_none m.packet (k + 1 == servers c) e
              sends_none false e = refl

              holds_none : (b : Bool) → is_some (if b then None else s.withheld p) ≡ false
              holds_none true = refl
              holds_none false = ap is_some no_held

              not_lost : (a b : Bool) → (if a && not b && false then Lost s.events else s.fate p) ≡ s.fate p
              not_lost true true = refl
              not_lost true false = refl
              not_lost false b = refl

          still_in : (bytes : List ℕ) → m.packet ≡ Some bytes → (carried' held' : Bool) →
              (carried' ≡ true) ⊎ (held' ≡ true) → IsFate s.trace s.entered p (s.fate p) carried' held'
          still_in bytes packet carried' held' one_is =
              let was : s.fate p ≡ Inside = (f.fates p).carried_inside (carries (s.message p) m bytes there packet) in
              fate_inside s.trace s.entered p (s.fate p) carried' held' (h.entered p m bytes there packet) was one_is
              (open_here p was)

          lost_now : (bytes : List ℕ) → m.packet ≡ Some bytes →
              IsFate s.trace s.entered p (Lost s.events) false (is_some (s.withheld p))
          lost_now bytes packet =
              fate_gone s.trace s.entered p s.events false (is_some (s.withheld p)) (h.entered p m bytes there packet)
              refl (ap is_some no_held)
              (open_here p ((f.fates p).carried_inside (carries (s.message p) m bytes there packet)))

          with_bytes : (bytes : List ℕ) → m.packet ≡ Some bytes → (last away sent : Bool) →
              (k + 1 == servers c) ≡ last → is_sent c k ≡ sent
              → IsFate s.trace s.entered p (if away && not last && true then Lost s.events
              else s.fate p) (has_packet (if sent && not away then sent_message c s k (Some m)
              else None)) (is_some (if last then Some (record { since = s.events; bytes = bytes; needs = m.needs })
              else s.withheld p))
          with_bytes bytes packet true true sent last_is sent_is = still_in bytes packet _ true (inr refl)
          with_bytes bytes packet true false sent last_is sent_is = still_in bytes packet _ true (inr refl)
          with_bytes bytes packet false true true last_is sent_is = lost_now bytes packet
          with_bytes bytes packet false true false last_is sent_is = lost_now bytes packet
          with_bytes bytes packet false false true last_is sent_is =
              still_in bytes packet _ (is_some (s.withheld p))
              (inl (ap (λ b. is_some (if b then None else m.packet)) last_is ∙ ap is_some packet))
          with_bytes bytes packet false false false last_is sent_is =
              absurd (true≢false (sym (or_left (not (k + 1 == servers c)) (nat_lt 0 c.failures)
              (ap not last_is)) ∙ sent_is))

  -- ---- crash and recover: what is lost was inside

  test_false : (test : Message → Bool) (o : Option Message) → loses_packet test o ≡ false →
      has_packet (drop_if test o) ≡ has_packet o
  test_false test None is = refl
  test_false test (Some m) is =
      elim (test m) as (λ b. (b && is_some m.packet) ≡ false →
      has_packet (if b then None else Some m) ≡ is_some m.packet) [
        | true ↦ λ e. sym e
        | false ↦ λ e. refl
      ] is

  test_true : (test : Message → Bool) (o : Option Message) → loses_packet test o ≡ true →
      (has_packet o ≡ true) × (has_packet (drop_if test o) ≡ false)
  test_true test None is = absurd (true≢false (sym is))
  test_true test (Some m) is =
      let parts = and_parts (test m) (is_some m.packet) is in
      (parts.1, ap (λ b. has_packet (if b then None else Some m)) parts.0)

  crash_fated : (k : ℕ) → AreFated c (next c s (Crash k))
  crash_fated k =
      let test : Message → Bool = λ m. is_at c k m.place in
      record {
        fates = λ q. crashed q (loses_packet test (s.message q)) (k + 1 == servers c) refl;
        bare = λ q m there is. let old = kept_drop test (s.message q) m there in f.bare q m old is;
        past = λ q w m held there. elim (k + 1 == servers c) as (λ b. (if b then None else s.withheld q) ≡ Some w →
            IsPast (servers c) m.place) [
              | true ↦ λ e. absurd (none-some w e)
              | false ↦ λ e. f.past q w m e (kept_drop test (s.message q) m there)
            ] held;
        buffered = λ q w held. elim (k + 1 == servers c) as (λ b. (if b then None else s.withheld q) ≡ Some w →
            q < s.entered) [
              | true ↦ λ e. absurd (none-some w e)
              | false ↦ λ e. f.buffered q w e
            ] held;
      }
    where
      holds_none : (last : Bool) (o : Option Withheld) → is_some o ≡ false → is_some (if last then None else o) ≡ false
      holds_none true o is = refl
      holds_none false o is = is

      crashed : (q : ℕ) (loses last : Bool) → loses_packet (λ m. is_at c k m.place) (s.message q) ≡ loses
          → IsFate s.trace s.entered q (if loses || (last && is_some (s.withheld q)) then Lost s.events
          else s.fate q) (has_packet (drop_if (λ m. is_at c k m.place) (s.message q))) (is_some (if last then None
          else s.withheld q))
      crashed q true last is =
          let parts = test_true (λ m. is_at c k m.place) (s.message q) is in
          let there = packet_there (s.message q) parts.0 in
          let no_held = not_held q there.0 there.1 there.2 there.3 in
          fate_gone s.trace s.entered q s.events _ _ (h.entered q there.0 there.1 there.2 there.3) parts.1
          (holds_none last (s.withheld q) no_held) (open_here q ((f.fates q).carried_inside parts.0))
      crashed q false false is =
          fate_kept s.trace s.entered s.entered q (s.fate q) (has_packet (s.message q)) _ (is_some (s.withheld q))
          (λ l. l) (λ l. l) (test_false (λ m. is_at c k m.place) (s.message q) is) (f.fates q)
      crashed q false true is =
          elim (s.withheld q) as (λ o. s.withheld q ≡ o →
          IsFate s.trace s.entered q (if is_some o then Lost s.events
          else s.fate q) (has_packet (drop_if (λ m. is_at c k m.place) (s.message q))) false) [
            | None ↦ λ e. subst (λ x. IsFate s.trace s.entered q (s.fate q)
                (has_packet (drop_if (λ m. is_at c k m.place) (s.message q))) x) (ap is_some e)
                (fate_kept s.trace s.entered s.entered q (s.fate q) (has_packet (s.message q)) _
                (is_some (s.withheld q)) (λ l. l) (λ l. l) (test_false (λ m. is_at c k m.place) (s.message q) is)
                (f.fates q))
            | Some w ↦ λ e.
                let none_carried : has_packet (s.message q) ≡ false = elim (cases_Bool (has_packet (s.message q))) [
                  | inr isnt ↦ isnt
                  | inl has ↦ let there = packet_there (s.message q) has in
                      absurd (none-some there.1 (sym (h.single q w there.0 e there.2) ∙ there.3))
                ] in
                fate_gone s.trace s.entered q s.events _ false (f.buffered q w e)
                (test_false (λ m. is_at c k m.place) (s.message q) is ∙ none_carried) refl
                (open_here q ((f.fates q).held_inside (some_withheld (s.withheld q) w e)))
          ] refl

  recover_fated : (k : ℕ) (undone : List VisitName) → AreFated c (next c s (Recover k undone))
  recover_fated k undone =
      let test : Message → Bool = is_dropped c s (following_live c s k) in
      record {
        fates = λ q. recovered q (loses_packet test (s.message q)) (is_undone_drop undone q (s.fate q)) refl refl;
        bare = λ q m there is. f.bare q m (kept_drop test (s.message q) m there) is;
        past = λ q w m held there. f.past q w m held (kept_drop test (s.message q) m there);
        buffered = f.buffered;
      }
    where
      given_stood : (q : ℕ) → IsGiven (left_of (names undone) s.trace) q → IsGiven s.trace q
      given_stood q is = first s.trace (left_stood (names undone) (IsRelease q) s.trace is)
        where
          first : (trace : List Entry) → AnyOf (λ e. IsRelease q e × (is_taken (names undone) e ≡ false)) trace →
              IsGiven trace q
          first [] is = absurd is
          first (e ∷ older) is = elim is [ inl here ↦ inl here.0 | inr more ↦ inr (first older more) ]

      given_left : (q : ℕ) → IsGiven s.trace q → IsGiven (left_of (names undone) s.trace) q
      given_left q is = stands_left (names undone) (IsRelease q) s.trace (untaken s.trace is)
        where
          untaken : (trace : List Entry) → IsGiven trace q →
              AnyOf (λ e. IsRelease q e × (is_taken (names undone) e ≡ false)) trace
          untaken [] is = absurd is
          untaken (Given x bytes ∷ older) is =
              elim is [ inl here ↦ inl (here, refl) | inr more ↦ inr (untaken older more) ]
          untaken (Visited j x o ∷ older) is = elim is [ inl here ↦ absurd here | inr more ↦ inr (untaken older more) ]

      dropped_stood : (q j : ℕ) → IsDropped (left_of (names undone) s.trace) j q →
          IsDropped s.trace j q × (names undone j q ≡ false)
      dropped_stood q j is = visit_stood (names undone) (λ o. o.packet ≡ None) s.trace j q is

      -- a packet whose drop is undone
      undropped : (q : ℕ) → (fate : Fate) → s.fate q ≡ fate → is_undone_drop undone q fate ≡ true →
          loses_packet (is_dropped c s (following_live c s k)) (s.message q) ≡ false
          → IsFate (left_of (names undone) s.trace) s.entered q (Lost s.events)
          (has_packet (drop_if (is_dropped c s (following_live c s k)) (s.message q))) (is_some (s.withheld q))
      undropped q Released is undoes kept = absurd (true≢false (sym undoes))
      undropped q Inside is undoes kept = absurd (true≢false (sym undoes))
      undropped q (Lost e) is undoes kept = absurd (true≢false (sym undoes))
      undropped q (Filtered j) is undoes kept =
          let old = f.fates q in
          let not_inside : s.fate q ≡ Inside → ⊥ = λ e. cc in
          let same = test_false (is_dropped c s (following_live c s k)) (s.message q) kept in
          fate_gone (left_of (names undone) s.trace) s.entered q s.events _ _
          (elim (cases_lt q s.entered) [ inl less ↦ less | inr le ↦ absurd (not_inside (old.waiting (omega arith))) ])
          (same ∙ false_from_ne_true _ (λ x. not_inside (old.carried_inside x)))
          (false_from_ne_true _ (λ x. not_inside (old.held_inside x))) (
            (λ i left.
                let stood = dropped_stood q i left in
                let e1 : s.fate q ≡ Filtered i = old.dropped i stood.0 in
                let e2 : j ≡ i = cc in
                true≢false (sym undoes ∙ (ap (λ x. names undone x q) e2 ∙ stood.1))),
            (λ left. let e1 = old.given (given_stood q left) in absurd (cc)),
          )

      recovered : (q : ℕ) (loses undoes : Bool) → loses_packet (is_dropped c s (following_live c s k)) (s.message q)
          ≡ loses → is_undone_drop undone q (s.fate q) ≡ undoes
          → IsFate (left_of (names undone) s.trace) s.entered q (if loses || undoes then Lost s.events
          else s.fate q) (has_packet (drop_if (is_dropped c s (following_live c s k)) (s.message q)))
          (is_some (s.withheld q))
      recovered q true undoes is drop =
          let parts = test_true (is_dropped c s (following_live c s k)) (s.message q) is in
          let there = packet_there (s.message q) parts.0 in
          let no_held = not_held q there.0 there.1 there.2 there.3 in
          let none = open_here q ((f.fates q).carried_inside parts.0) in
          fate_gone (left_of (names undone) s.trace) s.entered q s.events _ _
          (h.entered q there.0 there.1 there.2 there.3) parts.1 no_held
          ((λ j is. none.0 j (dropped_stood q j is).0), (λ is. none.1 (given_stood q is)))
      recovered q false true is drop = undropped q (s.fate q) refl drop is
      recovered q false false is drop =
          let old = f.fates q in
          let same = test_false (is_dropped c s (following_live c s k)) (s.message q) is in
          record {
            inside = λ l e. elim (old.inside l e) [ inl x ↦ inl (same ∙ x) | inr x ↦ inr x ];
            carried_inside = λ x. old.carried_inside (sym same ∙ x);
            held_inside = old.held_inside;
            waiting = old.waiting;
            filtered = λ j e. visit_left (names undone) (λ o. o.packet ≡ None) s.trace j q (old.filtered j e)
                (sym (ap (is_undone_drop undone q) e) ∙ drop);
            dropped = λ j left. old.dropped j (dropped_stood q j left).0;
            released = λ e. given_left q (old.released e);
            given = λ left. old.given (given_stood q left);
          }

  pub keeps_fates : (e : Event) → MayHappen c s e → AreFated c (next c s e)
  keeps_fates (Enter p) legal = enter_fated p legal
  keeps_fates (Take k p) legal = take_fated k p legal
  keeps_fates (Apply k p j q) legal = record { fates = f.fates; bare = f.bare; past = f.past; buffered = f.buffered }
  keeps_fates (Visit k p w) legal = visit_fated k p w legal
  keeps_fates (Pass k p) legal = left_fated k p false legal.0 legal.1
  keeps_fates (Lose k p) legal = left_fated k p true legal.0 legal.1
  keeps_fates (Carry p) legal = carry_fated p legal
  keeps_fates (Crash k) legal = crash_fated k
  keeps_fates (Recover k undone) legal = recover_fated k undone
  keeps_fates (Pull k) legal = record { fates = f.fates; bare = f.bare; past = f.past; buffered = f.buffered }
  keeps_fates (Propagate p) legal = propagate_fated p legal
  keeps_fates (Release p) legal = release_fated p legal

pub opens_fated : (c : Setting) → AreFated c (opening c)
opens_fated c = record {
  fates = λ p. record {
    inside = λ l is. absurd (omega arith);
    carried_inside = λ x. refl;
    held_inside = λ x. refl;
    waiting = λ le. refl;
    filtered = λ k is. absurd (cc);
    dropped = λ k is. absurd is;
    released = λ is. absurd (cc);
    given = λ is. absurd is;
  };
  bare = λ p m there. absurd (none-some m there);
  past = λ p w m held there. absurd (none-some m there);
  buffered = λ p w held. absurd (none-some w held);
}

-- in the words of the definitions
pub are_fates : (c : Setting) (s : ChainState) → AreFated c s → AreFates s
are_fates c s f = record {
  released = λ p. let old = f.fates p in (old.released, old.given);
  filtered = λ k p. let old = f.fates p in (old.filtered k, old.dropped k);
  inside = λ p entered. let old = f.fates p in (
    (λ is. elim (old.inside entered is) [
      | inl carried ↦ let there = packet_there (s.message p) carried in
          inl (record { message = there.0; there = there.2; bytes = there.1; carries = there.3 })
      | inr held ↦ let there = withheld_there (s.withheld p) held in
          inr (record { withheld = there.0; there = there.1 })
    ]),
    λ where_it_is. elim where_it_is [
      | inl by ↦ old.carried_inside (carries (s.message p) by.message by.bytes by.there by.carries)
      | inr by ↦ old.held_inside (some_withheld (s.withheld p) by.withheld by.there)
    ],
  );
  waiting = λ p le. let old = f.fates p in old.waiting le;
}
