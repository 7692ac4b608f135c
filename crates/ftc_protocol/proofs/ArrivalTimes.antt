-- No two messages, and no two withheld packets, came by the same event.
use Rattle.std.proofs.Common.{◌≡◌, ℕ, ◌+◌, ◌<◌, ◌==◌, ◌&&◌, if◌then◌else◌, not, Bool, true, false, List, [], ◌∷◌, ◌⊎◌}
use Rattle.std.proofs.Common.{inl, inr, refl, sym, ap, subst, ◌∙◌, arith, Option, Some, None}
use Rattle.std.proofs.lemmas.Option.{none-some, same_Some}
use Rattle.ftc_journal.specs.declared.event.Event.{Event}
use Rattle.ftc_journal.specs.declared.event.Event.TheVariants.{Apply, Carry, Crash, Enter, Lose, Pass, Propagate, Pull}
use Rattle.ftc_journal.specs.declared.event.Event.TheVariants.{Recover, Release, Take, Visit}
use Rattle.ftc_serial.specs.Words.{with_at}
use Rattle.ftc_serial.specs.Take.{Outcome}
use Rattle.ftc_serial.proofs.Functions.{with_at_cases}
use Rattle.ftc_protocol.specs.Setting.{Setting, servers, packet_at}
use Rattle.ftc_protocol.specs.State.{ChainState, Message, Withheld, opening}
use Rattle.ftc_protocol.specs.Legal.{is_sent}
use Rattle.ftc_protocol.specs.Next.{next, fresh_message, taken_message, visited_message, sent_message, is_away}
use Rattle.ftc_protocol.specs.Next.{withheld_of, withheld_packet, is_at, outcome_at}
use Rattle.ftc_protocol.specs.Recovery.{is_dropped, following_live}
use Rattle.ftc_protocol.specs.Run.{state_after}
use Rattle.ftc_protocol.proofs.LiveHolders.{kept_drop}

-- things that came each by an event of its own, before that one
pub record AreDated (A : Type 0) (since : A → ℕ) (now : ℕ) (f : ℕ → Option A) : Type 0 where
  pub clock : (p : ℕ) (a : A) → f p ≡ Some a → since a < now
  pub apart : (p q : ℕ) (a b : A) → f p ≡ Some a → f q ≡ Some b → since a ≡ since b → p ≡ q

-- a thing that was there
abbrev WasThere : (A : Type 0) → (A → ℕ) → (ℕ → Option A) → ℕ → A → Type 0
WasThere A since f q a = (old : A) × (f q ≡ Some old) × (since a ≡ since old)

-- one event brings one thing at most
dated_on : (A : Type 0) (since : A → ℕ) (now : ℕ) (f g : ℕ → Option A) (p : ℕ) → AreDated A since now f
    → ((q : ℕ) (a : A) → g q ≡ Some a → ((q ≡ p) × (since a ≡ now)) ⊎ WasThere A since f q a) →
    AreDated A since (now + 1) g
dated_on A since now f g p d each = record {
  clock = λ q a is. elim (each q a is) [
    | inl new ↦ let e : since a ≡ now = new.1 in omega arith
    | inr old ↦ let e : since a ≡ since old.0 = old.2 in let less = d.clock q old.0 old.1 in omega arith
  ];
  apart = λ q r a b is_a is_b same. elim (each q a is_a) [
    | inl new ↦ elim (each r b is_b) [
      | inl other ↦ new.0 ∙ sym other.0
      | inr old ↦ let e : since a ≡ now = new.1 in let o : since b ≡ since old.0 = old.2 in let less =
          d.clock r old.0 old.1 in absurd (omega arith)
    ]
    | inr was ↦ elim (each r b is_b) [
      | inl new ↦ let e : since b ≡ now = new.1 in let o : since a ≡ since was.0 = was.2 in let less =
          d.clock q was.0 was.1 in absurd (omega arith)
      | inr old ↦ d.apart q r was.0 old.0 was.1 old.1 (sym was.2 ∙ (same ∙ old.2))
    ]
  ];
}

-- where one place is changed
dated_at : (A : Type 0) (since : A → ℕ) (now : ℕ) (f : ℕ → Option A) (p : ℕ) (o : Option A) → AreDated A since now f
    → ((a : A) → o ≡ Some a → (since a ≡ now) ⊎ WasThere A since f p a) → AreDated A since (now + 1) (with_at f p o)
dated_at A since now f p o d here = dated_on A since now f (with_at f p o) p d
    (λ q a. with_at_cases (λ v. v ≡ Some a → ((q ≡ p) × (since a ≡ now)) ⊎ WasThere A since f q a) f p o q
    (λ same is. elim (here a is) [
      | inl new ↦ inl (same, new)
      | inr old ↦
          inr (old.0, subst (λ x. f x ≡ Some old.0) (sym same) old.1, old.2)
    ])
    (λ other is. inr (a, is, refl)))

-- where nothing comes
dated_kept : (A : Type 0) (since : A → ℕ) (now : ℕ) (f g : ℕ → Option A) → AreDated A since now f →
    ((q : ℕ) (a : A) → g q ≡ Some a → f q ≡ Some a) → AreDated A since (now + 1) g
dated_kept A since now f g d kept = dated_on A since now f g 0 d (λ q a is. inr (a, kept q a is, refl))

abbrev pub message_since : Message → ℕ
message_since m = m.since

abbrev pub withheld_since : Withheld → ℕ
withheld_since w = w.since

pub record IsDated (s : ChainState) : Type 0 where
  pub messages : AreDated Message message_since s.events s.message
  pub withheld : AreDated Withheld withheld_since s.events s.withheld

module _ (c : Setting) (s : ChainState) (d : IsDated s) where
  abbrev AtMessage : ℕ → Message → Type 0
  AtMessage p m = (message_since m ≡ s.events) ⊎ WasThere Message message_since s.message p m

  fresh_dated : (o : Option (List ℕ)) (p : ℕ) (m : Message) → Some (fresh_message s.events o) ≡ Some m → AtMessage p m
  fresh_dated o p m is = inl (sym (ap message_since (same_Some _ m is)))

  entered_dated : (p : ℕ) (b : Bool) (o : Option (List ℕ)) (m : Message) →
      (if b then Some (fresh_message s.events o) else s.message p) ≡ Some m → AtMessage p m
  entered_dated p true o m is = fresh_dated o p m is
  entered_dated p false o m is = inr (m, is, refl)

  taken_dated : (l p : ℕ) (o : Option Message) (m : Message) → taken_message c s l o ≡ Some m → AtMessage p m
  taken_dated l p None m is = absurd (none-some m is)
  taken_dated l p (Some old) m is = inl (sym (ap message_since (same_Some _ m is)))

  visited_dated : (k p : ℕ) (out : Outcome) (o : Option Message) → s.message p ≡ o → (m : Message) →
      visited_message c k p out o ≡ Some m → AtMessage p m
  visited_dated k p out None at m is = absurd (none-some m is)
  visited_dated k p out (Some old) at m is = inr (old, at, sym (ap message_since (same_Some _ m is)))

  sent_dated : (k p : ℕ) (b : Bool) (o : Option Message) (m : Message) →
      (if b then sent_message c s k o else None) ≡ Some m → AtMessage p m
  sent_dated k p false o m is = absurd (none-some m is)
  sent_dated k p true None m is = absurd (none-some m is)
  sent_dated k p true (Some old) m is = inl (sym (ap message_since (same_Some _ m is)))

  abbrev AtWithheld : ℕ → Withheld → Type 0
  AtWithheld p w = (withheld_since w ≡ s.events) ⊎ WasThere Withheld withheld_since s.withheld p w

  packet_dated : (p : ℕ) (m : Message) (o : Option (List ℕ)) (w : Withheld) → withheld_packet s m o ≡ Some w →
      AtWithheld p w
  packet_dated p m None w is = absurd (none-some w is)
  packet_dated p m (Some bytes) w is = inl (sym (ap withheld_since (same_Some _ w is)))

  buffer_dated : (p : ℕ) (b : Bool) (o : Option Message) (w : Withheld) →
      (if b then withheld_of s o else s.withheld p) ≡ Some w → AtWithheld p w
  buffer_dated p false o w is = inr (w, is, refl)
  buffer_dated p true None w is = absurd (none-some w is)
  buffer_dated p true (Some m) w is = packet_dated p m m.packet w is

  emptied : (b : Bool) (o : Option Withheld) (w : Withheld) → (if b then None else o) ≡ Some w → o ≡ Some w
  emptied true o w is = absurd (none-some w is)
  emptied false o w is = is

  still_messages : AreDated Message message_since (s.events + 1) s.message
  still_messages = dated_kept Message message_since s.events s.message s.message d.messages (λ q m is. is)

  still_withheld : AreDated Withheld withheld_since (s.events + 1) s.withheld
  still_withheld = dated_kept Withheld withheld_since s.events s.withheld s.withheld d.withheld (λ q w is. is)

  at_message : (p : ℕ) (o : Option Message) → ((m : Message) → o ≡ Some m → AtMessage p m) →
      AreDated Message message_since (s.events + 1) (with_at s.message p o)
  at_message p o here = dated_at Message message_since s.events s.message p o d.messages here

  left_dated : (k p : ℕ) (lost : Bool) →
      AreDated Withheld withheld_since (s.events + 1) (with_at s.withheld p (if k + 1 == servers c then
      withheld_of s (s.message p) else s.withheld p))
  left_dated k p lost = dated_at Withheld withheld_since s.events s.withheld p _ d.withheld
      (buffer_dated p (k + 1 == servers c) (s.message p))

  pub keeps_dated : (e : Event) → IsDated (next c s e)
  keeps_dated (Enter p) = record {
    messages = at_message p _ (entered_dated p (s.up 0) (Some (packet_at c p)));
    withheld = still_withheld;
  }
  keeps_dated (Take l p) = record {
    messages = at_message p _ (taken_dated l p (s.message p));
    withheld = still_withheld;
  }
  keeps_dated (Apply k p j q) = record { messages = still_messages; withheld = still_withheld }
  keeps_dated (Visit k p w) =
      record {
        messages = at_message p _ (visited_dated k p (outcome_at c s k p) (s.message p) refl);
        withheld = still_withheld;
      }
  keeps_dated (Pass k p) = record {
    messages = at_message p _
        (sent_dated k p (is_sent c k && not (is_away c s k false)) (s.message p));
    withheld = left_dated k p false;
  }
  keeps_dated (Lose k p) = record {
    messages = at_message p _
        (sent_dated k p (is_sent c k && not (is_away c s k true)) (s.message p));
    withheld = left_dated k p true;
  }
  keeps_dated (Carry p) = record {
    messages = at_message p None (λ m is. absurd (none-some m is));
    withheld = still_withheld;
  }
  keeps_dated (Crash k) = record {
    messages = dated_kept Message message_since s.events s.message _ d.messages
        (λ q m is. kept_drop (λ (x : Message). is_at c k x.place) (s.message q) m is);
    withheld = dated_kept Withheld withheld_since s.events s.withheld _ d.withheld
        (λ q w is. emptied (k + 1 == servers c) (s.withheld q) w is);
  }
  keeps_dated (Recover k undone) = record {
    messages = dated_kept Message message_since s.events s.message _ d.messages
        (λ q m is. kept_drop (is_dropped c s (following_live c s k)) (s.message q) m is);
    withheld = still_withheld;
  }
  keeps_dated (Pull l) = record { messages = still_messages; withheld = still_withheld }
  keeps_dated (Propagate p) = record { messages = at_message p _ (fresh_dated None p); withheld = still_withheld }
  keeps_dated (Release p) = record {
    messages = still_messages;
    withheld = dated_at Withheld withheld_since s.events s.withheld p None d.withheld (λ w is. absurd (none-some w is));
  }

pub opens_dated : (c : Setting) → IsDated (opening c)
opens_dated c = record {
  messages = record { clock = λ p m is. absurd (none-some m is); apart = λ p q m n is. absurd (none-some m is) };
  withheld = record { clock = λ p m is. absurd (none-some m is); apart = λ p q m n is. absurd (none-some m is) };
}

pub dated_on_all : (c : Setting) (journal : List Event) (s : ChainState) → IsDated s → IsDated (state_after c s journal)
dated_on_all c [] s d = d
dated_on_all c (e ∷ journal) s d = dated_on_all c journal (next c s e) (keeps_dated c s d e)
