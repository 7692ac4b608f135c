-- A message that is behind the last server, or came from there, has no packet.
use Rattle.std.proofs.Common.{◌≡◌, ◌∙◌, ◌+◌, ◌&&◌, ℕ, Bool, true, false, not, List, Option, Some, None, refl, sym, ap}
use Rattle.std.proofs.Common.{subst, cond, eq-eqb, eqb-true}
use Rattle.ftc_journal.specs.declared.event.Event.{Event}
use Rattle.ftc_journal.specs.declared.event.Event.TheVariants.{Apply, Carry, Crash, Enter, Lose, Pass, Propagate, Pull}
use Rattle.ftc_journal.specs.declared.event.Event.TheVariants.{Recover, Release, Take, Visit}
use Rattle.ftc_serial.specs.Take.{Outcome}
use Rattle.ftc_serial.specs.Words.{with_at}
use Rattle.ftc_serial.proofs.Functions.{with_at_cases}
use Rattle.ftc_protocol.specs.Setting.{Setting, servers, packet_at}
use Rattle.ftc_protocol.specs.State.{ChainState, Message, Where, Held, Queued}
use Rattle.ftc_protocol.specs.Legal.{MayHappen, is_sent}
use Rattle.ftc_protocol.specs.Next.{next, fresh_message, taken_message, visited_at, visited_message, outcome_at}
use Rattle.ftc_protocol.specs.Next.{sent_message, is_away, is_at, drop_if}
use Rattle.ftc_protocol.specs.Orderly.{IsPast}
use Rattle.ftc_protocol.specs.Recovery.{following_live, is_dropped}
use Rattle.ftc_protocol.specs.Run.{IsRunState}
use Rattle.ftc_refinement.proofs.AlongRuns.{in_each_state}

-- behind the last server it has no packet
abbrev IsBare : ℕ → Option Message → Type 0
IsBare size None = Unit {0}
IsBare size (Some message) = IsPast size message.place → message.packet ≡ None

-- each message is so
pub record AreBare (setting : Setting) (state : ChainState) : Type 0 where
  pub each : (origin : ℕ) → IsBare (servers setting) (state.message origin)

-- ---- what becomes of one message

dropped : (size : ℕ) (test : Message → Bool) (o : Option Message) → IsBare size o → IsBare size (drop_if test o)
dropped size test None bare = tt
dropped size test (Some message) bare = elim (test message) as (λ b. IsBare size (cond b None (Some message))) [
  | true ↦ tt
  | false ↦ bare
]

was_past : (size : ℕ) (place : Where) → IsPast size (visited_at place) → IsPast size place
was_past size (Held server visited by_ring) past = past
was_past size (Queued link) past = past

module _ (setting : Setting) (state : ChainState) where
  taken : (link : ℕ) (message : Message) (o : Option Message) → o ≡ Some message → message.place ≡ Queued link →
      IsBare (servers setting) o → IsBare (servers setting) (taken_message setting state link o)
  taken link message None is place bare = tt
  taken link message (Some other) is place bare = λ past.
      let same : message ≡ other = cc in
      bare (subst (IsPast (servers setting)) (sym (ap (λ (m : Message). m.place) (sym same) ∙ place))
      (eqb-true (link + 1) (servers setting) past))

  visited : (server packet : ℕ) (outcome : Outcome) (message : Message) (bytes : List ℕ) (o : Option Message) →
      o ≡ Some message → message.packet ≡ Some bytes → IsBare (servers setting) o →
      IsBare (servers setting) (visited_message setting server packet outcome o)
  visited server packet outcome message bytes None is has bare = tt
  visited server packet outcome message bytes (Some other) is has bare = λ past.
      let same : message ≡ other = cc in
      let none = bare (was_past (servers setting) other.place past) in
      let some : other.packet ≡ Some bytes = ap (λ (m : Message). m.packet) (sym same) ∙ has in
      absurd cc

  sent : (server : ℕ) (goes : Bool) (o : Option Message) →
      IsBare (servers setting) (cond goes (sent_message setting state server o) None)
  sent server false o = tt
  sent server true None = tt
  sent server true (Some message) = λ past.
      ap (λ b. cond b None message.packet) (eq-eqb (server + 1) (servers setting) past)

  module _ (are : AreBare setting state) where
    changed : (origin : ℕ) (new : Option Message) → IsBare (servers setting) new → (other : ℕ) →
        IsBare (servers setting) (with_at state.message origin new other)
    changed origin new bare other =
        with_at_cases (IsBare (servers setting)) state.message origin new other (λ e. bare) (λ differs. are.each other)

    entered : (packet : ℕ) (up : Bool) → IsBare (servers setting)
        (cond up (Some (fresh_message state.events (Some (packet_at setting packet)))) (state.message packet))
    entered packet true = λ past. absurd cc
    entered packet false = are.each packet

    keeps : (happens : Event) → MayHappen setting state happens → AreBare setting (next setting state happens)
    keeps (Enter packet) may = record {
      each = changed packet
          (cond (state.up 0) (Some (fresh_message state.events (Some (packet_at setting packet))))
          (state.message packet))
          (entered packet (state.up 0));
    }
    keeps (Take link origin) may = record {
      each = changed origin (taken_message setting state link (state.message origin))
          (taken link may.0 (state.message origin) may.1 may.2 (are.each origin));
    }
    keeps (Apply server origin group packet) may = record { each = are.each }
    keeps (Visit server packet worker) may = record {
      each = changed packet
          (visited_message setting server packet (outcome_at setting state server packet) (state.message packet))
          (visited server packet (outcome_at setting state server packet) may.0 may.1 (state.message packet) may.3 may.5
          (are.each packet));
    }
    keeps (Pass server origin) may = record {
      each = changed origin
          (cond (is_sent setting server && not (is_away setting state server false))
          (sent_message setting state server (state.message origin)) None)
          (sent server (is_sent setting server && not (is_away setting state server false)) (state.message origin));
    }
    keeps (Lose server origin) may = record {
      each = changed origin
          (cond (is_sent setting server && not (is_away setting state server true))
          (sent_message setting state server (state.message origin)) None)
          (sent server (is_sent setting server && not (is_away setting state server true)) (state.message origin));
    }
    keeps (Carry origin) may = record { each = changed origin None tt }
    keeps (Crash server) may = record {
      each = λ origin. dropped (servers setting) (λ message. is_at setting server message.place) (state.message origin)
          (are.each origin);
    }
    keeps (Recover server undone) may = record {
      each = λ origin. dropped (servers setting) (is_dropped setting state (following_live setting state server))
          (state.message origin) (are.each origin);
    }
    keeps (Pull link) may = record { each = are.each }
    keeps (Propagate origin) may = record {
      each = changed origin (Some (fresh_message state.events None)) (λ past. refl);
    }
    keeps (Release packet) may = record { each = are.each }

-- ---- in each state of a run

of_one : (size : ℕ) (message : Message) (o : Option Message) → o ≡ Some message → IsBare size o →
    IsPast size message.place → message.packet ≡ None
of_one size message o there bare past = (subst (IsBare size) there bare) past

pub bare_past : (setting : Setting) (state : ChainState) → IsRunState setting state → (origin : ℕ) (message : Message) →
    state.message origin ≡ Some message → IsPast (servers setting) message.place → message.packet ≡ None
bare_past setting state run origin message there past =
    let are = in_each_state setting (AreBare setting)
    (λ before happens bare may. keeps setting before bare happens may) state
    run (record { each = λ other. tt }) in
    of_one (servers setting) message (state.message origin) there (are.each origin) past
