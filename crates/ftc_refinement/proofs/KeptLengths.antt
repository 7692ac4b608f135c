-- The packet of a message stays as long as it came.
use Rattle.std.proofs.Common.{◌≡◌, ◌∙◌, ◌+◌, ◌==◌, ◌&&◌, ℕ, Bool, true, false, not, List, length, Option, Some, None}
use Rattle.std.proofs.Common.{sym, ap, subst, cond}
use Rattle.ftc_base.specs.declared.ask.Verdict.{Verdict}
use Rattle.ftc_base.specs.declared.ask.Verdict.TheVariants.{Forward, Filter}
use Rattle.ftc_journal.specs.declared.event.Event.{Event}
use Rattle.ftc_journal.specs.declared.event.Event.TheVariants.{Apply, Carry, Crash, Enter, Lose, Pass, Propagate, Pull}
use Rattle.ftc_journal.specs.declared.event.Event.TheVariants.{Recover, Release, Take, Visit}
use Rattle.ftc_mbox.proofs.ChangedLengths.{changed_length}
use Rattle.ftc_mbox.specs.Change.{changed_packet, packet_after}
use Rattle.ftc_serial.specs.Take.{Outcome, asked}
use Rattle.ftc_serial.specs.Words.{with_at}
use Rattle.ftc_serial.proofs.Functions.{with_at_cases}
use Rattle.ftc_protocol.specs.Setting.{Setting, servers, packet_at, rule_at}
use Rattle.ftc_protocol.specs.State.{ChainState, Message}
use Rattle.ftc_protocol.specs.Legal.{MayHappen, is_sent}
use Rattle.ftc_protocol.specs.Next.{next, bytes_in, message_bytes, fresh_message, taken_message, visited_message}
use Rattle.ftc_protocol.specs.Next.{outcome_at, sent_message, is_away, is_at, drop_if}
use Rattle.ftc_protocol.specs.Recovery.{following_live, is_dropped}
use Rattle.ftc_protocol.specs.Run.{IsRunState}
use Rattle.ftc_protocol.specs.Trace.{content_of}
use Rattle.ftc_refinement.proofs.AlongRuns.{in_each_state}

-- ---- a visit keeps the length

same_bytes : (one other : List ℕ) → Some one ≡ Some other → one ≡ other
same_bytes one other same = cc

after_length : (old : List ℕ) (verdict : Verdict) (bytes : List ℕ) → packet_after old verdict ≡ Some bytes →
    length bytes ≡ length old
after_length old (Forward change) bytes is =
    ap length (sym (same_bytes (changed_packet old change) bytes is)) ∙ changed_length old change
after_length old Filter bytes is = absurd cc

-- ---- what becomes of one message

-- its packet is as long as the one that came
abbrev IsAsLong : Setting → ℕ → Option Message → Type 0
IsAsLong setting origin None = Unit {0}
IsAsLong setting origin (Some message) =
    (bytes : List ℕ) → message.packet ≡ Some bytes → length bytes ≡ length (packet_at setting origin)

-- each message is so
pub record AreAsLong (setting : Setting) (state : ChainState) : Type 0 where
  pub each : (origin : ℕ) → IsAsLong setting origin (state.message origin)

of_one : (setting : Setting) (origin : ℕ) (message : Message) (bytes : List ℕ) (o : Option Message) → o ≡ Some message →
    message.packet ≡ Some bytes → IsAsLong setting origin o → length bytes ≡ length (packet_at setting origin)
of_one setting origin message bytes o there has long = (subst (IsAsLong setting origin) there long) bytes has

dropped : (setting : Setting) (origin : ℕ) (test : Message → Bool) (o : Option Message) → IsAsLong setting origin o →
    IsAsLong setting origin (drop_if test o)
dropped setting origin test None long = tt
dropped setting origin test (Some message) long =
    elim (test message) as (λ b. IsAsLong setting origin (cond b None (Some message))) [
      | true ↦ tt
      | false ↦ long
    ]

module _ (setting : Setting) (state : ChainState) where
  taken : (link origin : ℕ) (o : Option Message) → IsAsLong setting origin o →
      IsAsLong setting origin (taken_message setting state link o)
  taken link origin None long = tt
  taken link origin (Some message) long = long

  visited : (server packet : ℕ) (outcome : Outcome) (o : Option Message) →
      ((bytes : List ℕ) → outcome.packet ≡ Some bytes → length bytes ≡ length (packet_at setting packet)) →
      IsAsLong setting packet (visited_message setting server packet outcome o)
  visited server packet outcome None long = tt
  visited server packet outcome (Some message) long = long

  sent : (server origin : ℕ) (goes : Bool) (o : Option Message) → IsAsLong setting origin o →
      IsAsLong setting origin (cond goes (sent_message setting state server o) None)
  sent server origin false o long = tt
  sent server origin true None long = tt
  sent server origin true (Some message) long = λ bytes has. with_packet (server + 1 == servers setting) bytes has
    where
      with_packet : (last : Bool) (bytes : List ℕ) → cond last None message.packet ≡ Some bytes →
          length bytes ≡ length (packet_at setting origin)
      with_packet true bytes has = absurd cc
      with_packet false bytes has = long bytes has

  module _ (are : AreAsLong setting state) where
    changed : (origin : ℕ) (new : Option Message) → IsAsLong setting origin new → (other : ℕ) →
        IsAsLong setting other (with_at state.message origin new other)
    changed origin new long other =
        with_at_cases (IsAsLong setting other) state.message origin new other
        (λ same. subst (λ number. IsAsLong setting number new) (sym same) long) (λ differs. are.each other)

    entered : (packet : ℕ) (up : Bool) → IsAsLong setting packet
        (cond up (Some (fresh_message state.events (Some (packet_at setting packet)))) (state.message packet))
    entered packet true = λ bytes has. ap length (sym (same_bytes (packet_at setting packet) bytes has))
    entered packet false = are.each packet

    its_outcome : (server packet : ℕ) (message : Message) (old : List ℕ) → state.message packet ≡ Some message →
        message.packet ≡ Some old → (bytes : List ℕ) → (outcome_at setting state server packet).packet ≡ Some bytes →
        length bytes ≡ length (packet_at setting packet)
    its_outcome server packet message old there has bytes is =
        let before = message_bytes (state.message packet) in
        after_length before
        (asked (rule_at setting server) before
        (content_of state.trace (state.lists server server) server)).end.verdict bytes is
        ∙ (ap (λ o. length (message_bytes o)) there
        ∙ (ap (λ o. length (bytes_in o)) has
        ∙ of_one setting packet message old (state.message packet) there has (are.each packet)))

    keeps : (happens : Event) → MayHappen setting state happens → AreAsLong setting (next setting state happens)
    keeps (Enter packet) may = record {
      each = changed packet
          (cond (state.up 0) (Some (fresh_message state.events (Some (packet_at setting packet))))
          (state.message packet))
          (entered packet (state.up 0));
    }
    keeps (Take link origin) may = record {
      each = changed origin (taken_message setting state link (state.message origin))
          (taken link origin (state.message origin) (are.each origin));
    }
    keeps (Apply server origin group packet) may = record { each = are.each }
    keeps (Visit server packet worker) may = record {
      each = changed packet
          (visited_message setting server packet (outcome_at setting state server packet) (state.message packet))
          (visited server packet (outcome_at setting state server packet) (state.message packet)
          (its_outcome server packet may.0 may.1 may.3 may.5));
    }
    keeps (Pass server origin) may = record {
      each = changed origin
          (cond (is_sent setting server && not (is_away setting state server false))
          (sent_message setting state server (state.message origin)) None)
          (sent server origin (is_sent setting server
          && not (is_away setting state server false)) (state.message origin)
          (are.each origin));
    }
    keeps (Lose server origin) may = record {
      each = changed origin
          (cond (is_sent setting server && not (is_away setting state server true))
          (sent_message setting state server (state.message origin)) None)
          (sent server origin (is_sent setting server && not (is_away setting state server true)) (state.message origin)
          (are.each origin));
    }
    keeps (Carry origin) may = record { each = changed origin None tt }
    keeps (Crash server) may = record {
      each = λ origin. dropped setting origin (λ message. is_at setting server message.place) (state.message origin)
          (are.each origin);
    }
    keeps (Recover server undone) may = record {
      each = λ origin. dropped setting origin (is_dropped setting state (following_live setting state server))
          (state.message origin) (are.each origin);
    }
    keeps (Pull link) may = record { each = are.each }
    keeps (Propagate origin) may = record {
      each = changed origin (Some (fresh_message state.events None)) (λ bytes has. absurd cc);
    }
    keeps (Release packet) may = record { each = are.each }

-- ---- in each state of a run

pub length_kept : (setting : Setting) (state : ChainState) → IsRunState setting state → (origin : ℕ) (message : Message)
    (bytes : List ℕ) → state.message origin ≡ Some message → message.packet ≡ Some bytes →
    length bytes ≡ length (packet_at setting origin)
length_kept setting state run origin message bytes there has =
    let are = in_each_state setting (AreAsLong setting)
    (λ before happens long may. keeps setting before long happens may)
    state run (record { each = λ other. tt }) in
    of_one setting origin message bytes (state.message origin) there has (are.each origin)
