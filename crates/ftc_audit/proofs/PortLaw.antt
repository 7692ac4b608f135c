-- At a translator inside endpoints are equal exactly where their outside ports are.
use Rattle.std.proofs.Common.{◌≡◌, ◌≤◌, ◌↔◌, ◌∙◌, ◌⊎◌, inl, inr, sym, ap, subst, refl, ℕ, true, false, List, [], ◌∷◌}
use Rattle.std.proofs.Common.{take, drop, get_or, Option, Some, None, arith, MatchOption}
use Rattle.std.specs.Prelude.{slice_get, if◌then◌else◌, option_and_then}
use Rattle.std.specs.Int.{w16, w32, from_be_bytes}
use Rattle.std.specs.Ordering.{nat_cmp}
use Rattle.std.specs.Cmp.Lexicographic.{slice_cmp}
use Rattle.std.specs.FinMap.{empty, get-empty}
use Rattle.ftc_base.specs.Ask.{number_in}
use Rattle.std.proofs.lemmas.Nat.{from_be_bytes-to_be_bytes_2, from_be_bytes-to_be_bytes_4}
use Rattle.ftc_packet.specs.declared.flow.Flow.{Flow}
use Rattle.ftc_packet.specs.Layout.{AreBytes}
use Rattle.ftc_packet.specs.Flow.{IsFlow, flow_in, flow_found}
use Rattle.ftc_packet.proofs.FlowsFound.{flows_are_found}
use Rattle.ftc_nat.specs.declared.rule.NatRule.{NatRule}
use Rattle.ftc_nat.specs.Bounds.{IsNatRule}
use Rattle.ftc_nat.specs.Nat.{outside_port_key, leaves}
use Rattle.ftc_store.specs.Store.{Content}
use Rattle.std.specs.List.{AllByRecursion}
use Rattle.std.proofs.lemmas.Option.{same_Some}
use Rattle.ftc_packet.proofs.RightSums.{word_most}
use Rattle.ftc_mbox.specs.Bounds.{IsRule}
use Rattle.ftc_mbox.specs.declared.rule.Rule.{Rule}
use Rattle.ftc_mbox.specs.declared.rule.Rule.TheVariants.{Nat}
use Rattle.ftc_serial.proofs.Functions.{any_of_all}
use Rattle.ftc_serial.specs.declared.step.Step.{Step}
use Rattle.ftc_serial.specs.Serial.{serial_opening}
use Rattle.ftc_audit.specs.declared.line.PortLine.{PortLine}
use Rattle.ftc_audit.specs.Visits.{Seen, Gave, AreOfBytes, visits}
use Rattle.ftc_audit.specs.Ports.{source_port, port_line_of_flow, port_line_of, SameInside}
use Rattle.ftc_audit.proofs.ByteRuns.{rule_at, stay_bytes}
use Rattle.ftc_audit.proofs.Runs.{end_of, ends_holding, ends_given}
use Rattle.ftc_audit.proofs.Translating.{port_at, HasPort, Holds, translating}

abbrev pub key_of : PortLine → List ℕ
key_of line = outside_port_key line.protocol line.address line.port

-- an address of 32 bits and a port of 16
pub record IsPortLine (line : PortLine) : Type 0 where
  pub address : line.address ≤ 4294967295
  pub port : line.port ≤ 65535

flow_fits : (rule : NatRule) (bytes : List ℕ) (after : Option (List ℕ)) (line : PortLine) (flow : Flow)
    → AreBytes bytes → flow ≡ flow_in bytes
    → port_line_of_flow rule after flow ≡ Some line → (line.address ≡ (flow_in bytes).source)
    × (line.port ≡ (flow_in bytes).source_port)
flow_fits rule bytes None line flow are is told = absurd (cc)
flow_fits rule bytes (Some after) line flow are is told =
    elim (leaves rule flow) as (λ t. (if t then Some (record {
      outside = source_port (flow_found after);
      protocol = flow.protocol;
      address = flow.source;
      port = flow.source_port;
    }) else None) ≡ Some line → (line.address ≡ (flow_in bytes).source) × (line.port ≡ (flow_in bytes).source_port)) [
      | true ↦ λ some.
          let same : record {
            outside = source_port
                (flow_found after);
            protocol = flow.protocol;
            address = flow.source;
            port = flow.source_port;
          } ≡ line = cc in (
            sym (ap (λ (l : PortLine). l.address) same) ∙ ap (λ (f : Flow). f.source) is,
            sym (ap (λ
                (l : PortLine). l.port) same) ∙ ap (λ (f : Flow). f.source_port) is,
          )
      | false ↦ λ none. absurd (cc)
    ] told

source_fits : (bytes : List ℕ) → AreBytes bytes → ((flow_in bytes).source ≤ 4294967295)
    × ((flow_in bytes).source_port ≤ 65535)
unfolding flow_in
source_fits bytes are = (omega (arith, word_most bytes 26 are, word_most bytes 28 are), word_most bytes _ are)

-- the line of a packet of bytes
line_fits : (rule : NatRule) (seen : Seen) (line : PortLine) → AreBytes seen.before → port_line_of rule seen ≡ Some line
    → IsPortLine line
line_fits rule seen line are told =
    elim (flow_found seen.before) as (λ (o : Option Flow). flow_found seen.before ≡ o
    → option_and_then (port_line_of_flow rule seen.outcome.packet) o ≡ Some line → IsPortLine line) [
      | None ↦ λ _ none. absurd (cc)
      | Some flow ↦ λ found some.
          let is = subst (λ (o : Option Flow). MatchOption o (¬ IsFlow seen.before) (λ f. IsFlow seen.before
          × (f ≡ flow_in seen.before))) found (flows_are_found seen.before) in
          let same = flow_fits rule seen.before seen.outcome.packet line flow are is.1 some in
          let fits = source_fits seen.before are in
          record { address = omega (arith, same.0, fits.0); port = omega (arith, same.1, fits.1) }
    ] refl told

pub gave_fits : (rule : NatRule) (server : ℕ) (run : List Seen) (line : PortLine) → AreOfBytes run
    → Gave (port_line_of rule) server run line → IsPortLine line
gave_fits rule server run line are gave =
    any_of_all _ (λ (seen : Seen). AreBytes seen.before) run
    (λ seen told bytes. line_fits rule seen line bytes told.1) gave are

-- a line that was given is of TCP or of UDP
flow_named : (rule : NatRule) (after : Option (List ℕ)) (line : PortLine) (flow : Flow)
    → port_line_of_flow rule after flow ≡ Some line → line.protocol ≡ flow.protocol
flow_named rule None line flow told = absurd (cc)
flow_named rule (Some after) line flow told =
    elim (leaves rule flow) as (λ t. (if t then Some (record {
      outside = source_port (flow_found after);
      protocol = flow.protocol;
      address = flow.source;
      port = flow.source_port;
    }) else None) ≡ Some line → line.protocol ≡ flow.protocol) [
      | true ↦ λ some.
          let same : record {
            outside = source_port (flow_found after);
            protocol = flow.protocol;
            address = flow.source;
            port = flow.source_port;
          } ≡ line = cc in
          sym (ap (λ (l : PortLine). l.protocol) same)
      | false ↦ λ none. absurd (cc)
    ] told

flow_carries : (bytes : List ℕ) → IsFlow bytes → ((flow_in bytes).protocol ≡ 6) ⊎ ((flow_in bytes).protocol ≡ 17)
unfolding flow_in
flow_carries bytes is = is.carries

line_named : (rule : NatRule) (seen : Seen) (line : PortLine) → port_line_of rule seen ≡ Some line
    → (line.protocol ≡ 6) ⊎ (line.protocol ≡ 17)
line_named rule seen line told =
    elim (flow_found seen.before) as (λ (o : Option Flow). flow_found seen.before ≡ o
    → option_and_then (port_line_of_flow rule seen.outcome.packet) o ≡ Some line
    → (line.protocol ≡ 6) ⊎ (line.protocol ≡ 17)) [
      | None ↦ λ _ none. absurd (cc)
      | Some flow ↦ λ found some.
          let is = subst (λ (o : Option Flow). MatchOption o (¬ IsFlow seen.before) (λ f. IsFlow seen.before
          × (f ≡ flow_in seen.before))) found (flows_are_found seen.before) in
          let same : line.protocol ≡ (flow_in seen.before).protocol =
          flow_named rule seen.outcome.packet line flow some ∙ ap (λ (f : Flow). f.protocol) is.1 in
          subst (λ (n : ℕ). (n ≡ 6) ⊎ (n ≡ 17)) (sym same) (flow_carries seen.before is.0)
    ] refl told

pub gave_named : (rule : NatRule) (server : ℕ) (run : List Seen) (line : PortLine)
    → Gave (port_line_of rule) server run line → (line.protocol ≡ 6) ⊎ (line.protocol ≡ 17)
gave_named rule server [] line gave = absurd gave
gave_named rule server (seen ∷ run) line (inl (is, told)) = line_named rule seen line told
gave_named rule server (seen ∷ run) line (inr more) = gave_named rule server run line more

-- the key tells the endpoint
pub same_inside : (one other : PortLine) → IsPortLine one → IsPortLine other → key_of one ≡ key_of other
    → SameInside one other
same_inside one other fits also same = record {
  protocol = ap (λ (key : List ℕ). get_or key 1 0) same;
  address =
      sym (from_be_bytes-to_be_bytes_4 one.address (omega (arith, fits.address)))
      ∙ (ap (λ (key : List ℕ). from_be_bytes w32 (take 4 (drop 2 key))) same
      ∙ from_be_bytes-to_be_bytes_4 other.address (omega (arith, also.address)));
  port =
      sym (from_be_bytes-to_be_bytes_2 one.port (omega (arith, fits.port)))
      ∙ (ap (λ (key : List ℕ). from_be_bytes w16 (drop 6 key)) same
      ∙ from_be_bytes-to_be_bytes_2 other.port (omega (arith, also.port)));
}

pub same_key : (one other : PortLine) → SameInside one other → key_of one ≡ key_of other
same_key one other same = rw (same.protocol, same.address, same.port) refl

-- an empty store has no port
no_port : (key : List ℕ) (port : ℕ) → port_at empty key ≡ Some port → ⊥
no_port key port has =
    let same : None ≡ Some port = sym (ap (number_in w16) (get-empty (slice_cmp nat_cmp) key)) ∙ has in
    absurd (cc)

pub starts_holding : (rule : NatRule) → Holds rule empty
starts_holding rule = record {
  below = λ key port begins has. absurd (no_port key port has);
  apart = λ key other port begins also has too. absurd (no_port key port has);
}

pub ports_apart : (rules : List Rule) (packets : List (List ℕ)) (steps : List Step) (server : ℕ) (rule : NatRule)
    (one other : PortLine) → AllByRecursion IsRule rules → AllByRecursion AreBytes packets
    → slice_get rules server ≡ Some (Nat rule)
    → Gave (port_line_of rule) server (visits rules (serial_opening packets) steps) one
    → Gave (port_line_of rule) server (visits rules (serial_opening packets) steps) other
    → SameInside one other ↔ (one.outside ≡ other.outside)
ports_apart rules packets steps server rule one other all bytes known gave given =
    let few : IsNatRule rule = rule_at rules server (Nat rule) all known in
    let are = stay_bytes rules packets steps all bytes in
    let kept = translating rule few.last in
    let start = serial_opening packets in
    let content : Content = (end_of rules start steps).maps server in
    let empty_holds = starts_holding rule in
    let held : Holds rule content = ends_holding (Nat rule) (port_line_of rule)
    (Holds rule) HasPort kept rules server known start steps empty_holds in
    let has : HasPort content one = ends_given (Nat rule) (port_line_of rule)
    (Holds rule) HasPort kept rules server known one start steps empty_holds gave in
    let too : HasPort content other = ends_given (Nat rule) (port_line_of rule)
    (Holds rule) HasPort kept rules server known other start steps empty_holds given in (
      λ same. same_Some one.outside other.outside (sym has ∙ (ap (port_at content) (same_key one other same) ∙ too)),
      λ equal. same_inside one other (gave_fits rule server (visits rules start steps) one are gave)
          (gave_fits rule server (visits rules start steps) other are given)
          (held.apart (key_of one) (key_of other) one.outside (_, refl) (_, refl) has (too ∙ ap Some (sym equal))),
    )
