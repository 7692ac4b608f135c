-- Each released packet has no more bytes than a record may have.
use Rattle.std.proofs.Common.{◌≡◌, ℕ, zero, suc, ◌+◌, ◌<◌, ◌≤◌, Bool, true, false, List, [], ◌∷◌, ◌++◌, length}
use Rattle.std.proofs.Common.{Option, Some, None, refl, sym, cond, subst}
use Rattle.std.specs.Prelude.{◌==◌, slice_get, option_map, option_and_then}
use Rattle.std.specs.List.{AllByRecursion}
use Rattle.std.proofs.lemmas.Bool.{eqb-true}
use Rattle.std.proofs.lemmas.Option.{slice_get-map, slice_get_within}
use Rattle.ftc_base.specs.declared.limits.TheConstants.{MOST_CAPTURED}
use Rattle.ftc_base.specs.declared.ask.Verdict.{Verdict}
use Rattle.ftc_base.specs.declared.ask.Verdict.TheVariants.{Forward, Filter}
use Rattle.ftc_base.specs.declared.released.Released.{Released}
use Rattle.ftc_base.proofs.EachOf.{all_push}
use Rattle.ftc_pcap.specs.declared.packets.Packet.{Packet}
use Rattle.ftc_mbox.specs.declared.rule.Rule.{Rule}
use Rattle.ftc_mbox.proofs.ChangedLengths.{changed_length}
use Rattle.ftc_mbox.specs.Change.{changed_packet, packet_after}
use Rattle.ftc_serial.specs.declared.position.Position.{Position}
use Rattle.ftc_serial.specs.declared.position.Position.TheVariants as position
use Rattle.ftc_serial.specs.declared.step.Step.{Step}
use Rattle.ftc_serial.specs.declared.step.Step.TheVariants.{Visit, Release}
use Rattle.ftc_serial.specs.Words.{with_at}
use Rattle.ftc_serial.specs.Take.{taken, asked}
use Rattle.ftc_serial.specs.Packets.{bytes_of_packets}
use Rattle.ftc_serial.specs.Serial.{State, serial_opening, Visited, Given, after, position_after, visit_at, release_at}
use Rattle.ftc_serial.specs.Serial.{serial_step, serial_run}
use Rattle.ftc_report.specs.Output.{IsWritable, AreWritable}

-- a packet of the capture, with no more bytes than a record may have
abbrev Fits : List Packet → ℕ → Option Position → Type 0
Fits packets packet (Some (position.Waiting server bytes)) = (packet < length packets) × (length bytes ≤ MOST_CAPTURED)
Fits packets packet (Some (position.Passed bytes)) = (packet < length packets) × (length bytes ≤ MOST_CAPTURED)
Fits packets packet (Some (position.Filtered server)) = Unit {0}
Fits packets packet (Some position.Released) = Unit {0}
Fits packets packet None = Unit {0}

record AllFit (packets : List Packet) (state : State) : Type 0 where
  places : (packet : ℕ) → Fits packets packet (state.place packet)
  released : AreWritable packets state.released

-- one place has changed
with_fit : (packets : List Packet) (place : ℕ → Option Position) (packet : ℕ) (next : Option Position) →
    ((other : ℕ) → Fits packets other (place other)) → Fits packets packet next → (other : ℕ) →
    Fits packets other (with_at place packet next other)
with_fit packets place packet next fit fits other =
    elim (other == packet) as (λ t. (other == packet) ≡ t → Fits packets other (cond t next (place other))) [
      | true ↦ λ same. subst (λ (p : ℕ). Fits packets p next) (sym (eqb-true other packet same)) fits
      | false ↦ λ _. fit other
    ] refl

after_verdict : (packets : List Packet) (servers server packet : ℕ) (bytes : List ℕ) (verdict : Verdict) →
    packet < length packets → length bytes ≤ MOST_CAPTURED →
    Fits packets packet (Some (position_after servers server (packet_after bytes verdict)))
after_verdict packets servers server packet bytes Filter known short = tt
after_verdict packets servers server packet bytes (Forward change) known short =
    let still : length (changed_packet bytes change) ≤ MOST_CAPTURED =
    subst (λ (n : ℕ). n ≤ MOST_CAPTURED) (sym (changed_length bytes change)) short in
    elim (server + 1 == servers) as
    (λ t. Fits packets packet
    (Some (cond t (position.Passed (changed_packet bytes change))
    (position.Waiting (server + 1) (changed_packet bytes change))))) [
      | true ↦ (known, still)
      | false ↦ (known, still)
    ]

visit_fits : (packets : List Packet) (rules : List Rule) (old new : State) (server packet : ℕ) (bytes : List ℕ)
    (rule : Option Rule) (test : Bool) → AllFit packets old → packet < length packets → length bytes ≤ MOST_CAPTURED
    → option_map (after (length rules) old)
    (cond test (option_map (λ rule. Visited server packet (taken rule bytes (old.maps server))) rule) None)
    ≡ Some new → AllFit packets new
visit_fits packets rules old new server packet bytes rule false fit known short is = absurd (cc)
visit_fits packets rules old new server packet bytes None true fit known short is = absurd (cc)
visit_fits packets rules old new server packet bytes (Some rule) true fit known short is =
    let same : after (length rules) old (Visited server packet (taken rule bytes (old.maps server))) ≡ new = cc in
    subst (AllFit packets) same (record {
      places = with_fit packets old.place packet
          (Some (position_after (length rules) server (taken rule bytes (old.maps server)).packet)) fit.places
          (after_verdict packets (length rules) server packet bytes
          (asked rule bytes (old.maps server)).end.verdict known short);
      released = fit.released;
    })

visit_at_fits : (packets : List Packet) (rules : List Rule) (old new : State) (server packet : ℕ)
    (place : Option Position) → AllFit packets old → Fits packets packet place →
    option_map (after (length rules) old) (visit_at rules old server packet place) ≡ Some new → AllFit packets new
visit_at_fits packets rules old new server packet (Some (position.Waiting waited bytes)) fit fits is =
    visit_fits packets rules old new server packet bytes (slice_get rules server)
    (waited == server) fit fits.0 fits.1 is
visit_at_fits packets rules old new server packet (Some (position.Passed bytes)) fit fits is = absurd (cc)
visit_at_fits packets rules old new server packet (Some (position.Filtered dropped)) fit fits is = absurd (cc)
visit_at_fits packets rules old new server packet (Some position.Released) fit fits is = absurd (cc)
visit_at_fits packets rules old new server packet None fit fits is = absurd (cc)

release_at_fits : (packets : List Packet) (rules : List Rule) (old new : State) (packet : ℕ) (place : Option Position) →
    AllFit packets old → Fits packets packet place →
    option_map (after (length rules) old) (release_at packet place) ≡ Some new → AllFit packets new
release_at_fits packets rules old new packet (Some (position.Waiting waited bytes)) fit fits is = absurd (cc)
release_at_fits packets rules old new packet (Some (position.Passed bytes)) fit fits is =
    let same : after (length rules) old (Given packet bytes) ≡ new = cc in
    subst (AllFit packets) same (record {
      places = with_fit packets old.place packet (Some position.Released) fit.places tt;
      released = all_push (IsWritable packets) old.released (record {
        packet = packet;
        bytes = bytes;
      }) fit.released fits;
    })
release_at_fits packets rules old new packet (Some (position.Filtered dropped)) fit fits is = absurd (cc)
release_at_fits packets rules old new packet (Some position.Released) fit fits is = absurd (cc)
release_at_fits packets rules old new packet None fit fits is = absurd (cc)

step_fits : (packets : List Packet) (rules : List Rule) (old new : State) (step : Step) → AllFit packets old →
    serial_step rules old step ≡ Some new → AllFit packets new
step_fits packets rules old new (Visit server packet) fit is =
    visit_at_fits packets rules old new server packet (old.place packet) fit (fit.places packet) is
step_fits packets rules old new (Release packet) fit is =
    release_at_fits packets rules old new packet (old.place packet) fit (fit.places packet) is

run_after : (packets : List Packet) (rules : List Rule) (steps : List Step) (end : State) (next : Option State) →
    ((state : State) → next ≡ Some state → AllFit packets state) →
    ((state : State) → AllFit packets state → serial_run rules state steps ≡ Some end → AllFit packets end) →
    option_and_then (λ state. serial_run rules state steps) next ≡ Some end → AllFit packets end
run_after packets rules steps end None fit on is = absurd (cc)
run_after packets rules steps end (Some state) fit on is = on state (fit state refl) is

run_fits : (packets : List Packet) (rules : List Rule) (steps : List Step) (start end : State) → AllFit packets start →
    serial_run rules start steps ≡ Some end → AllFit packets end
run_fits packets rules [] start end fit is = let same : start ≡ end = cc in subst (AllFit packets) same fit
run_fits packets rules (step ∷ steps) start end fit is =
    run_after packets rules steps end (serial_step rules start step)
    (λ state h. step_fits packets rules start state step fit h) (λ state. run_fits packets rules steps state end) is

-- at the serial_opening
short_at : (packets : List Packet) (packet : ℕ) (p : Packet) →
    AllByRecursion (λ p. length p.bytes ≤ MOST_CAPTURED) packets → slice_get packets packet ≡ Some p →
    length p.bytes ≤ MOST_CAPTURED
short_at [] packet p short is = absurd (cc)
short_at (q ∷ packets) zero p short is = let same : q ≡ p =
    cc in subst (λ (p : Packet). length p.bytes ≤ MOST_CAPTURED) same short.0
short_at (q ∷ packets) (suc packet) p short is = short_at packets packet p short.1 is

opening_place : (packets : List Packet) (packet : ℕ) (found : Option Packet) → slice_get packets packet ≡ found →
    AllByRecursion (λ p. length p.bytes ≤ MOST_CAPTURED) packets →
    Fits packets packet (option_map (position.Waiting 0) (option_map (λ p. p.bytes) found))
opening_place packets packet None is short = tt
opening_place packets packet (Some p) is short =
    (slice_get_within packets packet p is, short_at packets packet p short is)

opening_fits : (packets : List Packet) → AllByRecursion (λ p. length p.bytes ≤ MOST_CAPTURED) packets →
    AllFit packets (serial_opening (bytes_of_packets packets))
opening_fits packets short = record {
  places = λ packet. subst (λ (o : Option (List ℕ)). Fits packets packet (option_map (position.Waiting 0) o))
      (sym (slice_get-map (λ p. p.bytes) packets packet))
      (opening_place packets packet (slice_get packets packet) refl short);
  released = tt;
}

-- what a run from the serial_opening has released can be written
pub run_writable : (packets : List Packet) (rules : List Rule) (steps : List Step) (end : State) →
    AllByRecursion (λ p. length p.bytes ≤ MOST_CAPTURED) packets →
    serial_run rules (serial_opening (bytes_of_packets packets)) steps ≡ Some end → AreWritable packets end.released
run_writable packets rules steps end short is =
    (run_fits packets rules steps (serial_opening (bytes_of_packets packets)) end
    (opening_fits packets short) is).released
