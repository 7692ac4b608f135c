-- The counts of a network have room where a job is legal.
use Rattle.std.proofs.Common.{◌≡◌, ◌<◌, ◌≤◌, ◌∙◌, ℕ, zero, suc, List, [], ◌∷◌, Some, drop, length, slice_get}
use Rattle.std.proofs.Common.{slice_index_or, sym, ap, subst, arith}
use Rattle.std.proofs.lemmas.List.{length-map}
use Rattle.std.proofs.lemmas.Option.{slice_get-map, get_or_from_slice_get}
use Rattle.std.specs.Option.{option_map}
use Rattle.ftc_journal.specs.declared.job.Job.TheVariants as job
use Rattle.ftc_pcap.specs.declared.packets.Packet.{Packet}
use Rattle.ftc_protocol.specs.Legal.{IsNextLine}
use Rattle.ftc_protocol.specs.Measure.{most_messages}
use Rattle.ftc_protocol.specs.Setting.{Setting, count}
use Rattle.ftc_script.specs.declared.line.ScriptLine.{ScriptLine}
use Rattle.ftc_serial.specs.Packets.{bytes_of_packets}
use Rattle.ftc_network.specs.declared.network.Network.{Network}
use Rattle.ftc_chain.specs.Doing.{MayDo}
use Rattle.ftc_chain.proofs.Permitted.{is_below}

-- the bytes of a packet of a capture
pub bytes_at : (packets : List Packet) (place : ℕ) (packet : Packet) → slice_get packets place ≡ Some packet →
    packet.bytes ≡ slice_index_or (bytes_of_packets packets) place []
bytes_at packets place packet same = sym (get_or_from_slice_get (bytes_of_packets packets) place packet.bytes []
    (slice_get-map (λ (p : Packet). p.bytes) packets place ∙ ap (option_map (λ (p : Packet). p.bytes)) same))

-- there are as many as packets
pub bytes_count : (packets : List Packet) → length (bytes_of_packets packets) ≡ length packets
bytes_count packets = length-map packets (λ (p : Packet). p.bytes)

pub few_bytes : (packets : List Packet) (most : ℕ) → length packets ≤ most → length (bytes_of_packets packets) ≤ most
few_bytes packets most few = omega (arith, few, length-map packets (λ (p : Packet). p.bytes))

-- of packets that entered
pub room_to_enter : {setting : Setting} {packet : ℕ} {network : Network} →
    ∥ MayDo setting (job.Enter packet) network ∥₁ → (most : ℕ) → count setting ≤ most → network.entered < most
room_to_enter {network = network} may most few =
    is_below may network.entered most (λ given.
    let same = given.legal.0.0 in
    let below = given.legal.0.1 in
    omega (arith, given.stands.counts.entered_is, same, below, few))

there : (lines : List ScriptLine) (done : ℕ) (line : ScriptLine) → IsNextLine (drop done lines) line →
    done < length lines
there [] zero line next = absurd next
there [] (suc done) line next = absurd next
there (first ∷ lines) zero line next = omega arith
there (first ∷ lines) (suc done) line next = let below = there lines done line next in omega arith

-- of lines of the script that are done
pub line_there : (lines left : List ScriptLine) (done : ℕ) (line : ScriptLine) → left ≡ drop done lines →
    IsNextLine left line → done < length lines
line_there lines left done line same next =
    there lines done line (subst (λ (l : List ScriptLine). IsNextLine l line) same next)

-- of messages that began without a packet
pub room_to_propagate : {setting : Setting} {origin : ℕ} {network : Network} →
    ∥ MayDo setting (job.Propagate origin) network ∥₁ → (most : ℕ) → most_messages setting ≤ most →
    (MayDo setting (job.Propagate origin) network → origin < most_messages setting) → network.propagates < most
room_to_propagate {network = network} may most few within =
    is_below may network.propagates most (λ given.
    let same = given.legal.0.4 in
    let below = within given in
    omega (arith, given.stands.counts.propagates_is, same, below, few))
