-- What a run was handed: its packets' bytes and its rules.
use Rattle.std.proofs.Common.{◌≡◌, ℕ, zero, suc, List, [], ◌∷◌, length, slice_get, slice_index_or, Some, refl, sym, ap}
use Rattle.std.proofs.Common.{subst, ◌∙◌}
use Rattle.ftc_pcap.specs.declared.packets.Packet.{Packet}
use Rattle.ftc_mbox.specs.declared.rule.Rule.{Rule}
use Rattle.ftc_mbox.specs.declared.rule.Rule.TheVariants.{Pass}
use Rattle.ftc_serial.specs.Packets.{bytes_of_packets}
use Rattle.ftc_mbox.specs.Chain.{Chain}
use Rattle.ftc_script.specs.Script.{ScriptShape}
use Rattle.ftc_machine.specs.Represents.{AreInputs}
use Rattle.ftc_protocol.specs.Setting.{Setting, setting_of, packet_at, rule_at}

bytes_at : (packets : List Packet) (place : ℕ) (packet : Packet) → slice_get packets place ≡ Some packet →
    packet.bytes ≡ slice_index_or (bytes_of_packets packets) place []
bytes_at [] place packet there = absurd (cc)
bytes_at (first ∷ packets) zero packet there = ap (λ (p : Packet). p.bytes) (let same : first ≡ packet = cc in sym same)
bytes_at (first ∷ packets) (suc place) packet there = bytes_at packets place packet there

pub packet_bytes : (c : Setting) (packets : List Packet) (place : ℕ) (packet : Packet) →
    c.packets ≡ bytes_of_packets packets → slice_get packets place ≡ Some packet → packet.bytes ≡ packet_at c place
packet_bytes c packets place packet are there =
    subst (λ all. packet.bytes ≡ slice_index_or all place []) (sym are) (bytes_at packets place packet there)

rule_there : (rules : List Rule) (place : ℕ) (rule : Rule) → slice_get rules place ≡ Some rule →
    rule ≡ slice_index_or rules place Pass
rule_there [] place rule there = absurd (cc)
rule_there (first ∷ rules) zero rule there = let same : first ≡ rule = cc in sym same
rule_there (first ∷ rules) (suc place) rule there = rule_there rules place rule there

pub rule_is : (c : Setting) (rules : List Rule) (place server : ℕ) (rule : Rule) → c.rules ≡ rules → place ≡ server →
    slice_get rules place ≡ Some rule → rule ≡ rule_at c server
rule_is c rules place server rule are same there =
    subst (λ n. rule ≡ rule_at c n) same
    (subst (λ all. rule ≡ slice_index_or all place Pass) (sym are) (rule_there rules place rule there))

-- there are as many packets as bytes of packets
pub bytes_count : (packets : List Packet) → length (bytes_of_packets packets) ≡ length packets
bytes_count [] = refl
bytes_count (packet ∷ packets) = ap suc (bytes_count packets)

-- the script and the count of packets of a setting that is made of them
pub inputs_of : (chain : Chain) (packets : List Packet) (script : ScriptShape) (most : ℕ) → length packets ≡ most →
    AreInputs (setting_of chain (bytes_of_packets packets) script) script most
inputs_of chain packets script most same =
    record { lines = refl; loses = λ link origin. refl; counted = bytes_count packets ∙ same }
