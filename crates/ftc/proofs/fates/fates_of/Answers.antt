use Rattle.std.proofs.Common.{◌≡◌, ◌<◌, ◌∙◌, ℕ, List, Option, map, sym, subst}
use Rattle.std.specs.List.{range_with_len}
use Rattle.std.specs.Prelude.{IfSome}
use Rattle.ftc_machine.proofs.RunInputs.{bytes_count}
use Rattle.ftc_protocol.specs.declared.fate.Fate.{Fate}
use Rattle.ftc_protocol.specs.Setting.{Setting, count, setting_of}
use Rattle.ftc_serial.specs.Held.{serial_state}
use Rattle.ftc_serial.specs.Packets.{bytes_of_packets}
use Rattle.ftc.specs.Settled.{AreFatesOf}
use Rattle.ftc.proofs.FateLemmas.{places_there, fates_are}
use Rattle.ftc.proofs.fates.fates_of.Goals as goal

pub fates_by_place-requires : goal.fates_by_place-requires
fates_by_place-requires c =
    let texts = c.args.texts.now in
    let setting : Setting = setting_of texts.spec (bytes_of_packets texts.capture.packets) texts.script in
    let same : c.len.result ≡ count setting = c.len.ensures.same ∙ sym (bytes_count texts.capture.packets) in
    λ packet below. places_there setting c.args.journal.now.items
    (serial_state c.args.serial.now) c.requires.finished packet
    (subst (λ (packets : ℕ). packet < packets) same below)

pub fates_of-requires : goal.fates_of-requires
fates_of-requires c = record {
  ring = c.requires.ring;
  packets = c.requires.packets;
  run = c.requires.finished.whole.run;
}

pub returns-in-Some : goal.returns-in-Some
returns-in-Some c =
    let texts = c.args.texts.now in
    let setting : Setting = setting_of texts.spec (bytes_of_packets texts.capture.packets) texts.script in
    let same : c.len.result ≡ count setting = c.len.ensures.same ∙ sym (bytes_count texts.capture.packets) in
    fates_are c.what_a_run_released.ensures.released c.what_a_run_released.ensures.filtered setting
    c.args.journal.now.items (serial_state c.args.serial.now) c.requires.finished c.len.result same c.in-Some.fates
    (subst (λ (found : Option (List Fate)). IfSome found (λ fates. (fate : ℕ → Fate) →
    AreFatesOf (serial_state c.args.serial.now).place fate → fates ≡ map fate (range_with_len 0 c.len.result)))
    c.in-Some.is c.in_ok-fates.ensures)
