use Rattle.std.proofs.Common.{ℕ, List, subst}
use Rattle.ftc_base.specs.declared.refusal.Refuse.{Refuse}
use Rattle.ftc_gen.specs.Capture.{generated}
use Rattle.ftc_gen.specs.Packets.{generated_capture}
use Rattle.ftc_pcap.specs.Grammar.{Spells, IsFault, Refuses}
use Rattle.ftc_pcap.specs.declared.capture.CaptureFault.{CaptureFault}
use Rattle.ftc.proofs.making.made_capture.Goals as goal

pub unreachable-requires : goal.unreachable-requires
unreachable-requires c =
    let fault = c.in-Err-Bad.field-0-0 in
    let refused : IsFault c.args.bytes.now fault =
    subst (λ (r : Refuse CaptureFault). Refuses c.args.bytes.now r) c.in-Err-Bad.field-0-is c.in-Err-Bad.ensures.fault
    in
    c.one_fault.ensures.none (generated c.args.packets c.args.seed) (generated_capture c.args.packets c.args.seed) fault
    (c.is_a_capture.ensures.capture c.args.packets c.args.seed c.requires.few)
    (subst (λ (t : List ℕ). IsFault t fault) c.requires.bytes refused)

pub returns-in-Ok : goal.returns-in-Ok
returns-in-Ok c =
    c.one_reading.ensures (generated c.args.packets c.args.seed) c.in-Ok.capture
    (generated_capture c.args.packets c.args.seed)
    (subst (λ (t : List ℕ). Spells t c.in-Ok.capture) c.requires.bytes c.in-Ok.ensures.found)
    (c.is_a_capture.ensures.capture c.args.packets c.args.seed c.requires.few)
