use Rattle.std.proofs.Common.{◌∙◌, ap, sym, ◌++◌, ◌∷◌, [], List, map, arith}
use Rattle.std.specs.List.{range_with_len}
use Rattle.std.proofs.lemmas.List.FromFn.{map-range_with_len_more}
use Rattle.ftc_protocol.specs.declared.fate.Fate.{Fate}
use Rattle.ftc_machine.specs.Represents.{fate_in}
use Rattle.ftc_machine.proofs.state.MachineState.fates.Goals as goal

pub loop-packet-preserved : goal.loop-packet-preserved
loop-packet-preserved c = record {
  fates = c.in_ok-push.ensures.ok
      ∙ (ap (λ (fates : List Fate). fates ++ c.fate.result ∷ []) c.loop-packet.invariant.fates
      ∙ (ap (λ (fate : Fate). map (fate_in c.args.self.now.fates) (range_with_len 0 c.loop-packet.packet)
      ++ fate ∷ []) c.fate.ensures
      ∙ sym (map-range_with_len_more (fate_in c.args.self.now.fates) 0 c.loop-packet.packet c.loop-packet.packet
      (omega arith))));
}
