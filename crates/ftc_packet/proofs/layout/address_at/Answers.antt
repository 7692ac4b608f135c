use Rattle.std.proofs.Common.{◌∙◌}
use Rattle.ftc_packet.proofs.WordSlices.{big_number-address_at}
use Rattle.ftc_packet.proofs.layout.address_at.Goals as goal

pub returns : goal.returns
returns c = c.read_u32.ensures ∙ big_number-address_at c.args.bytes.now c.args.at c.requires
