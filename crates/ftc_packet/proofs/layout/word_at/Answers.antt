use Rattle.std.proofs.Common.{◌∙◌}
use Rattle.ftc_packet.proofs.WordSlices.{big_number-word_at}
use Rattle.ftc_packet.proofs.layout.word_at.Goals as goal

pub returns : goal.returns
returns c = c.read_u16.ensures ∙ big_number-word_at c.args.bytes.now c.args.at c.requires
