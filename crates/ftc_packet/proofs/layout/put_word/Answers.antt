use Rattle.std.proofs.Common.{arith}
use Rattle.ftc_packet.proofs.WordSlices.{put_mid-with_word}
use Rattle.ftc_packet.proofs.layout.put_word.Goals as goal

pub returns : goal.returns
returns c =
    put_mid-with_word c.args.bytes.now c.write_u16.new.buf c.args.at c.args.word c.requires (omega arith)
    c.write_u16.ensures
