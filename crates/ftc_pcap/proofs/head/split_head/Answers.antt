use Rattle.std.proofs.Common.{arith}
use Rattle.ftc_pcap.proofs.Numbers.{captured_length_split}
use Rattle.ftc_pcap.proofs.head.split_head.Goals as goal

pub returns-clause-captured : goal.returns-clause-captured
returns-clause-captured c =
    captured_length_split c.args.big _ _ _ c.args.bytes.now _ _ _
    (omega (arith, c.split_number-captured.type_inv)) c.split_number-seconds.ensures.parts
    c.split_number-fraction.ensures.parts c.split_number-captured.ensures.parts
