use Rattle.std.proofs.Common.{arith}
use Rattle.ftc_pcap.proofs.Numbers.{number_split}
use Rattle.ftc_pcap.proofs.head.split_number.Goals as goal

pub returns-clause-parts : goal.returns-clause-parts
returns-clause-parts c =
    rw (
      c.number_of.ensures,
      c.split_at.ensures.front,
      c.split_at.ensures.back,
    )
    (number_split c.args.big c.args.bytes.now (λ k. omega (arith, c.type_inv.bytes k)) c.requires)
