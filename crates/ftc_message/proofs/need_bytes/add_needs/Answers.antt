use Rattle.std.proofs.Common.{arith}
use Rattle.ftc_message.proofs.MessageLaws.{rising_few}
use Rattle.ftc_message.proofs.need_bytes.add_needs.Goals as goal

pub overflow_cast-len : goal.overflow_cast-len
overflow_cast-len c = omega (
  arith,
  c.len.ensures.same,
  rising_few 0 c.args.needs.now (omega arith) c.len.ensures.bounds.each c.len.ensures.bounds.rising,
)
