use Rattle.std.proofs.Common.{arith}
use Rattle.ftc_message.proofs.MessageLaws.{whole_takes}
use Rattle.ftc_message.proofs.decoding.decode.Goals as goal

pub returns-in-Ok-clause-spelled : goal.returns-in-Ok-clause-spelled
returns-in-Ok-clause-spelled c =
    (whole_takes c.args.frame.now c.in-Ok.message (λ i. omega (arith, c.type_inv.frame i)) c.in-Ok.ensures).0

pub returns-in-Ok-clause-right : goal.returns-in-Ok-clause-right
returns-in-Ok-clause-right c =
    (whole_takes c.args.frame.now c.in-Ok.message (λ i. omega (arith, c.type_inv.frame i)) c.in-Ok.ensures).1.right

pub returns-in-Ok-clause-typed : goal.returns-in-Ok-clause-typed
returns-in-Ok-clause-typed c =
    (whole_takes c.args.frame.now c.in-Ok.message (λ i. omega (arith, c.type_inv.frame i)) c.in-Ok.ensures).1.typed
