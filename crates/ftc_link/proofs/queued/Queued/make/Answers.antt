use Rattle.std.proofs.Common.{refl}
use Rattle.ftc_link.proofs.Oldest.{message_in-frame, is_queued}
use Rattle.ftc_link.proofs.queued.Queued.make.Goals as goal

pub returns-clause-message : goal.returns-clause-message
returns-clause-message c =
    message_in-frame _ c.args.message.now c.in_ok-encode.ensures.spelled
    (record { typed = c.in_ok-encode.ensures.typed; right = c.requires })

pub returns-clause-queued : goal.returns-clause-queued
returns-clause-queued c =
    is_queued _ c.args.message.now c.in_ok-encode.ensures.spelled
    (record { typed = c.in_ok-encode.ensures.typed; right = c.requires }) refl c.len.ensures.same
