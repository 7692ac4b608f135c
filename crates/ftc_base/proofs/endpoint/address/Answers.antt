use Rattle.ftc_base.proofs.Parts.{five_parts}
use Rattle.ftc_base.proofs.endpoint.address.Goals as goal

pub returns-in-Some-split_part-3 : goal.returns-in-Some-split_part-3
returns-in-Some-split_part-3 c =
    five_parts c.args.word.now c.in-Some.first.now c.in-Some-split_part.second.now c.in-Some-split_part-2.third.now
    c.in-Some-split_part-2.fourth.now c.in-Some-split_part-3.field-0.0.now c.in-Some.rest.now
    c.in-Some-split_part.rest.now c.in-Some-split_part-3.field-0.1.now c.in-Some.ensures.part
    c.in-Some-split_part.ensures.part c.in-Some-split_part-2.ensures.part c.in-Some-split_part-3.ensures.part
