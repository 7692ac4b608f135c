use Rattle.std.proofs.Common.{length, arith}
use Rattle.std.proofs.lemmas.Grind.{common_steps}
use Rattle.ftc_base.proofs.Parts.{part_none, part_found}
use Rattle.ftc_base.proofs.split.split_part.Goals as goal

pub returns-in-empty-clause-none : goal.returns-in-empty-clause-none
returns-in-empty-clause-none c =
    part_none _ _ _ _ c.part_len.ensures.length c.split_at.ensures.back c.part_len.ensures.within
    (grind (arith, common_steps))

pub returns-in-len1-up-clause-part : goal.returns-in-len1-up-clause-part
returns-in-len1-up-clause-part c =
    part_found _ _ _ _ _ c.part_len.ensures.length c.split_at.ensures.front c.split_at.ensures.back
    c.part_len.ensures.within c.in-len1-up.len_at_least
