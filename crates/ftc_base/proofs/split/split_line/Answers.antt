use Rattle.std.proofs.Common.{◌<◌, length, arith}
use Rattle.std.proofs.lemmas.Grind.{common_steps}
use Rattle.ftc_base.proofs.FirstParts.{line_at_end, line_before_feed}
use Rattle.ftc_base.proofs.split.split_line.Goals as goal

pub returns-in-empty-clause-line : goal.returns-in-empty-clause-line
returns-in-empty-clause-line c =
    let some : 0 < length c.args.text.now = grind (arith, common_steps) in
    line_at_end _ _ _ _ c.line_len.ensures.length c.split_at.ensures.front c.split_at.ensures.back some (omega arith)

pub returns-in-len1-up-clause-line : goal.returns-in-len1-up-clause-line
returns-in-len1-up-clause-line c =
    let some : 0 < length c.args.text.now = grind (arith, common_steps) in
    line_before_feed _ _ _ _ c.line_len.ensures.length c.split_at.ensures.front c.split_at.ensures.back some
    c.in-len1-up.len_at_least
