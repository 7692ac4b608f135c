use Rattle.std.proofs.Common.{◌≡◌, ◌<◌, length, arith}
use Rattle.std.proofs.lemmas.Grind.{common_steps}
use Rattle.std.proofs.lemmas.List.{nil_from_length}
use Rattle.ftc_base.proofs.FirstParts.{word_found, word_taken, skip_blanks}
use Rattle.ftc_base.proofs.split.split_word.Goals as goal

pub returns-then-is_empty-clause-none : goal.returns-then-is_empty-clause-none
returns-then-is_empty-clause-none c =
    let size : length c.split_at.result.1.now ≡ 0 = grind (arith, common_steps) in
    let none = nil_from_length c.split_at.result.1.now size in
    let back = rw c.blanks_len.ensures.length at c.split_at.ensures.back in
    let skip = rw (← back) at (skip_blanks c.args.line.now) in
    let skip' = rw none at skip in skip'

pub returns-clause-word : goal.returns-clause-word
returns-clause-word c =
    let some : 0 < length c.split_at.result.1.now = grind (arith, common_steps) in
    word_found _ _ _ _ _ _ c.blanks_len.ensures.length c.split_at.ensures.back some c.letters_len.ensures.length
    c.split_at-2.ensures.front c.split_at-2.ensures.back

pub returns-clause-shorter : goal.returns-clause-shorter
returns-clause-shorter c =
    let some : 0 < length c.split_at.result.1.now = grind (arith, common_steps) in
    word_taken _ _ _ _ _ c.blanks_len.ensures.length c.split_at.ensures.back some c.letters_len.ensures.length
    c.split_at-2.ensures.back
