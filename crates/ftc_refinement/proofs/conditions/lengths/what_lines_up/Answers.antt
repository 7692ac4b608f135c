use Rattle.ftc_refinement.proofs.KeptLengths.{length_kept}
use Rattle.ftc_refinement.proofs.conditions.lengths.what_lines_up.Goals as goal

pub returns : goal.returns
returns c setting state origin message bytes run there has =
    length_kept setting state run origin message bytes there has
