use Rattle.std.proofs.lemmas.Slice.Eq.{slice_eq-Decides}
use Rattle.ftc_mbox.proofs.Same.{same_answer}
use Rattle.ftc_mbox.proofs.plan.same_answers.Goals as goal

pub returns : goal.returns
returns c = rw (
  ← c.as_slice.ensures.value,
  ← c.as_slice-2.ensures.value,
) (slice_eq-Decides same_answer _ _ _ c.eq.ensures)
