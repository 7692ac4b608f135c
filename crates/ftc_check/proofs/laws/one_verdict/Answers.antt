use Rattle.ftc_check.proofs.Verdicts.{one}
use Rattle.ftc_check.proofs.laws.one_verdict.Goals as goal

pub returns : goal.returns
returns c setting capture out journal = one setting journal capture out
