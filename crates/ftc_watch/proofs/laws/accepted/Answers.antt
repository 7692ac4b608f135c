use Rattle.ftc_watch.proofs.Acceptance.{text_accepts}
use Rattle.ftc_watch.proofs.laws.accepted.Goals as goal

pub returns : goal.returns
returns c = text_accepts
