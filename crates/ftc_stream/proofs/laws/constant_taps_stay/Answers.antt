use Rattle.ftc_stream.proofs.Meanings.{constant_stay}
use Rattle.ftc_stream.proofs.laws.constant_taps_stay.Goals as goal

pub returns : goal.returns
returns c = constant_stay
