use Rattle.std.proofs.Common.{refl}
use Rattle.ftc_visits.proofs.laws.made_visits_begin.Goals as goal

pub returns : goal.returns
returns c setting = record { names = refl; each = tt }
