use Rattle.ftc_ring.proofs.Geometry as geometry
use Rattle.ftc_ring.proofs.laws.ends.Goals as goal

pub returns : goal.returns
returns c = geometry.ends
