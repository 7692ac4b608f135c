use Rattle.ftc_edge.proofs.Covered.{known_covered, covered_known}
use Rattle.ftc_edge.proofs.laws.due_packets.Goals as goal

pub returns : goal.returns
returns c commits withheld = (known_covered commits withheld.needs, covered_known commits withheld.needs)
