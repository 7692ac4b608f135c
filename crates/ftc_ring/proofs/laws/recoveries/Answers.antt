use Rattle.ftc_ring.proofs.Sources as sources
use Rattle.ftc_ring.proofs.laws.recoveries.Goals as goal

pub returns-clause-after_is_member : goal.returns-clause-after_is_member
returns-clause-after_is_member c = sources.after_is_member

pub returns-clause-source_found : goal.returns-clause-source_found
returns-clause-source_found c = sources.source_found
