use Rattle.ftc_protocol.proofs.FaultFree.{stays_quiet, all_done}
use Rattle.ftc_protocol.proofs.endings.quiet_links.Goals as goal

pub returns-clause-events : goal.returns-clause-events
returns-clause-events c = stays_quiet

pub returns-clause-done : goal.returns-clause-done
returns-clause-done c = all_done
