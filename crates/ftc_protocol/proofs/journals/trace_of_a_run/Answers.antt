use Rattle.ftc_protocol.proofs.JournalTrace.{trace_is}
use Rattle.ftc_protocol.proofs.journals.trace_of_a_run.Goals as goal

pub returns : goal.returns
returns c = trace_is
