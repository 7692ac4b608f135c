use Rattle.ftc_protocol.specs.State.{opening}
use Rattle.ftc_protocol.specs.Run.{state_after}
use Rattle.ftc_protocol.proofs.DriveLaws.{any_slot_legal, job_of_event}
use Rattle.ftc_protocol.proofs.FirstJobExists.{within, counted_at}
use Rattle.ftc_protocol.proofs.driving.jobs_of_events.Goals as goal

pub returns-clause-slots : goal.returns-clause-slots
returns-clause-slots c = any_slot_legal

pub returns-clause-jobs : goal.returns-clause-jobs
returns-clause-jobs c = job_of_event

pub returns-clause-within : goal.returns-clause-within
returns-clause-within c = λ setting is journal run job legal. within setting is
    (state_after setting (opening setting) journal) (counted_at setting is journal run) job legal
