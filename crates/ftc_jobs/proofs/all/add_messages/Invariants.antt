use Rattle.std.proofs.Common.{◌≡◌, ℕ, Some, length, take}
use Rattle.ftc_protocol.specs.Setting.{Setting}
use Rattle.ftc_protocol.specs.State.{ChainState}
use Rattle.ftc_network.specs.Parts.{server_in}
use Rattle.ftc_jobs.specs.All.{is_running_by, HasJobsOf}
use Rattle.ftc_jobs.specs.Rest.{IsAtRest}
use Rattle.ftc_jobs.proofs.JobKinds.{IsOfHeld}
use Rattle.ftc_jobs.proofs.all.add_messages.Given as goal

-- those of the messages so far are there
abbrev pub invariant-loop-held : goal.invariant-loop-held
invariant-loop-held l =
    (setting : Setting) (state : ChainState) (packets : ℕ) → IsAtRest setting state l.script packets l.network →
    server_in l.network.servers.items l.server ≡ Some l.live →
    HasJobsOf (IsOfHeld l.server (take (length l.yielded) l.live.held.items))
    (is_running_by l.network) setting state l.fn.jobs l.jobs
