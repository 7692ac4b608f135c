use Rattle.std.proofs.Common.{◌<◌, ℕ}
use Rattle.ftc_protocol.specs.Legal.{IsHeld}
use Rattle.ftc_protocol.specs.Setting.{Setting}
use Rattle.ftc_protocol.specs.State.{ChainState, Message}
use Rattle.ftc_jobs.specs.All.{is_running_by}
use Rattle.ftc_jobs.specs.Beside.{IsUnwanted}
use Rattle.ftc_jobs.specs.Rest.{IsAtRest}
use Rattle.ftc_jobs.proofs.beside.wanted_work.Given as goal

-- no work of the messages at a server below is wanted
abbrev pub invariant-loop-number : goal.invariant-loop-number
invariant-loop-number l =
    (setting : Setting) (state : ChainState) (packets : ℕ) → IsAtRest setting state l.script packets l.network →
    (server : ℕ) → server < l.number → (origin : ℕ) (message : Message) → IsHeld state server origin message →
    IsUnwanted l.visits (is_running_by l.network) setting state server origin
