use Rattle.std.proofs.Common.{◌<◌, ℕ}
use Rattle.ftc_protocol.specs.Setting.{Setting}
use Rattle.ftc_protocol.specs.State.{ChainState}
use Rattle.ftc_jobs.specs.Rest.{IsAtRest}
use Rattle.ftc_jobs.specs.Turn.{IsIdleAt}
use Rattle.ftc_jobs.proofs.works.first_work.Given as goal

-- no server below has work
abbrev pub invariant-loop-number : goal.invariant-loop-number
invariant-loop-number l =
    (setting : Setting) (state : ChainState) (packets : ℕ) → IsAtRest setting state l.script packets l.network →
    (server : ℕ) → server < l.number → IsIdleAt setting state server
