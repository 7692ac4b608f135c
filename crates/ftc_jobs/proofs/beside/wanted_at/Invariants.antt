use Rattle.std.proofs.Common.{ℕ, length, take}
use Rattle.std.specs.List.{AllByRecursion}
use Rattle.ftc_protocol.specs.Setting.{Setting}
use Rattle.ftc_protocol.specs.State.{ChainState}
use Rattle.ftc_server.specs.declared.held.HeldMessage.{HeldMessage}
use Rattle.ftc_jobs.specs.All.{is_running_by}
use Rattle.ftc_jobs.specs.Beside.{IsUnwanted}
use Rattle.ftc_jobs.specs.Rest.{IsAtRest}
use Rattle.ftc_jobs.proofs.beside.wanted_at.Given as goal

-- no work of the messages so far is wanted
abbrev pub invariant-loop-held : goal.invariant-loop-held
invariant-loop-held l =
    (setting : Setting) (state : ChainState) (packets : ℕ) → IsAtRest setting state l.script packets l.network →
    AllByRecursion (λ (held : HeldMessage).
    IsUnwanted l.visits (is_running_by l.network) setting state l.server held.message.origin)
    (take (length l.yielded) l.live.held.items)
