-- What the last server knows, as it is kept, and what packets of the buffer need.
use Rattle.std.proofs.Common.{◌≡◌, ℕ, ◌-◌, true, Some, sym, ap, subst, arith}
use Rattle.ftc_machine.specs.declared.state.MachineState.{MachineState}
use Rattle.ftc_protocol.specs.Setting.{Setting, servers, IsSetting}
use Rattle.ftc_protocol.specs.State.{ChainState, Withheld}
use Rattle.ftc_protocol.specs.Trace.{IsTouching}
use Rattle.ftc_protocol.specs.Known.{knows}
use Rattle.ftc_machine.specs.Frontier.{numbers_of, AreFrontiers}
use Rattle.ftc_machine.specs.Represents.{Represents, RepresentsRun}
use Rattle.ftc_machine.specs.Tails.{known_at}
use Rattle.ftc_machine.specs.LegalityTests.{footprints_of}
use Rattle.ftc_machine.specs.DueTests.{known_last}
use Rattle.ftc_machine.specs.Lawful.{IsLawful}
use Rattle.ftc_machine.proofs.RepresentedRuns.{reached_by}
use Rattle.ftc_machine.proofs.GroupTails.{reached_knows}

pub known_reaches : (c : Setting) → IsSetting c → (s : ChainState) → IsLawful c s → (k : MachineState) →
    Represents c s k
    → AreFrontiers c.partitions s.trace (numbers_of (footprints_of k)) (knows c s (servers c - 1)) (known_last k)
known_reaches c is s r k h =
    let same : k.ring.servers ≡ servers c = ap (λ ring. ring.servers) h.ring in
    subst (λ n. AreFrontiers c.partitions s.trace (numbers_of (footprints_of k)) (knows c s (servers c - 1))
    (known_at k (n - 1))) (sym same)
    (reached_knows c is s r k h (servers c - 1) (let some = is.ring.some in omega arith))

pub needed_by : {c : Setting} {s : ChainState} {k : MachineState} → RepresentsRun c s k →
    (packet group : ℕ) (withheld : Withheld) → s.withheld packet ≡ Some withheld → withheld.needs group ≡ true →
    IsTouching s.trace group packet
needed_by {c} {s} {k} stands packet group withheld there need =
    let lawful = reached_by stands in lawful.needs.withheld packet group withheld there need
