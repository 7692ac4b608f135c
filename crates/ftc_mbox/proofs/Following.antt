-- A flow packet can follow every answer of a rule.
use Rattle.std.specs.Prelude.{List, ℕ}
use Rattle.ftc_base.specs.declared.ask.Ask.{Ask}
use Rattle.ftc_base.specs.declared.ask.Ask.TheVariants.{Read, Finish}
use Rattle.ftc_base.specs.declared.ask.Verdict.{Verdict}
use Rattle.ftc_base.specs.declared.ask.Verdict.TheVariants.{Forward, Filter}
use Rattle.ftc_base.specs.declared.ask.Change.{Change}
use Rattle.ftc_base.specs.declared.ask.Change.TheVariants.{Keep, Source, Destination}
use Rattle.ftc_packet.specs.Flow.{IsFlow}
use Rattle.ftc_mbox.specs.Change.{CanChange, CanEnd, CanFollow}

can_change : (packet : List ℕ) (change : Change) → IsFlow packet → CanChange packet change
can_change packet Keep flow = tt
can_change packet (Source address port) flow = flow
can_change packet (Destination address port) flow = flow

can_end : (packet : List ℕ) (verdict : Verdict) → IsFlow packet → CanEnd packet verdict
can_end packet (Forward change) flow = can_change packet change flow
can_end packet Filter flow = tt

pub can_follow : (packet : List ℕ) (asked : Ask) → IsFlow packet → CanFollow packet asked
can_follow packet (Read key change) flow = tt
can_follow packet (Finish finish) flow = can_end packet finish.verdict flow
