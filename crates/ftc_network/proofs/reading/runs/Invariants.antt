use Rattle.std.proofs.Common.{◌≡◌, ◌<◌, ℕ, false}
use Rattle.ftc_server.specs.Slots.{runs_packet}
use Rattle.ftc_txn.specs.Slots.{slot_at}
use Rattle.ftc_network.proofs.reading.runs.Given as goal

abbrev pub invariant-loop-number : goal.invariant-loop-number
invariant-loop-number l =
    (worker : ℕ) → worker < l.number → runs_packet l.packet (slot_at l.live.head.slots worker) ≡ false
