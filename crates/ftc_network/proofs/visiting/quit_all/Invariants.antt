use Rattle.std.proofs.Common.{◌≡◌, ◌<◌, ℕ, Some, None}
use Rattle.ftc_base.specs.declared.limits.TheConstants.{MOST_SLOTS}
use Rattle.ftc_network.specs.Visiting.{StandsFor}
use Rattle.ftc_server.specs.State.{fields_of}
use Rattle.ftc_txn.specs.Slots.{Running, slot_at}
use Rattle.ftc_network.proofs.visiting.quit_all.Given as goal

abbrev pub invariant-loop-number : goal.invariant-loop-number
invariant-loop-number l =
    StandsFor l.fn.server l.server × (l.server.buffer.items ≡ l.fn.server.buffer.items)
    × ((worker : ℕ) → worker < l.number → slot_at l.server.head.slots worker ≡ None)
    × ((worker : ℕ) (running : Running) → slot_at l.server.head.slots worker ≡ Some running → worker < MOST_SLOTS)
    × (fields_of l.server ≡ record (fields_of l.fn.server) { head = l.server.head })
    × (l.server.head.vector ≡ l.fn.server.head.vector)
