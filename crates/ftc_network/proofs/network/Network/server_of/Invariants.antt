use Rattle.std.proofs.Common.{◌≡◌, ◌<◌, ℕ, None}
use Rattle.ftc_network.specs.Slots.{head_at, runs_in}
use Rattle.ftc_network.proofs.network.Network.server_of.Given as goal

abbrev pub invariant-loop-number : goal.invariant-loop-number
invariant-loop-number l = (server : ℕ) → server < l.number → runs_in (head_at l.self server) l.worker ≡ None
