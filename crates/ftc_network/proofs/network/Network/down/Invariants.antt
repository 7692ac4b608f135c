use Rattle.std.proofs.Common.{◌≡◌, ◌&&◌, ℕ, not, nat_lt}
use Rattle.ftc_base.specs.Sets.{has}
use Rattle.ftc_network.specs.Recovering.{is_up}
use Rattle.ftc_network.proofs.network.Network.down.Given as goal

abbrev pub invariant-loop-number : goal.invariant-loop-number
invariant-loop-number l =
    (number : ℕ) → has l.down number ≡ (nat_lt number l.number && not (is_up l.self.servers.items number))
