-- What is withheld behind the last server.
use Rattle.std.proofs.Common.{◌≡◌, ◌+◌, ◌-◌, ℕ, true, false, subst, arith}
use Rattle.ftc_protocol.specs.Drive.{IsNoneDue}
use Rattle.ftc_protocol.specs.Orderly.{IsOrderly}
use Rattle.ftc_protocol.specs.Setting.{Setting, servers}
use Rattle.ftc_protocol.specs.State.{ChainState}

before_last : (number count : ℕ) → number + 1 ≡ count → number ≡ count - 1
before_last number count last = omega (arith, last)

-- nothing is due where the last server is down
pub none_withheld : (setting : Setting) (state : ChainState) (number : ℕ) → number + 1 ≡ servers setting →
    IsOrderly setting state → state.up number ≡ false → IsNoneDue setting state
none_withheld setting state number last order down packet withheld due =
    let up : state.up (servers setting - 1) ≡ true = (order.buffered packet withheld due.0).0 in
    let isnt : state.up (servers setting - 1) ≡ false =
    subst (λ (n : ℕ). state.up n ≡ false) (before_last number (servers setting) last) down in
    absurd cc
