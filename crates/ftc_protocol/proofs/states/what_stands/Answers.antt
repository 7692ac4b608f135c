use Rattle.ftc_protocol.proofs.StatesOfRuns.{of_state}
use Rattle.ftc_protocol.proofs.TestMeanings.{stands_means}
use Rattle.std.proofs.Common.{ℕ, ◌↔◌}
use Rattle.ftc_protocol.specs.Orderly.{IsStanding}
use Rattle.ftc_protocol.specs.Moment.{Stands}
use Rattle.ftc_protocol.proofs.states.what_stands.Goals as goal

pub returns : goal.returns
returns c = of_state (λ setting state. (server packet : ℕ) → Stands setting state server packet
    ↔ IsStanding setting state server packet) stands_means
