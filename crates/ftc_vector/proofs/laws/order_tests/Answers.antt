use Rattle.ftc_vector.proofs.OrderTests.{ready, covered}
use Rattle.ftc_vector.proofs.laws.order_tests.Goals as goal

pub returns : goal.returns
returns c = record { ready = ready; covers = covered }
