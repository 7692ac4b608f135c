-- The laws of the protocol, of a state of a run and of those that follow.
use Rattle.ftc_protocol.specs.Setting.{Setting}
use Rattle.ftc_protocol.specs.State.{ChainState}
use Rattle.ftc_protocol.specs.Run.{IsRunState}
use Rattle.ftc_protocol.specs.Orderly.{IsWithholding, IsNeeding}
use Rattle.ftc_ties.specs.Tied.{IsTied}
use Rattle.ftc_ties.proofs.Serving.{steady}
use Rattle.ftc_standing.proofs.Lasting.{IsFirmState}

pub firm : ((setting : Setting) (state : ChainState) → IsRunState setting state → IsTied setting state) →
    ((setting : Setting) (state : ChainState) → IsRunState setting state → IsNeeding state) →
    ((setting : Setting) (state : ChainState) → IsRunState setting state → IsWithholding setting state) →
    (setting : Setting) (state : ChainState) → IsRunState setting state → IsFirmState setting state
firm tied needing buffered setting state run = record {
  steady = steady tied setting state run;
  needing = needing setting;
  buffered = buffered setting state run;
}
