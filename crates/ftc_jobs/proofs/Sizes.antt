-- How many servers a network has.
use Rattle.std.proofs.Common.{◌≡◌, ap}
use Rattle.ftc_ring.specs.Ring.{RingShape}
use Rattle.ftc_protocol.specs.Setting.{Setting, servers}
use Rattle.ftc_protocol.specs.State.{ChainState}
use Rattle.ftc_network.specs.declared.network.Network.{Network}
use Rattle.ftc_jobs.specs.Rest.{IsResting}

pub size_of : (setting : Setting) (state : ChainState) (network : Network) → IsResting setting state network →
    network.ring.servers ≡ servers setting
size_of setting state network rest = ap (λ (ring : RingShape). ring.servers) rest.stands.ring
