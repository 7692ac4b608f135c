-- The ring of a chain: a server for each middlebox.
use Rattle.std.specs.Prelude.{length}
use Rattle.ftc_mbox.specs.Chain.{Chain}
use Rattle.ftc_ring.specs.Ring.{RingShape}

abbrev pub ring_of : Chain → RingShape
ring_of chain = record { servers = length chain.rules; failures = chain.failures }
