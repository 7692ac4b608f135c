-- A packet that leaves the chain.
use Rattle.std.specs.Prelude.{◌≡◌}
use Rattle.ftc_edge.specs.declared.buffer.Freed.{Freed}
use Rattle.ftc_journal.specs.declared.event.Event.TheVariants as event
use Rattle.ftc_protocol.specs.Setting.{Setting}
use Rattle.ftc_protocol.specs.State.{ChainState}
use Rattle.ftc_protocol.specs.Legal.{IsLegal}
use Rattle.ftc_protocol.specs.Next.{bytes_withheld}

-- its release is legal, and it has the bytes with which it was withheld
pub record IsReleased (setting : Setting) (state : ChainState) (freed : Freed) : Type 0 where
  pub legal : IsLegal setting state (event.Release freed.packet)
  pub bytes : bytes_withheld (state.withheld freed.packet) ≡ freed.bytes
