-- When jobs are asked for.
use Rattle.std.specs.Prelude.{ℕ, ◌≡◌, ◌<◌, ◌+◌, ◌^◌, is_some}
use Rattle.ftc_protocol.specs.Drive.{IsNoneDue}
use Rattle.ftc_protocol.specs.Run.{IsRunState}
use Rattle.ftc_protocol.specs.Setting.{Setting, count}
use Rattle.ftc_protocol.specs.State.{ChainState}
use Rattle.ftc_script.specs.Script.{ScriptShape, loses_of}
use Rattle.ftc_network.specs.declared.network.Network.{Network}
use Rattle.ftc_network.specs.Stand.{IsNetwork}

-- No release is due in the state, to which a run leads and for which the network stands.
pub record IsResting (setting : Setting) (state : ChainState) (network : Network) : Type 0 where
  pub run : IsRunState setting state
  pub none_due : IsNoneDue setting state
  pub stands : IsNetwork setting state network

-- The same where the script and the count of packets are those of the run, and the number of the next message that
-- begins without a packet fits 32 bits.
pub record IsAtRest (setting : Setting) (state : ChainState) (script : ScriptShape) (packets : ℕ) (network : Network) :
    Type 0 where
  pub resting : IsResting setting state network
  pub lines : setting.lines ≡ script.steps
  pub packets_are : packets ≡ count setting
  pub loses : (link origin : ℕ) → setting.loses link origin ≡ is_some (loses_of script.loses link origin)
  pub room : count setting + state.propagates < 2 ^ 32
