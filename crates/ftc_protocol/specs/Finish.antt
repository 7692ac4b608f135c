-- What is so of a finished run.
use Rattle.std.specs.Prelude.{ℕ, ◌≡◌, ◌≢◌, ◌<◌, ◌↔◌, true, false, [], Some, None}
use Rattle.ftc_serial.specs.Serial.{State, serial_run, serial_opening}
use Rattle.ftc_protocol.specs.declared.fate.Fate.TheVariants as became
use Rattle.ftc_protocol.specs.Setting.{Setting, servers, count, is_member}
use Rattle.ftc_protocol.specs.Visits.{In}
use Rattle.ftc_protocol.specs.Trace.{IsChanging, content_of}
use Rattle.ftc_protocol.specs.State.{ChainState}
use Rattle.ftc_protocol.specs.Moment.{steps_in, released_in}

pub record IsComplete (setting : Setting) (state : ChainState) : Type 0 where
  -- the script is done, and all servers are up
  pub lines : state.lines ≡ []
  pub up : (server : ℕ) → server < servers setting → state.up server ≡ true
  -- all packets have entered
  pub entered : state.entered ≡ count setting
  -- there is no message, no log in the forwarder, no gap and no packet in the buffer
  pub message : (origin : ℕ) → state.message origin ≡ None
  pub forwarder : (group packet : ℕ) → state.forwarder group packet ≡ false
  pub gap : (link : ℕ) → link < servers setting → state.gap link ≡ false
  pub withheld : (packet : ℕ) → state.withheld packet ≡ None
  -- all members of a group have the same list: the changing visits of that middlebox in the trace
  pub lists : (group server packet : ℕ) → server < servers setting → is_member setting group server ≡ true →
      group < servers setting →
      In (state.lists server) group packet ↔ IsChanging setting.partitions state.trace group packet
  -- so the store of each member is the map of the serial run of the trace, which released what was released
  pub end : State
  pub serial : serial_run setting.rules (serial_opening setting.packets) (steps_in state.trace) ≡ Some end
  pub released : end.released ≡ released_in state.trace
  pub stores : (group server : ℕ) → server < servers setting → is_member setting group server ≡ true →
      group < servers setting →
      content_of state.trace (state.lists server group) group ≡ end.maps group
  -- and each packet was released, filtered or lost
  pub fates : (packet : ℕ) → packet < count setting → state.fate packet ≢ became.Inside
