-- Visits taken out of the trace leave a serial run.
use Rattle.std.proofs.Common.{List, subst}
use Rattle.ftc_serial.specs.Serial.{State, Entry, serial_opening}
use Rattle.ftc_serial.specs.Removal.{Taken, left_of}
use Rattle.ftc_serial.specs.History.{IsClosedHistory, IsAlike, serial_state_after}
use Rattle.ftc_serial.proofs.Histories.{removed_history}
use Rattle.ftc_protocol.specs.Setting.{Setting}
use Rattle.ftc_protocol.proofs.Places.{serial_of, IsSerial, state_same, history_of, serial_by}

pub taken_out : (c : Setting) (out : Taken) (trace : List Entry) → IsSerial c trace →
    IsClosedHistory c.partitions out trace
    → IsSerial c (left_of out trace)
    × IsAlike c.partitions out (serial_of c trace) (serial_of c (left_of out trace)) trace
taken_out c out trace is closed =
    let start = serial_opening c.packets in
    let r = removed_history c.rules c.partitions out start trace (history_of c trace is) closed in (
      serial_by c (left_of out trace) r.exists,
      subst (λ (s : State). IsAlike c.partitions out s (serial_of c (left_of out trace)) trace) (state_same c trace)
          (subst (λ (s : State). IsAlike c.partitions out (serial_state_after c.rules start trace) s trace)
          (state_same c (left_of out trace)) r.alike),
    )
