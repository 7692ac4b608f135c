-- the machine has played the events before this place
use Rattle.std.proofs.Common.{◌≡◌, take}
use Rattle.ftc_serial.specs.Packets.{bytes_of_packets}
use Rattle.ftc_protocol.specs.Setting.{setting_of}
use Rattle.ftc_protocol.specs.Run.{IsRun}
use Rattle.ftc_machine.proofs.replaying.replay.Given as goal

abbrev pub invariant-loop-place : goal.invariant-loop-place
invariant-loop-place l = record {
  played : l.machine ≡ record {
    chain = l.spec;
    packets = bytes_of_packets l.packets;
    script = l.script;
    journal = take l.place l.journal.items;
  };
  run : ∥ IsRun (setting_of l.spec (bytes_of_packets l.packets) l.script) (take l.place l.journal.items) ∥₁;
}
