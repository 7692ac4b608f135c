-- the packets so far are of bytes
use Rattle.std.proofs.Common.{take}
use Rattle.std.specs.List.{AllByRecursion}
use Rattle.ftc_packet.specs.Layout.{AreBytes}
use Rattle.ftc_serial.specs.Packets.{bytes_of_packets}
use Rattle.ftc_audit.proofs.captured.are_of_bytes.Given as goal

abbrev pub invariant-loop-place : goal.invariant-loop-place
invariant-loop-place l = AllByRecursion AreBytes (bytes_of_packets (take l.place l.packets))
