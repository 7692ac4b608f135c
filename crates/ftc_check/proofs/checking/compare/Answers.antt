use Rattle.std.proofs.Common.{refl}
use Rattle.ftc_serial.specs.Packets.{bytes_of_packets}
use Rattle.ftc_serial.specs.Held.{serial_state}
use Rattle.ftc_machine.specs.RunSoFar.{setting_in}
use Rattle.ftc_check.specs.Verdict.{IsWhole}
use Rattle.ftc_check.proofs.Files.{has_end_there, whole}
use Rattle.ftc_check.proofs.checking.compare.Goals as goal
use Rattle.ftc_check.proofs.checking.compare.Goals.{After-released_fit}

pub chain_after-requires : goal.chain_after-requires
chain_after-requires c =
    has_end_there c.args.machine.now c.args.spec.now
    (bytes_of_packets c.args.capture.now.packets) c.journal-journal.result.now.items c.in_ok-trace.trace
    c.serial_of_a_run.ensures
    c.journal-journal.ensures.setting c.journal-journal.ensures.run c.requires.chain c.requires.packets
    c.journal-journal.ensures.same c.in_ok-trace.ensures

-- the run that was played is whole, and its serial run ends in the state that the serial chain has
whole_run : (c : After-released_fit) →
    IsWhole (setting_in c.args.machine.now) c.args.machine.now.journal (serial_state c.in_ok-serial.serial)
whole_run c =
    whole c.args.machine.now c.args.spec.now (bytes_of_packets c.args.capture.now.packets)
    c.journal-journal.result.now.items c.in_ok-trace.trace (serial_state c.in_ok-serial.serial)
    c.journal-journal.ensures.run (c.finished.ensures.finished c.if-not-finished.false) c.requires.chain
    c.requires.packets c.journal-journal.ensures.same c.in_ok-trace.ensures c.in_ok-serial.ensures.state

pub returns-in-Some : goal.returns-in-Some
returns-in-Some c = record {
  end = serial_state c.in_ok-serial.serial;
  whole = whole_run (goal.at.returns-in-Some c).After-released_fit;
  differs = rw c.in-Some.is at c.in_ok-at.ensures.differs;
}

pub returns-in-Some-2 : goal.returns-in-Some-2
returns-in-Some-2 c = record {
  end = serial_state c.in_ok-serial.serial;
  whole = whole_run (goal.at.returns-in-Some-2 c).After-released_fit;
  out_is = (rw c.in-None.is at c.in_ok-at.ensures.same) refl;
  report_is = rw c.in-Some-2.is at c.in_ok-at-2.ensures.differs;
}

pub returns : goal.returns
returns c = record {
  end = serial_state c.in_ok-serial.serial;
  whole = whole_run (goal.at.returns c).After-released_fit;
  out_is = (rw c.in-None.is at c.in_ok-at.ensures.same) refl;
  report_is = (rw c.in-None-2.is at c.in_ok-at-2.ensures.same) refl;
}
