-- the file and the piece have what the file had, the first piece and the records so far
use Rattle.std.proofs.Common.{◌≡◌, ◌≤◌, ◌++◌, take, Some, List, ℕ}
use Rattle.std.specs.List.{flat_map}
use Rattle.ftc_outside.specs.Desk.{SameButAt}
use Rattle.ftc_report.specs.Output.{released_record}
use Rattle.ftc.proofs.output.append_records.Given as goal

abbrev pub invariant-loop-packet : goal.invariant-loop-packet
invariant-loop-packet g l = record {
  written : g.D.Desk.tells l.fn.desk → (held : List ℕ) → g.D.Desk.file l.fn.desk l.name ≡ Some held →
      (before : List ℕ) × (g.D.Desk.file l.desk l.name ≡ Some before)
      × (before ++ l.piece ≡ (held ++ l.fn.first)
      ++ flat_map (released_record l.capture) (take l.packet-index l.released));
  others : g.D.Desk.tells l.fn.desk → SameButAt l.name (g.D.Desk.file l.fn.desk) (g.D.Desk.file l.desk);
  tells : g.D.Desk.tells l.fn.desk → g.D.Desk.tells l.desk;
  count : g.D.Desk.faults l.fn.desk ≤ g.D.Desk.faults l.desk;
  still : g.D.Desk.faults l.desk ≡ g.D.Desk.faults l.fn.desk;
  sound : g.D.Desk.sound l.fn.desk → g.D.Desk.sound l.desk;
}
