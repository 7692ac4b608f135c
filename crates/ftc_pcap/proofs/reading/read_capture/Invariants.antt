-- the text is what was read, and the rest
use Rattle.std.proofs.Common.{◌≡◌, ◌≤◌, ◌++◌, length}
use Rattle.ftc_base.specs.declared.limits.TheConstants.{MOST_CAPTURE_BYTES}
use Rattle.ftc_pcap.specs.Grammar.{IsCapture, capture_bytes}
use Rattle.ftc_pcap.proofs.reading.read_capture.Given as goal

abbrev pub invariant-loop-rest : goal.invariant-loop-rest
invariant-loop-rest l = record {
  right : IsCapture l.capture;
  parts : l.text ≡ capture_bytes l.capture ++ l.rest;
  size : length l.text ≤ MOST_CAPTURE_BYTES;
}

abbrev pub decreases-loop-rest : goal.decreases-loop-rest
decreases-loop-rest l = length l.rest
