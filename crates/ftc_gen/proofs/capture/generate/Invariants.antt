-- the header and the records so far
use Rattle.std.proofs.Common.{◌≡◌, ◌++◌}
use Rattle.ftc_gen.specs.Capture.{header, records}
use Rattle.ftc_gen.proofs.capture.generate.Given as goal

abbrev pub invariant-loop-place : goal.invariant-loop-place
invariant-loop-place l = l.capture ≡ header ++ records l.seed l.place
