-- the search from here on finds what the whole search finds
use Rattle.std.proofs.Common.{◌≡◌, drop}
use Rattle.ftc_script.specs.Script.{loses_of}
use Rattle.ftc_script.proofs.script.Script.loses.Given as goal

abbrev pub invariant-loop-line : goal.invariant-loop-line
invariant-loop-line l = loses_of (drop l.line-index l.line-items) l.link l.origin
    ≡ loses_of l.self.loses l.link l.origin
