-- no line so far has matched
use Rattle.std.proofs.Common.{◌≡◌, drop}
use Rattle.ftc_firewall.specs.Firewall.{is_allowed}
use Rattle.ftc_firewall.proofs.firewall.is_allowed.Given as goal

abbrev pub invariant-loop-line : goal.invariant-loop-line
invariant-loop-line l = is_allowed l.lines l.flow ≡ is_allowed (drop l.line-index l.lines) l.flow
