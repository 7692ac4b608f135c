-- the ticks so far with those of what is left are all ticks
use Rattle.std.proofs.Common.{◌≡◌, ◌≤◌, length, Ok}
use Rattle.ftc_base.specs.Endpoint.{parts_of}
use Rattle.ftc_watch.specs.declared.limits.TheConstants.{MOST_BEATS}
use Rattle.ftc_watch.specs.Grammar.{ticks_from, ticks_of}
use Rattle.ftc_watch.proofs.reader.read_beats.Given as goal

abbrev pub invariant-loop-line : goal.invariant-loop-line
invariant-loop-line l = record {
  told : ticks_from l.servers l.packets (Ok l.ticks) (parts_of 10 l.rest) ≡ ticks_of l.servers l.packets l.text;
  few : length l.ticks ≤ MOST_BEATS;
}

abbrev pub decreases-loop-line : goal.decreases-loop-line
decreases-loop-line l = length l.rest
