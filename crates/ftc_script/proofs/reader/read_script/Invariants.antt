-- reading what is left from here on gives what reading all gives
use Rattle.std.proofs.Common.{◌≡◌, ◌≤◌, ◌+◌, length, Ok}
use Rattle.ftc_base.specs.Text.{lines_of}
use Rattle.ftc_base.specs.declared.limits.TheConstants.{MOST_SCRIPT_BYTES}
use Rattle.ftc_script.specs.Grammar.{script_from, script_of, IsDraft}
use Rattle.ftc_script.proofs.reader.read_script.Given as goal

abbrev pub invariant-loop-line : goal.invariant-loop-line
invariant-loop-line l = record {
  told : script_from l.ring l.packets (Ok l.draft) l.place (lines_of l.rest) ≡ script_of l.ring l.packets l.text;
  bounds : IsDraft l.ring l.packets l.draft;
  place : l.place + length l.rest ≤ 1 + length l.text;
  short : length l.text ≤ MOST_SCRIPT_BYTES;
}

abbrev pub decreases-loop-line : goal.decreases-loop-line
decreases-loop-line l = length l.rest
