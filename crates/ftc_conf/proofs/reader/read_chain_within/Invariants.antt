-- reading what is left from here on gives what reading all gives
use Rattle.std.proofs.Common.{◌≡◌, ◌≤◌, ◌+◌, length, Ok}
use Rattle.ftc_base.specs.Text.{lines_of}
use Rattle.ftc_conf.specs.Draft.{IsDraft}
use Rattle.ftc_conf.specs.Grammar.{chain_from, chain_within}
use Rattle.ftc_conf.proofs.reader.read_chain_within.Given as goal

abbrev pub invariant-loop-line : goal.invariant-loop-line
invariant-loop-line l = record {
  told : chain_from l.most (Ok l.draft) l.place (lines_of l.rest) ≡ chain_within l.most l.text;
  bounds : IsDraft l.draft;
  place : l.place + length l.rest ≤ 1 + length l.text;
}

abbrev pub decreases-loop-line : goal.decreases-loop-line
decreases-loop-line l = length l.rest
