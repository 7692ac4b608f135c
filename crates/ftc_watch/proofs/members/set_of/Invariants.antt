-- the set so far with the members that are left is the set of all
use Rattle.std.proofs.Common.{◌≡◌, true, drop}
use Rattle.ftc_base.specs.declared.limits.TheConstants.{MOST_SERVERS}
use Rattle.ftc_watch.specs.Members.{are_below, with_members, set_of}
use Rattle.ftc_watch.proofs.members.set_of.Given as goal

abbrev pub invariant-loop-number : goal.invariant-loop-number
invariant-loop-number l = record {
  told : with_members l.set (drop l.number-index l.numbers) ≡ set_of l.numbers;
  within : are_below MOST_SERVERS (drop l.number-index l.numbers) ≡ true;
}
