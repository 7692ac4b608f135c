-- reading what is left from here on gives what reading all gives
use Rattle.std.proofs.Common.{◌≡◌, ◌≤◌, length}
use Rattle.std.specs.List.{AllByRecursion}
use Rattle.ftc_base.specs.declared.limits.TheConstants.{MOST_BACKENDS}
use Rattle.ftc_base.specs.Endpoint.{parts_of}
use Rattle.ftc_conf.specs.Words.{IsAddress}
use Rattle.ftc_conf.specs.Forms.{with_backends, backends_of}
use Rattle.ftc_conf.proofs.balance.backends.Given as goal

abbrev pub invariant-loop-part : goal.invariant-loop-part
invariant-loop-part l = record {
  told : with_backends l.found (parts_of 44 l.rest) ≡ backends_of l.word;
  few : length l.found ≤ MOST_BACKENDS;
  addresses : AllByRecursion IsAddress l.found;
}

abbrev pub decreases-loop-part : goal.decreases-loop-part
decreases-loop-part l = length l.rest
