use Rattle.std.proofs.Common.{ℕ, ap, arith}
use Rattle.ftc_base.specs.declared.limits.TheConstants.{MOST_SERVERS}
use Rattle.ftc_base.proofs.Members.{no_member}
use Rattle.ftc_watch.specs.Members.{with_members}
use Rattle.ftc_watch.proofs.Sets.{one_member, below_next, set_next}
use Rattle.ftc_watch.proofs.members.set_of.Goals as goal

pub loop-number-init : goal.loop-number-init
loop-number-init c = record {
  told = ap (λ (set : ℕ). with_members set c.args.numbers.now) (no_member c.new-set.result c.new-set.ensures);
  within = c.requires;
}

pub loop-number-preserved : goal.loop-number-preserved
loop-number-preserved c =
    let next = below_next MOST_SERVERS c.args.numbers.now c.loop-number.number-index
    (c.loop-number-test.true) c.loop-number.invariant.within in
    let small = next.0 in
    record {
      told = set_next c.args.numbers.now c.loop-number.number-index c.loop-number.set c.with-set.result _
          (c.loop-number-test.true) c.loop-number.invariant.told
          (one_member c.with-set.result c.loop-number.set _ (omega arith) c.with-set.ensures);
      within = next.1;
    }
