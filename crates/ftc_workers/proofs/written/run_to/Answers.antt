use Rattle.std.proofs.Common.{sym, rules}
use Rattle.ftc_stream.specs.declared.fault.PutFault.TheVariants.{Failed}
use Rattle.ftc_workers.proofs.Unwritten.{grown_by_none, left_by_none, left_after, left_at_end, left_where}
use Rattle.ftc_workers.proofs.written.run_to.Goals as goal

pub returns-in_default-clause-part : goal.returns-in_default-clause-part
returns-in_default-clause-part g c tells =
    grown_by_none c.args.out.now c.args.capture.now c.new.result (g.D.Desk.file c.args.desk.now) c.new.ensures

pub returns-in_default-clause-told_in_part : goal.returns-in_default-clause-told_in_part
returns-in_default-clause-told_in_part g c = left_by_none c.args.capture.now c.new.result _ c.new.ensures

-- The taps that were lent are those that the sink had, since it kept the name of their borrow.
pub returns-clause-told_in_part : goal.returns-clause-told_in_part
returns-clause-told_in_part g c =
    left_after _ _ c.drive-chain.result.result _ c.drive-chain.new.sink c.drive-chain.ensures.ended _ _ _ _ _
    (λ fault broke. broke.2.told_in_part) (search rules)
    (rw (c.taps-1.given.1 (sym c.drive-chain.ensures.kept.1)) c.settle.ensures.taps)

pub returns-clause-told : goal.returns-clause-told
returns-clause-told g c =
    left_at_end _ _ c.drive-chain.result.result _ c.drive-chain.new.sink c.drive-chain.ensures.ended _ _ _ _ _
    (λ went. went.2.told) (search rules)
    (rw (c.taps-1.given.1 (sym c.drive-chain.ensures.kept.1)) c.settle.ensures.taps)

pub returns-clause-untold : goal.returns-clause-untold
returns-clause-untold g c =
    left_where _ _ c.drive-chain.result.result Failed _ c.drive-chain.new.sink c.drive-chain.ensures.ended _ _ _ _ _
    (λ fault broke is. broke.2.untold is) (search rules)
    (rw (c.taps-1.given.1 (sym c.drive-chain.ensures.kept.1)) c.settle.ensures.taps)
