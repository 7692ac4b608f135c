use Rattle.ftc_protocol.specs.State.{opening}
use Rattle.ftc_protocol.specs.Run.{state_after}
use Rattle.ftc_protocol.proofs.ReadyTest.{each_had}
use Rattle.ftc_protocol.proofs.HasEach.{each_has}
use Rattle.ftc_protocol.proofs.UndoneList.{lacked_says, lacked_has}
use Rattle.ftc_protocol.proofs.AcceptedSettings.{is_good, opens_fit}
use Rattle.ftc_protocol.proofs.Induction.{always}
use Rattle.ftc_protocol.proofs.RingTests.{member_says, tail_says, between_says}
use Rattle.ftc_protocol.proofs.outcomes.what_tests_say.Goals as goal

pub returns-clause-each : goal.returns-clause-each
returns-clause-each c setting is journal run visits wanted =
    let s = state_after setting (opening setting) journal in
    let serial = (always setting (is_good setting is) (opens_fit setting is) journal run).world.serial in (
      (λ all group packet want. each_had setting.partitions visits wanted group packet want s.trace all),
      λ each. each_has setting visits wanted s.trace serial each,
    )

pub returns-clause-lacked : goal.returns-clause-lacked
returns-clause-lacked c setting is journal run visits group packet =
    let s = state_after setting (opening setting) journal in
    let serial = (always setting (is_good setting is) (opens_fit setting is) journal run).world.serial in (
      lacked_says setting s.trace visits group packet serial,
      λ both. lacked_has setting s.trace visits group packet serial both.0 both.1,
    )

pub returns-clause-member : goal.returns-clause-member
returns-clause-member c = member_says

pub returns-clause-tail : goal.returns-clause-tail
returns-clause-tail c = tail_says

pub returns-clause-between : goal.returns-clause-between
returns-clause-between c = between_says
