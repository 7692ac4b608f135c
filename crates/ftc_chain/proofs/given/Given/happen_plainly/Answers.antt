use Rattle.std.proofs.Common.{refl}
use Rattle.ftc_chain.proofs.Permitted.{allowed, done, done_as}
use Rattle.ftc_chain.proofs.given.Given.happen_plainly.Goals as goal

pub take-requires : goal.take-requires
take-requires c = allowed c.requires.may c.in-Take.is (λ state. refl)

pub returns-in-Take-clause-ok : goal.returns-in-Take-clause-ok
returns-in-Take-clause-ok c =
    done c.requires.may c.in-Take.is (λ state. refl) c.take.result c.take.new.self c.take.ensures.ok

pub apply-requires : goal.apply-requires
apply-requires c = allowed c.requires.may c.in-Apply.is (λ state. refl)

pub returns-in-Apply-clause-ok : goal.returns-in-Apply-clause-ok
returns-in-Apply-clause-ok c =
    done c.requires.may c.in-Apply.is (λ state. refl) c.apply.result c.apply.new.self c.apply.ensures.ok

pub leave-requires : goal.leave-requires
leave-requires c = allowed c.requires.may c.in-Pass.is (λ state. refl)

pub returns-in-Pass-clause-ok : goal.returns-in-Pass-clause-ok
returns-in-Pass-clause-ok c =
    done c.requires.may c.in-Pass.is (λ state. refl) c.leave.result c.leave.new.self c.leave.ensures.ok

pub carry-requires : goal.carry-requires
carry-requires c = allowed c.requires.may c.in-Carry.is (λ state. refl)

pub returns-in-Carry-clause-ok : goal.returns-in-Carry-clause-ok
returns-in-Carry-clause-ok c =
    done c.requires.may c.in-Carry.is (λ state. refl) c.carry.result c.carry.new.self c.carry.ensures.ok

pub pull-requires : goal.pull-requires
pull-requires c = allowed c.requires.may c.in-Pull.is (λ state. refl)

pub returns-in-Pull-clause-ok : goal.returns-in-Pull-clause-ok
returns-in-Pull-clause-ok c =
    done c.requires.may c.in-Pull.is (λ state. refl) c.pull.result c.pull.new.self c.pull.ensures.ok

pub returns-in-Enter-clause-ok : goal.returns-in-Enter-clause-ok
returns-in-Enter-clause-ok c =
    done_as c.requires.may c.in-Enter.is c.enter.result c.enter.new.network c.enter.ensures.ok

pub returns-in-Lose-clause-ok : goal.returns-in-Lose-clause-ok
returns-in-Lose-clause-ok c =
    done_as c.requires.may c.in-Lose.is c.lose.result c.lose.new.network c.lose.ensures.ok

pub returns-in-Propagate-clause-ok : goal.returns-in-Propagate-clause-ok
returns-in-Propagate-clause-ok c =
    done_as c.requires.may c.in-Propagate.is c.propagate.result c.propagate.new.network c.propagate.ensures.ok
