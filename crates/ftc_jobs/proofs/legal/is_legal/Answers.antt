use Rattle.ftc_jobs.proofs.legal.is_legal.Goals as goal

pub returns-in-Take : goal.returns-in-Take
returns-in-Take c = record {
  legal = λ setting state rest. rw c.in-Take.is (c.may_take.ensures setting state rest.resting);
}

pub returns-in-Apply : goal.returns-in-Apply
returns-in-Apply c = record {
  legal = λ setting state rest. rw c.in-Apply.is (c.may_apply.ensures setting state rest.resting);
}

pub returns-in-Visit : goal.returns-in-Visit
returns-in-Visit c = record {
  legal = λ setting state rest. rw c.in-Visit.is (c.may_visit.ensures setting state rest.resting);
}

pub returns-in-Pass : goal.returns-in-Pass
returns-in-Pass c = record {
  legal = λ setting state rest. rw c.in-Pass.is (c.may_pass.ensures setting state c.args.packets rest);
}

pub returns-in-Lose : goal.returns-in-Lose
returns-in-Lose c = record {
  legal = λ setting state rest. rw c.in-Lose.is (c.may_lose.ensures setting state c.args.packets rest);
}

pub returns-in-Carry : goal.returns-in-Carry
returns-in-Carry c = record {
  legal = λ setting state rest. rw c.in-Carry.is (c.may_carry.ensures setting state rest.resting);
}

pub returns-in-Crash : goal.returns-in-Crash
returns-in-Crash c = record {
  legal = λ setting state rest. rw c.in-Crash.is (c.may_crash.ensures setting state c.args.packets rest);
}

pub returns-in-Propagate : goal.returns-in-Propagate
returns-in-Propagate c = record {
  legal = λ setting state rest. rw c.in-Propagate.is (c.may_propagate.ensures setting state c.args.script.now rest);
}
