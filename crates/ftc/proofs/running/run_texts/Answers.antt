use Rattle.std.proofs.Common.{inr}
use Rattle.ftc_base.proofs.Results.{on_err_map}
use Rattle.ftc.proofs.RunLemmas.{err_of, maybe_open}
use Rattle.ftc.proofs.running.run_texts.Goals as goal

pub returns-in-Alone-clause-done : goal.returns-in-Alone-clause-done
returns-in-Alone-clause-done g c = λ t. rw c.in-Alone.is (c.run_alone.ensures.done t)

pub returns-in-Alone-clause-failed : goal.returns-in-Alone-clause-failed
returns-in-Alone-clause-failed g c = λ t failed. inr (rw c.in-Alone.is (c.run_alone.ensures.failed t failed))

pub returns-in-Alone-clause-refused : goal.returns-in-Alone-clause-refused
returns-in-Alone-clause-refused g c =
    λ t. rw c.in-Alone.is (on_err_map c.run_alone.result _ _ (maybe_open _ _ _) (c.run_alone.ensures.refused t))

pub returns-in-Workers-clause-done : goal.returns-in-Workers-clause-done
returns-in-Workers-clause-done g c = λ t. rw c.in-Workers.is (c.run_by_workers.ensures.done t)

pub returns-in-Workers-clause-failed : goal.returns-in-Workers-clause-failed
returns-in-Workers-clause-failed g c =
    λ t failed. rw c.in-Workers.is (err_of c.run_by_workers.result _ _ failed (c.run_by_workers.ensures.refused t))

pub returns-in-Workers-clause-refused : goal.returns-in-Workers-clause-refused
returns-in-Workers-clause-refused g c =
    λ t. rw c.in-Workers.is (on_err_map c.run_by_workers.result _ _ inr (c.run_by_workers.ensures.refused t))

pub returns-in-Plain-clause-done : goal.returns-in-Plain-clause-done
returns-in-Plain-clause-done g c = λ t. rw c.in-Plain.is (c.run_by_workers-in-Plain.ensures.done t)

pub returns-in-Plain-clause-failed : goal.returns-in-Plain-clause-failed
returns-in-Plain-clause-failed g c =
    λ t failed. rw c.in-Plain.is
    (err_of c.run_by_workers-in-Plain.result _ _ failed (c.run_by_workers-in-Plain.ensures.refused t))

pub returns-in-Plain-clause-refused : goal.returns-in-Plain-clause-refused
returns-in-Plain-clause-refused g c =
    λ t. rw c.in-Plain.is (on_err_map c.run_by_workers-in-Plain.result _ _ inr
    (c.run_by_workers-in-Plain.ensures.refused t))
