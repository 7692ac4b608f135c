use Rattle.std.proofs.Common.{ap, Err}
use Rattle.ftc.proofs.EndLemmas.{ended_beside, ended_cut}
use Rattle.ftc.proofs.Refusing.{ends_refused}
use Rattle.ftc.proofs.top.run_names.Goals as goal

pub returns-in-Err-clause-ends : goal.returns-in-Err-clause-ends
returns-in-Err-clause-ends g c =
    λ t. ends_refused _ _ _ _ _ _ _ c.in-Err.status (c.in-Err.ensures.refused t) (c.in-Err.ensures.files t)

pub returns-in-Ok-run_texts-clause-ends : goal.returns-in-Ok-run_texts-clause-ends
returns-in-Ok-run_texts-clause-ends g c = λ t.
    let told = c.in-Ok.ensures.served.tells_on t in
    let texts = c.in-Ok.texts in
    ended_beside c.run_laws.ensures _ _ _ c.requires.apart texts.spec texts.capture texts.script texts.schedule.items
    (c.in-Ok.ensures.accepted t) _ _ _ _ (c.in-Ok.ensures.files t) c.what_a_run_released.ensures.records
    (c.in-Ok-run_texts.ensures.done told)

pub returns-clause-ends : goal.returns-clause-ends
returns-clause-ends g c = λ t.
    let told = c.in-Ok.ensures.served.tells_on t in
    let texts = c.in-Ok.texts in
    rw c.from.ensures (ended_cut c.run_laws.ensures _ _ _ c.requires.apart texts.spec texts.capture texts.script
    texts.schedule.items (c.in-Ok.ensures.accepted t) _ _ _ _ (c.in-Ok.ensures.files t) _
    c.in-Err-run_texts.error (λ s same. c.in-Err-run_texts.ensures.safe told (c.in-Ok.ensures.served.sound_on s)
    (ap Err same))
    (λ same. c.in-Err-run_texts.ensures.failed told (ap Err same))
    (c.in-Err-run_texts.ensures.refused told))
