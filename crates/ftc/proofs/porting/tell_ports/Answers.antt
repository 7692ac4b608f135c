use Rattle.std.proofs.Common.{◌∙◌, ap, refl, Err}
use Rattle.ftc_outside.specs.Desk.{Files}
use Rattle.ftc.specs.Porting.{ports_by}
use Rattle.ftc.proofs.PortLemmas.{ports_refused, ports_cut}
use Rattle.ftc.proofs.porting.tell_ports.Goals as goal

pub returns-in-Err-clause-ends : goal.returns-in-Err-clause-ends
returns-in-Err-clause-ends g c =
    λ t. ports_refused _ _ _ _ _ c.in-Err.status (c.in-Err.ensures.refused t) (c.in-Err.ensures.files t)

pub returns-clause-ends : goal.returns-clause-ends
returns-clause-ends g c = λ t.
    let old : Files = g.D.Desk.file c.args.desk.now in
    let between : Files = g.D.Desk.file c.read_table.new.desk in
    let new : Files = g.D.Desk.file c.append.new.self in
    let tells = c.in-Ok.ensures.served.tells_on t in
    rw c.from.ensures (ports_cut (ports_by c.args.names) c.args.server old between new
    (c.in-Ok.ensures.files t) c.in-Ok.lines
    (c.in-Ok.ensures.accepted t) c.as_slice.result.now (c.as_slice.ensures ∙ c.in-Ok-ports_text.ensures)
    (g.D.Desk.sound c.args.desk.now)
    c.in-Err-append.error (λ s same.
    (c.in-Err-append.ensures.absent (c.in-Ok.ensures.served.sound_on s) (ap Err same)).1 refl)
    (c.in-Err-append.ensures.refused tells) (c.append.ensures.others tells))
