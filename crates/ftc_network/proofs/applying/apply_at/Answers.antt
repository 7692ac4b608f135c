use Rattle.std.proofs.Common.{true, refl, ap, sym, ◌∙◌, ◌≡◌}
use Rattle.std.proofs.lemmas.Result.{on_ok_weaker, on_err_weaker}
use Rattle.ftc_journal.specs.declared.event.Event.{Event}
use Rattle.ftc_journal.specs.declared.event.Event.TheVariants as event
use Rattle.ftc_server.specs.Looks.{may_apply_in}
use Rattle.ftc_server.specs.Replicas.{replica_at, may_rise_in}
use Rattle.ftc_server.specs.State.{ServerState}
use Rattle.ftc_network.specs.Parts.{buffer_of}
use Rattle.ftc_network.proofs.Allowed.{at_up}
use Rattle.ftc_network.proofs.ReadySlots.{same_runs, same_still, slot_follows}
use Rattle.ftc_network.proofs.Heads.{same_head, either_way}
use Rattle.ftc_network.proofs.applying.apply_at.Goals as goal

pub apply-requires-clause-ready : goal.apply-requires-clause-ready
apply-requires-clause-ready c =
    let event : Event = event.Apply c.args.server c.args.origin c.args.group c.args.packet in
    at_up event c.args.server c.args.slot.now c.in-Some.live
    (may_apply_in c.in-Some.live c.args.origin c.args.group c.args.packet) true c.in-Some.is
    (λ setting state run legal few up. c.what_apply_wants.ensures.ready setting state c.args.server c.args.origin
    c.args.group
    c.args.packet c.in-Some.live run legal up.at) c.requires

pub apply-requires-clause-rise : goal.apply-requires-clause-rise
apply-requires-clause-rise c =
    let event : Event = event.Apply c.args.server c.args.origin c.args.group c.args.packet in
    at_up event c.args.server c.args.slot.now c.in-Some.live
    (may_rise_in (replica_at c.in-Some.live.others.items c.args.group)) true c.in-Some.is
    (λ setting state run legal few up. c.what_apply_wants.ensures.rise setting state c.args.server c.args.origin
    c.args.group
    c.args.packet c.in-Some.live run legal up.at few) c.requires

pub returns-in-Some-clause-ok : goal.returns-in-Some-clause-ok
returns-in-Some-clause-ok c =
    let old = c.in-Some.live in
    let new = c.apply.new.self in
    on_ok_weaker c.apply.result (λ done setting state run legal. slot_follows c.in-Some.is refl
    (λ at. c.what_apply_does.ensures setting state c.args.server c.args.origin c.args.group c.args.packet old new run
    legal at done)
    (λ at after. c.slots_stay_ready.ensures setting state
    (event.Apply c.args.server c.args.origin c.args.group c.args.packet) c.args.server old new run legal at after
    (same_runs old new (ap (λ (s : ServerState). s.head) done.rest)))) c.apply.ensures.ok

pub returns-in-Some-clause-buffer : goal.returns-in-Some-clause-buffer
returns-in-Some-clause-buffer c = on_ok_weaker c.apply.result (λ done.
    ap (λ (s : ServerState). s.buffer.items) done.rest ∙ ap buffer_of (sym c.in-Some.is)) c.apply.ensures.ok

pub returns-in-Some-clause-err : goal.returns-in-Some-clause-err
returns-in-Some-clause-err c =
    let old = c.in-Some.live in
    let new = c.apply.new.self in
    on_err_weaker c.apply.result (λ same. same_still c.args.slot.now old new c.in-Some.is same
    (λ setting state number at fields. c.what_stays.ensures.same setting state number old new at fields) c.args.server)
    c.apply.ensures.err

pub returns-in-Some-clause-heads : goal.returns-in-Some-clause-heads
returns-in-Some-clause-heads c =
    same_head c.args.slot.now c.in-Some.live c.apply.new.self c.in-Some.is
    (either_way c.apply.result _ _ (c.apply.new.self.head ≡ c.in-Some.live.head)
    (λ done. ap (λ (s : ServerState). s.head) done.rest)
    (λ same. ap (λ (s : ServerState). s.head) same) c.apply.ensures.ok c.apply.ensures.err)
