use Rattle.std.proofs.Common.{◌∙◌, false, refl, ap, sym, ◌≡◌}
use Rattle.std.proofs.lemmas.Result.{on_ok_weaker, on_err_weaker}
use Rattle.ftc_journal.specs.declared.event.Event.TheVariants as event
use Rattle.ftc_server.specs.Holding.{is_held}
use Rattle.ftc_server.specs.State.{ServerState}
use Rattle.ftc_network.specs.Parts.{buffer_of}
use Rattle.ftc_network.proofs.Allowed.{at_up}
use Rattle.ftc_network.proofs.ReadySlots.{same_runs, roomed_still, slot_follows}
use Rattle.ftc_network.proofs.Heads.{same_head, either_way}
use Rattle.ftc_network.proofs.entering.propagate_at.Goals as goal

pub hold-requires-clause-new : goal.hold-requires-clause-new
hold-requires-clause-new c =
    at_up (event.Propagate c.args.origin) 0 c.args.slot.now c.in-Some.server
    (is_held c.in_ok-message-in-Some.message.origin c.in-Some.server.held.items) false c.in-Some.is
    (λ setting state run legal few up.
    (c.what_take_wants.ensures.propagated setting state c.args.origin c.in-Some.server
    c.in_ok-message-in-Some.message run legal c.in_ok-message-in-Some.ensures up.at).0) c.requires

pub returns-in_ok-message-in-Some-clause-ok : goal.returns-in_ok-message-in-Some-clause-ok
returns-in_ok-message-in-Some-clause-ok c =
    let old = c.in-Some.server in
    let new = c.hold.new.server in
    let message = c.in_ok-message-in-Some.message in
    on_ok_weaker c.hold.result (λ done setting state run legal. slot_follows c.in-Some.is refl
    (λ at. c.what_take_does.ensures.propagated setting state c.args.origin old new message run legal
    c.in_ok-message-in-Some.ensures at done)
    (λ at after. c.slots_stay_ready.ensures setting state (event.Propagate c.args.origin) 0 old new run legal at after
    (same_runs old new (ap (λ (s : ServerState). s.head) done.rest)))) c.hold.ensures.ok

pub returns-in_ok-message-in-Some-clause-buffer : goal.returns-in_ok-message-in-Some-clause-buffer
returns-in_ok-message-in-Some-clause-buffer c = on_ok_weaker c.hold.result (λ done.
    ap (λ (s : ServerState). s.buffer.items) done.rest ∙ ap buffer_of (sym c.in-Some.is)) c.hold.ensures.ok

pub returns-in_ok-message-in-Some-clause-err : goal.returns-in_ok-message-in-Some-clause-err
returns-in_ok-message-in-Some-clause-err c =
    let old = c.in-Some.server in
    let new = c.hold.new.server in
    on_err_weaker c.hold.result (λ same. roomed_still c.args.slot.now old new c.in-Some.is same
    (λ setting state number at fields. c.what_stays.ensures.roomed setting state number old new at fields) 0)
    c.hold.ensures.err

pub returns-in_ok-message-in-Some-clause-heads : goal.returns-in_ok-message-in-Some-clause-heads
returns-in_ok-message-in-Some-clause-heads c =
    same_head c.args.slot.now c.in-Some.server c.hold.new.server c.in-Some.is
    (either_way c.hold.result _ _ (c.hold.new.server.head ≡ c.in-Some.server.head)
    (λ done. ap (λ (s : ServerState). s.head) done.rest)
    (λ same. ap (λ (s : ServerState). s.head) same.rest) c.hold.ensures.ok c.hold.ensures.err)
