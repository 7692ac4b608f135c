use Rattle.std.proofs.Common.{◌≡◌, ◌≤◌, ◌+◌, ◌∙◌, ◌++◌, Bool, true, false, List, Option, Some, None, length, cond, sym}
use Rattle.std.proofs.Common.{ap, subst, arith}
use Rattle.std.proofs.lemmas.List.{length-append}
use Rattle.std.proofs.Math.Bool.{Bool-set}
use Rattle.std.proofs.Math.Logic.{∥∥₁_elim}
use Rattle.std.specs.Prelude.{is_some}
use Rattle.ftc_base.proofs.Results.{on_any_err}
use Rattle.ftc_protocol.specs.Next.{next}
use Rattle.ftc_edge.specs.declared.buffer.Withheld.{Withheld}
use Rattle.ftc_server.specs.declared.held.HeldMessage.{HeldMessage}
use Rattle.ftc_server.specs.Holding.{found}
use Rattle.ftc_server.specs.Standing.{is_last}
use Rattle.ftc_server.specs.State.{ServerState}
use Rattle.ftc_server.specs.Steps.{withheld_with, withheld_of}
use Rattle.ftc_network.specs.Parts.{buffer_of}
use Rattle.ftc_standing.specs.Stand.{IsLink}
use Rattle.ftc_standing.specs.View.{leaving}
use Rattle.ftc_refinement.specs.Contents.{IsServerAt}
use Rattle.ftc_network.specs.Stand.{IsSlot, IsUp}
use Rattle.ftc_network.specs.Sending.{HasFrameIfRoom}
use Rattle.ftc_network.proofs.ReadySlots.{same_runs, buffered_still}
use Rattle.ftc_network.proofs.MessageForms.{has_frame, work_is_send}
use Rattle.ftc_network.proofs.Results.{each_some}
use Rattle.ftc_network.proofs.SentAlong.{either_way, up_after, is_sent_where, after_sending}
use Rattle.ftc_network.proofs.Heads.{same_head}
use Rattle.ftc_network.proofs.leaving.leave_at.Goals as goal

pub outgoing-requires : goal.outgoing-requires
outgoing-requires c =
    let lost = is_some c.args.lost in
    let live = c.in-Some.live in
    ∥∥₁_elim c.requires (Bool-set _ _) (λ leaves.
    let up : IsUp leaves.setting leaves.state c.args.server live =
    subst (IsSlot leaves.setting leaves.state c.args.server) c.in-Some.is leaves.stands in
    c.what_pass_wants.ensures.apart leaves.setting leaves.state lost c.args.server c.args.origin live leaves.run
    leaves.legal
    up.at)

pub send_on-requires : goal.send_on-requires
send_on-requires c =
    let lost = is_some c.args.lost in
    let live = c.in-Some.live in
    each_some HasFrameIfRoom c.in_ok-message-in-Some.message (λ message is.
    has_frame message c.requires (λ leaves few short.
    let up : IsUp leaves.setting leaves.state c.args.server live =
    subst (IsSlot leaves.setting leaves.state c.args.server) c.in-Some.is leaves.stands in
    c.what_pass_wants.ensures.formed leaves.setting leaves.state lost c.args.server c.args.origin live message
    leaves.run
    leaves.legal up.at (sym c.in_ok-message-in-Some.ensures.sent ∙ is) few short))

pub pass-requires-clause-work : goal.pass-requires-clause-work
pass-requires-clause-work c =
    let lost = is_some c.args.lost in
    let live = c.in-Some.live in
    let roomed = c.outgoing.new.self in
    work_is_send _ c.requires (λ leaves.
    let up : IsUp leaves.setting leaves.state c.args.server live =
    subst (IsSlot leaves.setting leaves.state c.args.server) c.in-Some.is leaves.stands in
    c.what_pass_wants.ensures.work leaves.setting leaves.state lost c.args.server c.args.origin roomed leaves.run
    leaves.legal
    (c.what_stays.ensures.buffered leaves.setting leaves.state c.args.server live roomed up.at
    c.in_ok-message-in-Some.ensures.same))

pub returns-in_ok-send_on-in-Some-clause-ok : goal.returns-in_ok-send_on-in-Some-clause-ok
returns-in_ok-send_on-in-Some-clause-ok c setting state same run legal link is =
    let lost = is_some c.args.lost in
    let server = c.args.server in
    let origin = c.args.origin in
    let queue = c.args.link.now in
    let live = c.in-Some.live in
    let roomed = c.outgoing.new.self in
    let passed = c.pass.new.self in
    let message = c.in_ok-message-in-Some.message in
    let sends = c.in_ok-message-in-Some.ensures.sent in
    let room = c.in_ok-message-in-Some.ensures.same in
    let after = next setting state (leaving lost server origin) in
    let up : IsUp setting state server live = subst (IsSlot setting state server) c.in-Some.is is in
    let at : IsServerAt setting state server roomed =
    c.what_stays.ensures.buffered setting state server live roomed up.at room in
    let at_after : IsServerAt setting after server passed =
    c.what_pass_does.ensures setting state lost server origin roomed passed run legal at c.pass.ensures in (
      subst (λ queue_now. IsLink setting after server queue_now) (sym c.in_ok-send_on-in-Some.ensures.ok)
          (after_sending setting state server origin queue link c.args.lost c.args.up message same
          (λ none. c.what_is_sent.ensures.nothing setting state lost server origin live run legal up.at
          (sym sends ∙ none))
          (λ sent some. is_sent_where setting state server origin live sent up.at (sym sends ∙ some))
          (λ sent some queued. c.what_is_sent.ensures.queued setting state lost server origin live queue sent run legal
          queued
          up.at (sym sends ∙ some) link)
          (λ gap away now. c.a_message_is_sent.ensures.away setting state lost server origin queue gap run legal away
          now link)),
      record {
        up = up_after setting state lost server origin server ∙ up.up;
        at = at_after;
        ready = c.slots_stay_ready.ensures setting state (leaving lost server origin) server live passed run legal up.at
            at_after (same_runs live passed
            (ap (λ (s : ServerState). s.head) c.pass.ensures.rest ∙ ap
            (λ (s : ServerState). s.head) room.rest)) up.ready;
      },
    )

pub returns-in-None-clause-ok : goal.returns-in-None-clause-ok
returns-in-None-clause-ok c setting state same run legal link is =
    let lost = is_some c.args.lost in
    let down : state.up c.args.server ≡ false = subst (IsSlot setting state c.args.server) c.in-None.is is in
    let up : state.up c.args.server ≡ true =
    either_way (state.up c.args.server ≡ true) setting state c.args.server c.args.origin lost
    (λ passes. (c.where_events_are.ensures.pass setting state c.args.server c.args.origin run passes).1)
    (λ loses. (c.where_events_are.ensures.lose setting state c.args.server c.args.origin run loses).1) legal in
    absurd cc

pub returns-in_err-send_on-in-Some-clause-slot : goal.returns-in_err-send_on-in-Some-clause-slot
returns-in_err-send_on-in-Some-clause-slot c = on_any_err c.from_residual-in_err-send_on-in-Some.result _
    (buffered_still c.args.slot.now c.in-Some.live c.outgoing.new.self c.in-Some.is c.in_ok-message-in-Some.ensures.same
    (λ setting state number at room. c.what_stays.ensures.buffered setting state number c.in-Some.live
    c.outgoing.new.self at room))

pub returns-in_ok-send_on-in-Some-clause-heads : goal.returns-in_ok-send_on-in-Some-clause-heads
returns-in_ok-send_on-in-Some-clause-heads c =
    same_head c.args.slot.now c.in-Some.live c.pass.new.self c.in-Some.is
    (ap (λ (s : ServerState). s.head) c.pass.ensures.rest
    ∙ ap (λ (s : ServerState). s.head) c.in_ok-message-in-Some.ensures.same.rest)

pub returns-in_err-send_on-in-Some-clause-heads : goal.returns-in_err-send_on-in-Some-clause-heads
returns-in_err-send_on-in-Some-clause-heads c =
    same_head c.args.slot.now c.in-Some.live c.outgoing.new.self c.in-Some.is
    (ap (λ (s : ServerState). s.head) c.in_ok-message-in-Some.ensures.same.rest)

pub returns-in_err-message-in-Some-clause-slot : goal.returns-in_err-message-in-Some-clause-slot
returns-in_err-message-in-Some-clause-slot c = on_any_err c.from_residual.result _
    (buffered_still c.args.slot.now c.in-Some.live c.outgoing.new.self c.in-Some.is
    c.in_err-message-in-Some.ensures.same
    (λ setting state number at room. c.what_stays.ensures.buffered setting state number c.in-Some.live
    c.outgoing.new.self at room))

-- at most one packet is withheld
few_withheld : (held : Option HeldMessage) → length (withheld_of held) ≤ 1
few_withheld None = omega arith
few_withheld (Some held) =
    elim held.message.packet as (λ p. length (withheld_with held.message.origin held.message.needs p) ≤ 1) [
      | None ↦ omega arith
      | Some bytes ↦ omega arith
    ]

one_more : (last : Bool) (old more : List Withheld) → length more ≤ 1 →
    length (cond last (old ++ more) old) ≤ length old + 1
one_more true old more few = let whole = length-append old more in omega (arith, whole, few)
one_more false old more few = omega arith

pub returns-in_ok-send_on-in-Some-clause-withheld : goal.returns-in_ok-send_on-in-Some-clause-withheld
returns-in_ok-send_on-in-Some-clause-withheld c =
    let live = c.in-Some.live in
    let roomed = c.outgoing.new.self in
    let held = found c.args.origin roomed.held.items in
    let most = one_more (is_last roomed.ring roomed.id) roomed.buffer.items (withheld_of held) (few_withheld held) in
    let now = ap (λ (items : List Withheld). length items) c.pass.ensures.buffer in
    let before : length roomed.buffer.items ≡ length (buffer_of c.args.slot.now) =
    ap (λ (items : List Withheld). length items)
    (c.in_ok-message-in-Some.ensures.same.buffer ∙ sym (ap buffer_of c.in-Some.is)) in
    omega (arith, most, now, before)
