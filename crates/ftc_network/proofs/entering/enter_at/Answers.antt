use Rattle.std.proofs.Common.{◌∙◌, List, ℕ, false, Some, refl, ap, subst}
use Rattle.ftc_base.proofs.Results.{on_any_err}
use Rattle.ftc_journal.specs.declared.event.Event.TheVariants as event
use Rattle.ftc_message.specs.declared.message.Message.{Message as SentMessage}
use Rattle.ftc_protocol.specs.Next.{next}
use Rattle.ftc_protocol.specs.Setting.{packet_at}
use Rattle.ftc_server.specs.Holding.{is_held}
use Rattle.ftc_server.specs.State.{ServerState}
use Rattle.ftc_standing.specs.Stand.{IsBegun}
use Rattle.ftc_network.specs.Stand.{IsSlot, IsUp}
use Rattle.ftc_network.proofs.Allowed.{at_up}
use Rattle.ftc_network.proofs.ReadySlots.{same_runs, roomed_still}
use Rattle.ftc_network.proofs.entering.enter_at.Goals as goal

pub hold-requires-clause-new : goal.hold-requires-clause-new
hold-requires-clause-new c =
    at_up (event.Enter c.args.packet) 0 c.args.slot.now c.in-Some.server
    (is_held c.in_ok-message-in-Some.message.origin c.in-Some.server.held.items) false c.in-Some.is
    (λ setting state run legal few up.
    let message = c.in_ok-message-in-Some.message in
    let sent : SentMessage = record message { packet = Some (packet_at setting c.args.packet) } in
    let begun : IsBegun c.args.packet (Some (packet_at setting c.args.packet)) sent = record {
      origin_is = c.in_ok-message-in-Some.ensures.origin_is;
      packet_is = refl;
      no_logs = c.in_ok-message-in-Some.ensures.no_logs;
      no_needs = c.in_ok-message-in-Some.ensures.no_needs;
      no_commits = c.in_ok-message-in-Some.ensures.no_commits;
    } in
    (c.what_take_wants.ensures.entered setting state c.args.packet c.in-Some.server sent run legal begun up.at).0)
    c.requires

pub returns-in_ok-hold-in-Some-clause-ok : goal.returns-in_ok-hold-in-Some-clause-ok
returns-in_ok-hold-in-Some-clause-ok c setting state bytes run legal is =
    let old = c.in-Some.server in
    let mid = c.hold.new.server in
    let new = c.prune.new.self in
    let message = c.in_ok-message-in-Some.message in
    let done = c.in_ok-hold-in-Some.ensures.ok in
    let up : IsUp setting state 0 old = subst (IsSlot setting state 0) c.in-Some.is is in
    let at_taken = c.what_take_does.ensures.entered setting state c.args.packet old mid message run legal up.up
    (subst (λ (packet : List ℕ). IsBegun c.args.packet (Some packet) message) bytes c.in_ok-message-in-Some.ensures)
    up.at done in
    let at = c.what_stays.ensures.pruned setting (next setting state (event.Enter c.args.packet)) 0 mid new at_taken
    c.prune.ensures in
    record {
      up = up.up;
      at = at;
      ready = c.slots_stay_ready.ensures setting state (event.Enter c.args.packet) 0 old new run legal up.at at
          (same_runs old new (ap (λ (s : ServerState). s.head) c.prune.ensures.rest
          ∙ ap (λ (s : ServerState). s.head) done.rest)) up.ready;
    }

pub returns-in_err-hold-in-Some-clause-err : goal.returns-in_err-hold-in-Some-clause-err
returns-in_err-hold-in-Some-clause-err c =
    let old = c.in-Some.server in
    let new = c.hold.new.server in
    on_any_err c.from_residual-in_err-hold-in-Some.result _ (roomed_still c.args.slot.now old new c.in-Some.is
    c.in_err-hold-in-Some.ensures.err
    (λ setting state number at fields. c.what_stays.ensures.roomed setting state number old new at fields) 0)
