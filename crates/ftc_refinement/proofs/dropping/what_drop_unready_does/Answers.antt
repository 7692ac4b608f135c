use Rattle.std.proofs.Common.{◌≡◌, ◌∙◌, ℕ, true, Some, sym, subst}
use Rattle.std.specs.Prelude.{◌↔◌}
use Rattle.std.specs.List.{filter}
use Rattle.std.specs.Cmp.{both_ways}
use Rattle.ftc_base.proofs.EachOf.{all-weaker}
use Rattle.ftc_journal.specs.declared.event.Event.TheVariants as event
use Rattle.ftc_protocol.specs.State.{ChainState}
use Rattle.ftc_protocol.specs.Next.{next}
use Rattle.ftc_protocol.specs.Recovery.{following_live}
use Rattle.ftc_protocol.specs.Trace.{Has, has_each}
use Rattle.ftc_protocol.specs.Visits.{Visits, In}
use Rattle.ftc_server.specs.declared.held.HeldMessage.{HeldMessage}
use Rattle.ftc_server.specs.Holding.{found}
use Rattle.ftc_server.specs.Replicas.{is_ready}
use Rattle.ftc_refinement.specs.Contents.{item_of_held, items_of, contents_of}
use Rattle.ftc_refinement.proofs.DroppedMessages.{each_found, stays, stays_as, stay_alike, drops}
use Rattle.ftc_refinement.proofs.Works.{held_in}
use Rattle.ftc_refinement.proofs.dropping.what_drop_unready_does.Goals as goal

pub returns : goal.returns
returns c setting state server undone old new run legal other is done =
    let behind = following_live setting state server in
    let tests = λ (visits wanted : Visits).
    subst (λ (s : ChainState). (has_each setting.partitions s.trace visits wanted ≡ true)
    ↔ ((group packet : ℕ) → In wanted group packet → Has setting.partitions s.trace visits group packet)) run.reaches
    (c.what_tests_say.ensures.each setting run.right run.journal run.run visits wanted) in
    let one = λ (held : HeldMessage) (there : found held.message.origin old.held.items ≡ Some held).
    let in_state = held_in setting state behind held.message.origin held old.held.items there is.stands.held in
    let message = in_state.message in
    let ready = c.what_is_ready.ensures setting state behind held.message.origin held.visited held.by_ring message held
    old run
    is in_state.there in_state.stands.place there in
    let each = tests (state.lists behind) message.logs in
    both_ways (is_ready old.others.items held)
    (has_each setting.partitions state.trace (state.lists behind) message.logs)
    (λ had. each.1 (ready.0 had)) (λ all. ready.1 (each.0 all))
    ∙ sym (stays_as setting state behind message (item_of_held held) in_state.there) in
    let alike = all-weaker (λ (held : HeldMessage). found held.message.origin old.held.items ≡ Some held)
    (λ (held : HeldMessage). is_ready old.others.items held ≡ stays setting state behind (item_of_held held)) one
    old.held.items (each_found setting state behind old.held.items is.stands.held) in
    drops setting state (next setting state (event.Recover server undone)) behind old new
    (filter (stays setting state behind) (items_of old.held.items)) is done
    (stay_alike (is_ready old.others.items) (stays setting state behind) old.held.items alike)
    (c.a_server_is_replaced.ensures.following setting state server undone (contents_of old)
    (stays setting state behind) run legal
    other (λ message item there. stays_as setting state behind message item there) is.stands)
