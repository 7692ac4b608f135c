use Rattle.std.proofs.Common.{◌++◌, refl, ap}
use Rattle.std.specs.List.{before_first, after_first}
use Rattle.ftc_base.proofs.Firsts.{around_found}
use Rattle.ftc_edge.specs.Due.{is_due}
use Rattle.ftc_journal.specs.declared.event.Event.TheVariants as event
use Rattle.ftc_protocol.specs.Next.{next}
use Rattle.ftc_server.specs.State.{ServerState}
use Rattle.ftc_refinement.specs.Contents.{items_of, contents_of}
use Rattle.ftc_refinement.proofs.MessageCalls.{leaves, same_replicas}
use Rattle.ftc_refinement.proofs.leaving.what_release_does.Goals as goal

pub returns : goal.returns
returns c setting state server due old new run last first legal is done =
    leaves setting state (next setting state (event.Release due.packet)) server old new (items_of old.held.items)
    (before_first (is_due old.known) old.buffer.items
    ++ after_first (is_due old.known) old.buffer.items) old.forwarder is
    (same_replicas old new old.held new.buffer old.forwarder done.rest)
    (ap (λ (s : ServerState). items_of s.held.items) done.rest) done.buffer
    (ap (λ (s : ServerState). s.forwarder) done.rest)
    (c.a_packet_is_released.ensures setting state due.packet server (contents_of old)
    (before_first (is_due old.known) old.buffer.items) due
    (after_first (is_due old.known) old.buffer.items) run legal last
    (around_found (is_due old.known) old.buffer.items due first) refl is.stands)
