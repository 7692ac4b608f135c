use Rattle.std.proofs.Common.{◌+◌, ◌==◌, false}
use Rattle.ftc_journal.specs.declared.event.Event.TheVariants as event
use Rattle.ftc_ring.specs.Ring.{next_of}
use Rattle.ftc_protocol.specs.Setting.{servers}
use Rattle.ftc_protocol.specs.Next.{next}
use Rattle.ftc_refinement.specs.Contents.{contents_of}
use Rattle.ftc_refinement.proofs.Fields.{takes}
use Rattle.ftc_refinement.proofs.taking.what_take_does.Goals as goal

pub returns-clause-entered : goal.returns-clause-entered
returns-clause-entered c setting state packet old new sent run legal up begun is taken =
    takes setting state (next setting state (event.Enter packet)) 0 old new sent false is taken
    (c.a_message_begins.ensures.entered setting state packet (contents_of old) sent run legal up begun is.stands)

pub returns-clause-propagated : goal.returns-clause-propagated
returns-clause-propagated c setting state origin old new sent run legal begun is taken =
    takes setting state (next setting state (event.Propagate origin)) 0 old new sent false is taken
    (c.a_message_begins.ensures.propagated setting state origin (contents_of old) sent run legal begun is.stands)

pub returns-clause-received : goal.returns-clause-received
returns-clause-received c setting state link origin queue sent rest old new run legal queued first is taken =
    takes setting state (next setting state (event.Take link origin)) (next_of (servers setting) link) old new sent
    (link + 1 == servers setting) is taken
    (c.a_message_is_taken.ensures.receiver setting state link origin queue sent rest (contents_of old) run legal queued
    first is.stands)
