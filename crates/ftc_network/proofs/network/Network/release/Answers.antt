use Rattle.std.proofs.Common.{◌≡◌, ◌+◌, ◌-◌, ◌<◌, refl, ap, arith}
use Rattle.ftc_journal.specs.declared.event.Event.{Event}
use Rattle.ftc_journal.specs.declared.event.Event.TheVariants as event
use Rattle.ftc_protocol.specs.Next.{next}
use Rattle.ftc_protocol.specs.Setting.{servers}
use Rattle.ftc_ring.specs.Ring.{RingShape}
use Rattle.ftc_network.specs.Parts.{parts_of}
use Rattle.ftc_network.proofs.OneServer.{still_server}
use Rattle.ftc_network.proofs.Results.{if_some}
use Rattle.ftc_network.proofs.SlotThere.{is_at, stands_there, heads_there, same_counts, follows_there}
use Rattle.ftc_network.proofs.network.Network.release.Goals as goal

pub returns-clause-none : goal.returns-clause-none
returns-clause-none c none setting state run is =
    let old = c.args.self.now in
    let number = c.len-last.result - 1 in
    let some = c.servers.ensures.bounds.some in
    let inside : number < old.ring.servers = omega (arith, some, old.each_server, c.len-last.ensures) in
    let at = is_at old inside refl c.index_mut.ensures.value in
    let size : old.ring.servers ≡ servers setting = ap (λ (ring : RingShape). ring.servers) is.ring in
    let last : number + 1 ≡ servers setting = omega (arith, size, some, old.each_server, c.len-last.ensures) in
    let done = c.release_at.ensures.none none setting state number run last (stands_there at setting state is) in (
      done.0,
      still_server setting state (parts_of old) number number c.release_at.new.slot refl at.within is done.1,
    )

pub returns-clause-some : goal.returns-clause-some
returns-clause-some c =
    let old = c.args.self.now in
    let number = c.len-last.result - 1 in
    let some = c.servers.ensures.bounds.some in
    let inside : number < old.ring.servers = omega (arith, some, old.each_server, c.len-last.ensures) in
    let at = is_at old inside refl c.index_mut.ensures.value in
    if_some _ _ c.release_at.result (λ freed done setting state run is.
    let event : Event = event.Release freed.packet in
    let size : old.ring.servers ≡ servers setting = ap (λ (ring : RingShape). ring.servers) is.ring in
    let last : number + 1 ≡ servers setting = omega (arith, size, some, old.each_server, c.len-last.ensures) in
    let released = done setting state number run last (stands_there at setting state is) in (
      released.0,
      follows_there c.servers_beside.ensures c.links_stand_still.ensures at c.release_at.new.slot setting state event
          (λ other differs same. differs (omega (arith, same, last))) (λ link. tt) run released.0.legal is released.1
          old.entered old.done old.propagates (same_counts (next setting state event) refl refl refl is.counts)
          old.visits.items
          (c.made_visits_stay.ensures setting state event old.visits.items run released.0.legal refl is.visits),
    )) c.release_at.ensures.some

pub returns-clause-heads : goal.returns-clause-heads
returns-clause-heads c =
    let old = c.args.self.now in
    let number = c.len-last.result - 1 in
    let some = c.servers.ensures.bounds.some in
    let inside : number < old.ring.servers = omega (arith, some, old.each_server, c.len-last.ensures) in
    let at = is_at old inside refl c.index_mut.ensures.value in
    heads_there at c.release_at.new.slot c.release_at.ensures.heads
