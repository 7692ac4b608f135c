use Rattle.std.proofs.Common.{◌≡◌, ◌∙◌, ◌+◌, ℕ, List, length, sym, ap, subst}
use Rattle.ftc_edge.specs.declared.buffer.Freed.{Freed}
use Rattle.ftc_edge.specs.declared.buffer.Withheld.{Withheld}
use Rattle.ftc_edge.specs.Due.{freed, first_due}
use Rattle.ftc_journal.specs.declared.event.Event.TheVariants as event
use Rattle.ftc_protocol.specs.Legal.{IsLegal}
use Rattle.ftc_protocol.specs.Next.{next}
use Rattle.ftc_protocol.specs.Setting.{Setting, servers}
use Rattle.ftc_protocol.specs.State.{ChainState}
use Rattle.ftc_protocol.specs.Run.{IsRunState}
use Rattle.ftc_server.specs.State.{ServerState}
use Rattle.ftc_network.specs.Parts.{buffer_of}
use Rattle.ftc_network.specs.Stand.{IsSlot, IsUp}
use Rattle.ftc_network.specs.Released.{IsReleased}
use Rattle.ftc_network.proofs.ReadySlots.{same_runs, ready_by, still_ready}
use Rattle.ftc_network.proofs.LastServer.{none_withheld}
use Rattle.ftc_network.proofs.Released.{one_fewer}
use Rattle.ftc_network.proofs.Results.{none_mapped, some_mapped}
use Rattle.ftc_network.proofs.Heads.{same_head}
use Rattle.ftc_network.proofs.releasing.release_at.Goals as goal

pub returns-in-Some-clause-none : goal.returns-in-Some-clause-none
returns-in-Some-clause-none c none setting state number run last is =
    let server = c.in-Some.server in
    let new = c.release.new.self in
    let up : IsUp setting state number server = subst (IsSlot setting state number) c.in-Some.is is in
    let first = none_mapped freed
    (first_due server.known server.buffer.items) c.release.result c.release.ensures.freed none in
    let done = c.release.ensures.others in (
      (λ packet withheld due. c.what_is_due.ensures.none setting state number packet withheld server run last up.at
          first due),
      record {
        up = up.up;
        at = c.what_stays.ensures.buffered setting state number server new up.at (record {
          buffer = done.buffer ∙ c.released_packets.ensures.all server.known server.buffer.items first;
          rest = done.rest;
        });
        ready = still_ready server new (ap ready_by done.rest)
            (same_runs server new (ap (λ (s : ServerState). s.head) done.rest)) up.ready;
      },
    )

pub returns-in-Some-clause-some : goal.returns-in-Some-clause-some
returns-in-Some-clause-some c =
    let server = c.in-Some.server in
    let new = c.release.new.self in
    let done = c.release.ensures.others in
    some_mapped (λ (freed : Freed). (setting : Setting) (state : ChainState) (number : ℕ) → IsRunState setting state →
    number + 1 ≡ servers setting → IsSlot setting state number c.args.slot.now →
    IsReleased setting state freed × IsUp setting (next setting state (event.Release freed.packet)) number new)
    freed (first_due server.known server.buffer.items) c.release.result c.release.ensures.freed
    (λ due first setting state number run last is.
    let up : IsUp setting state number server = subst (IsSlot setting state number) c.in-Some.is is in
    let may = c.what_is_due.ensures.first setting state number due server run last up.at first in
    let legal : IsLegal setting state (event.Release due.packet) = (may, λ other packet withheld. absurd cc) in
    let at = c.what_release_does.ensures setting state number due server new run last first legal up.at done in (
      record {
        legal = legal;
        bytes = c.what_is_due.ensures.bytes setting state number due server run last up.at first;
      },
      record {
        up = up.up;
        at = at;
        ready = c.slots_stay_ready.ensures setting state (event.Release due.packet) number server new run legal up.at at
            (same_runs server new (ap (λ (s : ServerState). s.head) done.rest)) up.ready;
      },
    ))

pub returns-in-Some-clause-fewer : goal.returns-in-Some-clause-fewer
returns-in-Some-clause-fewer c =
    let server = c.in-Some.server in
    let new = c.release.new.self in
    some_mapped (λ (freed : Freed). length new.buffer.items + 1 ≡ length (buffer_of c.args.slot.now))
    freed (first_due server.known server.buffer.items) c.release.result c.release.ensures.freed
    (λ due first.
    ap (λ (items : List Withheld). length items + 1) c.release.ensures.others.buffer
    ∙ one_fewer server.known server.buffer.items due
    (c.released_packets.ensures.first server.known server.buffer.items due first)
    ∙ ap (λ slot. length (buffer_of slot)) (sym c.in-Some.is))

pub returns-in-None-clause-none : goal.returns-in-None-clause-none
returns-in-None-clause-none c none setting state number run last is =
    let down : state.up number ≡ Rattle.std.proofs.Common.false = subst (IsSlot setting state number) c.in-None.is is in
    (none_withheld setting state number last (c.order_of_a_state.ensures setting state run) down, is)

pub returns-in-Some-clause-heads : goal.returns-in-Some-clause-heads
returns-in-Some-clause-heads c =
    same_head c.args.slot.now c.in-Some.server c.release.new.self c.in-Some.is
    (ap (λ (s : ServerState). s.head) c.release.ensures.others.rest)
