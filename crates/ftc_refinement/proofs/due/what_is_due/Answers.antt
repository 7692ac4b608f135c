use Rattle.std.proofs.Common.{◌≡◌, ◌+◌, ◌-◌, ℕ, true, Some, subst, arith}
use Rattle.std.specs.Prelude.{◌↔◌}
use Rattle.ftc_edge.specs.declared.buffer.Withheld.{Withheld as WithheldPacket}
use Rattle.ftc_edge.specs.Due.{is_due}
use Rattle.ftc_protocol.specs.Setting.{Setting, servers}
use Rattle.ftc_protocol.specs.State.{ChainState, Withheld as AWithheld}
use Rattle.ftc_protocol.specs.Known.{IsDue, knows}
use Rattle.ftc_protocol.specs.Run.{IsRunState}
use Rattle.ftc_server.specs.declared.server.Server.{Server}
use Rattle.ftc_ties.specs.Servers.{AreCommits}
use Rattle.ftc_standing.specs.Stand.{IsWithheldAs}
use Rattle.ftc_refinement.specs.Contents.{IsServerAt}
use Rattle.ftc_refinement.proofs.DuePackets.{first_may, first_bytes, none_due}
use Rattle.ftc_refinement.proofs.due.what_is_due.Goals.{After-a_packet_due}
use Rattle.ftc_refinement.proofs.due.what_is_due.Goals as goal

one_before : (server count : ℕ) → server + 1 ≡ count → server ≡ count - 1
one_before server count last = omega (arith, last)

-- an item of the last server's buffer is due where its packet is due in the state, and only there
due_there : After-a_packet_due → (setting : Setting) (state : ChainState) (server : ℕ) (old : Server) →
    IsRunState setting state → server + 1 ≡ servers setting → IsServerAt setting state server old →
    (packet : ℕ) (waiting : AWithheld) (item : WithheldPacket) → state.withheld packet ≡ Some waiting →
    IsWithheldAs setting state packet waiting item →
    (is_due old.known item ≡ true) ↔ IsDue setting state packet waiting
due_there c setting state server old run last is packet waiting item there stands =
    let commits = subst (λ s. AreCommits setting state (knows setting state s) old.known)
    (one_before server (servers setting) last) is.stands.replicas.known in
    let told = c.due_packets.ensures old.known item in
    let meant = c.a_packet_due.ensures setting state packet waiting old.known item.needs run commits there stands.needs
    in
    ((λ due. meant.0 (told.0 due)), (λ due. told.1 (meant.1 due)))

pub returns-clause-first : goal.returns-clause-first
returns-clause-first c setting state server due old run last is first =
    first_may setting state server last old.known old.buffer.items is.stands.withheld
    (due_there c setting state server old run last is) due first

pub returns-clause-bytes : goal.returns-clause-bytes
returns-clause-bytes c setting state server due old run last is first =
    first_bytes setting state server last old.known old.buffer.items is.stands.withheld
    (due_there c setting state server old run last is) due first

pub returns-clause-none : goal.returns-clause-none
returns-clause-none c setting state server packet withheld old run last is none its =
    none_due setting state server last old.known old.buffer.items is.stands.withheld
    (due_there c setting state server old run last is)
    (c.released_packets.ensures.none old.known old.buffer.items none) packet withheld its
