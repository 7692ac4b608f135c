use Rattle.std.proofs.Common.{◌≡◌, ◌∙◌, ◌+◌, ℕ, Some, sym, ap, arith}
use Rattle.std.proofs.lemmas.Bool.{true≢false}
use Rattle.std.proofs.lemmas.Option.{none-some, same_Some}
use Rattle.ftc_protocol.specs.Setting.{count}
use Rattle.ftc_network.specs.Parts.{link_in, server_in}
use Rattle.ftc_jobs.proofs.Begins.{may_be, must_be, slots_stand}
use Rattle.ftc_jobs.proofs.quiet.propagating.Goals as goal
use Rattle.ftc_jobs.proofs.quiet.propagating.Goals.{else-network-packets-via-then-network-packets+else-may_begin}
use Rattle.ftc_jobs.proofs.quiet.propagating.Goals.{else-network-packets-via-else-network-packets}

pub returns-then-may_begin : goal.returns-then-may_begin
returns-then-may_begin c setting state script rest origin =
    let network = c.args.network.now in
    let counts = rest.resting.stands.counts in
    let entered : state.entered ≡ count setting =
    sym counts.entered_is ∙ (c.if-network-packets.true ∙ rest.packets_are) in
    let sum : c.saturating_add.result ≡ count setting + state.propagates =
    omega (arith, rest.room, rest.packets_are, counts.propagates_is, c.saturating_add.ensures) in
    let says = c.what_propagates.ensures setting state origin (λ (n : ℕ). server_in network.servers.items n)
    (λ (n : ℕ). link_in network.links.items n) rest.resting.run rest.resting.none_due
    (slots_stand setting state network rest.resting) in (
      (λ same. says.1 (may_be setting state network rest.resting origin entered
          (sym (same_Some c.saturating_add.result origin same) ∙ sum) (sym c.may_begin.ensures ∙ c.if-may_begin.true))),
      (λ legal. ap (λ (n : ℕ). Some n) (sum ∙ sym (says.0 legal).origin_is)),
    )

pub returns-else-network-packets : goal.returns-else-network-packets
returns-else-network-packets c setting state script rest origin =
    let network = c.args.network.now in
    let counts = rest.resting.stands.counts in
    let says = c.what_propagates.ensures setting state origin (λ (n : ℕ). server_in network.servers.items n)
    (λ (n : ℕ). link_in network.links.items n) rest.resting.run rest.resting.none_due
    (slots_stand setting state network rest.resting) in (
      (λ same. absurd (none-some origin same)),
      (λ legal.
          let is = says.0 legal in
          absurd (elim c.else-network-packets.branch [
            | else-network-packets-via-then-network-packets+else-may_begin w ↦
                true≢false (sym (must_be setting state network rest.resting origin is)
                ∙ (sym w.may_begin.ensures ∙ w.if-may_begin.false))
            | else-network-packets-via-else-network-packets w ↦
                w.if-network-packets.false (counts.entered_is ∙ (is.entered ∙ sym rest.packets_are))
          ])),
    )
