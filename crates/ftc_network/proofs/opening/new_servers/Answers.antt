use Rattle.std.proofs.Common.{◌≡◌, ◌∙◌, ◌+◌, ℕ, List, Option, sym, ap, subst, slice_get}
use Rattle.std.specs.Prelude.{IfSome}
use Rattle.ftc_mbox.specs.declared.rule.Rule.{Rule}
use Rattle.ftc_server.specs.declared.server.Server.{Server}
use Rattle.ftc_network.specs.Opening.{AreNewServers}
use Rattle.ftc_network.proofs.NewNetwork.{new_server_added, is_new_slot}
use Rattle.ftc_network.proofs.opening.new_servers.Goals as goal

pub loop-number-preserved : goal.loop-number-preserved
loop-number-preserved c =
    let chain = c.args.spec.now in
    let number = c.loop-number.number in
    let server : Server = c.in_ok-new.field-0 in
    subst (AreNewServers chain (number + 1)) (sym c.in_ok-push.ensures.items)
    (new_server_added chain number c.loop-number.servers.items server c.loop-number.invariant
    (is_new_slot chain c.args.ring.now c.unwrap-id.result number c.at-rule.result.now c.partitions-partitions.result
    server
    c.requires (subst (λ (o : Option ℕ). IfSome o (λ (id : ℕ). id ≡ number)) c.unwrap-id.ensures c.new.ensures.same)
    (ap (λ (rules : List Rule). slice_get rules number) (sym c.rules-rules.ensures.same)
    ∙ (ap (slice_get c.rules-rules.result.now)
    (sym c.from.ensures) ∙ c.at-rule.ensures)) c.partitions-partitions.ensures.same c.in_ok-new.ensures))
