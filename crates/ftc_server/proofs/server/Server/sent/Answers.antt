use Rattle.std.proofs.Common.{◌≡◌, ◌∙◌, Bool, List, [], ap, sym, subst, true, cond}
use Rattle.std.specs.Prelude.{◌==◌}
use Rattle.std.proofs.lemmas.Bool.{eq-eqb}
use Rattle.ftc_message.specs.Logged.{Logged}
use Rattle.ftc_message.specs.Ordered.{AreApart}
use Rattle.ftc_server.specs.Looks.{are_apart, attached_in, onward_in}
use Rattle.ftc_server.proofs.Apart.{apart_is}
use Rattle.ftc_server.proofs.server.Server.sent.Goals as goal

pub attach-requires : goal.attach-requires
attach-requires c =
    let server = c.args.self.now in
    let first : server.id == 0 ≡ true = eq-eqb server.id 0 (sym c.number.ensures.same ∙ c.if-number-eq0.true) in
    let all : attached_in server ≡ server.forwarder = ap (λ (b : Bool). cond b server.forwarder []) first in
    let apart : are_apart server.forwarder (onward_in server c.args.held.now) ≡ true =
    ap (λ (logs : List Logged). are_apart logs (onward_in server c.args.held.now)) (sym all) ∙ c.requires in
    subst (λ (logs : List Logged). AreApart server.forwarder logs) (sym c.in_ok-onward.ensures)
    (apart_is server.forwarder (onward_in server c.args.held.now) apart)
