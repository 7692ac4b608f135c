use Rattle.std.proofs.Common.{◌≡◌, ◌∙◌, List, ap, sym, subst, true}
use Rattle.ftc_message.specs.Logged.{Logged}
use Rattle.ftc_message.specs.Ordered.{AreApart}
use Rattle.ftc_server.specs.Looks.{are_apart, onward_in, onward_apart}
use Rattle.ftc_server.proofs.Apart.{apart_is}
use Rattle.ftc_server.proofs.server.Server.carry.Goals as goal

pub carry-requires : goal.carry-requires
carry-requires c =
    let server = c.args.self.now in
    let apart : are_apart (onward_in server c.in-Some.held.now) server.forwarder ≡ true =
    ap (onward_apart server server.forwarder) c.in-Some.ensures ∙ c.requires.apart in
    subst (λ (logs : List Logged). AreApart logs server.forwarder) (sym c.in_ok-logs.ensures)
    (apart_is (onward_in server c.in-Some.held.now) server.forwarder apart)
