use Rattle.std.proofs.Common.{◌≡◌, ◌∙◌, List, Option, Some, None, ap}
use Rattle.std.specs.Prelude.{option_map}
use Rattle.ftc_replica.specs.Held.{Held}
use Rattle.ftc_server.specs.Looks.{held_origin}
use Rattle.ftc_server.specs.Work.{first_with_work, first_awake}
use Rattle.ftc_server.proofs.EachHeld.{awake_first}
use Rattle.ftc_server.proofs.server.Server.first_work.Goals as goal

pub returns-in-Some : goal.returns-in-Some
returns-in-Some c =
    let server = c.args.self.now in
    let first = awake_first server.others.items server.held.items server.held.resting server.waits.items
    c.len.ensures.distinct server.«rising» server.«watched» server.«unreached» in
    let there : Some c.in-Some.held.now ≡ first_with_work server.others.items server.held.items =
    c.in-Some.ensures
    ∙ (ap (λ (replicas : List (Option Held)). first_awake server.held.resting replicas server.held.items)
    c.as_slice-replicas.ensures.value ∙ first) in
    ap (option_map held_origin) there

pub returns-in-None : goal.returns-in-None
returns-in-None c =
    let server = c.args.self.now in
    let first = awake_first server.others.items server.held.items server.held.resting server.waits.items
    c.len.ensures.distinct server.«rising» server.«watched» server.«unreached» in
    let none : None ≡ first_with_work server.others.items server.held.items =
    c.in-None.ensures
    ∙ (ap (λ (replicas : List (Option Held)). first_awake server.held.resting replicas server.held.items)
    c.as_slice-replicas.ensures.value ∙ first) in
    ap (option_map held_origin) none
