use Rattle.std.proofs.Common.{◌≡◌, ◌∙◌, ◌&&◌, ◌||◌, ℕ, suc, Bool, false, List, [], ◌∷◌, Option, None, refl, ap}
use Rattle.std.specs.Prelude.{◌==◌, is_some, not}
use Rattle.std.specs.List.{list_any}
use Rattle.ftc_server.specs.Slots.{runs_packet}
use Rattle.ftc_txn.specs.Slots.{Running, slot_at}
use Rattle.ftc_network.proofs.IdleSlots.{none_any}
use Rattle.ftc_jobs.proofs.tests.begin.Goals as goal

pub begin-requires-clause-age : goal.begin-requires-clause-age
begin-requires-clause-age c =
    let head = c.args.server.now.head in
    ap (λ (b : Bool). not (b && (head.last == 18446744073709551615))) (none_any is_some refl head.slots c.requires)

pub begin-requires-clause-once : goal.begin-requires-clause-once
begin-requires-clause-once c = none_any (runs_packet c.args.packet) refl c.args.server.now.head.slots c.requires
