use Rattle.std.proofs.Common.{◌∙◌, ◌<◌, sym, ap, not, length, arith}
use Rattle.std.specs.Prelude.{nat_eq}
use Rattle.std.specs.List.{list_all}
use Rattle.std.specs.Map.{lookup}
use Rattle.std.specs.HashMap.{spare as map_spare}
use Rattle.ftc_server.specs.Replicas.{lacks_log, is_had}
use Rattle.ftc_server.proofs.Keeping.{one_forgotten, none_forgotten}
use Rattle.ftc_server.proofs.tickets.forget_unready.Goals as goal
use Rattle.ftc_server.proofs.tickets.forget_unready.Goals.{then-not-are_had, else-not-are_had}

pub loop-place-preserved : goal.loop-place-preserved
loop-place-preserved c =
    let items = c.args.list.now.items in
    let held = c.index-held.result.now in
    let lacks = lacks_log c.args.replicas.now in
    let had = c.are_had.ensures ∙ ap (list_all (is_had c.args.replicas.now)) c.as_slice.ensures in
    let within : c.loop-place.place < length items = omega (arith, c.args.list.now.ok) in
    elim c.if-not-are_had.branch [
      | then-not-are_had w ↦ record {
        numbers = λ origin. one_forgotten lacks items c.loop-place.place held origin
            (lookup (nat_eq origin) c.loop-place.by_origin.entries)
            (lookup (nat_eq origin) c.if-not-are_had.by_origin.entries)
            (lookup (nat_eq origin) c.args.by_origin.now.entries) within c.index-held.ensures
            (ap not (sym had ∙ w.if-not-are_had.true)) (c.loop-place.invariant.numbers origin)
            (ap (λ (map : _). lookup (nat_eq origin) map.entries) w.by_origin-is ∙ w.remove.ensures.updates.0 origin);
        room = omega (arith, ap map_spare w.by_origin-is, c.loop-place.invariant.room, w.remove.ensures.spare);
      }
      | else-not-are_had w ↦ record {
        numbers = λ origin.
            ap (λ (map : _). lookup (nat_eq origin) map.entries) w.by_origin-is
            ∙ none_forgotten lacks items c.loop-place.place held origin
            (lookup (nat_eq origin) c.loop-place.by_origin.entries)
            (lookup (nat_eq origin) c.args.by_origin.now.entries) within c.index-held.ensures
            (ap not (sym had ∙ w.if-not-are_had.false)) (c.loop-place.invariant.numbers origin);
        room = omega (arith, ap map_spare w.by_origin-is, c.loop-place.invariant.room);
      }
    ]
