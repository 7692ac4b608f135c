-- those that were passed stand before the need
use Rattle.std.proofs.Common.{◌≡◌, ◌+◌, drop}
use Rattle.std.specs.List.{prefix_len}
use Rattle.ftc_message.specs.Ordered.{is_lower}
use Rattle.ftc_message.proofs.need.NeedPlaced.place_among.Given as goal

abbrev pub invariant-loop-place : goal.invariant-loop-place
invariant-loop-place l =
    prefix_len (λ need. is_lower need l.self) l.needs ≡ l.place
    + prefix_len (λ need. is_lower need l.self) (drop l.place l.needs)
