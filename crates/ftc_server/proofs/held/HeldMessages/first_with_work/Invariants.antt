-- none of those so far that don't rest has work
use Rattle.std.proofs.Common.{◌≡◌, ◌<◌, ℕ, false, get_or}
use Rattle.std.specs.List.{filter}
use Rattle.ftc_server.specs.declared.held.HeldMessage.{HeldMessage}
use Rattle.ftc_server.specs.Holding.{is_awake}
use Rattle.ftc_server.specs.Work.{has_work}
use Rattle.ftc_server.proofs.held.HeldMessages.first_with_work.Given as goal

abbrev pub invariant-loop-nth : goal.invariant-loop-nth
invariant-loop-nth l =
    (k : ℕ) → k < l.nth → (d : HeldMessage)
    → has_work l.replicas (get_or (filter (is_awake l.self.resting) l.self.items) k d) ≡ false
