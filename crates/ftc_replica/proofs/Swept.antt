-- A sweep between two calls that make room: the same logs are left, with no less room.
use Rattle.std.proofs.Common.{◌≡◌, ◌≤◌, ◌∙◌, ◌-◌, ℕ, List, length, Option, None, ap, arith}
use Rattle.ftc_message.specs.Logged.{Logged}
use Rattle.ftc_replica.specs.Kept.{KeptLogs, left}
use Rattle.ftc_replica.proofs.Left.{left_none}

-- the first call leaves the logs as they were, the sweep takes out what is dropped, and the second leaves the rest
pub swept_items : (pruned after : Option (List ℕ)) (before called swept logs items : List Logged) → after ≡ None →
    logs ≡ swept → swept ≡ left pruned called → called ≡ before → left pruned before ≡ items → left after logs ≡ items
swept_items pruned after before called swept logs items empty second sweep first is =
    rw empty (left_none logs ∙ second ∙ sweep ∙ ap (left pruned) first ∙ is)

pub swept_spare : (old : KeptLogs) (before items : List Logged) (held called swept room : ℕ) →
    record { items = before; spare = held - length before } ≡ old → items ≡ old.items → held ≤ called →
    swept ≡ called → swept ≤ room → old.spare ≤ room - length items
swept_spare old before items held called swept room is same first sweep second =
    let spare = ap (λ (kept : KeptLogs). kept.spare) is in
    let all = ap (λ (kept : KeptLogs). length kept.items) is in
    let long = ap length same in
    omega arith
