-- what these workers' slots so far run is wounded, and the others are as they were
use Rattle.std.proofs.Common.{◌≡◌, ◌<◌, ◌≤◌, ℕ, None, length, get_or, if◌then◌else◌}
use Rattle.ftc_base.specs.Sets.{has}
use Rattle.ftc_base.specs.declared.limits.TheConstants.{MOST_SLOTS}
use Rattle.ftc_txn.specs.Slots.{wounded_by}
use Rattle.ftc_txn.proofs.slots.Slots.wound_each.Given as goal

abbrev pub invariant-loop-worker : goal.invariant-loop-worker
invariant-loop-worker l = record {
  size : length l.self-inside.running ≡ MOST_SLOTS;
  below : (k : ℕ) → k < l.worker →
      get_or l.self-inside.running k None
      ≡ (if has l.workers k then wounded_by l.by (get_or l.initial.self-inside.running k None)
      else get_or l.initial.self-inside.running k None);
  rest : (k : ℕ) → l.worker ≤ k → get_or l.self-inside.running k None ≡ get_or l.initial.self-inside.running k None;
}
