-- What was found out about the withheld packets.
use Rattle.std.specs.Prelude.{◌≡◌, ◌≤◌, ◌<◌, ℕ, List, length, vec_len}
use Rattle.ftc_base.specs.declared.limits.TheConstants.{MOST_SERVERS}
use Rattle.ftc_edge.specs.declared.buffer.Withheld.{Withheld}
use Rattle.ftc_edge.specs.declared.stretch.Stretch.{Stretch}
use Rattle.ftc_edge.specs.Known.{AreDelayed}

-- the packets of the stretch are among these, and were looked at
pub record IsLookedAt (items : List Withheld) (far : Stretch) : Type 0 where
  pub begin : far.begin ≤ far.end
  pub end : far.end ≤ length items
  pub delayed : AreDelayed far.least.items items far.begin far.end

-- so many packets have room; there are marks for all groups as soon as there is room for packets
pub record IsKept (count most capacity : ℕ) (items : List Withheld) (far : Stretch) : Type 0 where
  pub few : count ≤ most
  pub enough : most ≤ capacity
  pub few_marks : vec_len far.least ≤ MOST_SERVERS
  pub all_marks : 0 < most → vec_len far.least ≡ MOST_SERVERS
  pub looked_at : IsLookedAt items far
