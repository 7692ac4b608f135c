-- marks were added, which say nothing
use Rattle.std.proofs.Common.{◌≡◌, ◌≤◌, ◌-◌, ℕ, List, vec_len}
use Rattle.ftc_base.specs.declared.limits.TheConstants.{MOST_SERVERS}
use Rattle.ftc_edge.specs.Known.{AreLacking}
use Rattle.ftc_edge.proofs.stretch.Stretch.make_room.Given as goal

abbrev pub invariant-loop-self : goal.invariant-loop-self
invariant-loop-self l = record {
  begin : l.self.begin ≡ l.initial.self.begin;
  end : l.self.end ≡ l.initial.self.end;
  few : vec_len l.self.least ≤ MOST_SERVERS;
  grown : vec_len l.initial.self.least ≤ vec_len l.self.least;
  lacking : (commits : List (List ℕ)) →
      AreLacking commits l.self.least.items → AreLacking commits l.initial.self.least.items;
}

abbrev pub decreases-loop-self : goal.decreases-loop-self
decreases-loop-self l = MOST_SERVERS - vec_len l.self.least
