-- with the names so far those of the visits behind them
use Rattle.std.proofs.Common.{◌≡◌, ◌++◌, drop, false, nat_cmp}
use Rattle.std.specs.BTreeSet.{contains}
use Rattle.ftc_visits.specs.Undoing.{is_undone_alone, undone_from}
use Rattle.ftc_visits.proofs.visits.MadeVisits.undone_between.Given as goal

abbrev pub invariant-loop-place : goal.invariant-loop-place
invariant-loop-place l =
    l.names ++ undone_from (is_undone_alone l.previous l.following) (contains nat_cmp l.packets)
    (drop l.place l.self.items)
    ≡ undone_from (is_undone_alone l.previous l.following) (λ packet. false) l.self.items
