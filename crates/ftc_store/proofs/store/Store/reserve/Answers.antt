use Rattle.ftc_store.proofs.Lookups.{same_pairs}
use Rattle.ftc_store.proofs.store.Store.reserve.Goals as goal

pub returns-clause-content : goal.returns-clause-content
returns-clause-content c =
    rw (← c.self.view_is) (same_pairs c.self.inside.held.entries c.reserve.new.self.entries c.reserve.ensures.entries.2)
