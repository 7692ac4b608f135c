use Rattle.ftc_store.proofs.Lookups.{put_pair, removed_pair}
use Rattle.ftc_store.proofs.store.Store.write.Goals as goal

pub returns-in-Some-clause-content : goal.returns-in-Some-clause-content
returns-in-Some-clause-content c =
    let put = rw c.unwrap.ensures at c.insert-put.ensures.updates in
    rw (c.in-Some.is, ← c.self.view_is)
    (put_pair c.self.inside.held.entries c.insert-put.new.self.entries c.args.write.key c.in-Some.value put.0)

pub returns-in-None-clause-content : goal.returns-in-None-clause-content
returns-in-None-clause-content c =
    rw (c.in-None.is, ← c.self.view_is)
    (removed_pair c.self.inside.held.entries c.remove.new.self.entries c.args.write.key c.remove.ensures.updates.0)
