use Rattle.std.proofs.Common.{sym, ◌∙◌}
use Rattle.ftc_store.proofs.Lookups.{found}
use Rattle.ftc_store.proofs.store.Store.get.Goals as goal

pub returns : goal.returns
returns c = rw (← c.self.view_is)
    (c.copied.ensures ∙ c.get.ensures.value ∙ sym (found c.self.inside.held.entries c.args.key.now))
