use Rattle.std.proofs.Common.{sym, ◌∙◌}
use Rattle.ftc_store.proofs.Listing.{len_distinct}
use Rattle.ftc_store.proofs.store.Store.len.Goals as goal

pub returns : goal.returns
returns c = rw (← c.self.view_is)
    (c.len.ensures.len ∙ sym (len_distinct c.self.inside.held.entries c.len.ensures.unique))
