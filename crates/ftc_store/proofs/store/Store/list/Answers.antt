use Rattle.ftc_store.proofs.Listing.{listed_pairs}
use Rattle.ftc_store.proofs.store.Store.list.Goals as goal

pub returns : goal.returns
returns c =
    rw (c.from_vec.ensures, ← c.self.view_is)
    (listed_pairs c.self.inside.held.entries c.in_ok-pairs.pairs.items c.sort_pairs.new.pairs.items
    c.pairs_of.ensures.unique c.in_ok-pairs.ensures.pairs c.sort_pairs.ensures.permutation
    c.in_ok-sort_pairs.ensures.sorted)
