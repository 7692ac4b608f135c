-- what is left is still to be put, and there is room for it
use Rattle.std.proofs.Common.{◌≡◌, ◌≤◌, ◌+◌, vec_len, vec_capacity}
use Rattle.ftc_message.specs.Ordered.{with_items}
use Rattle.ftc_message.proofs.rising.put_all.Given as goal

abbrev pub invariant-loop-item : goal.invariant-loop-item
invariant-loop-item g l = record {
  room : vec_len l.list + vec_len l.rest ≤ vec_capacity l.list;
  whole : with_items g.T.Placed.is_before l.rest.items l.list.items
      ≡ with_items g.T.Placed.is_before l.fn.items.items l.initial.list.items;
}

abbrev pub decreases-loop-item : goal.decreases-loop-item
decreases-loop-item g l = vec_len l.rest
