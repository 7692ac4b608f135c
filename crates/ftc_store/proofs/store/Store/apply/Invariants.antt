-- the writes so far have been made
use Rattle.std.proofs.Common.{◌≡◌, ◌≤◌, ◌+◌, take}
use Rattle.ftc_store.specs.Store.{written}
use Rattle.ftc_store.proofs.store.Store.apply.Given as goal

abbrev pub invariant-loop-write : goal.invariant-loop-write
invariant-loop-write l = record {
  content : l.self.content ≡ written (take l.write-index l.write-items) l.fn.self.content;
  partitions : l.self.partitions ≡ l.fn.self.partitions;
  spare : l.fn.self.spare ≤ l.self.spare + l.write-index;
}
